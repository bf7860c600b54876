-- A pivot or a complementation that turns the code at a vertex towards a letter.
use mathlib.Core.Bool.{cond, false, true, true≢false, ◌||◌}
use mathlib.Core.List.{List}
use mathlib.Core.Logic.{inl, inr}
use mathlib.Core.Path.{ap, refl, sym, ◌∙◌, ◌≡◌}
use Prim.Native.Nat.{◌<◌, ◌^◌, ℕ}
use lib.Dec.{eqb}
use lib.ListN.{get_or, length}
use Rattle.clifford.specs.Clifford.{clifford_of, image, then}
use Rattle.clifford.specs.Vectors.{codes_of}
use Rattle.record.specs.Graph.{Simple}
use Rattle.operations.proofs.Keeping.{complement-kept, kept_refl, pivot-kept}
use Rattle.operations.specs.internal.KeptGroups.{BroughtToZ}
use Rattle.operations.proofs.UnrefusedRecords.{unrefused-simple}
use Rattle.operations.specs.internal.InPlace.{Rewritten, Unrefused, record_in}
use Rattle.operations.specs.Steps.{pivot_record}
use Rattle.operations_rewriting.proofs.ComplementedRecords.{complemented-held}
use Rattle.operations_rewriting.proofs.PivotCodes.{pivot-code, pivoted_code}
use Rattle.operations_rewriting.proofs.PivotedRecords.{pivoted-held}
use Rattle.pauli.specs.declared.Letter.TheVariants.{X, Y, Z}
use Rattle.record.proofs.AcceptedRecords.{accepted-record}
use Rattle.record.specs.Lent.{held_record}
use Rattle.record.specs.Records.{GraphRecord, complement_record}
use Rattle.words.proofs.BitLaws.{bit-above}
use Rattle.words.proofs.Places.{other_place, same_place}
use Rattle.words.proofs.Sums.{lt-or-ge}
use Rattle.words.specs.Bits.{bit}
use Rattle.operations_measurement.proofs.SentLetters.{eleven-z, thirteen-z}

module _ (words codes : List ℕ) (U : Unrefused (record_in words codes)) (q : ℕ) (hq : q < length words) where
  abbrev n : ℕ
  n = length words

  abbrev r : GraphRecord
  r = held_record (record_in words codes)

  simple : Simple (length words) (held_record (record_in words codes)).graph
  simple = unrefused-simple words codes U

  below : get_or words q 0 < 2 ^ n
  below = (accepted-record (record_in words codes) false false U.no_line).words-below q

  -- ---- a pivot with a neighbour
  module _ (k : ℕ) (edge : bit (get_or words q 0) k ≡ true) where
    pub neighbour-below : k < length words
    neighbour-below = elim (lt-or-ge k n) [
      | inl m ↦ m
      | inr m ↦ absurd (true≢false (sym edge ∙ bit-above n (get_or words q 0) below k m))
    ]

    pub brought-by-pivot : (words' codes' : List ℕ) → Rewritten words codes (λ g. pivot_record g q k) words' codes'
        → BroughtToZ words codes q (image (codes_of codes q) X) words' codes'
    brought-by-pivot words' codes' R =
        record {
          kept = pivot-kept words codes U words' codes' q k hq neighbour-below R;
          sends-z = ap (λ c. image c Z) code ∙ eleven-z (r.codes q);
        }
      where
        code : codes_of codes' q ≡ then (clifford_of 11) (r.codes q)
        code = ap (λ g. g.codes q) (pivoted-held words codes U q k hq neighbour-below words' codes' R)
            ∙ pivot-code n r simple q k edge q
            ∙ ap (λ a. pivoted_code a (eqb q k) (r.graph q q) (r.graph k q) (r.codes q)) (same_place q)
            ∙ ap (λ b. cond (b || true) (then (clifford_of 11) (r.codes q))
            (cond (r.graph q q || r.graph k q) (then (clifford_of 2) (r.codes q)) (r.codes q)))
            (other_place {i = q} {j = k} apart)
          where
            apart : q ≡ k → ⊥
            apart d = true≢false (sym edge ∙ ap (bit (get_or words q 0)) (sym d) ∙ simple.loopless q)

  -- ---- nothing to do, or a complementation at the vertex itself
  pub brought-already : BroughtToZ words codes q (image (codes_of codes q) Z) words codes
  brought-already = record { kept = kept_refl words codes U; sends-z = refl }

  pub brought-by-complement : (words' codes' : List ℕ) → Rewritten words codes (λ g. complement_record g q) words' codes'
      → BroughtToZ words codes q (image (codes_of codes q) Y) words' codes'
  brought-by-complement words' codes' R =
      record {
        kept = complement-kept words codes U words' codes' q hq R;
        sends-z = ap (λ c. image c Z) code ∙ thirteen-z (r.codes q);
      }
    where
      code : codes_of codes' q ≡ then (clifford_of 13) (r.codes q)
      code = ap (λ g. g.codes q) (complemented-held words codes U q hq words' codes' R)
          ∙ ap (λ a. cond a (then (clifford_of 13) (r.codes q))
          (cond (r.graph q q) (then (clifford_of 6) (r.codes q)) (r.codes q)))
          (same_place q)
