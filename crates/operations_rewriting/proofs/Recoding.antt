-- Codes put before that of a vertex and those of its neighbours, as in complementing there.
use mathlib.Core.Bool.{Bool, cond, false}
use mathlib.Core.List.{List}
use mathlib.Core.Path.{ap, fun_ext, subst, sym, ◌∙◌, ◌≡◌}
use Prim.Native.Nat.{◌<◌, ◌^◌, ℕ}
use native.Mathlib.Decide.{ℕ_discrete}
use lib.Dec.{eqb}
use lib.ListN.{get_or, length, length-set, set}
use lib.Seq.{get_or-set_other, get_or-set_same}
use Rattle.buffers.proofs.Tabulate.{tabulate-at, tabulate-is, tabulate-length}
use Rattle.buffers.specs.Buffers.{tabulate}
use Rattle.clifford.specs.Clifford.{Clifford, clifford_of, code_of, then}
use Rattle.clifford.specs.Vectors.{codes_of}
use Rattle.record.proofs.Complement.{complement-simple}
use Rattle.record.specs.Graph.{Simple, complement}
use Rattle.record.specs.internal.NeighbourWords.{SameGraph}
use Rattle.record.specs.NeighbourWords.{graph_in}
use Rattle.operations.specs.internal.InPlace.{Rewritten, Unrefused, record_in}
use Rattle.record.proofs.AcceptedRecords.{accepted-record}
use Rattle.record.specs.Accepted.{AcceptedRecord}
use Rattle.record.specs.Lent.{code_numbers, held_record}
use Rattle.record.specs.Records.{GraphRecord, complement_record, recoded}
use Rattle.words.proofs.BitLaws.{lt-of-bits, word_of-bit}
use Rattle.words.proofs.Places.{other_place, same_place}
use Rattle.words.specs.Bits.{bit, word_of}

module _ (words codes : List ℕ) (U : Unrefused (record_in words codes)) (a : ℕ) (ha : a < length words) where
  A : AcceptedRecord (record_in words codes)
  A = accepted-record (record_in words codes) false false U.no_line

  abbrev c : ℕ → Clifford
  c = codes_of codes

  pub around-below : get_or words a 0 < 2 ^ (length codes)
  around-below = subst (λ m. get_or words a 0 < 2 ^ m) (sym A.codes-length) (A.words-below a)

  -- the code of the vertex stored after those of its neighbours
  pub recoded-all : (own near : ℕ) (codes₁ : List ℕ) (v : ℕ) → v ≡ code_of (then (clifford_of own) (codes_of codes a))
      → codes₁ ≡ tabulate (length codes) (λ q. code_of (cond (bit (get_or words a 0) q)
      (then (clifford_of near) (codes_of codes q)) (codes_of codes q)))
      → set codes₁ a v ≡ tabulate (length words) (λ q. code_of (cond (eqb q a) (then (clifford_of own) (codes_of codes q))
      (cond (bit (get_or words a 0) q) (then (clifford_of near) (codes_of codes q)) (codes_of codes q))))
  recoded-all own near codes₁ v e e₁ =
      tabulate-is (length words) _ (set codes₁ a v) (length-set codes₁ a v ∙ long₁ ∙ A.codes-length)
      (λ q l. place q (subst (λ m. q < m) (sym A.codes-length) l))
    where
      long₁ : length codes₁ ≡ length codes
      long₁ = ap length e₁ ∙ tabulate-length (length codes) _

      new : ℕ → Bool → Clifford
      new q b = cond b (then (clifford_of own) (c q))
          (cond (bit (get_or words a 0) q) (then (clifford_of near) (c q)) (c q))

      place : (q : ℕ) → q < length codes → get_or (set codes₁ a v) q 0 ≡ code_of (new q (eqb q a))
      place q l = elim (ℕ_discrete q a) [
        | yes d ↦ subst (λ m. get_or (set codes₁ a v) m 0 ≡ code_of (new m (eqb m a))) (sym d)
            (get_or-set_same codes₁ a v 0 (subst (λ m. a < m) (sym (long₁ ∙ A.codes-length)) ha) ∙ e
            ∙ ap (λ b. code_of (new a b)) (sym (same_place a)))
        | no d ↦ get_or-set_other codes₁ a q v 0 d ∙ ap (λ w. get_or w q 0) e₁ ∙ tabulate-at (length codes) _ q l
            ∙ ap (λ b. code_of (new q b)) (sym (other_place d))
      ]

  -- what two calls leave, one for the codes and one for the words, is the new record
  pub written : (f : GraphRecord → GraphRecord) → Simple (length words) (f (held_record (record_in words codes))).graph
      → (words' codes' : List ℕ) → codes' ≡ code_numbers (length words) (f (held_record (record_in words codes)))
      → length words' ≡ length words → SameGraph (graph_in words') (f (held_record (record_in words codes))).graph
      → Rewritten words codes f words' codes'
  written f S words' codes' coded long edges =
      record {
        neighbours = tabulate-is (length words) _ words' long
            (λ j l. sym (word_of-bit (length words) (get_or words' j 0) (below j))
            ∙ ap (word_of (length words)) (fun_ext (edges j)));
        numbers = coded;
      }
    where
      below : (j : ℕ) → get_or words' j 0 < 2 ^ (length words)
      below j = lt-of-bits (length words) (get_or words' j 0) (λ q l. edges j q ∙ S.below j q l)

  pub complemented : (words' codes' : List ℕ)
      → codes' ≡ tabulate (length words) (λ q. code_of (recoded (graph_in words) a (codes_of codes) q))
      → length words' ≡ length words → SameGraph (graph_in words') (complement (graph_in words) a)
      → Rewritten words codes (λ g. complement_record g a) words' codes'
  complemented = written (λ g. complement_record g a) (complement-simple (length words) (graph_in words) A.simple a)
