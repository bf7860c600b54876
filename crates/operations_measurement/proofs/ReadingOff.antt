-- A measurement read off a record by the code: what its calls answer is whether it is determined, and the sign.
use mathlib.Core.Bool.{◌&&◌, Bool, cond, false, true}
use mathlib.Core.List.{List}
use mathlib.Core.Logic.{◌↔◌}
use mathlib.Core.Path.{ap, ap₂, subst, sym, ◌∙◌, ◌≡◌}
use Prim.Native.Nat.{◌<◌, ℕ, ◌≤◌}
use lib.Dec.{eqb}
use lib.ListN.{get_or, length}
use borrow.Author.Tests.{eq-eqb, eqb-true}
use Rattle.clifford.specs.Clifford.{Clifford, clifford_of, image, image_phase}
use Rattle.record.specs.Graph.{Simple}
use Rattle.operations_measurement.proofs.SentLetters.{equal-letters, equal-letters-refl, equal_letters}
use Rattle.operations.proofs.MeasuredRecords.{determined-alone, outcome-alone, pauli-acts}
use Rattle.operations.specs.internal.InPlace.{Unrefused, record_in}
use Rattle.operations.specs.Measurement.{is_determined, outcome, pauli_letter, single}
use Rattle.operations.specs.internal.Steps.{ReadOff}
use Rattle.pauli.proofs.PhaseLaws.{minus-injective}
use Rattle.pauli.specs.Pauli.{minus}
use Rattle.pauli.specs.declared.Letter.{Letter}
use Rattle.pauli.specs.declared.Letter.TheVariants.{X}
use Rattle.record.proofs.AcceptedRecords.{accepted-record}
use Rattle.record.specs.Lent.{held_record}
use Rattle.record.specs.Records.{GraphRecord, rows_of}
use Rattle.stabilizer.specs.Membership.{member}
use Rattle.words.proofs.BitLaws.{bit-ext∞, zero_bit}
use Rattle.words.proofs.Flags.{both_true, same-by-both}
use Rattle.words.specs.Bits.{bit}

module _ (words codes : List ℕ) (U : Unrefused (record_in words codes)) (q : ℕ) (hq : q < length words)
    (pauli : ℕ) (lo : 1 ≤ pauli) where
  abbrev n : ℕ
  n = length words

  abbrev r : GraphRecord
  r = held_record (record_in words codes)

  simple : Simple (length words) (held_record (record_in words codes)).graph
  simple = (accepted-record (record_in words codes) false false U.no_line).simple

  abbrev l : Letter
  l = pauli_letter pauli

  abbrev k : Clifford
  k = clifford_of (get_or codes q 0)

  test : Bool
  test = eqb (get_or words q 0) 0 && equal_letters (image k X) l

  test-exactly : test ≡ is_determined n (rows_of n r) l q
  unfolding test
  test-exactly = same-by-both test (is_determined n (rows_of n r) l q) there back
    where
      alone : (is_determined n (rows_of n r) l q ≡ true)
          ↔ ((image k X ≡ l) × ((j : ℕ) → bit (get_or words q 0) j ≡ false))
      alone = determined-alone n r simple q hq l (pauli-acts pauli lo)

      there : test ≡ true → is_determined n (rows_of n r) l q ≡ true
      there e = let h = both_true (eqb (get_or words q 0) 0) (equal_letters (image k X) l) e in
          alone.1 (
            equal-letters (image k X) l h.1,
            λ j. ap (λ w. bit w j) (eqb-true (get_or words q 0) 0 h.0) ∙ zero_bit j,
          )

      back : is_determined n (rows_of n r) l q ≡ true → test ≡ true
      back e = let h = alone.0 e in
          ap₂ ◌&&◌ (eq-eqb (get_or words q 0) 0 (bit-ext∞ (get_or words q 0) 0 (λ j. h.1 j ∙ sym (zero_bit j))))
          (ap (equal_letters (image k X)) (sym h.0) ∙ equal-letters-refl (image k X))

  -- from what the code's calls answer
  pub read-by-calls : {own asked : Letter} (m : Bool) {t : Bool}
      → own ≡ image (clifford_of (get_or codes q 0)) X → minus m ≡ image_phase (clifford_of (get_or codes q 0)) X
      → asked ≡ pauli_letter pauli → t ≡ equal_letters own asked
      → ReadOff (record_in words codes) pauli q (eqb (get_or words q 0) 0 && t) m
  unfolding test
  read-by-calls {own} {asked} m {t} eo em ea h =
      subst (λ d. ReadOff (record_in words codes) pauli q d m) (sym found)
      (record { known = test-exactly; reading = λ b. go b test test-exactly })
    where
      found : (eqb (get_or words q 0) 0 && t) ≡ test
      found = ap (λ c. eqb (get_or words q 0) 0 && c) (h ∙ ap₂ equal_letters eo ea)

      go : (b d : Bool) → d ≡ is_determined n (rows_of n r) l q → outcome n (rows_of n r) l q b ≡ cond d m b
      go b true e = outcome-alone n r simple q hq l (pauli-acts pauli lo) (sym e) b
          ∙ minus-injective k.sx m (sym em)
      go b false e = ap (λ d. cond d (member n (rows_of n r) (single l q true)) b) (sym e)
