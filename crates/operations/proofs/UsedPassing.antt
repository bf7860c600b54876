-- A record with used qubits passes its lines exactly if it did before and the new tests are false, and a call on it
-- likewise.
use mathlib.Core.Bool.{◌&&◌, Bool, false, not, or-false, true, ◌||◌}
use mathlib.Core.List.{List}
use mathlib.Core.Logic.{◌↔◌}
use mathlib.Core.Path.{◌∙◌, ◌≡◌, ap, ap₂, refl}
use Prim.Native.Nat.{◌^◌}
use lib.Dec.{eqb, leb, lit<}
use lib.ListN.{get_or}
use lib.Pow.{pow_pos}
use borrow.Author.Tests.{lt-leb}
use Rattle.buffers.proofs.AddedLines.{
  has_number,
  inserted-none,
  inserted-passes,
  test_has,
  test-numbered,
  test-passes,
  without-test,
}
use Rattle.buffers.proofs.Lines.{Numbered}
use Rattle.buffers.specs.Refusals.{Refusal, first_fitting, inserted_after, line, with_test}
use Rattle.operations.specs.Steps.{
  Operation,
  complement_of,
  cz_on,
  gate_with,
  in_place_lines,
  lines_of,
  measurement_of,
  pivot_of,
}
use Rattle.record.proofs.RecordLines.{record-numbered}
use Rattle.record.specs.Lent.{LentRecord, record_lines}
use Rattle.operations.specs.internal.UsedLaws.{UsedPasses}
use Rattle.words.proofs.BitLaws.{zero_bit}
use Rattle.words.proofs.SearchLaws.{some-none}
use Rattle.operations.specs.Used.{
  UsedRecord,
  names_used,
  used_code,
  used_lines,
  used_lines_of,
  used_step,
  used_stray,
  used_wrong,
  with_used,
}

-- the lines of a record: as they were, and the two tests
pub lines-pass : (u : UsedRecord) (others five six : Bool) → (first_fitting (used_lines u others five six) ≡ 0)
    ↔ ((first_fitting (record_lines u.held others six) ≡ 0) × ((used_stray u || five) ≡ false) × (used_wrong u ≡ false))
lines-pass u others five six = (
  (λ e. let h7 = by-seven.0 e in let h5 = by-five.0 h7.0 in (h5.0, h5.1, h7.1)),
  (λ h. by-seven.1 (by-five.1 (h.0, h.1), h.2)),
)
  where
    by-five : (first_fitting (with_test 5 (used_stray u || five) (record_lines u.held others six)) ≡ 0)
        ↔ ((first_fitting (record_lines u.held others six) ≡ 0) × ((used_stray u || five) ≡ false))
    by-five = test-passes 5 (used_stray u || five) (record_lines u.held others six)
        (record-numbered u.held others six) refl

    by-seven : (first_fitting (used_lines u others five six) ≡ 0)
        ↔ ((first_fitting (with_test 5 (used_stray u || five) (record_lines u.held others six)) ≡ 0)
        × (used_wrong u ≡ false))
    by-seven = test-passes 7 (used_wrong u) (with_test 5 (used_stray u || five) (record_lines u.held others six))
        (test-numbered 5 (used_stray u || five) (record_lines u.held others six)
        (record-numbered u.held others six)) refl

none-used : (l : LentRecord) → used_wrong (record { held = l; used = 0 }) ≡ false
unfolding used_wrong
none-used l = some-none l.n _ (λ q h. ap (λ b. b && (not (eqb (get_or l.neighbours q 0) 0)
    || not (used_code (get_or l.codes q 0)))) (zero_bit q))

-- with no used qubit they pass where they did
pub unused-passes : (l : LentRecord) (others six : Bool) → first_fitting (record_lines l others six) ≡ 0
    → first_fitting (used_lines (record { held = l; used = 0 }) others false six) ≡ 0
unused-passes l others six e =
    (lines-pass (record { held = l; used = 0 }) others false six).1
    (e, or-false (leb (2 ^ l.n) 0) ∙ lt-leb (2 ^ l.n) 0 (pow_pos l.n), none-used l)

-- ---- calls
-- lines with 5, 7 and 8 among them, and none with number 0
pub record Counted (lines : List Refusal) : Type 0 where
  pub numbered : Numbered lines
  pub five : has_number 5 lines ≡ true
  pub seven : has_number 7 lines ≡ true
  pub eight : has_number 8 lines ≡ true

module _ (u : UsedRecord) (lines : List Refusal) (C : Counted lines) where
  N5 : Numbered (with_test 5 (used_stray u) lines)
  N5 = test-numbered 5 (used_stray u) lines C.numbered

  pub by-five : (first_fitting (with_test 5 (used_stray u) lines) ≡ 0)
      ↔ ((first_fitting lines ≡ 0) × (used_stray u ≡ false))
  by-five = test-passes 5 (used_stray u) lines C.numbered C.five

  pub by-seven : (first_fitting (with_test 7 (used_wrong u) (with_test 5 (used_stray u) lines)) ≡ 0)
      ↔ ((first_fitting (with_test 5 (used_stray u) lines) ≡ 0) × (used_wrong u ≡ false))
  by-seven = test-passes 7 (used_wrong u) (with_test 5 (used_stray u) lines) N5
      (test_has 7 5 (used_stray u) lines ∙ C.seven)

  module _ (named : Bool) where
    by-sixteen : (first_fitting (with_used u named lines) ≡ 0)
        ↔ ((first_fitting (with_test 7 (used_wrong u) (with_test 5 (used_stray u) lines)) ≡ 0) × (named ≡ false))
    by-sixteen = inserted-passes 8 15 named (with_test 7 (used_wrong u) (with_test 5 (used_stray u) lines))
        (test-numbered 7 (used_wrong u) (with_test 5 (used_stray u) lines) N5)
        (test_has 8 7 (used_wrong u) (with_test 5 (used_stray u) lines) ∙ test_has 8 5 (used_stray u) lines ∙ C.eight)

    -- the lines as they were, and the three tests
    pub with-used-passes : (first_fitting (with_used u named lines) ≡ 0)
        ↔ ((first_fitting lines ≡ 0) × (used_stray u ≡ false) × (used_wrong u ≡ false) × (named ≡ false))
    with-used-passes = (
      (λ e. let h16 = by-sixteen.0 e in
          let h7 = by-seven.0 h16.0 in
          let h5 = by-five.0 h7.0 in
          (h5.0, h5.1, h7.1, h16.1)),
      (λ h. by-sixteen.1 (by-seven.1 (by-five.1 (h.0, h.1), h.2), h.3)),
    )

pub in-place-counted : (l : LentRecord) (six eight : Bool) → Counted (in_place_lines l six eight)
in-place-counted l six eight =
    record {
      numbered = (lit< tt, (lit< tt, (lit< tt, (lit< tt, (lit< tt, (lit< tt, tt))))));
      five = refl;
      seven = refl;
      eight = refl;
    }

-- the lines of an operation
pub counted : (l : LentRecord) (o : Operation) → Counted (lines_of l o)
counted l (gate_with q k) = in-place-counted l _ _
counted l (cz_on a b) = in-place-counted l _ _
counted l (measurement_of pauli q b) =
    record {
      numbered = (lit< tt, (lit< tt, (lit< tt, (lit< tt, (lit< tt, (lit< tt, (lit< tt, tt)))))));
      five = refl;
      seven = refl;
      eight = refl;
    }
counted l (complement_of a) = in-place-counted l _ _
counted l (pivot_of j k) = in-place-counted l _ _

module _ (u : UsedRecord) (o : Operation) where
  -- "number 0 exactly if": the lines as they were, and the three tests
  pub used-passes : ((used_step u o).number ≡ 0) ↔ UsedPasses u o
  used-passes = (
    (λ e. let h = passes.0 e in
        record { as_before = h.0; no_stray = h.1; none-wrong = h.2; none_named = h.3 }),
    (λ P. passes.1 (P.as_before, P.no_stray, P.none-wrong, P.none_named)),
  )
    where
      passes : (first_fitting (used_lines_of u o) ≡ 0) ↔ ((first_fitting (lines_of u.held o) ≡ 0)
          × (used_stray u ≡ false) × (used_wrong u ≡ false) × (names_used u o ≡ false))
      passes = with-used-passes u (lines_of u.held o) (counted u.held o) (names_used u o)

  -- an accepted call is an accepted call without the used word
  pub used_step_lem : (used_step u o).number ≡ 0 → first_fitting (lines_of u.held o) ≡ 0
  used_step_lem e = (used-passes.0 e).as_before

-- with no used qubit the number of a call is what it was
pub unused-number : (l : LentRecord) (o : Operation)
    → first_fitting (used_lines_of (record { held = l; used = 0 }) o) ≡ first_fitting (lines_of l o)
unused-number l o =
    (λ i. first_fitting (inserted_after 8 (line 16 (none_named o i))
    (with_test 7 (none-used l i) (with_test 5 (lt-leb (2 ^ l.n) 0 (pow_pos l.n) i) (lines_of l o)))))
    ∙ inserted-none 8 16 (with_test 7 false (with_test 5 false (lines_of l o)))
    ∙ without-test 7 (with_test 5 false (lines_of l o)) ∙ without-test 5 (lines_of l o)
  where
    none_named : (o : Operation) → names_used (record { held = l; used = 0 }) o ≡ false
    none_named (gate_with q k) = zero_bit q
    none_named (cz_on a b) = ap₂ ◌||◌ (zero_bit a) (zero_bit b)
    none_named (measurement_of pauli q b) = zero_bit q
    none_named (complement_of a) = zero_bit a
    none_named (pivot_of j k) = ap₂ ◌||◌ (zero_bit j) (zero_bit k)
