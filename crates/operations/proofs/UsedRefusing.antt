-- Number 16 comes exactly where no earlier line holds and the call names a used qubit; a pivot never gives it.
use mathlib.Core.Bool.{Bool, false, true, true≢false}
use mathlib.Core.List.{◌++◌, List, [], ◌∷◌}
use mathlib.Core.Logic.{◌↔◌, inl, inr}
use mathlib.Core.Path.{◌∙◌, ◌≡◌, ap, refl, subst, sym}
use Prim.Native.Nat.{◌<◌, ℕ}
use native.Mathlib.Decide.{ℕ_discrete}
use native.Mathlib.Omega.{arith}
use lib.Dec.{lit<}
use Rattle.buffers.proofs.Lines.{AllBelow, Numbered, first_below, fits, more-accepted, more-refused, passed}
use Rattle.buffers.specs.Refusals.{Refusal, first_fitting, line, with_test}
use Rattle.operations.specs.Measurement.{contradicts, pauli_letter}
use Rattle.operations.specs.Steps.{Operation, complement_of, cz_on, gate_with, lines_of, measurement_of, pivot_of}
use Rattle.record.specs.Accepted.{AcceptedRecord}
use Rattle.record.specs.Lent.{held_record, held_rows}
use Rattle.words.proofs.BitLaws.{zero_bit}
use Rattle.words.proofs.Flags.{either, never_true}
use Rattle.words.specs.Bits.{bit, is_odd}
use Rattle.operations.specs.Used.{UsedRecord, names_used, used_lines_of, used_stray, used_wrong}
use Rattle.operations.specs.internal.UsedLaws.{PivotNever, UsedRefused}
use Rattle.operations.specs.UsedLaws.{earlier_lines}
use Rattle.operations.proofs.AcceptedSteps.{accepted-step, pivot-edge}
use Rattle.operations.proofs.UsedPassing.{by-five, by-seven, counted}
use Rattle.operations.proofs.UsedStaying.{used-word}

-- the lines after 16
abbrev later : UsedRecord → Operation → List Refusal
later u (gate_with q k) = []
later u (cz_on a b) = []
later u (measurement_of pauli q b) = with_test 7 (used_wrong u) (with_test 5 (used_stray u)
    (line 14 (contradicts u.held.n (held_rows u.held) (pauli_letter pauli) q (is_odd b)) ∷ []))
later u (complement_of a) = []
later u (pivot_of j k) = []

in_order : (u : UsedRecord) (o : Operation) → used_lines_of u o ≡ earlier_lines u o ++
    (line 16 (names_used u o) ∷ later u o)
in_order u (gate_with q k) = refl
in_order u (cz_on a b) = refl
in_order u (measurement_of pauli q b) = refl
in_order u (complement_of a) = refl
in_order u (pivot_of j k) = refl

-- the earlier ones have numbers from 2 to 8
early : (u : UsedRecord) (o : Operation) → Numbered (earlier_lines u o) × AllBelow 9 (earlier_lines u o)
early u (gate_with q k) = (
  (lit< tt, (lit< tt, (lit< tt, (lit< tt, (lit< tt, (lit< tt, tt)))))),
  (lit< tt, (lit< tt, (lit< tt, (lit< tt, (lit< tt, (lit< tt, tt)))))),
)
early u (cz_on a b) = (
  (lit< tt, (lit< tt, (lit< tt, (lit< tt, (lit< tt, (lit< tt, tt)))))),
  (lit< tt, (lit< tt, (lit< tt, (lit< tt, (lit< tt, (lit< tt, tt)))))),
)
early u (measurement_of pauli q b) = (
  (lit< tt, (lit< tt, (lit< tt, (lit< tt, (lit< tt, (lit< tt, tt)))))),
  (lit< tt, (lit< tt, (lit< tt, (lit< tt, (lit< tt, (lit< tt, tt)))))),
)
early u (complement_of a) = (
  (lit< tt, (lit< tt, (lit< tt, (lit< tt, (lit< tt, (lit< tt, tt)))))),
  (lit< tt, (lit< tt, (lit< tt, (lit< tt, (lit< tt, (lit< tt, tt)))))),
)
early u (pivot_of j k) = (
  (lit< tt, (lit< tt, (lit< tt, (lit< tt, (lit< tt, (lit< tt, tt)))))),
  (lit< tt, (lit< tt, (lit< tt, (lit< tt, (lit< tt, (lit< tt, tt)))))),
)

-- and those after it below 15
late : (u : UsedRecord) (o : Operation) → first_fitting (later u o) < 15
late u (gate_with q k) = first_below 15 [] (lit< tt) tt
late u (cz_on a b) = first_below 15 [] (lit< tt) tt
late u (measurement_of pauli q b) = first_below 15 (later u (measurement_of pauli q b)) (lit< tt) (lit< tt, tt)
late u (complement_of a) = first_below 15 [] (lit< tt) tt
late u (pivot_of j k) = first_below 15 [] (lit< tt) tt

not-sixteen : (k b : ℕ) → k < b → b < 17 → k ≡ 16 → ⊥
not-sixteen k b l m e = omega (arith, e)

-- a line with number 16 between lines with smaller numbers
between : (ls ms : List Refusal) (b : Bool) → Numbered ls → AllBelow 9 ls → first_fitting ms < 15
    → (first_fitting (ls ++ (line 16 b ∷ ms)) ≡ 16) ↔ ((first_fitting ls ≡ 0) × (b ≡ true))
between ls ms b N A L = (
  λ e. go (ℕ_discrete (first_fitting ls) 0) b e,
  λ h.
      more-accepted ls (line 16 b ∷ ms) N h.0 ∙ fits 16 ms h.1,
)
  where
    go : Dec (first_fitting ls ≡ 0) → (b : Bool) → first_fitting (ls ++ (line 16 b ∷ ms)) ≡ 16
        → (first_fitting ls ≡ 0) × (b ≡ true)
    go (no d) b e = absurd (not-sixteen (first_fitting ls) 9 (first_below 9 ls (lit< tt) A) (lit< tt)
        (sym (more-refused ls (line 16 b ∷ ms) d) ∙ e))
    go (yes z) true e = (z, refl)
    go (yes z) false e = absurd (not-sixteen (first_fitting ms) 15 L (lit< tt)
        (sym (more-accepted ls (line 16 false ∷ ms) N z ∙ passed 16 ms refl) ∙ e))

pub used-refused : (u : UsedRecord) (o : Operation) → UsedRefused u o
used-refused u o =
    subst (λ ls. (first_fitting ls ≡ 16) ↔ ((first_fitting (earlier_lines u o) ≡ 0) × (names_used u o ≡ true)))
    (sym (in_order u o)) (between (earlier_lines u o) (later u o) (names_used u o) (early u o).0 (early u o).1
    (late u o))

-- ---- a pivot
-- the ends of an edge are not used
pub edge-unused : (u : UsedRecord) → AcceptedRecord u.held → used_stray u ≡ false → used_wrong u ≡ false
    → (j k : ℕ) → (held_record u.held).graph j k ≡ true → names_used u (pivot_of j k) ≡ false
edge-unused u A no_stray none-wrong j k edge = never_true (names_used u (pivot_of j k))
    (λ h. elim (either (bit u.used j) (bit u.used k) h) [
      | inl m ↦ no_edge j k m edge
      | inr m ↦ no_edge k j m (A.simple.symmetric k j ∙ edge)
    ])
  where
    no_edge : (a b : ℕ) → bit u.used a ≡ true → (held_record u.held).graph a b ≡ true → ⊥
    no_edge a b m t = true≢false (sym t ∙ ap (λ w. bit w b) (used-word u none-wrong no_stray a m) ∙ zero_bit b)

pub pivot-never : (u : UsedRecord) → PivotNever u
pivot-never u j k e = true≢false (sym h.1 ∙ edge-unused u (accepted-step u.held (pivot_of j k) five.0) five.1
    seven.1 j k (pivot-edge u.held j k five.0))
  where
    h : (first_fitting (earlier_lines u (pivot_of j k)) ≡ 0) × (names_used u (pivot_of j k) ≡ true)
    h = (used-refused u (pivot_of j k)).0 e

    seven : (first_fitting (with_test 5 (used_stray u) (lines_of u.held (pivot_of j k))) ≡ 0) × (used_wrong u ≡ false)
    seven = (by-seven u (lines_of u.held (pivot_of j k)) (counted u.held (pivot_of j k))).0 h.0

    five : (first_fitting (lines_of u.held (pivot_of j k)) ≡ 0) × (used_stray u ≡ false)
    five = (by-five u (lines_of u.held (pivot_of j k)) (counted u.held (pivot_of j k))).0 seven.0
