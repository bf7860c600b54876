-- The lines of the calls on a record lent in place, without the used word, exactly: none of them holds where the record
-- is accepted and the arguments fit.
use mathlib.Core.Bool.{Bool, false, not, true, true≢false, ◌||◌}
use mathlib.Core.Logic.{◌↔◌, ◌≢◌}
use mathlib.Core.Path.{◌≡◌, ◌∙◌, ap, refl, sym}
use Prim.Native.Nat.{◌<◌, ℕ, ◌≤◌}
use native.Mathlib.Nat.{pos_of_ne-zero}
use native.Mathlib.Omega.{arith}
use lib.Dec.{eqb, leb, lit<}
use borrow.Author.Tests.{eqb-false, ne_eqb, not-false}
use Rattle.buffers.specs.Refusals.{first_fitting}
use Rattle.operations.specs.Measurement.{contradicts, pauli_letter}
use Rattle.operations.specs.Steps.{argument_lines, complement_lines, cz_lines, gate_lines, measure_lines, pivot_lines}
use Rattle.record.specs.Accepted.{AcceptedRecord}
use Rattle.record.specs.Lent.{LentRecord, held_record, held_rows}
use Rattle.calls.proofs.MeasureLines.{measure-passes}
use Rattle.stabilizer.specs.Groups.{InGroup}
use Rattle.words.proofs.Flags.{neither, never_true}
use Rattle.words.specs.Bits.{is_odd}
use Rattle.claims.proofs.Contradictions.{contradicted-by-group}
use Rattle.claims.proofs.LinesExactly.{below-exactly, both-pass, last-exactly, more-exactly, record-and}
use Rattle.claims.specs.OperationsDemand.{signed_pauli}

module _ (l : LentRecord) where
  pub gate-lines : (q k : ℕ) → (first_fitting (gate_lines l q k) ≡ 0) ↔ (AcceptedRecord l × (q < l.n) × (k < 24))
  gate-lines q k = (
    (λ e. let h = (record-and l (leb 24 k) 7 (leb l.n q)).0 e in
        (h.0, (below-exactly l.n q).0 h.2, (below-exactly 24 k).0 h.1)),
    (λ h. (record-and l (leb 24 k) 7 (leb l.n q)).1
        (h.0, (below-exactly 24 k).1 h.2, (below-exactly l.n q).1 h.1)),
  )

  pub complement-lines : (a : ℕ) → (first_fitting (complement_lines l a) ≡ 0) ↔ (AcceptedRecord l × (a < l.n))
  complement-lines a = (
    (λ e. let h = (record-and l false 7 (leb l.n a)).0 e in (h.0, (below-exactly l.n a).0 h.2)),
    (λ h. (record-and l false 7 (leb l.n a)).1 (h.0, refl, (below-exactly l.n a).1 h.1)),
  )

  pub cz-lines : (a b : ℕ) → (first_fitting (cz_lines l a b) ≡ 0) ↔ (AcceptedRecord l × (a < l.n) × (b < l.n) × (a ≢ b))
  cz-lines a b = (
    (λ e. let h = (record-and l false 7 eight).0 e in
        let t = neither (leb l.n a) _ h.2 in
        let u = neither (leb l.n b) _ t.1 in
        (h.0, (below-exactly l.n a).0 t.0, (below-exactly l.n b).0 u.0, eqb-false a b u.1)),
    (λ h. (record-and l false 7 eight).1 (
      h.0,
      refl,
      both-pass ((below-exactly l.n a).1 h.1) (both-pass ((below-exactly l.n b).1 h.2) (ne_eqb a b h.3)),
    )),
  )
    where
      eight : Bool
      eight = leb l.n a || (leb l.n b || eqb a b)

  pub pivot-lines : (j k : ℕ) → (first_fitting (pivot_lines l j k) ≡ 0)
      ↔ (AcceptedRecord l × (j < l.n) × (k < l.n) × ((held_record l).graph j k ≡ true))
  pivot-lines j k = (
    (λ e. let h = (record-and l false 7 eight).0 e in
        let t = neither (leb l.n j) _ h.2 in
        let u = neither (leb l.n k) _ t.1 in (
          h.0,
          (below-exactly l.n j).0 t.0,
          (below-exactly l.n k).0 u.0,
          not-false _ (neither (eqb j k) _ u.1).1,
        )),
    (λ h. (record-and l false 7 eight).1 (
      h.0,
      refl,
      both-pass ((below-exactly l.n j).1 h.1) (both-pass ((below-exactly l.n k).1 h.2)
          (both-pass (ne_eqb j k (two_ends h.0 h.3)) (ap not h.3))),
    )),
  )
    where
      eight : Bool
      eight = leb l.n j || (leb l.n k || (eqb j k || not ((held_record l).graph j k)))

      -- no vertex is its own neighbour
      two_ends : AcceptedRecord l → (held_record l).graph j k ≡ true → j ≢ k
      two_ends A e s = true≢false (sym e ∙ ap ((held_record l).graph j) (sym s) ∙ A.simple.loopless j)

  -- ---- measurements
  module _ (pauli q b : ℕ) where
    -- before the outcome is looked at
    pub argument-lines : (first_fitting (argument_lines l pauli q b) ≡ 0)
        ↔ (AcceptedRecord l × (1 ≤ pauli) × (pauli ≤ 3) × (q < l.n) × (b < 2))
    argument-lines = (
      (λ e. let h = (record-and l six 7 (leb l.n q)).0 e in
          let t = neither (leb 2 b) _ h.1 in
          let u = neither (eqb pauli 0) _ t.1 in (
            h.0,
            pos_of_ne-zero (eqb-false pauli 0 u.0),
            omega (arith, (below-exactly 4 pauli).0 u.1),
            (below-exactly l.n q).0 h.2,
            (below-exactly 2 b).0 t.0,
          )),
      (λ h. (record-and l six 7 (leb l.n q)).1 (
        h.0,
        both-pass ((below-exactly 2 b).1 h.4) (both-pass (ne_eqb pauli 0 (some pauli h.1))
            ((below-exactly 4 pauli).1 (omega (arith, h.2)))),
        (below-exactly l.n q).1 h.3,
      )),
    )
      where
        six : Bool
        six = leb 2 b || (eqb pauli 0 || leb 4 pauli)

        some : (p : ℕ) → 1 ≤ p → p ≢ 0
        some p h e = omega (arith, h, e)

    abbrev pub against : Bool
    against = contradicts l.n (held_rows l) (pauli_letter pauli) q (is_odd b)

    -- then 14 decides
    agreed-passes : first_fitting (argument_lines l pauli q b) ≡ 0 → against ≡ false →
        first_fitting (measure_lines l pauli q b) ≡ 0
    agreed-passes e h =
        (more-exactly (argument_lines l pauli q b) _
        (lit< tt, (lit< tt, (lit< tt, (lit< tt, (lit< tt, (lit< tt, tt))))))).1 (e, (last-exactly 13 against).1 h)

    pub measure-lines : (first_fitting (measure_lines l pauli q b) ≡ 0)
        ↔ ((first_fitting (argument_lines l pauli q b) ≡ 0)
        × (InGroup l.n l.n (held_rows l) (signed_pauli pauli q (not (is_odd b))) → ⊥))
    measure-lines = (
      (λ e. let p = measure-passes l pauli q b e in
          (p.0, λ i. true≢false (sym ((contradicted-by-group l pauli q b p.0).1 i) ∙ p.1))),
      (λ h. agreed-passes h.0 (never_true against (λ t. h.1 ((contradicted-by-group l pauli q b h.0).0 t)))),
    )
