-- An accepted operation on a record that has a group: the record left has the group that the definitions give.
use mathlib.Core.Logic.{◌↔◌, inl, inr, ⊎_elim}
use mathlib.Core.Path.{◌∙◌, ◌≡◌, ap, refl, subst, sym}
use Prim.Native.Nat.{ℕ}
use native.Mathlib.Omega.{arith}
use Rattle.buffers.specs.Buffers.{accepted}
use Rattle.buffers.specs.Refusals.{first_fitting}
use Rattle.clifford.specs.Clifford.{clifford_of}
use Rattle.clifford.specs.Vectors.{act, only}
use Rattle.buffers.specs.Calls.{Call}
use Rattle.jobs.specs.GroupsAfter.AfterMeasurement.{joined, kept, same}
use Rattle.jobs.specs.GroupsAfter.{AfterMeasurement, AfterOperation, Group, GroupDetermines, Sent}
use Rattle.operations.specs.Cz.{cz}
use Rattle.operations.specs.Measurement.Measured.{joined as group-joined, kept as group-kept}
use Rattle.operations.specs.Measurement.{Measured, determined_number, outcome_number, pauli_letter, single}
use Rattle.operations.specs.Steps.{
  Operation,
  complement_of,
  cz_lines,
  cz_on,
  gate_lines,
  gate_with,
  leaves,
  lines_of,
  made,
  measure_lines,
  measured_answer,
  measurement_of,
  pivot_of,
}
use Rattle.pauli.specs.Pauli.{Pauli}
use Rattle.record.specs.Lent.{LentRecord, code_numbers, held_rows, neighbour_words}
use Rattle.calls.specs.InPlace.{in_place_call}
use Rattle.stabilizer.specs.Groups.{InGroup, SameGroup}
use Rattle.words.specs.Bits.{is_odd}
use Rattle.claims.proofs.GatesFollow.{cz-follows, gates-follow}
use Rattle.claims.proofs.MeasurementsFollow.{measurements-follow}
use Rattle.claims.proofs.RewritingsKeep.{complements-keep, pivots-keep}
use Rattle.claims.specs.OperationsDemand.{CzStands, GateStands, MeasurementStands}

-- the products of a record's generators are the group's elements
pub record HasGroup (l : LentRecord) (G : Pauli → Type 0) : Type 0 where
  pub elements : (p : Pauli) → InGroup l.n l.n (held_rows l) p ↔ G p

-- what a step leaves is what its call leaves
pub call-of : (l : LentRecord) (o : Operation) → first_fitting (lines_of l o) ≡ 0
    → Call (in_place_call l o (leaves l o).neighbours (leaves l o).codes) 0
call-of l o z =
    record {
      number = sym z;
      held = (
        ap (λ k. accepted k (neighbour_words l.n (made l o)) l.neighbours) z,
        (ap (λ k. accepted k (code_numbers l.n (made l o)) l.codes) z, tt),
      );
    }

module _ (l : LentRecord) (G : Group) (S : HasGroup l G) where
  abbrev Old : Pauli → Type 0
  Old = InGroup l.n l.n (held_rows l)

  gate-stands : (q k : ℕ) → first_fitting (gate_lines l q k) ≡ 0
      → HasGroup (leaves l (gate_with q k)) (Sent (act l.n (only q (clifford_of k))) G)
  gate-stands q k z =
      record {
        elements = λ p. (
          (λ h. let o = F.group.onto p h in (o.0, (S.elements o.0).0 o.1, o.2)),
          (λ h. subst (InGroup l.n l.n (held_rows after)) (sym h.2)
              (F.group.into h.0 ((S.elements h.0).1 h.1))),
        );
      }
    where
      after : LentRecord
      after = leaves l (gate_with q k)

      F : GateStands l q k after
      F = gates-follow l q k _ _ (call-of l (gate_with q k) z)

  cz-stands : (a b : ℕ) → first_fitting (cz_lines l a b) ≡ 0
      → HasGroup (leaves l (cz_on a b)) (Sent (cz a b) G)
  cz-stands a b z =
      record {
        elements = λ p. (
          (λ h. let o = (F.group p).0 h in (o.0, (S.elements o.0).0 o.1, o.2)),
          (λ h. (F.group p).1 (h.0, (S.elements h.0).1 h.1, h.2)),
        );
      }
    where
      F : CzStands l a b (leaves l (cz_on a b))
      F = cz-follows l a b _ _ (call-of l (cz_on a b) z)

  -- ---- measurements
  module _ (pauli q b : ℕ) (z : first_fitting (measure_lines l pauli q b) ≡ 0) where
    abbrev after : LentRecord
    after = leaves l (measurement_of pauli q b)

    abbrev New : Pauli → Type 0
    New = InGroup l.n l.n (held_rows after)

    abbrev After : Pauli → Type 0
    After = AfterMeasurement l.n G (pauli_letter pauli) q (is_odd b)

    abbrev known : ℕ
    known = determined_number (measured_answer l pauli q b)

    M : MeasurementStands l pauli q b after (outcome_number (measured_answer l pauli q b)) known
    M = measurements-follow l pauli q b 0 0 _ _ _ _
        (record { number = sym z; held = (refl, (refl, (call-of l (measurement_of pauli q b) z).held)) })

    in_group : GroupDetermines G (pauli_letter pauli) q ↔ (known ≡ 1)
    in_group = (
      (λ d. M.exactly.1 (⊎_elim (λ h. inl ((S.elements _).1 h)) (λ h. inr ((S.elements _).1 h)) d)),
      (λ e. ⊎_elim (λ h. inl ((S.elements _).0 h)) (λ h. inr ((S.elements _).0 h)) (M.exactly.0 e)),
    )

    -- determined: the same group
    same-elements : known ≡ 1 → (p : Pauli) → New p ↔ After p
    same-elements e p = ((λ h. same d ((S.elements p).0 ((M.kept e).back p h))), back)
      where
        d : GroupDetermines G (pauli_letter pauli) q
        d = in_group.1 e

        back : {p : Pauli} → After p → New p
        back {p} (same t g) = (M.kept e).there p ((S.elements p).1 g)
        back (kept u g c) = absurd (u d)
        back (joined u g c) = absurd (u d)

    -- not determined: the Pauli joins
    joined-elements : known ≡ 0 → (p : Pauli) → New p ↔ After p
    joined-elements e p = ((λ h. there ((M.joined e p).0 h)), (λ h. (M.joined e p).1 (back h)))
      where
        undetermined : GroupDetermines G (pauli_letter pauli) q → ⊥
        undetermined d = differ (sym e ∙ in_group.0 d)
          where
            differ : ◌≡◌ {A = ℕ} 0 1 → ⊥
            differ t = omega arith

        there : {p : Pauli} → Measured l.n (held_rows l) (single (pauli_letter pauli) q (is_odd b)) p → After p
        there {p} (group-kept h c) = kept undetermined ((S.elements p).0 h) c
        there (group-joined {p} h c) = joined undetermined ((S.elements p).0 h) c

        back : {p : Pauli} → After p → Measured l.n (held_rows l) (single (pauli_letter pauli) q (is_odd b)) p
        back (same d g) = absurd (undetermined d)
        back {p} (kept u g c) = group-kept ((S.elements p).1 g) c
        back (joined {p} u g c) = group-joined ((S.elements p).1 g) c

    measure-stands : HasGroup after After
    measure-stands = record { elements = ⊎_elim joined-elements same-elements M.either }

    -- what it answers: determined where the group says so, and the bit, which is then the sign found
    pub answer-stands : ((known ≡ 1) ↔ GroupDetermines G (pauli_letter pauli) q)
        × (outcome_number (measured_answer l pauli q b) ≡ b)
        × (GroupDetermines G (pauli_letter pauli) q
        → G (single (pauli_letter pauli) q (is_odd (outcome_number (measured_answer l pauli q b)))))
    answer-stands = (
      (in_group.1, in_group.0),
      ⊎_elim M.bit (λ e. sym (M.agrees e)) M.either,
      (λ d. (S.elements _).0 (M.sign (in_group.0 d))),
    )

  -- ---- complements and pivots
  same-elements-kept : {rows : ℕ → Pauli} → SameGroup l.n l.n (held_rows l) rows
      → (p : Pauli) → InGroup l.n l.n rows p ↔ G p
  same-elements-kept K p = ((λ h. (S.elements p).0 (K.back p h)), (λ h. K.there p ((S.elements p).1 h)))

  -- ---- an accepted operation
  pub operation-stands : (o : Operation) → first_fitting (lines_of l o) ≡ 0
      → HasGroup (leaves l o) (AfterOperation l.n G o)
  operation-stands (gate_with q k) z = gate-stands q k z
  operation-stands (cz_on a b) z = cz-stands a b z
  operation-stands (measurement_of pauli q b) z = measure-stands pauli q b z
  operation-stands (complement_of a) z =
      let F = complements-keep l a _ _ (call-of l (complement_of a) z) in
      record { elements = same-elements-kept F.group }
  operation-stands (pivot_of j k) z =
      let F = pivots-keep l j k _ _ (call-of l (pivot_of j k) z) in
      record { elements = same-elements-kept F.group }
