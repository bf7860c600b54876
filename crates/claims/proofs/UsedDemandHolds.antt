-- What document 02, §8, says of the public calls, from their contracts and the laws of used qubits.
use mathlib.Core.Bool.{false}
use mathlib.Core.List.{List}
use mathlib.Core.Logic.{◌≢◌}
use mathlib.Core.Path.{◌≡◌, ◌∙◌, ap, refl, subst, sym}
use Prim.Native.Nat.{◌*◌, ◌+◌, ◌-◌, ℕ}
use lib.ListN.{get_or}
use Rattle.buffers.specs.Refusals.{first_fitting}
use Rattle.calls.proofs.InPlaceCalls.{measured-without, without-used}
use Rattle.calls.specs.InPlace.{used_call}
use Rattle.buffers.specs.Calls.{Call}
use Rattle.operations.specs.Steps.{Operation, complement_of, cz_on, gate_with, measurement_of, pivot_of}
use Rattle.record.proofs.WrittenRecords.{reduced-passes}
use Rattle.record.specs.Lent.{lent_record, record_lines}
use Rattle.stabilizer.proofs.Accepted.{AcceptedList, accepted-list}
use Rattle.stabilizer.specs.Lists.{rows}
use Rattle.operations.proofs.LeftRecords.{marks-measured, used-left}
use Rattle.operations.proofs.UsedPassing.{unused-number, unused-passes}
use Rattle.operations.proofs.UsedRefusing.{used-refused}
use Rattle.operations.specs.Used.{used_after, used_lines, UsedRecord, used_record, used_step}
use Rattle.operations.specs.internal.UsedLaws.{MeasuredMarks, UsedLeft}
use Rattle.operations.specs.UsedLaws.{UsedStay}
use Rattle.words.specs.Bits.{bit}
use Rattle.claims.proofs.RewritingsKeep.{is-after}
use Rattle.claims.proofs.SecondDemandLists.{holds-reduced}
use Rattle.claims.specs.UsedDemand.{
  AcceptedWithout,
  CallsCopy,
  MeasuredWithout,
  MeasurementsMark,
  NumbersWithout,
  ReductionsUnused,
  SecondMeasurementsRefused,
  UsedCallsRefused,
  left_used,
}

-- a record that a call leaves, by what its buffers and its used word hold
pub left_is : (u : UsedRecord) (o : Operation) (nb' cs' : List ℕ) (used' : ℕ) → Call (used_call u o nb' cs') 0
    → used' ≡ used_after u o → left_used u nb' cs' used' ≡ (used_step u o).after
left_is u o nb' cs' used' C e = λ i. record {
  held = is-after u o 0 nb' cs' C i;
  used = (e ∙ sym (used-left u o (sym C.number)).used) i;
}

-- ---- calls without outcome
pub calls-copy : CallsCopy
calls-copy u o h nb' cs' C =
    record {
      stay = subst (UsedStay u) (ap (λ v. v.held) (sym same)) L.stay;
      passes = subst (λ v. first_fitting (used_lines v false false false) ≡ 0) (sym same) L.passes;
    }
  where
    L : UsedLeft u o (used_step u o).after
    L = used-left u o (sym C.number)

    copied : (o : Operation) → ((pauli q b : ℕ) → o ≢ measurement_of pauli q b) → u.used ≡ used_after u o
    copied (gate_with q k) h = refl
    copied (cz_on a b) h = refl
    copied (measurement_of pauli q b) h = absurd (h pauli q b refl)
    copied (complement_of a) h = refl
    copied (pivot_of j k) h = refl

    same : left_used u nb' cs' u.used ≡ (used_step u o).after
    same = left_is u o nb' cs' u.used C (copied o h)

-- ---- measurements
pub measurements-mark : MeasurementsMark
measurements-mark u pauli q b answer determined nb' cs' used' answer' determined' C =
    record {
      within = M.within;
      marked = λ t. ap (λ v. bit v.used t) same ∙ M.marked t;
      word = ap (λ v. get_or v.held.neighbours q 0) same ∙ M.word;
      code = ap (λ v. get_or v.held.codes q 0) same ∙ M.code
          ∙ ap (λ s. 4 * (pauli - 1) + 2 * s) (sym C.held.1.0);
      stay = subst (UsedStay u) (ap (λ v. v.held) (sym same)) L.stay;
      passes = subst (λ v. first_fitting (used_lines v false false false) ≡ 0) (sym same) L.passes;
    }
  where
    L : UsedLeft u (measurement_of pauli q b) (used_step u (measurement_of pauli q b)).after
    L = used-left u (measurement_of pauli q b) (sym C.number)

    M : MeasuredMarks u pauli q b (used_step u (measurement_of pauli q b)).after
    M = marks-measured u pauli q b (sym C.number)

    same : left_used u nb' cs' used' ≡ (used_step u (measurement_of pauli q b)).after
    same = left_is u (measurement_of pauli q b) nb' cs' used'
        (record { number = C.number; held = C.held.1.1.1 }) C.held.0

-- ---- 16
pub used-calls-refused : UsedCallsRefused
used-calls-refused u o nb' cs' r C =
    let h = used-refused u o in ((λ e. h.0 (sym C.number ∙ e)), (λ p. C.number ∙ h.1 p))

pub second-measurements-refused : SecondMeasurementsRefused
second-measurements-refused u pauli q b answer determined nb' cs' used' answer' determined' r C =
    let h = used-refused u (measurement_of pauli q b) in
    ((λ e. h.0 (sym C.number ∙ e)), (λ p. C.number ∙ h.1 p))

-- ---- without the used word
pub accepted-without : AcceptedWithout
accepted-without u o nb' cs' C = without-used u o C

pub accepted-measured-without : MeasuredWithout
accepted-measured-without u pauli q b answer determined nb' cs' used' answer' determined' C =
    measured-without u pauli q b C

pub numbers-without : NumbersWithout
numbers-without l o = unused-number l o

-- ---- a record made from a list
pub reductions-unused : ReductionsUnused
reductions-unused l nb cs used nb' cs' used' C =
    record {
      none = C.held.0;
      passes = subst (λ w. first_fitting (used_lines (used_record l.n nb' cs' w) false false false) ≡ 0)
          (sym C.held.0) (unused-passes (lent_record l.n nb' cs') false false
          (subst (λ r. first_fitting (record_lines r false false) ≡ 0)
          (sym (holds-reduced l nb cs used nb' cs' used' C))
          (reduced-passes l.n (rows l) A.proper A.formed.positive A.formed.upto)));
    }
  where
    A : AcceptedList l
    A = accepted-list l _ (sym C.number)
