-- The calls on a record lent in place, from what the functions below them answer.
use mathlib.Core.Bool.{Bool, cond, false, true}
use mathlib.Core.List.{List}
use mathlib.Core.Path.{ap, refl, sym, ◌∙◌, ◌≡◌}
use Prim.Native.Nat.{◌^◌, ℕ}
use lib.Bits.{bit_or}
use lib.Dec.{eqb}
use lib.ListN.{length}
use borrow.Author.Tests.{eqb-false, eqb-true}
use Rattle.buffers.specs.Buffers.{accepted}
use Rattle.buffers.specs.Refusals.{first_fitting}
use Rattle.buffers.proofs.Calling.{done, kept-all, written_all}
use Rattle.buffers.specs.Answers.{HoldsAnswer}
use Rattle.buffers.specs.Calls.{Call, EachOf}
use Rattle.operations.specs.internal.InPlace.{MeasuredInPlace}
use Rattle.operations.specs.Measurement.{determined_number, outcome_number}
use Rattle.operations.specs.Steps.{Operation, leaves, lines_of, made, measured_answer, measurement_of}
use Rattle.operations.specs.declared.Outcome.{Outcome}
use Rattle.record.specs.Lent.{code_numbers, LentRecord, lent_record, neighbour_words}
use Rattle.record.specs.Records.{GraphRecord}
use Rattle.operations.proofs.AcceptedSteps.{accepted-step}
use Rattle.operations.proofs.MeasuringMarks.{marked-word}
use Rattle.operations.proofs.UsedPassing.{used-passes, used_step_lem}
use Rattle.operations.specs.Used.{UsedRecord, used_after, used_lines_of, used_step}
use Rattle.words.specs.Bits.{is_odd}
use Rattle.calls.specs.InPlace.{in_place_call, measure_call, record_lent, used_call, used_measure_call}

module _ (u : UsedRecord) (o : Operation) {k : ℕ} (e : k ≡ first_fitting (used_lines_of u o)) (z : k ≡ 0) where
  pub as_before : first_fitting (lines_of u.held o) ≡ 0
  as_before = used_step_lem u o (sym e ∙ z)

  pub long : length u.held.neighbours ≡ u.held.n
  long = (accepted-step u.held o as_before).neighbours-length

  -- the new record on m vertices
  abbrev At : ℕ → GraphRecord
  At m = made (lent_record m u.held.neighbours u.held.codes) o

  -- the operations on two buffers take n from their lengths
  module _ {nb' cs' : List ℕ}
      (en : nb' ≡ neighbour_words (length u.held.neighbours) (At (length u.held.neighbours)))
      (ec : cs' ≡ code_numbers (length u.held.neighbours) (At (length u.held.neighbours))) where
    pub both-written : EachOf HoldsAnswer (record_lent u.held o nb' cs')
    both-written = (en ∙ ap (λ m. neighbour_words m (At m)) long, (ec ∙ ap (λ m. code_numbers m (At m)) long, tt))

    pub in-place-done : Call (used_call u o nb' cs') 0
    in-place-done = done _ e z both-written

-- ---- what a call says without the used word
pub without-used : (u : UsedRecord) (o : Operation) {nb' cs' : List ℕ} → Call (used_call u o nb' cs') 0
    → Call (in_place_call u.held o nb' cs') 0
without-used u o C = record { number = sym (used_step_lem u o (sym C.number)); held = C.held }

pub measured-without : (u : UsedRecord) (pauli q b : ℕ) {answer determined : ℕ} {nb' cs' : List ℕ}
    {used' answer' determined' : ℕ}
    → Call (used_measure_call u pauli q b answer determined nb' cs' used' answer' determined') 0
    → Call (measure_call u.held pauli q b answer determined nb' cs' answer' determined') 0
measured-without u pauli q b C =
    record { number = sym (used_step_lem u (measurement_of pauli q b) (sym C.number)); held = C.held.1 }

-- what the buffers hold after a call is what the step leaves
pub left-by-call : (u : UsedRecord) (o : Operation) {r : ℕ} {nb' cs' : List ℕ} → Call (used_call u o nb' cs') r
    → (nb' ≡ (used_step u o).after.held.neighbours) × (cs' ≡ (used_step u o).after.held.codes)
left-by-call u o {r} {nb'} {cs'} C = go (eqb (first_fitting (used_lines_of u o)) 0) refl
  where
    go : (b : Bool) → eqb (first_fitting (used_lines_of u o)) 0 ≡ b
        → (nb' ≡ (cond b (record { held = leaves u.held o; used = used_after u o }) u).held.neighbours)
        × (cs' ≡ (cond b (record { held = leaves u.held o; used = used_after u o }) u).held.codes)
    go true h =
        let z = eqb-true (first_fitting (used_lines_of u o)) 0 h in
        let w = written_all C (C.number ∙ z) in
        let s = sym (used_step_lem u o z) in (
          w.0 ∙ ap (λ k. accepted k (neighbour_words u.held.n (made u.held o)) u.held.neighbours) s,
          w.1.0 ∙ ap (λ k. accepted k (code_numbers u.held.n (made u.held o)) u.held.codes) s,
        )
    go false h =
        let w = kept-all C (λ z. eqb-false (first_fitting (used_lines_of u o)) 0 h (sym C.number ∙ z)) in
        (w.0, w.1.0)

-- ---- a measurement
-- the used word after it is what the step leaves
pub marked-by-call : (u : UsedRecord) (pauli q b : ℕ) {answer determined r : ℕ} {nb' cs' : List ℕ}
    {used' answer' determined' : ℕ}
    → Call (used_measure_call u pauli q b answer determined nb' cs' used' answer' determined') r
    → used' ≡ (used_step u (measurement_of pauli q b)).after.used
marked-by-call u pauli q b C =
    C.held.0 ∙ ap (λ k. cond (eqb k 0) (used_after u (measurement_of pauli q b)) u.used) C.number
    ∙ go (eqb (first_fitting (used_lines_of u (measurement_of pauli q b))) 0) _ _
  where
    go : (b : Bool) (l : LentRecord) (w : ℕ) → cond b w u.used ≡ (cond b (record { held = l; used = w }) u).used
    go true l w = refl
    go false l w = refl

pub measure-done : (u : UsedRecord) (pauli q b answer determined : ℕ) {k : ℕ}
    → k ≡ first_fitting (used_lines_of u (measurement_of pauli q b)) → k ≡ 0 → (r : Outcome) (nb' cs' : List ℕ)
    → MeasuredInPlace u.held.neighbours u.held.codes pauli q (is_odd b) r nb' cs'
    → (used' answer' determined' : ℕ) → used' ≡ bit_or u.used (2 ^ q) → answer' ≡ outcome_number r
    → determined' ≡ determined_number r
    → Call (used_measure_call u pauli q b answer determined nb' cs' used' answer' determined') 0
measure-done u pauli q b answer determined e z r nb' cs' M used' answer' determined' eu ea ed =
    done _ e z (
      eu ∙ sym (marked-word u pauli q b ((used-passes u (measurement_of pauli q b)).0 (sym e ∙ z))),
      (
        ea ∙ ap outcome_number answers,
        (
          ed ∙ ap determined_number answers,
          both-written u (measurement_of pauli q b) e z M.after.neighbours M.after.numbers,
        ),
      ),
    )
  where
    answers : r ≡ measured_answer u.held pauli q b
    answers = M.answer ∙ ap (λ m. measured_answer
        (lent_record m u.held.neighbours u.held.codes) pauli q b)
        (long u (measurement_of pauli q b) e z)
