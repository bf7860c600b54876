-- The run of a step, from what the calls answer.
use mathlib.Core.Bool.{Bool, cond, false, true, ◌||◌}
use mathlib.Core.List.{List}
use mathlib.Core.Path.{◌∙◌, ◌≡◌, ap, ap₂, refl, subst, sym}
use Prim.Native.Nat.{◌%◌, ◌+◌, ◌/◌, ◌<◌, ℕ}
use native.Mathlib.Decide.{ℕ_discrete}
use lib.Dec.{eqb}
use borrow.Author.Tests.{eq-eqb, leb-false, ne_eqb}
use Rattle.buffers.specs.Refusals.{first_fitting}
use Rattle.buffers.proofs.Calling.{kept-all}
use Rattle.buffers.specs.Calls.{Call}
use Rattle.jobs.proofs.Numbers.{left-by-operation, number-of-request, refused-keeps, six-refuses}
use Rattle.jobs.specs.Asked.{
  Request,
  asked,
  carry_out,
  number_of,
  observation_of,
  renewal_of,
  request_lines,
  request_of,
  unused_set,
}
use Rattle.jobs.specs.internal.Asked.{wrong_value}
use Rattle.jobs.specs.Runs.{
  after_step,
  answer_of,
  determined_of,
  outcome_of,
  request_determined,
  request_leaves,
  request_outcome,
}
use Rattle.jobs.specs.declared.Answer.{Answer}
use Rattle.jobs.specs.declared.Op.{Op}
use Rattle.jobs.specs.declared.Op.TheVariants.{Gate, Measure, Observe, Renew}
use Rattle.jobs.specs.declared.Step.{Step}
use Rattle.operations.specs.Steps.{Operation, leaves, measurement_of}
use Rattle.calls.proofs.InPlaceCalls.{left-by-call, marked-by-call}
use Rattle.calls.proofs.SourceCalls.{observe-as-measured}
use Rattle.calls.specs.InPlace.{used_call, used_measure_call}
use Rattle.calls.specs.Sources.{observe_call, renew_call}
use Rattle.operations.specs.Used.{UsedRecord, used_after, used_lines, used_step}
use Rattle.source.proofs.Observed.{answered}
use Rattle.source.specs.Renewal.{renewed}
use Rattle.words.proofs.Flags.{neither}
use Rattle.jobs.proofs.WrongFields.{fields-refuse}
use Rattle.call_run.specs.internal.StepRuns.{NoOutcome, Plain, StepRun}

abbrev answer : ℕ → ℕ → ℕ → Answer
answer k o d = record { refusal = k; outcome = o; determined = d }

-- an operation that copies the used word
plain_word : (u : UsedRecord) (o : Operation) → Plain u o → u.used ≡ (used_step u o).after.used
plain_word u o P = kept (eqb (used_step u o).number 0)
  where
    kept : (c : Bool) → u.used ≡ (cond c (record { held = leaves u.held o; used = used_after u o }) u).used
    kept true = sym P.copied
    kept false = refl

-- a part of one of two records
of_either : {A : Type 0} (f : UsedRecord → A) (b : Bool) (v w : UsedRecord) → cond b (f v) (f w) ≡ f (cond b v w)
of_either f true v w = refl
of_either f false v w = refl

module _ (u : UsedRecord) (s : Step) where
  abbrev pub wrong : Bool
  wrong = unused_set s.op s.b s.value || wrong_value s.op s.value

  -- from what the two tests answer
  pub wrong-by : {v w t : Bool} → v ≡ unused_set s.op s.b s.value → w ≡ wrong_value s.op s.value
      → (v || w) ≡ t → wrong ≡ t
  wrong-by ev ew e = sym (ap₂ ◌||◌ ev ew) ∙ e

  -- where the fields are not wrong, the value fits
  value-right : wrong ≡ false → {op : Op} → s.op ≡ op → wrong_value op s.value ≡ false
  value-right e g = sym (ap (λ op. wrong_value op s.value) g)
      ∙ (neither (unused_set s.op s.b s.value) (wrong_value s.op s.value) e).1

  pub value-small : wrong ≡ false → s.op ≡ Measure → s.value < 6
  value-small e g = leb-false 6 s.value (value-right e g)

  pub lot-small : wrong ≡ false → s.op ≡ Observe → s.value < 6
  lot-small e g = leb-false 6 s.value (value-right e g)

  pub photon-small : wrong ≡ false → s.op ≡ Renew → s.value < 12
  photon-small e g = leb-false 12 s.value (value-right e g)

  pub gate-small : wrong ≡ false → s.op ≡ Gate → s.value < 24
  gate-small e g = leb-false 24 s.value (value-right e g)

  -- the fields alone are wrong
  -- what it asks, where the operation is known
  as-asked : {op : Op} → s.op ≡ op → asked s ≡ request_of op s.a s.b s.value
  as-asked g = ap (λ op. request_of op s.a s.b s.value) g

  pub wrong-run : wrong ≡ true → (k : ℕ) → k ≡ first_fitting (used_lines u false false true)
      → StepRun u s (answer k 0 0) u.held.neighbours u.held.codes u.used
  wrong-run e k ek =
      record {
        answer = ap (λ m. answer m 0 0) number ∙ sym no-outcome;
        words = ap (λ m. m.held.neighbours) (sym kept);
        numbers = ap (λ m. m.held.codes) (sym kept);
        marks = ap (λ m. m.used) (sym kept);
      }
    where
      number : k ≡ number_of u s
      number = ek ∙ sym (fields-refuse u s.op s.a s.b s.value e)

      refused : number_of u s ≡ 0 → ⊥
      refused z = six-refuses u (sym ek ∙ number ∙ z)

      kept : after_step u s ≡ u
      kept = refused-keeps u s refused

      no-outcome : answer_of u s ≡ answer (number_of u s) 0 0
      no-outcome = ap (λ b. answer (number_of u s) (cond b (request_outcome u.held (asked s)) 0)
          (cond b (request_determined u.held (asked s)) 0)) (ne_eqb (number_of u s) 0 refused)

  -- they are not: the call is the step
  module _ (e : wrong ≡ false) where
    unset : unused_set s.op s.b s.value ≡ false
    unset = (neither (unused_set s.op s.b s.value) (wrong_value s.op s.value) e).0

    -- what is asked, known
    module _ (r : Request) (g : asked s ≡ r) where
      number-as : number_of u s ≡ first_fitting (request_lines u r)
      number-as = number-of-request u s unset ∙ ap (λ t. first_fitting (request_lines u t)) g

      answer-as : (k outcome determined : ℕ) → k ≡ first_fitting (request_lines u r)
          → outcome ≡ cond (eqb k 0) (request_outcome u.held r) 0
          → determined ≡ cond (eqb k 0) (request_determined u.held r) 0
          → answer k outcome determined ≡ answer_of u s
      answer-as k outcome determined e eo ed =
          (λ i. answer k (eo i) (ed i))
          ∙ ap₂ (λ m t. answer m (cond (eqb m 0) (request_outcome u.held t) 0)
          (cond (eqb m 0) (request_determined u.held t) 0)) (e ∙ sym number-as) (sym g)

      left_as : (k : ℕ) → k ≡ first_fitting (request_lines u r) → cond (eqb k 0) (request_leaves u r) u ≡ after_step u s
      left_as k e = ap₂ (λ m t. cond (eqb m 0) (request_leaves u t) u) (e ∙ sym number-as) (sym g)

    called : (o : Operation) → asked s ≡ carry_out o → (k : ℕ) (nb cs : List ℕ) (used' : ℕ) → Call (used_call u o nb cs) k
        → used' ≡ (used_step u o).after.used → (outcome determined : ℕ)
        → outcome ≡ cond (eqb k 0) (outcome_of u.held o) 0
        → determined ≡ cond (eqb k 0) (determined_of u.held o) 0
        → StepRun u s (answer k outcome determined) nb cs used'
    called o g k nb cs used' C m outcome determined eo ed =
        record {
          answer = answer-as (carry_out o) g k outcome determined C.number eo ed;
          words = (left-by-call u o C).0 ∙ ap (λ m. m.held.neighbours) (sym left);
          numbers = (left-by-call u o C).1 ∙ ap (λ m. m.held.codes) (sym left);
          marks = m ∙ ap (λ m. m.used) (sym left);
        }
      where
        left : after_step u s ≡ (used_step u o).after
        left = left-by-operation u s o g unset

    -- without outcome
    pub plain-run : (o : Operation) → asked s ≡ carry_out o → Plain u o → (k : ℕ) (nb cs : List ℕ)
        → Call (used_call u o nb cs) k → StepRun u s (answer k 0 0) nb cs u.used
    plain-run o g P k nb cs C = called o g k nb cs u.used C (plain_word u o P) 0 0
        (none P.no-outcome) (none P.no-determined)
      where
        same : (b : Bool) → ◌≡◌ {A = ℕ} (cond b 0 0) 0
        same true = refl
        same false = refl

        none : {v : ℕ} → v ≡ 0 → 0 ≡ cond (eqb k 0) v 0
        none z = sym (ap (λ v. cond (eqb k 0) v 0) z ∙ same (eqb k 0))

    -- with it
    pub measured-run : s.op ≡ Measure → (nb cs : List ℕ) (used' : ℕ) (r : Answer)
        → Call (used_measure_call u (s.value / 2 + 1) s.a (s.value % 2) 0 0 nb cs used' r.outcome r.determined)
        r.refusal
        → StepRun u s r nb cs used'
    measured-run g nb cs used' r C =
        called (measurement_of (s.value / 2 + 1) s.a (s.value % 2)) (as-asked g) r.refusal nb cs used'
        (record { number = C.number; held = C.held.1.1.1 })
        (marked-by-call u (s.value / 2 + 1) s.a (s.value % 2) C)
        r.outcome r.determined C.held.1.0 C.held.1.1.0

    -- with a bit by lot
    pub observed-run : s.op ≡ Observe → (nb cs : List ℕ) (used' : ℕ) (r : Answer)
        → Call (observe_call u (s.value / 2 + 1) s.a (s.value % 2) 0 0 nb cs used' r.outcome r.determined)
        r.refusal
        → StepRun u s r nb cs used'
    observed-run g nb cs used' r C =
        record {
          answer = answer-as asks (as-asked g) r.refusal r.outcome r.determined C.number C.held.1.0
              C.held.1.1.0;
          words = left.0 ∙ ap (λ m. m.held.neighbours) after;
          numbers = left.1 ∙ ap (λ m. m.held.codes) after;
          marks = left.2 ∙ ap (λ m. m.used) after;
        }
      where
        pauli : ℕ
        pauli = s.value / 2 + 1

        bit : ℕ
        bit = s.value % 2

        asks : Request
        asks = observation_of pauli s.a bit

        measured : Operation
        measured = measurement_of pauli s.a (answered u pauli s.a bit)

        after : cond (eqb r.refusal 0) (used_step u measured).after u ≡ after_step u s
        after = left_as asks (as-asked g) r.refusal C.number

        Left : Bool → Type 0
        Left b = (nb ≡ (cond b (used_step u measured).after u).held.neighbours)
            × (cs ≡ (cond b (used_step u measured).after u).held.codes)
            × (used' ≡ (cond b (used_step u measured).after u).used)

        left : Left (eqb r.refusal 0)
        left = go (ℕ_discrete r.refusal 0)
          where
            go : Dec (r.refusal ≡ 0) → Left (eqb r.refusal 0)
            go (yes z) =
                let M = observe-as-measured u pauli s.a bit
                (subst (Call (observe_call u pauli s.a bit 0 0 nb cs used'
                r.outcome r.determined)) z C) in
                let c = left-by-call u measured (record { number = M.number; held = M.held.1.1.1 }) in
                subst Left (sym (eq-eqb r.refusal 0 z))
                (c.0, c.1, marked-by-call u pauli s.a (answered u pauli s.a bit) M)
            go (no h) =
                let w = kept-all C h in
                subst Left (sym (ne_eqb r.refusal 0 h)) (w.1.1.1.0, w.1.1.1.1.0, w.0)

    -- a new photon
    pub renewed-run : s.op ≡ Renew → (nb cs : List ℕ) (used' : ℕ) (r : Answer) → NoOutcome r
        → Call (renew_call u s.a s.value nb cs used') r.refusal → StepRun u s r nb cs used'
    renewed-run g nb cs used' r N C =
        record {
          answer = answer-as asks (as-asked g) k r.outcome r.determined C.number (N.outcome ∙ none)
              (N.determined ∙ none);
          words = C.held.1.0 ∙ of_either (λ v. v.held.neighbours) (eqb k 0) new u ∙ ap (λ m. m.held.neighbours)
              after;
          numbers = C.held.1.1.0 ∙ of_either (λ v. v.held.codes) (eqb k 0) new u ∙ ap (λ m. m.held.codes) after;
          marks = C.held.0 ∙ of_either (λ v. v.used) (eqb k 0) new u ∙ ap (λ m. m.used) after;
        }
      where
        k : ℕ
        k = r.refusal

        asks : Request
        asks = renewal_of s.a s.value

        new : UsedRecord
        new = renewed u s.a s.value

        after : cond (eqb r.refusal 0) (renewed u s.a s.value) u ≡ after_step u s
        after = left_as asks (as-asked g) r.refusal C.number

        same : (b : Bool) → ◌≡◌ {A = ℕ} 0 (cond b 0 0)
        same true = refl
        same false = refl

        none : ◌≡◌ {A = ℕ} 0 (cond (eqb r.refusal 0) 0 0)
        none = same (eqb r.refusal 0)
