-- What the contract of each call on a record and on a store says is the action of a session_of.
use mathlib.Core.Bool.{Bool, cond, false, not, true, ◌||◌}
use mathlib.Core.List.{List}
use mathlib.Core.Path.{ap, ap₂, refl, sym, ◌∙◌, ◌≡◌}
use Prim.Native.Nat.{ℕ}
use native.Mathlib.Decide.{ℕ_discrete}
use lib.Dec.{eqb}
use lib.ListN.{length}
use borrow.Author.Tests.{eq-eqb, ne_eqb}
use Rattle.buffers.specs.Buffers.{accepted}
use Rattle.buffers.specs.Refusals.{first_fitting}
use Rattle.buffers.proofs.Calling.{kept-all, written_all}
use Rattle.calls.proofs.SourceCalls.{observe-as-measured}
use Rattle.calls.specs.InPlace.{used_call, used_measure_call}
use Rattle.calls.specs.Sources.{observe_call, renew_call}
use Rattle.calls.specs.Stores.{forget_call, held_under, return_call, save_call}
use Rattle.buffers.specs.Calls.{Call}
use Rattle.jobs.proofs.Numbers.{accepted-leaves, left-by-operation, number-of-request, refused-keeps}
use Rattle.jobs.specs.Asked.{
  Request,
  asked,
  carry_out,
  number_of,
  observation_of,
  renewal_of,
  request_lines,
  unused_set,
}
use Rattle.jobs.specs.Runs.{after_step, request_leaves}
use Rattle.jobs.specs.declared.Op.TheVariants.{Complement, Cz, Gate, Measure, Observe, Renew}
use Rattle.jobs.specs.declared.Step.{Step}
use Rattle.operations.specs.Steps.{Operation, complement_of, cz_on, gate_with, leaves, measurement_of}
use Rattle.store.proofs.ForgottenNames.{held-lookup}
use Rattle.store.specs.Kept.{forgotten, forgotten_heads, saved}
use Rattle.store.specs.Places.{Store, found}
use Rattle.store.specs.StoreLines.{named_lines, save_lines}
use Rattle.operations.specs.Used.{used_after, used_lines_of, UsedRecord, used_record, used_step}
use Rattle.source.proofs.Observed.{answered}
use Rattle.claims.proofs.RewritingsKeep.{is-after, is-measured}
use Rattle.claims.proofs.StoreDemandHolds.{name-held, named-passing, returns-give}
use Rattle.claims.proofs.families.Shared.{at_zero}
use Rattle.claims.specs.ActionContracts.{
  ContractsAreActions,
  ForgetLeaves,
  MeasureLeaves,
  ObserveLeaves,
  ReturnLeaves,
  SaveLeaves,
  StepLeaves,
  in_buffers,
  session_of,
  step_with,
}
use Rattle.claims.specs.UsedDemand.{left_used}
use Rattle.claims.specs.StoreDemand.{store_of}

-- ---- steps
-- a step whose unused fields are 0 leaves what the call of its operation does
step-leaves : (u : UsedRecord) (step : Step) (o : Operation) → asked step ≡ carry_out o →
    unused_set step.op step.b step.value ≡ false → (r : ℕ) (nb' cs' : List ℕ) (used' : ℕ) →
    Call (used_call u o nb' cs') r → used' ≡ (used_step u o).after.used → StepLeaves u step (left_used u nb' cs' used')
step-leaves u step o g unset r nb' cs' used' C e st = ap (λ v. session_of v st)
    (left-by-operation u step o g unset ∙ λ i. record { held = sym (is-after u o r nb' cs' C) i; used = sym e i })

-- a step that stands for any call: where it is accepted, and where it is not
called-leaves : (u : UsedRecord) (step : Step) (t : Request) → asked step ≡ t →
    unused_set step.op step.b step.value ≡ false → (r : ℕ) → r ≡ first_fitting (request_lines u t) →
    (after : UsedRecord) → (r ≡ 0 → after ≡ request_leaves u t) → ((r ≡ 0 → ⊥) → after ≡ u) → StepLeaves u step after
called-leaves u step t g unset r e after yes-left no-left st = ap (λ v. session_of v st) (go (ℕ_discrete r 0))
  where
    number : number_of u step ≡ r
    number = number-of-request u step unset ∙ ap (λ t. first_fitting (request_lines u t)) g ∙ sym e

    go : Dec (r ≡ 0) → after_step u step ≡ after
    go (yes z) = accepted-leaves u step (number ∙ z) ∙ ap (request_leaves u) g ∙ sym (yes-left z)
    go (no h) = refused-keeps u step (λ z. h (sym number ∙ z)) ∙ sym (no-left h)

-- a step that copies the used word
copied : (u : UsedRecord) (o : Operation) → used_after u o ≡ u.used → u.used ≡ (used_step u o).after.used
copied u o e = go (eqb (first_fitting (used_lines_of u o)) 0)
  where
    go : (b : Bool) → u.used ≡ (cond b (record { held = leaves u.held o; used = used_after u o }) u).used
    go true = sym e
    go false = refl

measure-leaves : (u : UsedRecord) (pauli q b answer determined r : ℕ) (nb' cs' : List ℕ)
    (used' answer' determined' : ℕ) →
    Call (used_measure_call u pauli q b answer determined nb' cs' used' answer' determined') r →
    MeasureLeaves u pauli q b (left_used u nb' cs' used')
measure-leaves u pauli q b answer determined r nb' cs' used' answer' determined' C value p e st =
    ap (λ v. session_of v st) (left-by-operation u (step_with Measure q 0 value) _ refl refl
    ∙ ap₂ (λ p b. (used_step u (measurement_of p q b)).after) (sym p) (sym e)
    ∙ sym (is-measured u pauli q b answer determined r nb' cs' used' answer' determined' C))

-- an observation is the measurement with the outcome that it answers
observe-leaves : (u : UsedRecord) (pauli q b answer determined r : ℕ) (nb' cs' : List ℕ)
    (used' answer' determined' : ℕ) →
    Call (observe_call u pauli q b answer determined nb' cs' used' answer' determined') r →
    ObserveLeaves u pauli q b (left_used u nb' cs' used')
observe-leaves u pauli q b answer determined r nb' cs' used' answer' determined' C value p e =
    called-leaves u (step_with Observe q 0 value) (observation_of pauli q b)
    (ap₂ (λ p b. observation_of p q b) (sym p) (sym e))
    refl r C.number (left_used u nb' cs' used')
    (λ z. is-measured u pauli q (answered u pauli q b) answer determined 0 nb' cs' used' answer' determined'
    (observe-as-measured u pauli q b (at_zero C z)))
    (λ h. let w = kept-all C h in
    λ i. used_record u.held.n (w.1.1.1.0 i) (w.1.1.1.1.0 i) (w.0 i))

renew-leaves : (u : UsedRecord) (q k r : ℕ) (nb' cs' : List ℕ) (used' : ℕ) → Call (renew_call u q k nb' cs' used') r →
    StepLeaves u (step_with Renew q 0 k) (left_used u nb' cs' used')
renew-leaves u q k r nb' cs' used' C =
    called-leaves u (step_with Renew q 0 k) (renewal_of q k) refl refl r C.number (left_used u nb' cs' used')
    (λ z. let w = written_all C z in
    λ i. used_record u.held.n (w.1.0 i) (w.1.1.0 i) (w.0 i))
    (λ h. let w = kept-all C h in
    λ i. used_record u.held.n (w.1.0 i) (w.1.1.0 i) (w.0 i))

-- ---- a save
save-leaves : (u : UsedRecord) (name : ℕ) (st : Store) (r : ℕ) (heads' nb' cs' : List ℕ) →
    Call (save_call u name st heads' nb' cs') r → SaveLeaves u name st heads' nb' cs'
save-leaves u name st r heads' nb' cs' C = ap (session_of u) (sym
    ((λ j. store_of (by _ _ C.held.0 j) (by _ _ C.held.1.0 j) (by _ _ C.held.1.1.0 j))
    ∙ go (eqb (first_fitting (save_lines 8 u name st)) 0)))
  where
    by : (answer old : List ℕ) {after : List ℕ} → after ≡ accepted r answer old →
        after ≡ accepted (first_fitting (save_lines 8 u name st)) answer old
    by answer old e = e ∙ ap (λ k. accepted k answer old) C.number

    go : (b : Bool) → store_of (cond b (saved 8 u name st).heads st.heads)
        (cond b (saved 8 u name st).neighbours st.neighbours)
        (cond b (saved 8 u name st).codes st.codes) ≡ cond b (saved 8 u name st) st
    go true = refl
    go false = refl

-- ---- a forget
forget-leaves : (name : ℕ) (st : Store) (r : ℕ) (heads' : List ℕ) → Call (forget_call name st heads') r →
    ForgetLeaves name st heads'
forget-leaves name st r heads' C u = ap (session_of u) (sym
    (ap (λ heads. store_of heads st.neighbours st.codes)
    (C.held.0 ∙ ap (λ k. accepted k (forgotten_heads 8 name st.heads) st.heads) C.number)
    ∙ go (eqb (first_fitting (named_lines 8 name st false)) 0)))
  where
    go : (b : Bool) → store_of (cond b (forgotten_heads 8 name st.heads) st.heads) st.neighbours st.codes
        ≡ cond b (forgotten 8 name st) st
    go true = refl
    go false = refl

-- ---- a return
module _ (name : ℕ) (st : Store) (n : ℕ) (nb cs : List ℕ) (used n' : ℕ) (nb' cs' : List ℕ) (used' r : ℕ)
    (long : length nb ≡ 64) (codes-long : length cs ≡ 64)
    (C : Call (return_call name st n nb cs used n' nb' cs' used') r) where
  -- buffers of 64 places refuse nothing
  number : r ≡ first_fitting (named_lines 8 name st false)
  number = C.number ∙ ap₂ (λ k l. first_fitting (named_lines 8 name st (not (eqb k 64) || not (eqb l 64)))) long
      codes-long

  same-record : {u v : UsedRecord} → found u ≡ found v → u ≡ v
  same-record e = cc

  back : r ≡ 0 → held_under name st ≡ in_buffers n' nb' cs' used'
  back z = same-record (sym (held-lookup 8 st (named-passing name st false lines) name (name-held name st false lines))
      ∙ (returns-give name st n nb cs used n' nb' cs' used' (at_zero C z)).held)
    where
      lines : first_fitting (named_lines 8 name st false) ≡ 0
      lines = sym number ∙ z

  return-leaves : ReturnLeaves name st n' nb' cs' used' r
  return-leaves =
      record {
        accepted = λ z u. ap (λ v. session_of v st)
            (ap (λ b. cond b (held_under name st) u) (eq-eqb _ 0 (sym number ∙ z)) ∙ back z);
        refused = λ h u. ap (λ v. session_of v st)
            (ap (λ b. cond b (held_under name st) u) (ne_eqb _ 0 (λ z. h (number ∙ z))));
      }

pub contracts-are-actions : ContractsAreActions
contracts-are-actions =
    record {
      gate = λ u q k r nb' cs' C. step-leaves u (step_with Gate q 0 k) (gate_with q k) refl refl r nb' cs' u.used C
          (copied u (gate_with q k) refl);
      cz = λ u a b r nb' cs' C. step-leaves u (step_with Cz a b 0) (cz_on a b) refl refl r nb' cs' u.used C
          (copied u (cz_on a b) refl);
      complement = λ u a r nb' cs' C.
          step-leaves u (step_with Complement a 0 0) (complement_of a) refl refl r nb' cs' u.used C
          (copied u (complement_of a) refl);
      measure = measure-leaves;
      observe = observe-leaves;
      renew = renew-leaves;
      save = save-leaves;
      return-to = λ name st n nb cs used n' nb' cs' used' r long codes-long C.
          return-leaves name st n nb cs used n' nb' cs' used' r long codes-long C;
      forget = forget-leaves;
    }
