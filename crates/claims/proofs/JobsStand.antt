-- The record after each step of a job stands for the group that the definitions give.
use mathlib.Core.Bool.{Bool, false, true, true≢false}
use mathlib.Core.List.{[], ◌∷◌}
use mathlib.Core.Path.{◌∙◌, ◌≡◌, ap, refl, subst, sym}
use Prim.Native.Nat.{ℕ}
use native.Mathlib.Decide.{ℕ_discrete}
use lib.ListN.{take}
use Rattle.buffers.proofs.AddedLines.{without-test}
use Rattle.buffers.specs.Refusals.{first_fitting, with_test}
use Rattle.calls.proofs.MeasureLines.{arguments-before, measure-passes}
use Rattle.calls.proofs.UsedInPlace.{plain}
use Rattle.buffers.proofs.Fitting.{decides}
use Rattle.buffers.specs.Answers.{later, none}
use Rattle.jobs.proofs.Numbers.{
  accepted-leaves,
  accepted-number,
  accepted-unset,
  number-of-request,
  refused-keeps,
  set-refuses-arguments,
  six-refuses,
}
use Rattle.jobs.proofs.KeptRequests.{request-left}
use Rattle.jobs.proofs.Starting.{started-stands}
use Rattle.jobs.specs.Asked.{
  Request,
  asked,
  carry_out,
  number_of,
  observation_of,
  renewal_of,
  request_lines,
  unused_set,
}
use Rattle.jobs.specs.GroupsAfter.GroupAfterStep.{changed, not-run}
use Rattle.jobs.specs.GroupsAfter.Refused.{by-fields, by-group}
use Rattle.jobs.specs.GroupsAfter.{
  AfterOperation,
  AfterRequest,
  Group,
  GroupAfterStep,
  IsContradicted,
  Refused,
  RequestContradicted,
  StartGroup,
  request_arguments,
}
use Rattle.jobs.specs.Runs.{after_step, request_leaves, run, started}
use Rattle.jobs.specs.Standing.{StandsFor}
use Rattle.jobs.specs.declared.Step.{Step}
use Rattle.operations.specs.Measurement.{contradicts, pauli_letter}
use Rattle.operations.specs.Steps.{Operation, argument_lines, complement_of, cz_on, gate_with, measurement_of, pivot_of}
use Rattle.pauli.specs.Pauli.{Pauli}
use Rattle.record.specs.Lent.{held_rows}
use Rattle.stabilizer.specs.Groups.{InGroup}
use Rattle.operations.proofs.LeftRecords.{used-left}
use Rattle.operations.proofs.UsedPassing.{in-place-counted, used-passes, used_step_lem, with-used-passes}
use Rattle.operations.specs.Used.{UsedRecord, names_used, used_arguments_of, used_lines_of}
use Rattle.words.specs.Bits.{is_odd}
use Rattle.claims.proofs.Contradictions.{contradicted-by-group}
use Rattle.claims.proofs.JobSteps.{HasGroup, operation-stands}
use Rattle.claims.proofs.SourceSteps.{observation-stands, renewal-stands}
use Rattle.claims.specs.JobDemand.{JobsStand, RefusedExactly, RunsStand}

module _ (u : UsedRecord) (G : Group) (S : StandsFor u G) where
  pub has-group : HasGroup u.held G
  has-group = record { elements = S.elements }

  -- ---- an operation is refused by its lines exactly if its arguments or the group refuse it
  -- no line holds: neither do the arguments' lines, and the outcome is not impossible
  passes : (o : Operation) → first_fitting (used_lines_of u o) ≡ 0
      → (first_fitting (used_arguments_of u o) ≡ 0) × (IsContradicted G o → ⊥)
  passes (gate_with q k) z = (z, λ h. h)
  passes (cz_on a b) z = (z, λ h. h)
  passes (measurement_of pauli q b) z =
      let o = measurement_of pauli q b in
      let Q = (used-passes u o).0 z in
      let m = measure-passes u.held pauli q b Q.as_before in (
        (with-used-passes u (argument_lines u.held pauli q b) (in-place-counted u.held _ _) (names_used u o)).1
            (m.0, Q.no_stray, Q.none-wrong, Q.none_named),
        λ h. true≢false (sym ((contradicted-by-group u.held pauli q b m.0).1 ((S.elements _).1 h)) ∙ m.1),
      )
  passes (complement_of a) z = (z, λ h. h)
  passes (pivot_of j k) z = (z, λ h. h)

  -- some line holds, and none of the arguments': the outcome is impossible
  impossible : (o : Operation) → (first_fitting (used_lines_of u o) ≡ 0 → ⊥) → first_fitting (used_arguments_of u o) ≡ 0
      → IsContradicted G o
  impossible (gate_with q k) h z = absurd (h z)
  impossible (cz_on a b) h z = absurd (h z)
  impossible (measurement_of pauli q b) h z =
      (S.elements _).0 ((contradicted-by-group u.held pauli q b (arguments-before u pauli q b z)).0
      (contradicted _ refl))
    where
      contradicted : (d : Bool)
          → d ≡ contradicts u.held.n (held_rows u.held) (pauli_letter pauli) q (is_odd b)
          → contradicts u.held.n (held_rows u.held) (pauli_letter pauli) q (is_odd b) ≡ true
      contradicted true e = sym e
      contradicted false e = absurd (h (sym (decides (used_arguments_of u (measurement_of pauli q b)) refl (sym z) refl
          (later (plain (sym e)) none))))
  impossible (complement_of a) h z = absurd (h z)
  impossible (pivot_of j k) h z = absurd (h z)

  -- ---- the same of what a step asks
  request-passes : (r : Request) → first_fitting (request_lines u r) ≡ 0
      → (first_fitting (request_arguments u r) ≡ 0) × (RequestContradicted G r → ⊥)
  request-passes (carry_out o) z = passes o z
  request-passes (observation_of pauli q b) z = (z, λ h. h)
  request-passes (renewal_of q k) z = (z, λ h. h)

  request-impossible : (r : Request) → (first_fitting (request_lines u r) ≡ 0 → ⊥) → first_fitting (request_arguments u r) ≡
      0
      → RequestContradicted G r
  request-impossible (carry_out o) h z = impossible o h z
  request-impossible (observation_of pauli q b) h z = absurd (h z)
  request-impossible (renewal_of q k) h z = absurd (h z)

  -- accepted, the record left has the group that the definitions give
  request-stands : (r : Request) → first_fitting (request_lines u r) ≡ 0
      → HasGroup (request_leaves u r).held (AfterRequest u.held.n G r)
  request-stands (carry_out o) z = subst (λ r. HasGroup r (AfterOperation u.held.n G o))
      (sym (used-left u o z).held)
      (operation-stands u.held G has-group o (used_step_lem u o z))
  request-stands (observation_of pauli q b) z = observation-stands u G has-group pauli q b z
  request-stands (renewal_of q k) z = renewal-stands u G has-group q k z

  module _ (s : Step) where
    abbrev set : Bool
    set = unused_set s.op s.b s.value

    abbrev fields : Bool → ℕ
    fields b = first_fitting (with_test 6 b (request_arguments u (asked s)))

    -- ---- a step's number is 0: it is not refused
    module _ (z : number_of u s ≡ 0) where
      no_line : first_fitting (request_lines u (asked s)) ≡ 0
      no_line = accepted-number u s z

      accepted-not-refused : Refused u G s → ⊥
      accepted-not-refused (by-fields h) =
          h (ap fields (accepted-unset u s z) ∙ without-test 6 (request_arguments u (asked s))
          ∙ (request-passes (asked s) no_line).0)
      accepted-not-refused (by-group h) = (request-passes (asked s) no_line).1 h

      accepted-stands : StandsFor (after_step u s) (GroupAfterStep u G s)
      accepted-stands = subst (λ r. StandsFor r (GroupAfterStep u G s)) (sym (accepted-leaves u s z))
          (record {
            still = (request-left u (asked s) no_line).no_line;
            elements = λ p. ((λ h. changed accepted-not-refused ((O.elements p).0 h)), back);
          })
        where
          left : UsedRecord
          left = request_leaves u (asked s)

          O : HasGroup (request_leaves u (asked s)).held (AfterRequest u.held.n G (asked s))
          O = request-stands (asked s) no_line

          back : {p : Pauli} → GroupAfterStep u G s p → InGroup left.held.n left.held.n (held_rows left.held)
              p
          back (not-run r g) = absurd (accepted-not-refused r)
          back {p} (changed h g) = (O.elements p).1 g

    -- ---- it is not: the step is refused
    module _ (h : number_of u s ≡ 0 → ⊥) where
      is-refused : Refused u G s
      is-refused = by (ℕ_discrete (fields set) 0)
        where
          by : Dec (fields set ≡ 0) → Refused u G s
          by (no f) = by-fields f
          by (yes e) = by-group (request-impossible (asked s) (λ z. h (number-of-request u s (unset-by set refl e) ∙ z))
              (sym (without-test 6 (request_arguments u (asked s))) ∙ ap fields (sym (unset-by set refl e)) ∙ e))
            where
              unset-by : (b : Bool) → set ≡ b → fields set ≡ 0 → set ≡ false
              unset-by false t e = t
              unset-by true t e =
                  absurd (six-refuses u (sym (set-refuses-arguments u (asked s)) ∙ ap fields (sym t) ∙ e))

      refused-stands : StandsFor (after_step u s) (GroupAfterStep u G s)
      refused-stands = subst (λ r. StandsFor r (GroupAfterStep u G s)) (sym (refused-keeps u s h))
          (record {
            still = S.still;
            elements = λ p. ((λ k. not-run is-refused ((S.elements p).0 k)), back);
          })
        where
          back : {p : Pauli} → GroupAfterStep u G s p → InGroup u.held.n u.held.n (held_rows u.held) p
          back {p} (not-run r g) = (S.elements p).1 g
          back (changed not-refused g) = absurd (not-refused is-refused)

    pub step-stands : StandsFor (after_step u s) (GroupAfterStep u G s)
    step-stands = go (ℕ_discrete (number_of u s) 0)
      where
        go : Dec (number_of u s ≡ 0) → StandsFor (after_step u s) (GroupAfterStep u G s)
        go (yes z) = accepted-stands z
        go (no h) = refused-stands h

pub refused-exactly : RefusedExactly
refused-exactly u G S s = (is-refused u G S s, λ r z. accepted-not-refused u G S s z r)

-- ---- one step after the other
pub runs-stand : RunsStand
unfolding run
runs-stand u G S [] = S
runs-stand u G S (s ∷ rest) = runs-stand (after_step u s) (GroupAfterStep u G s) (step-stands u G S s) rest

-- ---- "All qubits start in +Z"
pub jobs-stand : JobsStand
jobs-stand n positive upto steps k =
    runs-stand (started n) (StartGroup n) (started-stands n positive upto) (take k steps)
