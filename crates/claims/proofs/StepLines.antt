-- What is printed of a step says what the definitions say of the group that the step meets.
use mathlib.Core.Bool.{cond}
use mathlib.Core.Logic.{◌↔◌, ◌⊎◌, inl, inr}
use mathlib.Core.Path.{◌∙◌, ◌≡◌, ap, refl, subst, sym}
use Prim.Native.Nat.{ℕ}
use native.Mathlib.Decide.{ℕ_discrete}
use native.Mathlib.Omega.{arith}
use borrow.Author.Tests.{eq-eqb, ne_eqb}
use Rattle.buffers.specs.Buffers.{accepted_number}
use Rattle.buffers.specs.Refusals.{first_fitting}
use Rattle.jobs.specs.Answer.{result_of}
use Rattle.jobs.proofs.Numbers.{accepted-number}
use Rattle.jobs.specs.Asked.{Request, asked, carry_out, number_of, observation_of, renewal_of, request_lines}
use Rattle.jobs.specs.GroupsAfter.{Group, Refused}
use Rattle.jobs.specs.Runs.{answer_of, determined_of, outcome_of, request_determined, request_outcome}
use Rattle.jobs.specs.Standing.{StandsFor}
use Rattle.jobs.specs.declared.Step.{Step}
use Rattle.operations.specs.Measurement.{determined_number}
use Rattle.operations.specs.Steps.{
  Operation,
  complement_of,
  cz_on,
  gate_with,
  lines_of,
  measured_answer,
  measurement_of,
  pivot_of,
}
use Rattle.operations.specs.declared.Outcome.{Outcome}
use Rattle.operations.specs.declared.Outcome.TheVariants.{Chosen, Determined}
use Rattle.record.specs.Lent.{LentRecord}
use Rattle.operations.proofs.UsedPassing.{used_step_lem}
use Rattle.operations.specs.Used.{UsedRecord}
use Rattle.claims.proofs.JobSteps.{HasGroup, answer-stands}
use Rattle.claims.proofs.JobsStand.{has-group, refused-exactly}
use Rattle.claims.proofs.SourceSteps.{lot-determined, lot-outcome}
use Rattle.claims.specs.ProgramDemand.{
  Determines,
  LineSays,
  OutcomeIs,
  RequestDetermines,
  RequestOutcomeIs,
}

-- 0 is not 1
differ : ◌≡◌ {A = ℕ} 0 1 → ⊥
differ e = omega arith

never : (◌≡◌ {A = ℕ} 0 1) ↔ ⊥
never = (differ, λ h. absurd h)

-- a number that a refused step does not answer
module _ (k v : ℕ) where
  is-answered : k ≡ 0 → accepted_number k v 0 ≡ v
  is-answered z = ap (λ b. cond b v 0) (eq-eqb k 0 z)

  not-answered : (k ≡ 0 → ⊥) → accepted_number k v 0 ≡ 0
  not-answered h = ap (λ b. cond b v 0) (ne_eqb k 0 h)

-- ---- an operation, whatever the group
digit-of-answer : (r : Outcome) → (determined_number r ≡ 0) ⊎ (determined_number r ≡ 1)
digit-of-answer (Determined b) = inr refl
digit-of-answer (Chosen b) = inl refl

digit-of : (l : LentRecord) (o : Operation) → (determined_of l o ≡ 0) ⊎ (determined_of l o ≡ 1)
digit-of l (gate_with q k) = inl refl
digit-of l (cz_on a b) = inl refl
digit-of l (measurement_of pauli q b) = digit-of-answer (measured_answer l pauli q b)
digit-of l (complement_of a) = inl refl
digit-of l (pivot_of j k) = inl refl

module _ (l : LentRecord) (G : Group) (S : HasGroup l G) where
  -- ---- an accepted operation
  determined-of : (o : Operation) → first_fitting (lines_of l o) ≡ 0 → (determined_of l o ≡ 1) ↔ Determines G o
  determined-of (gate_with q k) z = never
  determined-of (cz_on a b) z = never
  determined-of (measurement_of pauli q b) z = (answer-stands l G S pauli q b z).0
  determined-of (complement_of a) z = never
  determined-of (pivot_of j k) z = never

  outcome-of : (o : Operation) → first_fitting (lines_of l o) ≡ 0 → OutcomeIs G o (outcome_of l o)
  outcome-of (gate_with q k) z = refl
  outcome-of (cz_on a b) z = refl
  outcome-of (measurement_of pauli q b) z = let A = answer-stands l G S pauli q b z in (A.1, A.2)
  outcome-of (complement_of a) z = refl
  outcome-of (pivot_of j k) z = refl

-- ---- what a step asks
request-digit : (l : LentRecord) (r : Request) → (request_determined l r ≡ 0) ⊎ (request_determined l r ≡ 1)
request-digit l (carry_out o) = digit-of l o
request-digit l (observation_of pauli q b) = digit-of-answer (measured_answer l pauli q b)
request-digit l (renewal_of q k) = inl refl

module _ (u : UsedRecord) (G : Group) (S : HasGroup u.held G) where
  request-determined : (r : Request) → first_fitting (request_lines u r) ≡ 0
      → (request_determined u.held r ≡ 1) ↔ RequestDetermines G r
  request-determined (carry_out o) z = determined-of u.held G S o (used_step_lem u o z)
  request-determined (observation_of pauli q b) z = lot-determined u G S pauli q b z
  request-determined (renewal_of q k) z = never

  request-outcome : (r : Request) → first_fitting (request_lines u r) ≡ 0 → RequestOutcomeIs G r
      (request_outcome u.held r)
  request-outcome (carry_out o) z = outcome-of u.held G S o (used_step_lem u o z)
  request-outcome (observation_of pauli q b) z = lot-outcome u G S pauli q b z
  request-outcome (renewal_of q k) z = refl

-- ---- a step
module _ (u : UsedRecord) (G : Group) (S : StandsFor u G) (s : Step) where
  pub line-says : LineSays u G s (result_of (answer_of u s))
  line-says = go (ℕ_discrete (number_of u s) 0)
    where
      exactly : (number_of u s ≡ 0 → ⊥) ↔ Refused u G s
      exactly = refused-exactly u G S s

      go : Dec (number_of u s ≡ 0) → LineSays u G s (result_of (answer_of u s))
      go (yes z) =
          record {
            number = refl;
            refused = exactly;
            either = subst (λ v. (v ≡ 0) ⊎ (v ≡ 1)) (sym d) (request-digit u.held (asked s));
            determined = (
              (λ e. ((λ h. exactly.1 h z), (request-determined u G (has-group u G S) (asked s) no_line).0 (sym d ∙ e))),
              (λ h. d ∙ (request-determined u G (has-group u G S) (asked s) no_line).1 h.1),
            );
            outcome = λ h. subst (RequestOutcomeIs G (asked s)) (sym o)
                (request-outcome u G (has-group u G S) (asked s) no_line);
            no-outcome = λ h. absurd (exactly.1 h z);
          }
        where
          no_line : first_fitting (request_lines u (asked s)) ≡ 0
          no_line = accepted-number u s z

          d : accepted_number (number_of u s) (request_determined u.held (asked s)) 0 ≡ request_determined u.held
              (asked s)
          d = is-answered (number_of u s) (request_determined u.held (asked s)) z

          o : accepted_number (number_of u s) (request_outcome u.held (asked s)) 0 ≡ request_outcome u.held (asked s)
          o = is-answered (number_of u s) (request_outcome u.held (asked s)) z
      go (no h) =
          record {
            number = refl;
            refused = exactly;
            either = inl d;
            determined = ((λ e. absurd (differ (sym d ∙ e))), (λ g. absurd (g.0 (exactly.0 h))));
            outcome = λ g. absurd (g (exactly.0 h));
            no-outcome = λ g. not-answered (number_of u s) (request_outcome u.held (asked s)) h;
          }
        where
          d : accepted_number (number_of u s) (request_determined u.held (asked s)) 0 ≡ 0
          d = not-answered (number_of u s) (request_determined u.held (asked s)) h
