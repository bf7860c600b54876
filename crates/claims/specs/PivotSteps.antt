-- Pivots: "The pivot call is withdrawn .. In stored jobs a pivot that was accepted runs on as complement at a, b, a,
-- with one result line; any other prints its refusal as before" (02, §14). Each is said of every step of a job whose op
-- is pivot, on any record with its used qubits.
use Rattle.std.specs.Prelude.{true, List, [], ◌∷◌, ◌↔◌, ◌≢◌, ◌≡◌, ◌<◌, ℕ}
use Rattle.calls.specs.InPlace.{used_call}
use Rattle.buffers.specs.Calls.{Call}
use Rattle.jobs.specs.Asked.{number_of}
use Rattle.jobs.specs.Runs.{after_step, answer_of, run}
use Rattle.jobs.specs.declared.Op.TheVariants.{Complement, Pivot}
use Rattle.jobs.specs.declared.Step.{Step}
use Rattle.operations.specs.Steps.{complement_of, pivot_record}
use Rattle.record.specs.Lent.{held_record}
use Rattle.operations.specs.Used.{UsedRecord}
use Rattle.operations.specs.UsedLaws.{UsedStay}
use Rattle.words.specs.Bits.{Word}
use Rattle.claims.specs.ActionContracts.{step_with}
use Rattle.claims.specs.Arguments.{IsRecord}
use Rattle.claims.specs.CutDemand.{rank_across}
use Rattle.claims.specs.OperationsDemand.{RewrittenAs}
use Rattle.claims.specs.UsedDemand.{left_used}

-- a step with the op pivot
abbrev pub pivot_step : ℕ → ℕ → ℕ → Step
pivot_step a b value = step_with Pivot a b value

-- one that complements at a vertex
abbrev pub complement_step : ℕ → Step
complement_step a = step_with Complement a 0 0

-- ---- which are accepted
-- a record, and the ends of an edge, which are not used
abbrev pub PivotFits : UsedRecord → ℕ → ℕ → Type 0
PivotFits u a b =
    IsRecord u × (a < u.held.n) × (b < u.held.n) × ((held_record u.held).graph a b ≡ true)

-- those with such arguments and the value 0
abbrev pub PivotsAccepted : Type 0
PivotsAccepted = (u : UsedRecord) (a b value : ℕ) →
    (number_of u (pivot_step a b value) ≡ 0) ↔ ((value ≡ 0) × PivotFits u a b)

-- ---- "a pivot that was accepted runs on as complement at a, b, a"
pub record AsComplements (u : UsedRecord) (a b : ℕ) (after : UsedRecord) : Type 0 where
  -- three steps, each accepted, leave what the pivot leaves
  pub first : number_of u (complement_step a) ≡ 0
  pub second : number_of (run u (complement_step a ∷ [])) (complement_step b) ≡ 0
  pub third : number_of (run u (complement_step a ∷ complement_step b ∷ [])) (complement_step a) ≡ 0
  pub leave : run u (complement_step a ∷ complement_step b ∷ complement_step a ∷ []) ≡ after
  -- and so do three calls, each about what the one before left
  pub calls : (nb₁ cs₁ nb₂ cs₂ nb₃ cs₃ : List ℕ) (r₁ r₂ r₃ : ℕ) →
      Call (used_call u (complement_of a) nb₁ cs₁) r₁ →
      Call (used_call (left_used u nb₁ cs₁ u.used) (complement_of b) nb₂ cs₂) r₂ →
      Call (used_call (left_used u nb₂ cs₂ u.used) (complement_of a) nb₃ cs₃) r₃ →
      (r₁ ≡ 0) × (r₂ ≡ 0) × (r₃ ≡ 0) × (left_used u nb₃ cs₃ u.used ≡ after)

-- what the step leaves besides: the record of document 01's rule, with the same group and the same rank across every
-- cut; used qubits stay, and the word of them
pub record PivotLeaves (u : UsedRecord) (a b : ℕ) (after : UsedRecord) : Type 0 where
  pub rewritten : RewrittenAs u.held after.held (pivot_record (held_record u.held) a b)
  pub ranks : (side : Word) → rank_across side after.held ≡ rank_across side u.held
  pub stay : UsedStay u after.held
  pub copied : after.used ≡ u.used

-- of every accepted one
abbrev pub PivotsRun : Type 0
PivotsRun = (u : UsedRecord) (a b value : ℕ) → number_of u (pivot_step a b value) ≡ 0 →
    AsComplements u a b (after_step u (pivot_step a b value))
    × PivotLeaves u a b (after_step u (pivot_step a b value))

-- ---- "any other prints its refusal as before", and changes nothing
abbrev pub PivotsRefused : Type 0
PivotsRefused = (u : UsedRecord) (a b value : ℕ) → (number_of u (pivot_step a b value) ≡ 0 → ⊥) →
    after_step u (pivot_step a b value) ≡ u

-- "with one result line": its number, and no outcome
abbrev pub PivotsAnswer : Type 0
PivotsAnswer = (u : UsedRecord) (a b value : ℕ) → answer_of u (pivot_step a b value)
    ≡ record { refusal = number_of u (pivot_step a b value); outcome = 0; determined = 0 }

-- 16 never comes: a used vertex has no edge, which is 8
abbrev pub PivotNever16 : Type 0
PivotNever16 = (u : UsedRecord) (a b value : ℕ) → number_of u (pivot_step a b value) ≢ 16
