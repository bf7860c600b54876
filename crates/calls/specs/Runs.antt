-- What the call over many steps promises, for all arguments. A name with a prime is what the buffer, or the lent
-- number, holds at exit.
use Rattle.std.specs.Prelude.{Bool, false, ◌||◌, List, [], map, ◌∷◌, ℕ, ltb, length}
use Rattle.buffers.specs.Refusals.{Refusal, line, other_than, reaching}
use Rattle.buffers.specs.Calls.{Contract, Lent, buffer, contract_of, number}
use Rattle.jobs.specs.Parallel.{steps_in}
use Rattle.jobs.specs.Runs.{run, step_answers}
use Rattle.jobs.specs.declared.Answer.{Answer}
use Rattle.jobs.specs.declared.Step.{Step}
use Rattle.operations.specs.Used.{UsedRecord, used_lines}

-- steps as they are lent, in four slices, and the three slices for what each step answers
pub record LentSteps : Type 0 where
  pub ops : List ℕ
  pub a : List ℕ
  pub b : List ℕ
  pub value : List ℕ
  pub refusals : List ℕ
  pub outcomes : List ℕ
  pub determined : List ℕ

-- the steps: "ops 0 gate, 1 cz, 2 measure, 3 complement, 4 pivot, fields as in job texts", and 5 observe, "value as for
-- measure", 6 renew, "value the code"
abbrev pub steps_of : LentSteps → List Step
steps_of s = steps_in s.ops s.a s.b s.value

-- one of three slices does not have m places
abbrev pub one_other_than : ℕ → List ℕ → List ℕ → List ℕ → Bool
one_other_than m x y z = other_than m x || (other_than m y || other_than m z)

-- 4: "all seven slices have one length"; there are as many steps as operations
abbrev pub other_lengths : LentSteps → Bool
other_lengths s =
    one_other_than (length s.ops) s.a s.b s.value
    || one_other_than (length s.ops) s.refusals s.outcomes s.determined

-- 15: "at most 4,096 (else 15, before 2)"; then the lines of the record. 4: also where the slices' lengths differ; 6:
-- also
-- "an op above 6". Anything else that is wrong with a step refuses that step alone
abbrev pub run_lines : UsedRecord → LentSteps → List Refusal
run_lines u s = line 15 (ltb 4096 (length s.ops)) ∷ used_lines u (other_lengths s) false (reaching 7 s.ops)

-- refusal, outcome and determined of each step, in a slice each. "Fields without meaning" are 0, so outcome and
-- determined of a refused step are
abbrev pub answers_lent : LentSteps → List Answer → List ℕ → List ℕ → List ℕ → List Lent
answers_lent s answers refusals' outcomes' determined' =
    buffer s.refusals (map (λ r. r.refusal) answers) refusals'
    ∷ buffer s.outcomes (map (λ r. r.outcome) answers) outcomes'
    ∷ buffer s.determined (map (λ r. r.determined) answers) determined' ∷ []

-- ---- sukhlent_run: "each step's number stands in refusals, and a refused step changes nothing"; the record is what
-- the steps leave, one after the other
abbrev pub run_call : (u : UsedRecord) (s : LentSteps) (neighbours' codes' : List ℕ) (used' : ℕ)
    (refusals' outcomes' determined' : List ℕ) → Contract
run_call u s neighbours' codes' used' refusals' outcomes' determined' =
    contract_of (run_lines u s)
    (number u.used (run u (steps_of s)).used used'
    ∷ buffer u.held.neighbours (run u (steps_of s)).held.neighbours neighbours'
    ∷ buffer u.held.codes (run u (steps_of s)).held.codes codes'
    ∷ answers_lent s (step_answers u (steps_of s)) refusals' outcomes' determined')
