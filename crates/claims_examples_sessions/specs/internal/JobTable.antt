-- Jobs as examples: what the definitions give, beside what is expected.
use Rattle.std.specs.Prelude.{◌++◌, List, [], map, ◌∷◌, ℕ}
use Rattle.jobs.specs.Runs.{run, started, step_answers}
use Rattle.jobs.specs.declared.Answer.{Answer}
use Rattle.jobs.specs.declared.Op.{Op}
use Rattle.jobs.specs.declared.Op.TheVariants.{Complement, Cz, Gate, Measure, Pivot}
use Rattle.jobs.specs.declared.Step.{Step}
use Rattle.operations.specs.Used.{UsedRecord}
use Rattle.claims_examples.specs.internal.Examples.{Example, example}

abbrev does : Op → ℕ → ℕ → ℕ → Step
does op a b value = record { op = op; a = a; b = b; value = value }

-- refusal, outcome and determined of each step
abbrev lines : List Answer → List (List ℕ)
lines rs = map (λ r. r.refusal ∷ r.outcome ∷ r.determined ∷ []) rs

-- the neighbour words, the codes and the used word at the end
abbrev contents : UsedRecord → List (List ℕ)
contents u = u.held.neighbours ∷ u.held.codes ∷ (u.used ∷ []) ∷ []

abbrev ran : ℕ → List Step → List (List ℕ)
ran n steps = lines (step_answers (started n) steps) ++ contents (run (started n) steps)

abbrev answer : ℕ → ℕ → ℕ → List ℕ
answer refusal outcome determined = refusal ∷ outcome ∷ determined ∷ []

abbrev pub table : List (Example (List (List ℕ)))
table =
    -- no step: +Z everywhere
    example (ran 2 []) ((0 ∷ 0 ∷ []) ∷ (8 ∷ 8 ∷ []) ∷ (0 ∷ []) ∷ [])
    -- document 01's measurement: XX, ZZ by a Hadamard on 0 and a CNOT; Z on qubit 0 with outcome 1 is not
    -- determined; then Z on qubit 1 with bit 0 is refused, with bit 1 determined
    ∷ example (ran 2 (does Gate 0 0 8 ∷ does Gate 1 0 8 ∷ does Cz 0 1 0 ∷ does Gate 1 0 8
    ∷ does Measure 0 0 5 ∷ does Measure 1 0 4 ∷ does Measure 1 0 5 ∷ []))
    (answer 0 0 0 ∷ answer 0 0 0 ∷ answer 0 0 0 ∷ answer 0 0 0
    ∷ answer 0 1 0 ∷ answer 14 0 0 ∷ answer 0 1 1 ∷ (0 ∷ 0 ∷ []) ∷ (10 ∷ 10 ∷ []) ∷ (3 ∷ []) ∷ [])
    -- a refused step changes nothing: no edge for a pivot, then an edge; the codes are rewritten, not reduced
    ∷ example (ran 2 (does Pivot 0 1 0 ∷ does Gate 0 0 8 ∷ does Gate 1 0 8 ∷ does Cz 1 0 0 ∷ does Pivot 0 1 0
    ∷ does Complement 2 0 0 ∷ []))
    (answer 8 0 0 ∷ answer 0 0 0 ∷ answer 0 0 0 ∷ answer 0 0 0 ∷ answer 0 0 0 ∷ answer 8 0 0
    ∷ (2 ∷ 1 ∷ []) ∷ (11 ∷ 11 ∷ []) ∷ (0 ∷ []) ∷ [])
    -- unused fields, and values that are none; 6 before 8
    ∷ example (ran 1 (does Gate 0 1 8 ∷ does Gate 1 1 8 ∷ does Cz 0 0 1 ∷ does Measure 0 1 4 ∷ does Complement 0 1 0
    ∷ does Complement 0 0 1 ∷ does Pivot 0 0 1 ∷ does Gate 0 0 24 ∷ does Gate 0 0 264 ∷ does Measure 0 0 6
    ∷ does Measure 9 0 4 ∷ does Cz 0 0 0 ∷ []))
    (answer 6 0 0 ∷ answer 6 0 0 ∷ answer 6 0 0 ∷ answer 6 0 0 ∷ answer 6 0 0
    ∷ answer 6 0 0 ∷ answer 6 0 0 ∷ answer 6 0 0 ∷ answer 6 0 0 ∷ answer 6 0 0
    ∷ answer 8 0 0 ∷ answer 8 0 0 ∷ (0 ∷ []) ∷ (8 ∷ []) ∷ (0 ∷ []) ∷ [])
    -- a used qubit: 16 after 8 and before 14, a pivot 8; the qubit beside it runs on
    ∷ example (ran 2 (does Measure 0 0 4 ∷ does Measure 0 0 5 ∷ does Gate 0 0 8 ∷ does Gate 0 0 24 ∷ does Cz 0 1 0
    ∷ does Cz 0 0 0 ∷ does Cz 0 2 0 ∷ does Complement 0 0 0 ∷ does Pivot 0 1 0 ∷ does Gate 1 0 8 ∷ []))
    (answer 0 0 1 ∷ answer 16 0 0 ∷ answer 16 0 0 ∷ answer 6 0 0 ∷ answer 16 0 0
    ∷ answer 8 0 0 ∷ answer 8 0 0 ∷ answer 16 0 0 ∷ answer 8 0 0 ∷ answer 0 0 0
    ∷ (0 ∷ 0 ∷ []) ∷ (8 ∷ 0 ∷ []) ∷ (1 ∷ []) ∷ [])
    ∷ []
