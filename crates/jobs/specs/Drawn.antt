-- The steps that are drawn, and the text of their job.
use Rattle.std.specs.Prelude.{cond, List, [], ◌∷◌, ℕ, zero, suc, ◌+◌, ◌-◌, ◌*◌, ◌/◌, ◌%◌, ◌^◌, eqb}
use Rattle.jobs.specs.declared.Op.{Op}
use Rattle.jobs.specs.declared.Op.TheVariants.{Gate, Cz, Measure}
use Rattle.jobs.specs.declared.Step.{Step}
use Rattle.jobs.specs.Text.{job_text}
use Rattle.jobs.specs.Draws.{draw}

-- ---- what is read off a draw, "quotients rounded down"
-- "a is d/8 mod n"
abbrev pub qubit_a : ℕ → ℕ → ℕ
qubit_a n d = d / 8 % n

-- "b is d/512 mod n"
abbrev pub qubit_b : ℕ → ℕ → ℕ
qubit_b n d = d / 512 % n

-- "the code is d/32768 mod 24"
abbrev pub drawn_code : ℕ → ℕ
drawn_code d = d / 32768 % 24

-- "the Pauli is 1 + d/32768 mod 3": 1 to 3
abbrev pub drawn_pauli : ℕ → ℕ
drawn_pauli d = 1 + d / 32768 % 3

-- "the outcome is d/2^40 mod 2"
abbrev pub drawn_outcome : ℕ → ℕ
drawn_outcome d = d / 2 ^ 40 % 2

-- ---- steps; "fields that §5 calls unused are 0"
abbrev pub does : Op → ℕ → ℕ → ℕ → Step
does op a b value = record { op = op; a = a; b = b; value = value }

-- a gate, its field b unused
abbrev pub gate_on : ℕ → ℕ → Step
gate_on a code = does Gate a 0 code

-- "A cz with a = b becomes a gate with code 8 on a"
abbrev pub cz_on : ℕ → ℕ → Step
cz_on a b = cond (eqb a b) (gate_on a 8) (does Cz a b 0)

-- "for measure 2 × (Pauli − 1) + outcome"
abbrev pub measure_on : ℕ → ℕ → ℕ → Step
measure_on a pauli outcome = does Measure a 0 (2 * (pauli - 1) + outcome)

-- "d mod 3 of 0, 1, 2 picks gate, cz, measure"
unfoldable pub step_of : ℕ → ℕ → Step
step_of n d =
    cond (eqb (d % 3) 0) (gate_on (qubit_a n d) (drawn_code d))
    (cond (eqb (d % 3) 1) (cz_on (qubit_a n d) (qubit_b n d))
    (measure_on (qubit_a n d) (drawn_pauli d) (drawn_outcome d)))

-- "The new s is the draw d, one per step": the steps drawn from the state s
unfoldable pub drawn : ℕ → ℕ → ℕ → List Step
drawn n zero s = []
drawn n (suc k) s = step_of n (draw s) ∷ drawn n k (draw s)

-- "The job text it writes"
abbrev pub generated_text : ℕ → ℕ → ℕ → List ℕ
generated_text n count seed = job_text n (drawn n count seed)
