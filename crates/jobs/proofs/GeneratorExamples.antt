-- Worked examples: draws, the first steps of some jobs and a text, each worked out by another program.
use mathlib.Core.Path.{◌≡◌, refl}
use mathlib.Core.List.{[], ◌∷◌}
use Prim.Native.Nat.{ℕ}
use lib.ListN.{replicate}
use Rattle.buffers.specs.Refusals.{first_fitting}
use Rattle.jobs.specs.declared.Op.TheVariants.{Gate, Cz, Measure}
use Rattle.text.specs.Text.{digits}
use Rattle.jobs.specs.Text.{op_word, step_text, steps_text, job_head, job_text}
use Rattle.jobs.specs.Draws.{draw}
use Rattle.jobs.specs.Drawn.{does, step_of, drawn, generated_text}
use Rattle.jobs.specs.GeneratedLines.{generate_lines}

-- the first three draws of seed 1, and the first of the largest seed
draws : draw 1 ∷ draw (draw 1) ∷ draw (draw (draw 1)) ∷ draw 0xFFFF_FFFF_FFFF_FFFF ∷ []
    ≡ 1082269761 ∷ 1152992998833853505 ∷ 11177516664432764457 ∷ 1065361344 ∷ []
unfolding draw
draws = refl

-- 64 qubits, seed 1
first-steps : drawn 64 3 1 ≡ does Gate 8 0 4 ∷ does Measure 8 0 5 ∷ does Gate 5 0 4 ∷ []
unfolding drawn step_of draw
first-steps = refl

-- 5 qubits: a CZ, and a CZ on one qubit, which becomes a gate
cz-on-one : drawn 5 2 15778861840240581909 ≡ does Cz 3 2 0 ∷ does Gate 3 0 8 ∷ []
unfolding drawn step_of draw
cz-on-one = refl

-- "qubits", "64", "op a b value", "gate 8 0 4", "measure 8 0 5"
text : generated_text 64 2 1
    ≡ 113 ∷ 117 ∷ 98 ∷ 105 ∷ 116 ∷ 115 ∷ 10 ∷ 54 ∷ 52 ∷ 10
    ∷ 111 ∷ 112 ∷ 32 ∷ 97 ∷ 32 ∷ 98 ∷ 32 ∷ 118 ∷ 97 ∷ 108 ∷ 117 ∷ 101 ∷ 10
    ∷ 103 ∷ 97 ∷ 116 ∷ 101 ∷ 32 ∷ 56 ∷ 32 ∷ 48 ∷ 32 ∷ 52 ∷ 10
    ∷ 109 ∷ 101 ∷ 97 ∷ 115 ∷ 117 ∷ 114 ∷ 101 ∷ 32 ∷ 56 ∷ 32 ∷ 48 ∷ 32 ∷ 53 ∷ 10 ∷ []
unfolding drawn step_of draw digits op_word step_text steps_text job_head job_text
text = refl

-- 15 before 2 before 4 before 6; no step is allowed
abbrev number : ℕ → ℕ → ℕ → ℕ
number n count seed = first_fitting (generate_lines n count seed [])

numbers : number 0 4097 0 ∷ number 0 4096 0 ∷ number 65 0 0 ∷ number 64 4096 0 ∷ [] ≡ 15 ∷ 2 ∷ 2 ∷ 4 ∷ []
unfolding first_fitting
numbers = refl

room-numbers :
    first_fitting (generate_lines 64 4096 0 (replicate 61463 0))
    ∷ first_fitting (generate_lines 64 0 1 (replicate 61463 0)) ∷ []
    ≡ 6 ∷ 0 ∷ []
unfolding first_fitting
room-numbers = refl
