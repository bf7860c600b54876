-- The refusals of a job text, in checking order.
use Rattle.std.specs.Prelude.{List, [], ◌∷◌, ℕ, ltb}
use Rattle.buffers.specs.Refusals.{Refusal, line, bad_count}

-- "15, more than 4,096 steps; checked directly after 1 and so before 2, before any step runs"; 2: "n is 0 or above 64"
abbrev pub job_lines : ℕ → ℕ → List Refusal
job_lines n count = line 15 (ltb 4096 count) ∷ line 2 (bad_count n) ∷ []
