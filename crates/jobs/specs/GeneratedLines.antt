-- The refusals of the generator, in checking order.
use Rattle.std.specs.Prelude.{List, [], ◌∷◌, ℕ, eqb, ltb}
use Rattle.buffers.specs.Refusals.{Refusal, line, bad_count, other_than}

-- "Its lent buffer has 61,463 bytes": three lines before the steps of at most 23 bytes, and 4,096 lines of at most 15
abbrev pub room : ℕ
room = 61463

-- 15: "more than 4,096 steps; checked directly after 1 and so before 2"; 2: "n is 0 or above 64"; 4: "A buffer's length
-- is not what .. this paper requires"; 6: "a seed, not 0 (0 gives 6)"
abbrev pub generate_lines : ℕ → ℕ → ℕ → List ℕ → List Refusal
generate_lines n count seed text =
    line 15 (ltb 4096 count) ∷ line 2 (bad_count n) ∷ line 4 (other_than room text) ∷ line 6 (eqb seed 0) ∷ []
