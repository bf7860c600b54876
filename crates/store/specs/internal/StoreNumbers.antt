-- The numbers that the checks of a store go by: what only the proofs name.
use Rattle.std.specs.Prelude.{Bool, cond, false, List, ℕ, ltb}
use Rattle.buffers.specs.Refusals.{first_fitting}
use Rattle.operations.specs.Used.{used_lines}
use Rattle.words.specs.Search.{some}
use Rattle.store.specs.Places.{Store, count_at, is_held, place_at}

-- 2: some place has an n above 64
abbrev pub large_count : ℕ → List ℕ → Bool
large_count k heads = some k (λ i. ltb 64 (count_at heads i))

-- the number of the record held at place i; 0 where the place is free
abbrev pub number_at : Store → ℕ → ℕ
number_at st i = cond (is_held st.heads i) (first_fitting (used_lines (place_at st i) false false false)) 0
