-- The earlier of two refusal numbers, and the earliest of many, where numbers rise in checking order.
use Rattle.std.specs.Prelude.{cond, suc, zero, ℕ, eqb, ltb}

-- the smaller of two numbers of lines, where 0 stands for none: "of the numbers found in either the first in
-- checking order"
abbrev pub earlier_of : ℕ → ℕ → ℕ
earlier_of a b = cond (eqb a 0) b (cond (eqb b 0) a (cond (ltb a b) a b))

-- the same of f 0 .. f (k - 1)
unfoldable pub earliest_of : ℕ → (ℕ → ℕ) → ℕ
earliest_of zero f = 0
earliest_of (suc k) f = earlier_of (earliest_of k f) (f k)
