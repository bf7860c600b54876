-- Searches over the numbers below a bound.
use Rattle.std.specs.Prelude.{◌≡◌, Bool, true, false, ◌&&◌, ◌||◌, cond, ℕ, zero, suc, ◌<◌}

-- some number below the bound passes
unfoldable pub some : ℕ → (ℕ → Bool) → Bool
some zero f = false
some (suc b) f = some b f || f b

-- every number below the bound passes
unfoldable pub every : ℕ → (ℕ → Bool) → Bool
every zero f = true
every (suc b) f = every b f && f b

-- the first number that passes; the bound itself where none does
unfoldable pub first : ℕ → (ℕ → Bool) → ℕ
first zero f = 0
first (suc b) f = cond (some b f) (first b f) (cond (f b) b (suc b))

-- i is the first number below the bound that passes
pub record IsFirst (b : ℕ) (f : ℕ → Bool) (i : ℕ) : Type 0 where
  pub below : i < b
  pub passes : f i ≡ true
  pub least : (j : ℕ) → j < i → f j ≡ false
