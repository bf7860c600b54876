-- A loop that looks for a number below b that passes: none does so far.
use mathlib.Core.Bool.{Bool, false, true}
use mathlib.Core.Path.{sym, ◌∙◌, ◌≡◌}
use Prim.Native.Nat.{◌+◌, ◌<◌, zero-le, ℕ, ◌≤◌}
use native.Mathlib.Nat.{lt_of_lt_of_le, not-suc-le-zero}
use native.Mathlib.Omega.{arith}
use borrow.Author.Count.{below_more}
use Rattle.words.proofs.SearchLaws.{some_in, some-none}
use Rattle.words.specs.Search.{some}

-- the loop's invariant
pub record NoneSoFar (b : ℕ) (f : ℕ → Bool) (i : ℕ) : Type 0 where
  pub upto : i ≤ b
  pub none : (j : ℕ) → j < i → f j ≡ false

pub none-at-first : (b : ℕ) (f : ℕ → Bool) → NoneSoFar b f 0
none-at-first b f = record { upto = zero-le; none = λ j l. absurd (not-suc-le-zero l) }

pub none-at : (b : ℕ) (f : ℕ → Bool) (i : ℕ) → NoneSoFar b f i → i < b → {v : Bool} → v ≡ f i → v ≡ false →
    NoneSoFar b f (i + 1)
none-at b f i N l e h = record { upto = omega arith; none = below_more _ i N.none (sym e ∙ h) }

-- the answers: one was found at i, or none below b
pub found_at : (b : ℕ) (f : ℕ → Bool) (i : ℕ) → i < b → {v : Bool} → v ≡ f i → v ≡ true → true ≡ some b f
found_at b f i l e h = sym (some_in b f i l (sym e ∙ h))

pub found_nowhere : (b : ℕ) (f : ℕ → Bool) (i : ℕ) → NoneSoFar b f i → b ≤ i → false ≡ some b f
found_nowhere b f i N l = sym (some-none b f (λ j k. N.none j (lt_of_lt_of_le k l)))
