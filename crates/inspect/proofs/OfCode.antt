-- What is answered where a number is a code, and where it is not.
use mathlib.Core.Bool.{cond}
use mathlib.Core.Path.{◌∙◌, ◌≡◌, ap, sym}
use Prim.Native.Nat.{◌<◌, ◌≤◌, ℕ}
use borrow.Author.Tests.{le-ltb, lt-ltb}
use Rattle.inspect.specs.internal.Answers.{of_code}

pub no_code : (a k otherwise : ℕ) → 24 ≤ a → otherwise ≡ of_code a k otherwise
no_code a k otherwise h = sym (ap (λ b. cond b k otherwise) (le-ltb a 24 h))

pub is_code : (a k otherwise : ℕ) {r : ℕ} → a < 24 → r ≡ k → r ≡ of_code a k otherwise
is_code a k otherwise h e = e ∙ sym (ap (λ b. cond b k otherwise) (lt-ltb a 24 h))
