-- Lent buffers as lists of numbers.
use Rattle.std.specs.Prelude.{cond, ◌++◌, List, [], ◌∷◌, suc, zero, ℕ, eqb, drop, length}

-- f 0, f 1 .. f (n - 1)
unfoldable pub tabulate : ℕ → (ℕ → ℕ) → List ℕ
tabulate zero f = []
tabulate (suc n) f = f 0 ∷ tabulate n (λ k. f (suc k))

-- what a lent buffer holds after a call that answers the number r: the answer where r is 0, else what it held.
-- "every lent buffer keeps its contents; 0 means accepted"
abbrev pub accepted : ℕ → List ℕ → List ℕ → List ℕ
accepted r answer old = cond (eqb r 0) answer old

-- the same of a lent number
abbrev pub accepted_number : ℕ → ℕ → ℕ → ℕ
accepted_number r answer old = cond (eqb r 0) answer old

-- a buffer whose first places take the new numbers and whose other places keep theirs
abbrev pub written : List ℕ → List ℕ → List ℕ
written new old = new ++ drop (length new) old
