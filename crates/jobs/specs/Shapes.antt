-- What a drawn step can be: its qubits are below n, its code below 24, or its Pauli 1 to 3 with an outcome of 0 or 1, a
-- CZ has two qubits, and unused fields are 0.
use Rattle.std.specs.Prelude.{◌≡◌, List, [], ◌∷◌, ℕ, ◌<◌}
use Rattle.jobs.specs.declared.Op.TheVariants.{Gate, Cz, Measure}
use Rattle.jobs.specs.declared.Step.{Step}
use Rattle.jobs.specs.Drawn.{does}

-- a step of one of these forms, on n qubits
pub data Drawable (n : ℕ) : Step → Type 0 where
  gate : {a code : ℕ} → a < n → code < 24 → Drawable n (does Gate a 0 code)
  cz : {a b : ℕ} → a < n → b < n → (a ≡ b → ⊥) → Drawable n (does Cz a b 0)
  measure : {a value : ℕ} → a < n → value < 6 → Drawable n (does Measure a 0 value)

-- each step of a list is
abbrev pub AllDrawable : ℕ → List Step → Type 0
AllDrawable n [] = Unit
AllDrawable n (s ∷ ss) = Drawable n s × AllDrawable n ss
