-- The row operations of an elimination over the x bits: what the code's steps do to a list.
use Rattle.std.specs.Prelude.{ℕ}
use Rattle.pauli.specs.Pauli.{Pauli, mul}
use Rattle.words.specs.Bits.{Word}
use Rattle.stabilizer.specs.Groups.{chosen}

-- row a multiplied into the rows that s names
abbrev pub shear : ℕ → (ℕ → Pauli) → ℕ → Word → ℕ → Pauli
shear n rows a s j = mul n (rows j) (chosen (s j) (rows a))
