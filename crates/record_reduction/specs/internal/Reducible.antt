-- The lists that are reduced.
use Rattle.std.specs.Prelude.{◌≡◌, ◌<◌, ℕ, ◌≤◌, length}
use Rattle.stabilizer.specs.Groups.{Commuting, Within}
use Rattle.stabilizer.specs.Lists.{GeneratorList, rows}

-- a lent list of 1 to 64 generators that commute, each of n qubits
pub record Reducible (l : GeneratorList) : Type 0 where
  pub positive : 1 ≤ l.n
  pub upto : l.n ≤ 64
  pub signs-length : length l.signs ≡ l.n
  pub z-length : length l.z ≡ l.n
  pub x-length : length l.x ≡ l.n
  pub commuting : Commuting l.n l.n (rows l)
  pub within : (j : ℕ) → j < l.n → Within l.n (rows l j)
