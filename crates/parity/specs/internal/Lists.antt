-- A lent list changed by the measurement of a row.
use Rattle.std.specs.Prelude.{Bool, List, ◌≡◌, ◌<◌, ℕ, length}
use Rattle.operations.specs.Measurement.{projected}
use Rattle.pauli.specs.Pauli.{signed_row}
use Rattle.stabilizer.specs.Lists.{GeneratorList, rows}

-- the list that three lent buffers hold, n being the length of the first
abbrev pub list_in : List ℕ → List ℕ → List ℕ → GeneratorList
list_in signs z x = record { n = length signs; signs = signs; z = z; x = x }

-- as many places in each buffer as before
pub record AsLong (old new : GeneratorList) : Type 0 where
  pub signs-length : length new.signs ≡ length old.signs
  pub z-length : length new.z ≡ length old.z
  pub x-length : length new.x ≡ length old.x

-- generator g went into the others that do not commute with the row of two words, and the row took its place
pub record Changed (z x : ℕ) (minus : Bool) (g : ℕ) (old new : GeneratorList) : Type 0 where
  pub long : AsLong old new
  pub row : (i : ℕ) → i < length old.signs → rows new i ≡ projected 64 (rows old) (signed_row minus z x) g i
