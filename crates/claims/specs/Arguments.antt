-- What the arguments of a call are, in the documents' words: rows, lists of generators, records with their used qubits.
-- A record is `AcceptedRecord`: 1 to 64 vertices, n places in each buffer, no bit at or above n, codes below 24, a
-- simple graph.
use Rattle.std.specs.Prelude.{false, true, ◌≡◌, ◌*◌, ◌<◌, ◌^◌, ℕ, ◌≤◌, get_or, length}
use Rattle.record.specs.Accepted.{AcceptedRecord}
use Rattle.stabilizer.specs.Groups.{Proper}
use Rattle.stabilizer.specs.Lists.{GeneratorList, rows}
use Rattle.operations.specs.Used.{UsedRecord}
use Rattle.words.specs.Bits.{bit}

-- rows: 1 to 64 qubits, n places in each buffer, signs 0 and 1, no bit at or above n
pub record IsRows (l : GeneratorList) : Type 0 where
  pub positive : 1 ≤ l.n
  pub upto : l.n ≤ 64
  pub signs-length : length l.signs ≡ l.n
  pub z-length : length l.z ≡ l.n
  pub x-length : length l.x ≡ l.n
  pub signs-below : (j : ℕ) → j < l.n → get_or l.signs j 0 < 2
  pub z-below : (j : ℕ) → j < l.n → get_or l.z j 0 < 2 ^ l.n
  pub x_below : (j : ℕ) → j < l.n → get_or l.x j 0 < 2 ^ l.n

-- "A list has n generators, pairwise commuting and independent modulo 2 with signs dropped"
pub record IsList (l : GeneratorList) : Type 0 where
  pub formed : IsRows l
  pub proper : Proper l.n (rows l)

-- a record with its word of used qubits: no bit at or above n; "A used vertex has no neighbour, and its code is 0, 2,
-- 4,
-- 6, 8 or 10" (02, §8)
pub record IsRecord (u : UsedRecord) : Type 0 where
  pub held : AcceptedRecord u.held
  pub below : u.used < 2 ^ u.held.n
  pub alone : (q : ℕ) → bit u.used q ≡ true → get_or u.held.neighbours q 0 ≡ 0
  pub codes : (q : ℕ) → bit u.used q ≡ true → (i : ℕ) × (i < 6) × (get_or u.held.codes q 0 ≡ 2 * i)

-- a qubit of the record that is not used
abbrev pub Free : UsedRecord → ℕ → Type 0
Free u q = (q < u.held.n) × (bit u.used q ≡ false)
