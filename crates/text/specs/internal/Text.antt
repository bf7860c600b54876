-- The text of a generator list and the texts that answer it, as lists of bytes: 10 ends a line, 32 is the space, 48 the
-- digit 0, 97 the letter a: what only the proofs name.
use Rattle.std.specs.Prelude.{List, ℕ, ◌+◌, ◌*◌, ◌≤◌, ◌<◌, length, get_or}
use Rattle.words.specs.Bits.{bit}
use Rattle.text.specs.declared.records.RecordLine.{RecordLine}

-- what a record and its buffer must be for the print from place at on
pub record Printable (n : ℕ) (neighbours codes : List ℕ) (at : ℕ) (out : List ℕ) : Type 0 where
  pub qubits : n ≤ 64
  pub neighbours-long : n ≤ length neighbours
  pub codes-long : n ≤ length codes
  pub codes-small : (q : ℕ) → q < n → get_or codes q 0 < 24
  pub room : at + 27 + n * 25 ≤ length out

-- what a record says of each qubit
abbrev pub line_held : List ℕ → List ℕ → ℕ → ℕ → RecordLine
line_held neighbours codes used q =
    record { code = get_or codes q 0; word = get_or neighbours q 0; used = bit used q }
