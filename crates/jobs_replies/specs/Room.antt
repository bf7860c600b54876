-- The room for an answer.
use Rattle.std.specs.Prelude.{◌*◌, ◌+◌, ℕ}

-- room for the names and 4,096 lines
abbrev pub lines_room : ℕ
lines_room = 32 + 4096 * 14

-- room for every answer: the names, 4,096 lines and the record of 64 qubits
abbrev pub longest_job : ℕ
longest_job = lines_room + 27 + 64 * 25
