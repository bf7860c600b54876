-- A list that was scanned into buffers of 64 places, and the buffers for the answer to it.
use Rattle.std.specs.Prelude.{◌*◌, ◌+◌, ℕ}

-- the longest_record answer: the names and 64 lines
abbrev pub longest_record : ℕ
longest_record = 27 + 64 * 25
