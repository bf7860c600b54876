-- What the calls on a record lent in place promise, for all arguments. A name with a prime is what the buffer, or the
-- lent number, holds at exit: what only the proofs name.
use Rattle.std.specs.Prelude.{Bool, List}
use Rattle.buffers.specs.Refusals.{Refusal}
use Rattle.operations.specs.Steps.{in_place_lines}
use Rattle.operations.specs.Used.{UsedRecord, with_used}

-- the lines of such a call but 14, with the tests for lines 6, 8 and 16
abbrev pub used_in_place : UsedRecord → Bool → Bool → Bool → List Refusal
used_in_place u six eight sixteen = with_used u sixteen (in_place_lines u.held six eight)
