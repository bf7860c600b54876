-- What document 02, §8, promises of every accepted call on a record with used qubits.
use Rattle.std.specs.Prelude.{true, List, ◌≡◌, ℕ, get_or}
use Rattle.buffers.specs.Refusals.{Refusal, with_test}
use Rattle.operations.specs.Steps.{Operation, arguments_of}
use Rattle.record.specs.Lent.{LentRecord}
use Rattle.words.specs.Bits.{bit}
use Rattle.operations.specs.Used.{UsedRecord, used_stray, used_wrong}

-- "A used vertex has no neighbour": each used vertex has word 0 after the call, and the code that it had
pub record UsedStay (u : UsedRecord) (after : LentRecord) : Type 0 where
  pub word : (q : ℕ) → bit u.used q ≡ true → get_or after.neighbours q 0 ≡ 0
  pub code : (q : ℕ) → bit u.used q ≡ true → get_or after.codes q 0 ≡ get_or u.held.codes q 0

-- the lines before 16
abbrev pub earlier_lines : UsedRecord → Operation → List Refusal
earlier_lines u o = with_test 7 (used_wrong u) (with_test 5 (used_stray u) (arguments_of u.held o))
