-- What a caller knows of a record before a call.
use Rattle.std.specs.Prelude.{Bool, false, true, List, ℕ}
use Prim.{Unit}
use Rattle.operations_gates.specs.internal.Suspects.{Marked}
use Rattle.operations.specs.Used.{UsedRecord, UsedUnrefused}

-- nothing, or that no line of the record alone holds
abbrev pub Known : Bool → UsedRecord → Type 0
Known false u = Unit
Known true u = UsedUnrefused u

-- the word of a look at the codes, or nothing where none was made
abbrev pub Found : Bool → List ℕ → ℕ → Type 0
Found false codes word = Marked codes word
Found true codes word = Unit
