-- What the call that expands a record promises, for all arguments: its lines in checking order, and the buffers lent
-- for its answer. A name with a prime is what the buffer holds at exit.
use Rattle.std.specs.Prelude.{false, ◌||◌, List, [], ◌∷◌, ℕ}
use Rattle.buffers.specs.Refusals.{Refusal, other_than}
use Rattle.buffers.specs.Calls.{Contract, buffer, contract_of}
use Rattle.record.specs.Lent.{held_rows}
use Rattle.stabilizer.specs.Lists.{list_of}
use Rattle.operations.specs.Used.{UsedRecord, used_lines}

-- with the three buffers lent for the answer
abbrev pub expand_lines : UsedRecord → List ℕ → List ℕ → List ℕ → List Refusal
expand_lines u signs z x =
    used_lines u (other_than u.held.n signs || (other_than u.held.n z || other_than u.held.n x)) false false

-- ---- sukhlent_expand: the record's generators in order; the used word is not in them
abbrev pub expand_call : UsedRecord → List ℕ → List ℕ → List ℕ → List ℕ → List ℕ → List ℕ → Contract
expand_call u signs z x signs' z' x' =
    contract_of (expand_lines u signs z x)
    (buffer signs (list_of u.held.n (held_rows u.held)).signs signs'
    ∷ buffer z (list_of u.held.n (held_rows u.held)).z z'
    ∷ buffer x (list_of u.held.n (held_rows u.held)).x x' ∷ [])
