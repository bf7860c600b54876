-- What the call on a cut promises, for all arguments. A name with a prime is what the lent number holds at exit.
use Rattle.std.specs.Prelude.{false, List, [], ◌∷◌, ◌^◌, ℕ, leb}
use Rattle.buffers.specs.Refusals.{Refusal}
use Rattle.buffers.specs.Calls.{Contract, contract_of, number}
use Rattle.cut.specs.Cut.{cut_rank}
use Rattle.record.specs.Lent.{held_record}
use Rattle.operations.specs.Used.{UsedRecord, used_lines}
use Rattle.words.specs.Bits.{bit}

-- the lines of a record in checking order. 5: also a side word with a bit at or above n; the side may mark used qubits
abbrev pub cut_lines : UsedRecord → ℕ → List Refusal
cut_lines u side = used_lines u false (leb (2 ^ u.held.n) side) false

-- ---- sukhlent_cut: "takes a record and a word that marks one side, and answers the rank modulo 2 of the edges between
-- the sides"
abbrev pub cut_call : UsedRecord → ℕ → ℕ → ℕ → Contract
cut_call u side rank rank' =
    contract_of (cut_lines u side)
    (number rank (cut_rank u.held.n (bit side) (held_record u.held).graph) rank' ∷ [])
