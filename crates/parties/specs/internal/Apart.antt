-- Two parties apart on a record, and the operations that a party has: what only the proofs name.
use Rattle.std.specs.Prelude.{false, ◌≡◌, ℕ}
use Rattle.buffers.specs.Refusals.{first_fitting}
use Rattle.operations.specs.Steps.{Operation, complement_of, cz_on, gate_with, measurement_of}
use Rattle.operations.specs.Used.{UsedRecord, used_lines}
use Rattle.parties.specs.Masks.{crosses}

-- a record of 64 qubits that no line refuses, without an edge between the parties
pub record Apart (word : ℕ) (u : UsedRecord) : Type 0 where
  pub count : u.held.n ≡ 64
  pub passes : first_fitting (used_lines u false false false) ≡ 0
  pub no-crossing : crosses word u ≡ false

-- gate, cz, measurement, complementation: a party has no pivot
pub data PartyOp : Operation → Type 0 where
  gate-op : (q k : ℕ) → PartyOp (gate_with q k)
  cz-op : (a b : ℕ) → PartyOp (cz_on a b)
  measure-op : (pauli q b : ℕ) → PartyOp (measurement_of pauli q b)
  complement-op : (a : ℕ) → PartyOp (complement_of a)
