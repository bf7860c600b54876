-- What document 02, §8, promises of every accepted call on a record with used qubits: what only the proofs name.
use Rattle.std.specs.Prelude.{false, true, ◌||◌, ◌↔◌, ◌≢◌, ◌≡◌, ◌*◌, ◌+◌, ◌-◌, ◌<◌, ℕ, eqb, get_or}
use Rattle.buffers.specs.Refusals.{first_fitting}
use Rattle.operations.specs.Measurement.{outcome_number}
use Rattle.operations.specs.Steps.{Operation, leaves, lines_of, measured_answer, pivot_of}
use Rattle.words.specs.Bits.{bit}
use Rattle.operations.specs.Used.{UsedRecord, names_used, used_after, used_lines, used_step, used_stray, used_wrong}
use Rattle.operations.specs.UsedLaws.{UsedStay, earlier_lines}

-- an accepted call: the call as it was before is accepted, and none of the three new tests holds
pub record UsedPasses (u : UsedRecord) (o : Operation) : Type 0 where
  pub as_before : first_fitting (lines_of u.held o) ≡ 0
  pub no_stray : used_stray u ≡ false
  pub none-wrong : used_wrong u ≡ false
  pub none_named : names_used u o ≡ false

-- the record left by an accepted call: what the call as it was before leaves, with the used word, and no line
-- refuses it
pub record UsedLeft (u : UsedRecord) (o : Operation) (v : UsedRecord) : Type 0 where
  pub held : v.held ≡ leaves u.held o
  pub used : v.used ≡ used_after u o
  pub stay : UsedStay u v.held
  pub passes : first_fitting (used_lines v false false false) ≡ 0

-- "an accepted measurement sets the qubit's bit": no other changes, the vertex has no neighbour, and its code is
-- 4 × (Pauli − 1) + 2 × outcome, the outcome being the bit supplied
pub record MeasuredMarks (u : UsedRecord) (pauli q b : ℕ) (v : UsedRecord) : Type 0 where
  pub within : q < u.held.n
  pub marked : (t : ℕ) → bit v.used t ≡ (bit u.used t || eqb t q)
  pub word : get_or v.held.neighbours q 0 ≡ 0
  pub code : get_or v.held.codes q 0
      ≡ 4 * (pauli - 1) + 2 * outcome_number (measured_answer u.held pauli q b)
  pub outcome : outcome_number (measured_answer u.held pauli q b) ≡ b

-- 16, "checked directly after 8": exactly if no earlier line holds and "the call names a used qubit"
abbrev pub UsedRefused : UsedRecord → Operation → Type 0
UsedRefused u o = ((used_step u o).number ≡ 16) ↔ ((first_fitting (earlier_lines u o) ≡ 0) × (names_used u o ≡ true))

-- a pivot never gives 16: a used vertex has no edge, which is 8
abbrev pub PivotNever : UsedRecord → Type 0
PivotNever u = (j k : ℕ) → (used_step u (pivot_of j k)).number ≢ 16
