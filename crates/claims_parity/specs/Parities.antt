-- Measurements of Pauli rows, of the public call sukhlent_measure_row. A name with a prime is what the buffer, or the
-- lent number, holds at exit.
use Rattle.std.specs.Prelude.{false, true, List, [], ◌++◌, ◌∷◌, ◌↔◌, ◌⊎◌, ◌≡◌, ◌<◌, ◌^◌, ℕ}
use Rattle.buffers.specs.Calls.{Call}
use Rattle.buffers.specs.Refusals.{first_fitting}
use Rattle.buffers.specs.Sentences.{FirstTrue, Sentence, Stray, sentence}
use Rattle.calls.specs.Expectations.{expectation_call}
use Rattle.calls.specs.Parities.{measure_row_call}
use Rattle.calls.specs.Sources.{observe_call}
use Rattle.claims.specs.Arguments.{IsRecord}
use Rattle.claims.specs.Conforming.{Answered}
use Rattle.claims.specs.ExpectationDemand.{letter_word}
use Rattle.claims.specs.OperationsDemand.{IsReduced}
use Rattle.claims.specs.UsedDemand.{UsedCopied, left_used}
use Rattle.jobs.specs.Standing.{StillRecord, left}
use Rattle.operations.specs.Measurement.{Measured, pauli_letter}
use Rattle.operations.specs.Used.{UsedRecord}
use Rattle.operations.specs.UsedSentences.{used_sentences}
use Rattle.parity.specs.RowLines.{acts_on_used, row_arguments}
use Rattle.pauli.specs.Pauli.{Pauli, signed_row, x_bit, z_bit}
use Rattle.record.specs.Lent.{LentRecord, held_rows}
use Rattle.record.specs.RecordSentences.{CodeAbove23, RecordMisfits, StrayNeighbour}
use Rattle.stabilizer.specs.Groups.{InGroup, SameGroup}
use Rattle.words.specs.Bits.{bit, is_odd}

-- ---- the arguments
-- a record, a row of its qubits that has I at each used one, and a bit
pub record RowFits (u : UsedRecord) (z x b : ℕ) : Type 0 where
  pub held : IsRecord u
  pub z-below : z < 2 ^ u.held.n
  pub x_below : x < 2 ^ u.held.n
  pub bit_below : b < 2
  pub idle : (q : ℕ) → bit u.used q ≡ true → (bit z q ≡ false) × (bit x q ≡ false)

-- "a row that acts on a used qubit"
abbrev pub UsedActedOn : UsedRecord → ℕ → ℕ → Type 0
UsedActedOn u z x = (q : ℕ) × (q < u.held.n) × ((bit u.used q ≡ true) × ((bit z q ≡ true) ⊎ (bit x q ≡ true)))

-- its lines. 5: also of the two words of the row; 6: "A bit above 1 is 6"; 16: the row acts on a used qubit
abbrev pub measure_row_sentences : UsedRecord → ℕ → ℕ → ℕ → List Sentence
measure_row_sentences u z x b =
    used_sentences u (RecordMisfits u.held)
    (StrayNeighbour u.held ⊎ (Stray u.held.n u.used ⊎ (Stray u.held.n z ⊎ Stray u.held.n x)))
    (CodeAbove23 u.held ⊎ (1 < b))
    ++ (sentence 16 (UsedActedOn u z x) ∷ [])

-- ---- what an accepted call answers and leaves
pub record RowStands (l : LentRecord) (z x b : ℕ) (after : LentRecord) (answer' determined' : ℕ) : Type 0 where
  pub still : StillRecord after
  -- "The reduced record is left"
  pub answers : IsReduced after
  pub either : (determined' ≡ 0) ⊎ (determined' ≡ 1)
  pub outcome : (answer' ≡ 0) ⊎ (answer' ≡ 1)
  -- "determined exactly if the row or its negative is in the group"; then the state's sign is the answer, and the group
  -- stays
  pub exactly : (determined' ≡ 1) ↔ (InGroup l.n l.n (held_rows l) (signed_row false z x)
      ⊎ InGroup l.n l.n (held_rows l) (signed_row true z x))
  pub sign : determined' ≡ 1 → InGroup l.n l.n (held_rows l) (signed_row (is_odd answer') z x)
  pub kept : determined' ≡ 1 → SameGroup l.n l.n (held_rows l) (held_rows after)
  -- "otherwise the outcome is the bit and the group becomes the elements that commute with the row, joined by the row
  -- with that sign"
  pub bit : determined' ≡ 0 → answer' ≡ b
  pub joined : determined' ≡ 0 → (p : Pauli) → InGroup l.n l.n (held_rows after) p
      ↔ Measured l.n (held_rows l) (signed_row (is_odd b) z x) p
  -- "The identity row is determined, 0"
  pub identity : z ≡ 0 → x ≡ 0 → (determined' ≡ 1) × (answer' ≡ 0)

-- two calls answered and left the same
pub record SameAnswers (answer determined : ℕ) (nb cs : List ℕ) (answer₂ determined₂ : ℕ) (nb₂ cs₂ : List ℕ)
    : Type 0 where
  pub outcome : answer₂ ≡ answer
  pub flag : determined₂ ≡ determined
  pub neighbours : nb₂ ≡ nb
  pub codes : cs₂ ≡ cs

-- sukhlent_measure_row, in one record
pub record MeasureRowSays (u : UsedRecord) (z x b answer determined : ℕ) (nb' cs' : List ℕ) (answer' determined' r : ℕ)
    :
    Type 0 where
  pub answered : Answered (measure_row_call u z x b answer determined nb' cs' answer' determined') r
  pub accepted : (r ≡ 0) ↔ RowFits u z x b
  pub numbers : FirstTrue (measure_row_sentences u z x b) r
  pub group : r ≡ 0 → RowStands u.held z x b (left u.held nb' cs') answer' determined'
  -- "No photon is used up": each used vertex has word 0 and its code, and the record left, with the same used word, is
  -- refused by no line
  pub copied : r ≡ 0 → UsedCopied u nb' cs'
  -- "after it `sukhlent_expectation` of the row is the outcome"
  pub value : r ≡ 0 → (value value' k : ℕ) → Call (expectation_call (left_used u nb' cs' u.used) z x value value') k
      → (k ≡ 0) × (value' ≡ answer')
  -- "on a single letter the group is that of `observe`": its answers and its record too
  pub letter : r ≡ 0 → (pauli q answer₂ determined₂ : ℕ) (nb₂ cs₂ : List ℕ) (used₂ answer₃ determined₃ : ℕ)
      → z ≡ letter_word (z_bit (pauli_letter pauli)) q → x ≡ letter_word (x_bit (pauli_letter pauli)) q
      → Call (observe_call u pauli q b answer₂ determined₂ nb₂ cs₂ used₂ answer₃ determined₃) 0
      → SameAnswers answer' determined' nb' cs' answer₃ determined₃ nb₂ cs₂
  -- 16 exactly if no earlier line holds and the row acts on a used qubit
  pub refused : (r ≡ 16) ↔ ((first_fitting (row_arguments u z x b) ≡ 0) × (acts_on_used u z x ≡ true))
