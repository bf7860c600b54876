-- Used-up photons (02, §8), of the public calls: "A record gains a word of used qubits, and an accepted measurement
-- sets the qubit's bit". A name with a prime is what the buffer, or the lent number, holds at exit.
use Rattle.std.specs.Prelude.{false, true, ◌||◌, List, ◌↔◌, ◌≢◌, ◌≡◌, ◌*◌, ◌+◌, ◌-◌, ◌<◌, ℕ, eqb, get_or}
use Rattle.buffers.specs.Refusals.{first_fitting}
use Rattle.calls.specs.InPlace.{in_place_call, measure_call, used_call, used_measure_call}
use Rattle.calls.specs.Lists.{reduce_unused_call}
use Rattle.buffers.specs.Calls.{Call}
use Rattle.jobs.specs.Standing.{left}
use Rattle.operations.specs.Steps.{Operation, lines_of, measurement_of}
use Rattle.record.specs.Lent.{LentRecord}
use Rattle.stabilizer.specs.Lists.{GeneratorList}
use Rattle.operations.specs.Used.{names_used, used_lines, used_lines_of, UsedRecord, used_record}
use Rattle.operations.specs.UsedLaws.{UsedStay, earlier_lines}
use Rattle.words.specs.Bits.{bit}

-- a record, with the word of used qubits, that a call leaves
abbrev pub left_used : UsedRecord → List ℕ → List ℕ → ℕ → UsedRecord
left_used u nb cs used = record { held = left u.held nb cs; used = used }

-- ---- "gates, cz and rewritings copy it"
pub record UsedCopied (u : UsedRecord) (nb' cs' : List ℕ) : Type 0 where
  -- each used vertex has word 0 and the code that it had
  pub stay : UsedStay u (left u.held nb' cs')
  -- and the record left, with the same word, is refused by no line
  pub passes : first_fitting (used_lines (left_used u nb' cs' u.used) false false false) ≡ 0

-- of every accepted gate, CZ and complement; a pivot of a job leaves such a record too
abbrev pub CallsCopy : Type 0
CallsCopy = (u : UsedRecord) (o : Operation) → ((pauli q b : ℕ) → o ≢ measurement_of pauli q b) → (nb' cs' : List ℕ) →
    Call (used_call u o nb' cs') 0 → UsedCopied u nb' cs'

-- ---- "an accepted measurement sets the qubit's bit", determined or not
pub record UsedMarked (u : UsedRecord) (pauli q b : ℕ) (nb' cs' : List ℕ) (used' answer' : ℕ) : Type 0 where
  pub within : q < u.held.n
  pub marked : (t : ℕ) → bit used' t ≡ (bit u.used t || eqb t q)
  -- the measured vertex has no neighbour, and its code is 4 × (Pauli − 1) + 2 × outcome
  pub word : get_or nb' q 0 ≡ 0
  pub code : get_or cs' q 0 ≡ 4 * (pauli - 1) + 2 * answer'
  -- those used before stay
  pub stay : UsedStay u (left u.held nb' cs')
  pub passes : first_fitting (used_lines (left_used u nb' cs' used') false false false) ≡ 0

-- of every accepted measurement
abbrev pub MeasurementsMark : Type 0
MeasurementsMark =
    (u : UsedRecord) (pauli q b answer determined : ℕ) (nb' cs' : List ℕ) (used' answer' determined' : ℕ) →
    Call (used_measure_call u pauli q b answer determined nb' cs' used' answer' determined') 0 →
    UsedMarked u pauli q b nb' cs' used' answer'

-- ---- 16, "the call names a used qubit; checked directly after 8": exactly if no earlier line holds and a named qubit
-- is used. The lines before it are those of 2 to 8
abbrev pub SixteenExactly : UsedRecord → Operation → ℕ → Type 0
SixteenExactly u o r = (r ≡ 16) ↔ ((first_fitting (earlier_lines u o) ≡ 0) × (names_used u o ≡ true))

-- of every gate, CZ and complement
abbrev pub UsedCallsRefused : Type 0
UsedCallsRefused = (u : UsedRecord) (o : Operation) (nb' cs' : List ℕ) (r : ℕ) → Call (used_call u o nb' cs') r →
    SixteenExactly u o r

-- "and a second measurement, are refused": of every measurement
abbrev pub SecondMeasurementsRefused : Type 0
SecondMeasurementsRefused =
    (u : UsedRecord) (pauli q b answer determined : ℕ) (nb' cs' : List ℕ) (used' answer' determined' r : ℕ) →
    Call (used_measure_call u pauli q b answer determined nb' cs' used' answer' determined') r →
    SixteenExactly u (measurement_of pauli q b) r

-- ---- without the used word
-- "Past these checks" the calls are as they were: an accepted call is accepted without the word
abbrev pub AcceptedWithout : Type 0
AcceptedWithout = (u : UsedRecord) (o : Operation) (nb' cs' : List ℕ) → Call (used_call u o nb' cs') 0 →
    Call (in_place_call u.held o nb' cs') 0

-- the same of a measurement
abbrev pub MeasuredWithout : Type 0
MeasuredWithout =
    (u : UsedRecord) (pauli q b answer determined : ℕ) (nb' cs' : List ℕ) (used' answer' determined' : ℕ) →
    Call (used_measure_call u pauli q b answer determined nb' cs' used' answer' determined') 0 →
    Call (measure_call u.held pauli q b answer determined nb' cs' answer' determined') 0

-- and with the word 0 the number of every call is what it was
abbrev pub NumbersWithout : Type 0
NumbersWithout = (l : LentRecord) (o : Operation) →
    first_fitting (used_lines_of (record { held = l; used = 0 }) o) ≡ first_fitting (lines_of l o)

-- ---- "a record made from a list has the word 0", and is refused by no line
pub record MadeUnused (l : GeneratorList) (nb' cs' : List ℕ) (used' : ℕ) : Type 0 where
  pub none : used' ≡ 0
  pub passes : first_fitting (used_lines (used_record l.n nb' cs' used') false false false) ≡ 0

-- of every accepted reduction
abbrev pub ReductionsUnused : Type 0
ReductionsUnused = (l : GeneratorList) (nb cs : List ℕ) (used : ℕ) (nb' cs' : List ℕ) (used' : ℕ) →
    Call (reduce_unused_call l nb cs used nb' cs' used') 0 → MadeUnused l nb' cs' used'
