-- Of the value of a Pauli row: "the answer is 0 where the row is in the group, 1 where its negative is, 2 where neither
-- is", and what gates, CZ, measurements and rewritings do to it. Each is said of accepted calls, on any record, reduced
-- or not: a call's number is 0, and a name with a prime is what is held at exit.
use Rattle.std.specs.Prelude.{Bool, cond, false, not, true, List, ◌↔◌, ◌⊎◌, ◌≡◌, ◌^◌, ℕ}
use Rattle.calls.specs.Expectations.{expectation_call}
use Rattle.calls.specs.InPlace.{in_place_call, used_measure_call}
use Rattle.calls.specs.Lists.{reduce_unused_call}
use Rattle.clifford.specs.Clifford.{clifford_of}
use Rattle.clifford.specs.Vectors.{act, only}
use Rattle.buffers.specs.Calls.{Call, Contract}
use Rattle.expectation.specs.Values.{exchanged, stabilizer_value}
use Rattle.jobs.specs.Asked.{number_of}
use Rattle.jobs.specs.Runs.{after_step}
use Rattle.jobs.specs.Standing.{left}
use Rattle.operations.specs.Cz.{cz}
use Rattle.operations.specs.Measurement.{pauli_letter}
use Rattle.operations.specs.Steps.{complement_of, cz_on, gate_with}
use Rattle.pauli.specs.Pauli.{Pauli, anticommute, imaginary, signed_row, x_bit, z_bit}
use Rattle.record.specs.Lent.{held_rows, LentRecord, lent_record}
use Rattle.stabilizer.specs.Groups.{InGroup, Within}
use Rattle.stabilizer.specs.Lists.{GeneratorList, rows}
use Rattle.operations.specs.Used.{UsedRecord}
use Rattle.words.specs.Bits.{digit, is_odd}
use Rattle.claims.specs.PivotSteps.{pivot_step}

-- the value of a row on the record that two buffers hold
abbrev pub value_on : LentRecord → Pauli → ℕ
value_on l p = stabilizer_value l.n (held_rows l) p

-- some element of the group does not commute with the row
abbrev pub SomeAnticommutes : LentRecord → Pauli → Type 0
SomeAnticommutes l p = (r : Pauli) × (InGroup l.n l.n (held_rows l) r × (anticommute l.n r p ≡ true))

-- what an accepted call answers: exactly one of three, by membership
pub record ExpectationAnswer (l : LentRecord) (z x value' : ℕ) : Type 0 where
  pub value : value' ≡ value_on l (signed_row false z x)
  pub one_of : (value' ≡ 0) ⊎ ((value' ≡ 1) ⊎ (value' ≡ 2))
  pub plus : (value' ≡ 0) ↔ InGroup l.n l.n (held_rows l) (signed_row false z x)
  pub minus : (value' ≡ 1) ↔ InGroup l.n l.n (held_rows l) (signed_row true z x)
  pub neither : (value' ≡ 2) ↔ ((InGroup l.n l.n (held_rows l) (signed_row false z x) → ⊥)
      × (InGroup l.n l.n (held_rows l) (signed_row true z x) → ⊥))
  -- "2 exactly if some element of the group anticommutes with the row"
  pub anticommutes : (value' ≡ 2) ↔ SomeAnticommutes l (signed_row false z x)
  -- the row with a minus sign has the other value
  pub negative : value_on l (signed_row true z x) ≡ exchanged value'

-- of every accepted call
abbrev pub ExpectationsAnswer : Type 0
ExpectationsAnswer = (u : UsedRecord) (z x value value' : ℕ) → Call (expectation_call u z x value value') 0 →
    ExpectationAnswer u.held z x value'

-- ---- "for a single letter it agrees with what a measurement calls determined and with its sign"
-- the word with one bit of a letter at qubit q
abbrev pub letter_word : Bool → ℕ → ℕ
letter_word b q = cond b (2 ^ q) 0

-- the call on a single letter
abbrev pub letter_call : UsedRecord → ℕ → ℕ → ℕ → ℕ → Contract
letter_call u pauli q value value' =
    expectation_call u (letter_word (z_bit (pauli_letter pauli)) q) (letter_word (x_bit (pauli_letter pauli)) q) value value'

-- determined where the value is 0 or 1, and then the outcome is the value
pub record MeasurementAgrees (value' answer' determined' : ℕ) : Type 0 where
  pub determined : (determined' ≡ 1) ↔ ((value' ≡ 0) ⊎ (value' ≡ 1))
  pub sign : determined' ≡ 1 → value' ≡ answer'

-- of every accepted measurement, and the call on its letter before it
abbrev pub MeasurementsAgree : Type 0
MeasurementsAgree =
    (u : UsedRecord) (pauli q b answer determined : ℕ) (nb' cs' : List ℕ) (used' answer' determined' value value' : ℕ) →
    Call (letter_call u pauli q value value') 0 →
    Call (used_measure_call u pauli q b answer determined nb' cs' used' answer' determined') 0 →
    MeasurementAgrees value' answer' determined'

-- 14, "a determined outcome contradicts the supplied bit": the value is the sign that the bit does not have
abbrev pub ContradictionsAgree : Type 0
ContradictionsAgree =
    (u : UsedRecord) (pauli q b answer determined : ℕ) (nb' cs' : List ℕ) (used' answer' determined' value value' : ℕ) →
    Call (letter_call u pauli q value value') 0 →
    Call (used_measure_call u pauli q b answer determined nb' cs' used' answer' determined') 14 →
    value' ≡ digit (not (is_odd b))

-- ---- "a gate, CZ, complement or reduction of the record changes the answer as it changes the row"
-- a row of n qubits, with a sign
pub record RowOn (n : ℕ) (p : Pauli) : Type 0 where
  pub signed : imaginary p.phase ≡ false
  pub within : Within n p

-- a gate sends the row through its code
abbrev pub GatesCarryValues : Type 0
GatesCarryValues = (l : LentRecord) (q k : ℕ) (nb' cs' : List ℕ) → Call (in_place_call l (gate_with q k) nb' cs') 0 →
    (p : Pauli) → RowOn l.n p → value_on (left l nb' cs') (act l.n (only q (clifford_of k)) p) ≡ value_on l p

-- CZ sends it through CZ
abbrev pub CzCarriesValues : Type 0
CzCarriesValues = (l : LentRecord) (a b : ℕ) (nb' cs' : List ℕ) → Call (in_place_call l (cz_on a b) nb' cs') 0 →
    (p : Pauli) → RowOn l.n p → value_on (left l nb' cs') (cz a b p) ≡ value_on l p

-- a complement changes neither
abbrev pub ComplementsKeepValues : Type 0
ComplementsKeepValues = (l : LentRecord) (a : ℕ) (nb' cs' : List ℕ) → Call (in_place_call l (complement_of a) nb' cs') 0 →
    (p : Pauli) → RowOn l.n p → value_on (left l nb' cs') p ≡ value_on l p

-- nor does a pivot of a job
abbrev pub PivotsKeepValues : Type 0
PivotsKeepValues = (u : UsedRecord) (a b value : ℕ) → number_of u (pivot_step a b value) ≡ 0 →
    (p : Pauli) → RowOn u.held.n p →
    value_on (after_step u (pivot_step a b value)).held p ≡ value_on u.held p

-- nor does the reduction of a list: the value is that of the list's group
abbrev pub ReductionsKeepValues : Type 0
ReductionsKeepValues = (l : GeneratorList) (nb cs : List ℕ) (used : ℕ) (nb' cs' : List ℕ) (used' : ℕ) →
    Call (reduce_unused_call l nb cs used nb' cs' used') 0 → (p : Pauli) → RowOn l.n p →
    value_on (lent_record l.n nb' cs') p ≡ stabilizer_value l.n (rows l) p
