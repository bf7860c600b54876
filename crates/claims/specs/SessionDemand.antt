-- The request on faster sessions, of the public calls: "For every record the answer equals the one from expanding,
-- changing the list and reducing" (02, §7): of an accepted call, whose number is 0, what the two buffers nb', cs' hold
-- at exit; and of every call its number. "§7's equality is of graph and codes" (02, §8): the record is expanded with
-- its used word, and reducing answers the word 0.
use Rattle.std.specs.Prelude.{◌++◌, List, [], ◌∷◌, ◌≢◌, ◌≡◌, ◌<◌, ℕ, ◌≤◌, length}
use Rattle.buffers.specs.Refusals.{first_fitting, line}
use Rattle.clifford.specs.Clifford.{clifford_of}
use Rattle.clifford.specs.Vectors.{act, only}
use Rattle.buffers.specs.Calls.{Call}
use Rattle.calls.specs.Expansions.{expand_call, expand_lines}
use Rattle.calls.specs.Lists.{reduce_lines, reduce_unused_call}
use Rattle.operations.specs.Cz.{cz}
use Rattle.operations.specs.Measurement.{
  measured_outcome,
  contradicts,
  determined_number,
  measured_rows,
  outcome_number,
  pauli_letter,
}
use Rattle.operations.specs.Steps.{cz_on, gate_with}
use Rattle.pauli.specs.Pauli.{Pauli}
use Rattle.calls.specs.InPlace.{used_call, used_measure_call}
use Rattle.stabilizer.specs.Groups.{SameGroup}
use Rattle.stabilizer.specs.Lists.{GeneratorList, list_of, rows}
use Rattle.operations.specs.Used.{UsedRecord}
use Rattle.words.specs.Bits.{is_odd}
use Rattle.claims.specs.Arguments.{Free}

-- ---- changing a list: what each operation makes of the generators R
abbrev pub Change : Type 0
Change = (ℕ → Pauli) → ℕ → Pauli

-- "A gate applies a code": each generator is sent through it at qubit q
abbrev pub gate_change : ℕ → ℕ → ℕ → Change
gate_change n q k R j = act n (only q (clifford_of k)) (R j)

-- "CZ on a and b sends X at a to X at a times Z at b, likewise with a and b exchanged, and fixes Z": each generator is
-- sent so
abbrev pub cz_change : ℕ → ℕ → Change
cz_change a b R j = cz a b (R j)

-- "If the Pauli or its negative is in the group", the list stays. Otherwise the first generator that does not commute
-- with the Pauli goes into the others that do not, and the Pauli, with the sign of the bit, takes its place
abbrev pub measure_change : ℕ → ℕ → ℕ → ℕ → Change
measure_change n pauli q b R = measured_rows n R (pauli_letter pauli) q (is_odd b)

-- the changed list, in three buffers again
abbrev pub changed : Change → GeneratorList → GeneratorList
changed f m = list_of m.n (f (rows m))

-- ---- "the one from expanding, changing the list and reducing"
-- the list in three buffers
abbrev pub list_in : ℕ → List ℕ → List ℕ → List ℕ → GeneratorList
list_in n s z x = record { n = n; signs = s; z = z; x = x }

-- what the list m, changed and reduced, leaves is nb', cs'
pub record ReducesTo (m : GeneratorList) (f : (ℕ → Pauli) → ℕ → Pauli) (nb' cs' : List ℕ) : Type 0 where
  -- the changed list holds the changed generators, one after the other, and no line refuses to reduce it into two
  -- buffers with n places
  pub generators : (j : ℕ) → j < m.n → rows (changed f m) j ≡ f (rows m) j
  pub accepted : (nb cs : List ℕ) → length nb ≡ m.n → length cs ≡ m.n →
      first_fitting (reduce_lines (changed f m) nb cs) ≡ 0
  -- reducing it leaves nb', cs' there
  pub equal : (nb cs nb₂ cs₂ : List ℕ) (used used₂ : ℕ) →
      Call (reduce_unused_call (changed f m) nb cs used nb₂ cs₂ used₂) 0 → (nb₂ ≡ nb') × (cs₂ ≡ cs')
  -- and so does every other accepted list of that group, however it was made
  pub equal-all : (s z x nb cs nb₂ cs₂ : List ℕ) (used used₂ : ℕ) →
      SameGroup m.n m.n (f (rows m)) (rows (list_in m.n s z x)) →
      Call (reduce_unused_call (list_in m.n s z x) nb cs used nb₂ cs₂ used₂) 0 → (nb₂ ≡ nb') × (cs₂ ≡ cs')

-- the answer nb', cs' of a call "equals the one from expanding, changing the list and reducing"
pub record ByExpanding (u : UsedRecord) (f : (ℕ → Pauli) → ℕ → Pauli) (nb' cs' : List ℕ) : Type 0 where
  -- no line refuses to expand the record into three buffers with n places
  pub accepted : (s z x : List ℕ) → length s ≡ u.held.n → length z ≡ u.held.n → length x ≡ u.held.n →
      first_fitting (expand_lines u s z x) ≡ 0
  -- and what they then hold, changed and reduced, leaves nb', cs'
  pub equal : (s z x s' z' x' : List ℕ) → Call (expand_call u s z x s' z' x') 0 →
      ReducesTo (list_in u.held.n s' z' x') f nb' cs'

-- ---- of each call
abbrev pub GatesByExpanding : Type 0
GatesByExpanding = (u : UsedRecord) (q k : ℕ) (nb' cs' : List ℕ) → Call (used_call u (gate_with q k) nb' cs') 0 →
    ByExpanding u (gate_change u.held.n q k) nb' cs'

-- of every accepted CZ
abbrev pub CzByExpanding : Type 0
CzByExpanding = (u : UsedRecord) (a b : ℕ) (nb' cs' : List ℕ) → Call (used_call u (cz_on a b) nb' cs') 0 →
    ByExpanding u (cz_change a b) nb' cs'

-- a measurement: besides, its two further numbers are those that the list gives
pub record MeasuredByExpanding (u : UsedRecord) (pauli q b : ℕ) (nb' cs' : List ℕ) (answer' determined' : ℕ) : Type
    0 where
  pub left : ByExpanding u (measure_change u.held.n pauli q b) nb' cs'
  pub outcome : (s z x s' z' x' : List ℕ) → Call (expand_call u s z x s' z' x') 0 → answer' ≡ outcome_number
      (measured_outcome u.held.n (rows (list_in u.held.n s' z' x')) (pauli_letter pauli) q (is_odd b))
  pub determined : (s z x s' z' x' : List ℕ) → Call (expand_call u s z x s' z' x') 0 → determined' ≡ determined_number
      (measured_outcome u.held.n (rows (list_in u.held.n s' z' x')) (pauli_letter pauli) q (is_odd b))

-- of every accepted measurement
abbrev pub MeasurementsByExpanding : Type 0
MeasurementsByExpanding =
    (u : UsedRecord) (pauli q b answer determined : ℕ) (nb' cs' : List ℕ) (used' answer' determined' : ℕ) →
    Call (used_measure_call u pauli q b answer determined nb' cs' used' answer' determined') 0 →
    MeasuredByExpanding u pauli q b nb' cs' answer' determined'

-- ---- the number of a call whose arguments are in order: that of expanding the record into three buffers with n places
pub record NumberByExpanding (u : UsedRecord) (r : ℕ) : Type 0 where
  pub equal : (s z x s' z' x' : List ℕ) (e : ℕ) → length s ≡ u.held.n → length z ≡ u.held.n →
      length x ≡ u.held.n → Call (expand_call u s z x s' z' x') e → r ≡ e

-- of every gate with a code on a qubit
abbrev pub GateNumbersByExpanding : Type 0
GateNumbersByExpanding =
    (u : UsedRecord) (q k r : ℕ) (nb' cs' : List ℕ) → Free u q → k < 24 →
    Call (used_call u (gate_with q k) nb' cs') r → NumberByExpanding u r

-- of every CZ on two qubits
abbrev pub CzNumbersByExpanding : Type 0
CzNumbersByExpanding =
    (u : UsedRecord) (a b r : ℕ) (nb' cs' : List ℕ) → Free u a → Free u b → a ≢ b →
    Call (used_call u (cz_on a b) nb' cs') r → NumberByExpanding u r

-- of a measurement, where expanding is accepted: 14 where the list's outcome contradicts the bit
pub record MeasureNumberByExpanding (u : UsedRecord) (pauli q b r : ℕ) : Type 0 where
  pub equal : (s z x s' z' x' : List ℕ) (e : ℕ) → length s ≡ u.held.n → length z ≡ u.held.n →
      length x ≡ u.held.n → Call (expand_call u s z x s' z' x') e → r ≡ first_fitting (expand_lines u s z x
      ++ (line 14 (contradicts u.held.n (rows (list_in u.held.n s' z' x')) (pauli_letter pauli) q (is_odd b)) ∷
      []))

-- of every measurement of a Pauli on a qubit, with a bit
abbrev pub MeasureNumbersByExpanding : Type 0
MeasureNumbersByExpanding =
    (u : UsedRecord) (pauli q b answer determined r : ℕ) (nb' cs' : List ℕ) (used' answer' determined' : ℕ) →
    1 ≤ pauli → pauli ≤ 3 → Free u q → b < 2 →
    Call (used_measure_call u pauli q b answer determined nb' cs' used' answer' determined') r →
    MeasureNumberByExpanding u pauli q b r
