-- Demand 2, of the public calls on a record lent in place: "Gates, CZ, Pauli measurements .. follow the same
-- definition"; and complements, which keep the group. Each, but for the measurements that are refused, is said
-- of an accepted call: its number is 0, and nb', cs' are what the two buffers hold at exit. The used word is left out
-- where it does not matter: an accepted call with it is accepted without it (UsedDemand).
use Rattle.std.specs.Prelude.{Bool, false, not, true, List, ◌↔◌, ◌⊎◌, ◌≡◌, ℕ}
use Rattle.buffers.specs.Refusals.{first_fitting}
use Rattle.clifford.specs.Clifford.{clifford_of}
use Rattle.clifford.specs.Vectors.{only}
use Rattle.buffers.specs.Calls.{Call}
use Rattle.jobs.specs.Standing.{StillRecord, left}
use Rattle.operations.specs.Cz.{IsCz, cz}
use Rattle.operations.specs.Gates.{gated}
use Rattle.operations.specs.Measurement.{Measured, pauli_letter, single}
use Rattle.operations.specs.Steps.{Operation, complement_of, cz_on, gate_with, measurement_of}
use Rattle.pauli.specs.Pauli.{Pauli}
use Rattle.record.specs.Lent.{LentRecord, code_numbers, held_record, held_rows, neighbour_words}
use Rattle.record.specs.Records.{GraphRecord, SameRecord, complement_record, rows_of}
use Rattle.record.specs.Reduced.{reduced}
use Rattle.stabilizer.specs.Carries.{Carries}
use Rattle.stabilizer.specs.Groups.{InGroup, SameGroup}
use Rattle.calls.specs.InPlace.{in_place_call, measure_call, used_call, used_measure_call}
use Rattle.operations.specs.Used.{UsedRecord, used_arguments_of, used_step}
use Rattle.words.specs.Bits.{is_odd}

-- "All three answer the reduced record of the new group"
pub record IsReduced (l : LentRecord) : Type 0 where
  pub neighbours : l.neighbours ≡ neighbour_words l.n (reduced l.n (held_rows l))
  pub codes : l.codes ≡ code_numbers l.n (reduced l.n (held_rows l))

-- ---- "A gate applies a code after the code already held": so the group is sent through the code at the qubit
pub record GateStands (l : LentRecord) (q k : ℕ) (after : LentRecord) : Type 0 where
  pub still : StillRecord after
  pub answers : IsReduced after
  pub applied : SameGroup l.n l.n (rows_of l.n (gated (held_record l) q (clifford_of k))) (held_rows after)
  pub group : Carries l.n (only q (clifford_of k)) (held_rows l) (held_rows after)

-- of every accepted call
abbrev pub GatesFollow : Type 0
GatesFollow = (l : LentRecord) (q k : ℕ) (nb' cs' : List ℕ) → Call (in_place_call l (gate_with q k) nb' cs') 0 →
    GateStands l q k (left l nb' cs')

-- ---- "CZ on a and b sends X at a to X at a times Z at b, likewise with a and b exchanged, and fixes Z": the new
-- group has exactly the images of the elements of the old one
pub record CzStands (l : LentRecord) (a b : ℕ) (after : LentRecord) : Type 0 where
  pub still : StillRecord after
  pub answers : IsReduced after
  pub is : IsCz l.n a b (cz a b)
  pub group : (p : Pauli) → InGroup l.n l.n (held_rows after) p
      ↔ ((r : Pauli) × InGroup l.n l.n (held_rows l) r × (p ≡ cz a b r))

-- of every accepted call
abbrev pub CzFollows : Type 0
CzFollows = (l : LentRecord) (a b : ℕ) (nb' cs' : List ℕ) → Call (in_place_call l (cz_on a b) nb' cs') 0 →
    CzStands l a b (left l nb' cs')

-- ---- measurements
-- the Pauli measured, with a sign (true means minus)
abbrev pub signed_pauli : ℕ → ℕ → Bool → Pauli
signed_pauli pauli q s = single (pauli_letter pauli) q s

-- what an accepted measurement answers and leaves
pub record MeasurementStands (l : LentRecord) (pauli q b : ℕ) (after : LentRecord) (answer' determined' : ℕ) : Type
    0 where
  pub still : StillRecord after
  pub answers : IsReduced after
  pub either : (determined' ≡ 0) ⊎ (determined' ≡ 1)
  pub outcome : (answer' ≡ 0) ⊎ (answer' ≡ 1)
  -- "If the Pauli or its negative is in the group, the answer says determined"
  pub exactly : (determined' ≡ 1) ↔ (InGroup l.n l.n (held_rows l) (signed_pauli pauli q false)
      ⊎ InGroup l.n l.n (held_rows l) (signed_pauli pauli q true))
  -- ".. gives the sign as outcome .. and keeps the group"; the bit is no longer ignored (02, §4): it is that sign
  pub sign : determined' ≡ 1 → InGroup l.n l.n (held_rows l) (signed_pauli pauli q (is_odd answer'))
  pub agrees : determined' ≡ 1 → b ≡ answer'
  pub kept : determined' ≡ 1 → SameGroup l.n l.n (held_rows l) (held_rows after)
  -- "Otherwise the outcome is the bit", and the group "the elements that commute with the Pauli, joined by the
  -- Pauli with that sign"
  pub bit : determined' ≡ 0 → answer' ≡ b
  pub joined : determined' ≡ 0 → (p : Pauli) → InGroup l.n l.n (held_rows after) p
      ↔ Measured l.n (held_rows l) (signed_pauli pauli q (is_odd b)) p

-- of every accepted call
abbrev pub MeasurementsFollow : Type 0
MeasurementsFollow =
    (l : LentRecord) (pauli q b answer determined : ℕ) (nb' cs' : List ℕ) (answer' determined' : ℕ) →
    Call (measure_call l pauli q b answer determined nb' cs' answer' determined') 0 →
    MeasurementStands l pauli q b (left l nb' cs') answer' determined'

-- ---- contradicted outcomes: "where bit and sign differ, the call is refused and the record kept" (02, §4)
pub record OutcomeContradicted (u : UsedRecord) (pauli q b answer determined r : ℕ) (nb' cs' : List ℕ)
    (used' answer' determined' : ℕ) : Type 0 where
  -- 14 comes back exactly if no earlier line holds and the Pauli with the sign that the bit does not have is in the
  -- group
  pub exactly : (r ≡ 14) ↔ ((first_fitting (used_arguments_of u (measurement_of pauli q b)) ≡ 0)
      × InGroup u.held.n u.held.n (held_rows u.held) (signed_pauli pauli q (not (is_odd b))))
  -- and nothing is written
  pub record-kept : r ≡ 14 → (left u.held nb' cs' ≡ u.held) × (used' ≡ u.used)
  pub answers-kept : r ≡ 14 → (answer' ≡ answer) × (determined' ≡ determined)

-- of every call, with any number
abbrev pub ContradictionsRefused : Type 0
ContradictionsRefused =
    (u : UsedRecord) (pauli q b answer determined r : ℕ) (nb' cs' : List ℕ) (used' answer' determined' : ℕ) →
    Call (used_measure_call u pauli q b answer determined nb' cs' used' answer' determined') r →
    OutcomeContradicted u pauli q b answer determined r nb' cs' used' answer' determined'

-- ---- "As a rewriting of a record it keeps the group, and the answer is the record so rewritten, not reduced"
pub record RewrittenAs (l after : LentRecord) (new : GraphRecord) : Type 0 where
  pub still : StillRecord after
  pub holds : SameRecord (held_record after) new
  pub group : SameGroup l.n l.n (held_rows l) (held_rows after)

-- of every accepted complement
abbrev pub ComplementsKeep : Type 0
ComplementsKeep = (l : LentRecord) (a : ℕ) (nb' cs' : List ℕ) → Call (in_place_call l (complement_of a) nb' cs') 0 →
    RewrittenAs l (left l nb' cs') (complement_record (held_record l) a)

-- ---- two calls, refused or not: the second is about what the first left
abbrev pub SecondAboutFirst : Type 0
SecondAboutFirst =
    (u : UsedRecord) (o₁ o₂ : Operation) (r₁ r₂ : ℕ) (nb₁ cs₁ nb₂ cs₂ : List ℕ) →
    Call (used_call u o₁ nb₁ cs₁) r₁ →
    Call (used_call (record { held = left u.held nb₁ cs₁; used = (used_step u o₁).after.used }) o₂ nb₂ cs₂) r₂ →
    left u.held nb₂ cs₂ ≡ (used_step (used_step u o₁).after o₂).after.held

-- of two measurements: the first leaves the used word too, and the second sets its bit there
abbrev pub SecondAboutMeasured : Type 0
SecondAboutMeasured =
    (u : UsedRecord) (pauli₁ q₁ b₁ answer₁ determined₁ r₁ pauli₂ q₂ b₂ answer₂ determined₂ r₂ : ℕ)
    (nb₁ cs₁ nb₂ cs₂ : List ℕ) (used₁ answer₁' determined₁' used₂ answer₂' determined₂' : ℕ) →
    Call (used_measure_call u pauli₁ q₁ b₁ answer₁ determined₁ nb₁ cs₁ used₁ answer₁' determined₁') r₁ →
    Call (used_measure_call (record { held = left u.held nb₁ cs₁; used = used₁ })
    pauli₂ q₂ b₂ answer₂ determined₂ nb₂ cs₂ used₂ answer₂' determined₂') r₂ →
    record { held = left u.held nb₂ cs₂; used = used₂ }
    ≡ (used_step (used_step u (measurement_of pauli₁ q₁ b₁)).after (measurement_of pauli₂ q₂ b₂)).after
