-- The group after the steps of a run, as the definitions give it on groups. A group is given by its elements; the
-- record beside it tells n, the edges by which a pivot is refused, and the used qubits.
use Rattle.std.specs.Prelude.{Bool, false, not, true, List, [], ◌∷◌, ◌⊎◌, ◌≡◌, ℕ}
use Rattle.buffers.specs.Refusals.{Refusal, first_fitting, with_test}
use Rattle.clifford.specs.Clifford.{clifford_of}
use Rattle.clifford.specs.Vectors.{act, only}
use Rattle.operations.specs.Cz.{cz, z_at}
use Rattle.operations.specs.Measurement.{pauli_letter, single}
use Rattle.operations.specs.Steps.{Operation, complement_of, cz_on, gate_with, measurement_of, pivot_of}
use Rattle.pauli.specs.Pauli.{Pauli, anticommute, mul}
use Rattle.pauli.specs.declared.Letter.{Letter}
use Rattle.stabilizer.specs.Groups.{InGroup}
use Rattle.operations.specs.Used.{UsedRecord, used_arguments_of}
use Rattle.source.specs.Renewal.{Renewed, photon, renew_lines}
use Rattle.words.specs.Bits.{is_odd}
use Rattle.jobs.specs.Asked.{Request, asked, carry_out, observation_of, renewal_of, unused_set}
use Rattle.jobs.specs.Runs.{after_step}
use Rattle.jobs.specs.declared.Step.{Step}

-- a group, by its elements
abbrev pub Group : Type 1
Group = Pauli → Type 0

-- "All qubits start in +Z": all products of Z at single qubits
abbrev pub StartGroup : ℕ → Group
StartGroup n = InGroup n n z_at

-- ---- what an accepted operation makes of a group
-- the images of its elements under a map
abbrev pub Sent : (Pauli → Pauli) → Group → Group
Sent f G p = (r : Pauli) × G r × (p ≡ f r)

-- "the Pauli or its negative is in the group"
abbrev pub GroupDetermines : Group → Letter → ℕ → Type 0
GroupDetermines G l q = G (single l q false) ⊎ G (single l q true)

-- the group after a measurement with the outcome b (true means minus)
pub data AfterMeasurement (n : ℕ) (G : Pauli → Type 0) (l : Letter) (q : ℕ) (b : Bool) : Pauli → Type 0 where
  -- "the answer says determined .. and keeps the group"
  same : {p : Pauli} → GroupDetermines G l q → G p → AfterMeasurement n G l q b p
  -- otherwise "the elements that commute with the Pauli, joined by the Pauli with that sign"
  kept : {p : Pauli} → (GroupDetermines G l q → ⊥) → G p → anticommute n p (single l q b) ≡ false →
      AfterMeasurement n G l q b p
  joined : {p : Pauli} → (GroupDetermines G l q → ⊥) → G p → anticommute n p (single l q b) ≡ false →
      AfterMeasurement n G l q b (mul n p (single l q b))

-- "A gate applies a code"; "CZ on a and b"; complements and pivots keep the group
abbrev pub AfterOperation : ℕ → Group → Operation → Group
AfterOperation n G (gate_with q k) = Sent (act n (only q (clifford_of k))) G
AfterOperation n G (cz_on a b) = Sent (cz a b) G
AfterOperation n G (measurement_of pauli q b) = AfterMeasurement n G (pauli_letter pauli) q (is_odd b)
AfterOperation n G (complement_of a) = G
AfterOperation n G (pivot_of j k) = G

-- what an accepted step asks: the bit of an observation plays no part where the group determines the outcome; a renewal
-- keeps
-- "the elements with I at the qubit, joined by that Pauli with its sign"
abbrev pub AfterRequest : ℕ → Group → Request → Group
AfterRequest n G (carry_out o) = AfterOperation n G o
AfterRequest n G (observation_of pauli q b) = AfterMeasurement n G (pauli_letter pauli) q (is_odd b)
AfterRequest n G (renewal_of q k) = Renewed n G q (photon q k)

-- ---- which steps are refused
-- "a determined outcome contradicts the supplied bit": the Pauli with the other sign is in the group
abbrev pub IsContradicted : Group → Operation → Type 0
IsContradicted G (gate_with q k) = ⊥
IsContradicted G (cz_on a b) = ⊥
IsContradicted G (measurement_of pauli q b) = G (single (pauli_letter pauli) q (not (is_odd b)))
IsContradicted G (complement_of a) = ⊥
IsContradicted G (pivot_of j k) = ⊥

-- no observation is refused by the group, and no renewal
abbrev pub RequestContradicted : Group → Request → Type 0
RequestContradicted G (carry_out o) = IsContradicted G o
RequestContradicted G (observation_of pauli q b) = ⊥
RequestContradicted G (renewal_of q k) = ⊥

-- the lines of what a step asks that do not read the group
abbrev pub request_arguments : UsedRecord → Request → List Refusal
request_arguments u (carry_out o) = used_arguments_of u o
request_arguments u (observation_of pauli q b) = used_arguments_of u (measurement_of pauli q b)
request_arguments u (renewal_of q k) = renew_lines u q k

-- a step is refused: by its fields and the used qubits, which give 6, 8, 16 or 20, or by the group, which gives 14
pub data Refused (u : UsedRecord) (G : Pauli → Type 0) (s : Step) : Type 0 where
  -- 6, 8, 16 and 20
  by-fields : (first_fitting (with_test 6 (unused_set s.op s.b s.value) (request_arguments u (asked s))) ≡ 0 → ⊥) →
      Refused u G s
  -- 14
  by-group : RequestContradicted G (asked s) → Refused u G s

-- ---- the group after a step, "refused steps counting as no change"
pub data GroupAfterStep (u : UsedRecord) (G : Pauli → Type 0) (s : Step) : Pauli → Type 0 where
  not-run : {p : Pauli} → Refused u G s → G p → GroupAfterStep u G s p
  changed : {p : Pauli} → (Refused u G s → ⊥) → AfterRequest u.held.n G (asked s) p → GroupAfterStep u G s p

-- and after one step after the other
abbrev pub GroupAfter : UsedRecord → Group → List Step → Group
GroupAfter u G [] = G
GroupAfter u G (s ∷ rest) = GroupAfter (after_step u s) (GroupAfterStep u G s) rest
