-- The calls on records: demand 1, which arguments they accept, and the records that all of them take.
use Rattle.std.specs.Prelude.{false, not, List, ◌↔◌, ◌≢◌, ◌⊎◌, ◌≡◌, ◌<◌, ◌^◌, ℕ, ◌≤◌, length}
use Rattle.buffers.specs.Refusals.{first_fitting}
use Rattle.calls.specs.Amplitudes.{amplitude_call}
use Rattle.calls.specs.Cuts.{cut_call}
use Rattle.calls.specs.Expansions.{expand_call, expand_lines}
use Rattle.calls.specs.Expectations.{expectation_call}
use Rattle.calls.specs.InPlace.{used_call, used_measure_call}
use Rattle.calls.specs.Images.{image_call}
use Rattle.calls.specs.Stores.{save_call}
use Rattle.buffers.specs.Calls.{Call}
use Rattle.image.specs.Image.{image_lines, UnsignedGraph}
use Rattle.operations.specs.Steps.{complement_of, cz_on, gate_with, Operation}
use Rattle.record.specs.Accepted.{AcceptedRecord}
use Rattle.record.specs.Lent.{held_rows, LentRecord}
use Rattle.stabilizer.specs.Groups.{InGroup}
use Rattle.store.specs.Places.{Store, others_held}
use Rattle.operations.specs.Used.{UsedRecord}
use Rattle.words.specs.Bits.{is_odd}
use Rattle.claims.specs.Arguments.{Free, IsRecord}
use Rattle.claims.specs.Conforming.{Conforms}
use Rattle.claims.specs.OperationsDemand.{signed_pauli}
use Rattle.claims.specs.families.Stores.{IsStore}

-- demand 1 of each call: its lines stand in the published order, and its answers fill their buffers
pub record RecordsConform : Type 0 where
  pub expand : (u : UsedRecord) (s z x s' z' x' : List ℕ) → Conforms (expand_call u s z x s' z' x')
  pub in_place : (u : UsedRecord) (o : Operation) (nb' cs' : List ℕ) → Conforms (used_call u o nb' cs')
  pub measurements : (u : UsedRecord) (pauli q b answer determined : ℕ) (nb' cs' : List ℕ)
      (used' answer' determined' : ℕ) →
      Conforms (used_measure_call u pauli q b answer determined nb' cs' used' answer' determined')
  pub images : (l : LentRecord) (g s v : List ℕ) (count : ℕ) (g' s' v' : List ℕ) (count' : ℕ) →
      Conforms (image_call l g s v count g' s' v' count')
  pub cuts : (u : UsedRecord) (side rank rank' : ℕ) → Conforms (cut_call u side rank rank')

-- what a buffer lent only for the answer holds makes no line true
pub record RecordBuffersUnread : Type 0 where
  pub expand : (u : UsedRecord) (s z x s₂ z₂ x₂ : List ℕ) → length s ≡ length s₂ → length z ≡ length z₂ →
      length x ≡ length x₂ → first_fitting (expand_lines u s z x) ≡ first_fitting (expand_lines u s₂ z₂ x₂)
  pub images : (l : LentRecord) (g s v g₂ s₂ v₂ : List ℕ) → length g ≡ length g₂ → length s ≡ length s₂ →
      length v ≡ length v₂ → first_fitting (image_lines l g s v) ≡ first_fitting (image_lines l g₂ s₂ v₂)

-- a record, and three buffers with n places
abbrev pub ExpandFits : UsedRecord → List ℕ → List ℕ → List ℕ → Type 0
ExpandFits u s z x = IsRecord u × (length s ≡ u.held.n) × (length z ≡ u.held.n) × (length x ≡ u.held.n)

-- a record, a qubit and a code
abbrev pub GateFits : UsedRecord → ℕ → ℕ → Type 0
GateFits u q k = IsRecord u × Free u q × (k < 24)

-- a record and two qubits
abbrev pub CzFits : UsedRecord → ℕ → ℕ → Type 0
CzFits u a b = IsRecord u × Free u a × Free u b × (a ≢ b)

-- a Pauli from 1 to 3, a qubit and a bit that the group does not contradict (02, §4)
pub record MeasureFits (u : UsedRecord) (pauli q b : ℕ) : Type 0 where
  pub held : IsRecord u
  pub positive : 1 ≤ pauli
  pub upto : pauli ≤ 3
  pub qubit : Free u q
  pub bit : b < 2
  pub possible : InGroup u.held.n u.held.n (held_rows u.held) (signed_pauli pauli q (not (is_odd b))) → ⊥

-- a record and a vertex
abbrev pub ComplementFits : UsedRecord → ℕ → Type 0
ComplementFits u a = IsRecord u × Free u a

-- "the image group, signs dropped, must be that of a simple graph"
pub record ImageFits (l : LentRecord) (image signs list : List ℕ) : Type 0 where
  pub held : AcceptedRecord l
  pub image-places : length image ≡ l.n
  pub signs-places : length signs ≡ l.n
  pub list-places : length list ≡ 96
  pub is-graph : UnsignedGraph l.n (held_rows l)

-- the side may mark used qubits
abbrev pub CutFits : UsedRecord → ℕ → Type 0
CutFits u side = IsRecord u × (side < 2 ^ u.held.n)

-- of each call: it is accepted exactly if its arguments fit
pub record RecordsAccepted : Type 0 where
  pub expand : (u : UsedRecord) (s z x s' z' x' : List ℕ) (r : ℕ) → Call (expand_call u s z x s' z' x') r →
      (r ≡ 0) ↔ ExpandFits u s z x
  pub gate : (u : UsedRecord) (q k : ℕ) (nb' cs' : List ℕ) (r : ℕ) → Call (used_call u (gate_with q k) nb' cs') r →
      (r ≡ 0) ↔ GateFits u q k
  pub cz : (u : UsedRecord) (a b : ℕ) (nb' cs' : List ℕ) (r : ℕ) → Call (used_call u (cz_on a b) nb' cs') r →
      (r ≡ 0) ↔ CzFits u a b
  pub measure : (u : UsedRecord) (pauli q b answer determined : ℕ) (nb' cs' : List ℕ)
      (used' answer' determined' r : ℕ) →
      Call (used_measure_call u pauli q b answer determined nb' cs' used' answer' determined') r →
      (r ≡ 0) ↔ MeasureFits u pauli q b
  pub complement : (u : UsedRecord) (a : ℕ) (nb' cs' : List ℕ) (r : ℕ) →
      Call (used_call u (complement_of a) nb' cs') r → (r ≡ 0) ↔ ComplementFits u a
  pub image : (l : LentRecord) (image signs list : List ℕ) (count : ℕ) (image' signs' list' : List ℕ) (count' r : ℕ) →
      Call (image_call l image signs list count image' signs' list' count') r → (r ≡ 0) ↔ ImageFits l image signs list
  pub cut : (u : UsedRecord) (side rank rank' r : ℕ) → Call (cut_call u side rank rank') r → (r ≡ 0) ↔ CutFits u side

-- a record that every call on records takes, where the other arguments are in order; a measurement may be refused
-- by 14, an image, which takes no used word, by 11 or 12
pub record TakenByAll (u : UsedRecord) : Type 0 where
  pub expand : (s z x s' z' x' : List ℕ) (r : ℕ) → Call (expand_call u s z x s' z' x') r → length s ≡ u.held.n →
      length z ≡ u.held.n → length x ≡ u.held.n → r ≡ 0
  pub gate : (q k : ℕ) (nb' cs' : List ℕ) (r : ℕ) → Call (used_call u (gate_with q k) nb' cs') r → Free u q →
      k < 24 → r ≡ 0
  pub cz : (a b : ℕ) (nb' cs' : List ℕ) (r : ℕ) → Call (used_call u (cz_on a b) nb' cs') r → Free u a → Free u b →
      a ≢ b → r ≡ 0
  pub measure : (pauli q b answer determined : ℕ) (nb' cs' : List ℕ) (used' answer' determined' r : ℕ) →
      Call (used_measure_call u pauli q b answer determined nb' cs' used' answer' determined') r → 1 ≤ pauli →
      pauli ≤ 3 → Free u q → b < 2 → (r ≡ 0) ⊎ (r ≡ 14)
  pub complement : (a : ℕ) (nb' cs' : List ℕ) (r : ℕ) → Call (used_call u (complement_of a) nb' cs') r → Free u a →
      r ≡ 0
  pub image : (image signs list : List ℕ) (count : ℕ) (image' signs' list' : List ℕ) (count' r : ℕ) →
      Call (image_call u.held image signs list count image' signs' list' count') r → length image ≡ u.held.n →
      length signs ≡ u.held.n → length list ≡ 96 → (r ≡ 0) ⊎ ((r ≡ 11) ⊎ (r ≡ 12))
  pub cut : (side rank rank' r : ℕ) → Call (cut_call u side rank rank') r → side < 2 ^ u.held.n → r ≡ 0
  pub amplitude : (y re im p re' im' p' r : ℕ) → Call (amplitude_call u y re im p re' im' p') r →
      y < 2 ^ u.held.n → r ≡ 0
  pub expectation : (z x value value' r : ℕ) → Call (expectation_call u z x value value') r → z < 2 ^ u.held.n →
      x < 2 ^ u.held.n → r ≡ 0
  pub save : (name : ℕ) (st : Store) (heads' nb' cs' : List ℕ) (r : ℕ) → Call (save_call u name st heads' nb' cs') r →
      IsStore st → others_held 8 st.heads name ≡ false → r ≡ 0
