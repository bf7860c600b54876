-- The actions of a session_of are the exported calls: what the contract of each says is the action (02, §5, §12).
use Rattle.std.specs.Prelude.{List, ◌≡◌, ◌%◌, ◌+◌, ◌/◌, ℕ, length, take}
use Rattle.calls.specs.InPlace.{used_call, used_measure_call}
use Rattle.calls.specs.Sources.{observe_call, renew_call}
use Rattle.calls.specs.Stores.{forget_call, return_call, save_call}
use Rattle.buffers.specs.Calls.{Call}
use Rattle.jobs.specs.declared.Op.{Op}
use Rattle.jobs.specs.declared.Op.TheVariants.{Complement, Cz, Gate, Measure, Observe, Renew}
use Rattle.jobs.specs.declared.Step.{Step}
use Rattle.operations.specs.Steps.{complement_of, cz_on, gate_with}
use Rattle.store.specs.Places.{Store}
use Rattle.operations.specs.Used.{UsedRecord, used_record}
use Rattle.claims.specs.StoreDemand.{Session, after_action, does, forgets, returns, saves, store_of}
use Rattle.claims.specs.UsedDemand.{left_used}

-- the record in hand and the store
abbrev pub session_of : UsedRecord → Store → Session
session_of u st = record { current = u; store = st }

-- ---- steps
-- the step with these fields
abbrev pub step_with : Op → ℕ → ℕ → ℕ → Step
step_with op a b value = record { op = op; a = a; b = b; value = value }

-- the step leaves this record, whatever the store, and the store as it was
abbrev pub StepLeaves : UsedRecord → Step → UsedRecord → Type 0
StepLeaves u step after = (st : Store) → after_action (session_of u st) (does step) ≡ session_of after st

-- a measurement is each step whose value says its Pauli and its outcome, "2 × (Pauli − 1) + outcome"
abbrev pub MeasureLeaves : UsedRecord → ℕ → ℕ → ℕ → UsedRecord → Type 0
MeasureLeaves u pauli q b after =
    (value : ℕ) → pauli ≡ value / 2 + 1 → b ≡ value % 2 → StepLeaves u (step_with Measure q 0 value) after

-- an observation likewise, with its bit
abbrev pub ObserveLeaves : UsedRecord → ℕ → ℕ → ℕ → UsedRecord → Type 0
ObserveLeaves u pauli q b after =
    (value : ℕ) → pauli ≡ value / 2 + 1 → b ≡ value % 2 → StepLeaves u (step_with Observe q 0 value) after

-- ---- calls on the store
-- a save leaves the record and these three buffers
abbrev pub SaveLeaves : UsedRecord → ℕ → Store → List ℕ → List ℕ → List ℕ → Type 0
SaveLeaves u name st heads' nb' cs' =
    after_action (session_of u st) (saves name) ≡ session_of u (store_of heads' nb' cs')

-- a forget writes the heads alone
abbrev pub ForgetLeaves : ℕ → Store → List ℕ → Type 0
ForgetLeaves name st heads' = (u : UsedRecord) →
    after_action (session_of u st) (forgets name) ≡ session_of u (store_of heads' st.neighbours st.codes)

-- the record in buffers of 64 places: its n, the first n places, its used word
abbrev pub in_buffers : ℕ → List ℕ → List ℕ → ℕ → UsedRecord
in_buffers n nb cs used = used_record n (take n nb) (take n cs) used

-- a return: accepted, the record in hand is the one in the buffers, whatever it was; refused, nothing is changed
pub record ReturnLeaves (name : ℕ) (st : Store) (n' : ℕ) (nb' cs' : List ℕ) (used' r : ℕ) : Type 0 where
  pub accepted : r ≡ 0 → (u : UsedRecord) →
      after_action (session_of u st) (returns name) ≡ session_of (in_buffers n' nb' cs' used') st
  pub refused : (r ≡ 0 → ⊥) → (u : UsedRecord) → after_action (session_of u st) (returns name) ≡ session_of u st

-- ---- of each call, refused or not. A gate, a cz and a complementation are not lent the used word; a return is lent
-- buffers of 64 places
pub record ContractsAreActions : Type 0 where
  pub gate : (u : UsedRecord) (q k r : ℕ) (nb' cs' : List ℕ) → Call (used_call u (gate_with q k) nb' cs') r →
      StepLeaves u (step_with Gate q 0 k) (left_used u nb' cs' u.used)
  pub cz : (u : UsedRecord) (a b r : ℕ) (nb' cs' : List ℕ) → Call (used_call u (cz_on a b) nb' cs') r →
      StepLeaves u (step_with Cz a b 0) (left_used u nb' cs' u.used)
  pub complement : (u : UsedRecord) (a r : ℕ) (nb' cs' : List ℕ) → Call (used_call u (complement_of a) nb' cs') r →
      StepLeaves u (step_with Complement a 0 0) (left_used u nb' cs' u.used)
  pub measure : (u : UsedRecord) (pauli q b answer determined r : ℕ) (nb' cs' : List ℕ)
      (used' answer' determined' : ℕ) →
      Call (used_measure_call u pauli q b answer determined nb' cs' used' answer' determined') r →
      MeasureLeaves u pauli q b (left_used u nb' cs' used')
  pub observe : (u : UsedRecord) (pauli q b answer determined r : ℕ) (nb' cs' : List ℕ)
      (used' answer' determined' : ℕ) →
      Call (observe_call u pauli q b answer determined nb' cs' used' answer' determined') r →
      ObserveLeaves u pauli q b (left_used u nb' cs' used')
  pub renew : (u : UsedRecord) (q k r : ℕ) (nb' cs' : List ℕ) (used' : ℕ) → Call (renew_call u q k nb' cs' used') r →
      StepLeaves u (step_with Renew q 0 k) (left_used u nb' cs' used')
  pub save : (u : UsedRecord) (name : ℕ) (st : Store) (r : ℕ) (heads' nb' cs' : List ℕ) →
      Call (save_call u name st heads' nb' cs') r → SaveLeaves u name st heads' nb' cs'
  pub return-to : (name : ℕ) (st : Store) (n : ℕ) (nb cs : List ℕ) (used n' : ℕ) (nb' cs' : List ℕ) (used' r : ℕ) →
      length nb ≡ 64 → length cs ≡ 64 → Call (return_call name st n nb cs used n' nb' cs' used') r →
      ReturnLeaves name st n' nb' cs' used' r
  pub forget : (name : ℕ) (st : Store) (r : ℕ) (heads' : List ℕ) → Call (forget_call name st heads') r →
      ForgetLeaves name st heads'
