-- Named states: demand 1 of the calls on a store, and which arguments they accept.
use Rattle.std.specs.Prelude.{false, true, ◌||◌, List, ◌↔◌, ◌≡◌, ◌<◌, ℕ, length}
use Rattle.buffers.specs.Refusals.{first_fitting, other_than}
use Rattle.calls.specs.Stores.{forget_call, return_call, save_call}
use Rattle.buffers.specs.Calls.{Call}
use Rattle.store.specs.Places.{Store, has_name, holds_name, is_held, others_held, place_at}
use Rattle.store.specs.StoreLines.{named_lines}
use Rattle.operations.specs.Used.{UsedRecord}
use Rattle.claims.specs.Arguments.{IsRecord}
use Rattle.claims.specs.Conforming.{Conforms}

-- a store of eight places: its buffers have their lengths, its held records are records, no name is held twice
pub record IsStore (st : Store) : Type 0 where
  pub heads : length st.heads ≡ 24
  pub neighbours : length st.neighbours ≡ 512
  pub codes : length st.codes ≡ 512
  pub records : (i : ℕ) → i < 8 → is_held st.heads i ≡ true → IsRecord (place_at st i)
  pub once : (m i j : ℕ) → i < 8 → j < 8 → has_name st.heads m i ≡ true → has_name st.heads m j ≡ true → i ≡ j

-- demand 1 of each call: its lines stand in the published order, and its answers fill their buffers
pub record StoresConform : Type 0 where
  pub saves : (u : UsedRecord) (name : ℕ) (st : Store) (heads' nb' cs' : List ℕ) →
      Conforms (save_call u name st heads' nb' cs')
  pub returns : (name : ℕ) (st : Store) (n : ℕ) (nb cs : List ℕ) (used n' : ℕ) (nb' cs' : List ℕ) (used' : ℕ) →
      Conforms (return_call name st n nb cs used n' nb' cs' used')
  pub forgets : (name : ℕ) (st : Store) (heads' : List ℕ) → Conforms (forget_call name st heads')

-- what a buffer lent only for the answer holds makes no line true
pub record StoreBuffersUnread : Type 0 where
  pub returns : (name : ℕ) (st : Store) (nb nb₂ cs cs₂ : List ℕ) → length nb ≡ length nb₂ → length cs ≡ length cs₂ →
      first_fitting (named_lines 8 name st (other_than 64 nb || other_than 64 cs))
      ≡ first_fitting (named_lines 8 name st (other_than 64 nb₂ || other_than 64 cs₂))

-- a save: a record and a store, of whose places not all hold other names
abbrev pub SaveFits : UsedRecord → ℕ → Store → Type 0
SaveFits u name st = IsRecord u × IsStore st × (others_held 8 st.heads name ≡ false)

-- a forget: a store that holds the name
abbrev pub ForgetFits : ℕ → Store → Type 0
ForgetFits name st = IsStore st × (holds_name 8 st.heads name ≡ true)

-- a return: besides, two buffers of 64 places
abbrev pub ReturnFits : ℕ → Store → List ℕ → List ℕ → Type 0
ReturnFits name st nb cs = ForgetFits name st × (length nb ≡ 64) × (length cs ≡ 64)

-- of each call: it is accepted exactly if its arguments fit
pub record StoresAccepted : Type 0 where
  pub save : (u : UsedRecord) (name : ℕ) (st : Store) (heads' nb' cs' : List ℕ) (r : ℕ) →
      Call (save_call u name st heads' nb' cs') r → (r ≡ 0) ↔ SaveFits u name st
  pub return : (name : ℕ) (st : Store) (n : ℕ) (nb cs : List ℕ) (used n' : ℕ) (nb' cs' : List ℕ) (used' r : ℕ) →
      Call (return_call name st n nb cs used n' nb' cs' used') r → (r ≡ 0) ↔ ReturnFits name st nb cs
  pub forget : (name : ℕ) (st : Store) (heads' : List ℕ) (r : ℕ) →
      Call (forget_call name st heads') r → (r ≡ 0) ↔ ForgetFits name st
