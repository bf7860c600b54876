-- Two parties on one record (02, §13): demand 1 of a party's calls, and which arguments they accept.
use Rattle.std.specs.Prelude.{false, true, List, ◌↔◌, ◌≡◌, ◌<◌, ℕ, get_or, length}
use Rattle.calls.specs.PartyStores.{party_forget_call, party_return_call, party_save_call}
use Rattle.calls.specs.Parties.{party_call, party_measure_call}
use Rattle.buffers.specs.Calls.{Call}
use Rattle.parties.specs.PartyStores.{own_places}
use Rattle.parties.specs.Masks.{in_party}
use Rattle.operations.specs.Steps.{complement_of, cz_on, gate_with, Operation}
use Rattle.store.specs.Places.{Store, has_name, holds_name, is_held, others_held, place_at}
use Rattle.operations.specs.Used.{UsedRecord}
use Rattle.words.specs.Bits.{bit}
use Rattle.claims.specs.Arguments.{IsRecord}
use Rattle.claims.specs.Conforming.{Conforms}
use Rattle.claims.specs.families.Records.{ComplementFits, CzFits, GateFits, MeasureFits}

-- demand 1 of each call: its lines stand in the published order, and its answers fill their buffers
pub record PartiesConform : Type 0 where
  pub in_place : (word g : ℕ) (u : UsedRecord) (o : Operation) (nb' cs' : List ℕ) → Conforms
      (party_call word g u o nb' cs')
  pub measurements : (word g : ℕ) (u : UsedRecord) (pauli q b answer determined : ℕ) (nb' cs' : List ℕ)
      (used' answer' determined' : ℕ) →
      Conforms (party_measure_call word g u pauli q b answer determined nb' cs' used' answer' determined')
  pub saves : (word g : ℕ) (u : UsedRecord) (name : ℕ) (st : Store) (heads' nb' cs' : List ℕ) →
      Conforms (party_save_call word g u name st heads' nb' cs')
  pub returns : (word g : ℕ) (u : UsedRecord) (name : ℕ) (st : Store) (nb' cs' : List ℕ) (used' : ℕ) →
      Conforms (party_return_call word g u name st nb' cs' used')
  pub forgets : (word g : ℕ) (u : UsedRecord) (name : ℕ) (st : Store) (heads' : List ℕ) →
      Conforms (party_forget_call word g u name st heads')

-- "Two groups share one record of 64 qubits": one of the two, and no edge between them
pub record TwoParties (word g : ℕ) (u : UsedRecord) : Type 0 where
  pub count : u.held.n ≡ 64
  pub party : g < 2
  pub apart : (j k : ℕ) → j < 64 → k < 64 → bit (get_or u.held.neighbours j 0) k ≡ true → bit word j ≡ bit word k

-- a qubit of the party
abbrev pub Own : ℕ → ℕ → ℕ → Type 0
Own word g q = in_party word g q ≡ true

-- the party's four places in a store of eight: each state held there has 64 qubits and no neighbour outside the party,
-- and no name is held twice
pub record OwnStates (word g : ℕ) (st : Store) : Type 0 where
  pub heads : length st.heads ≡ 24
  pub neighbours : length st.neighbours ≡ 512
  pub codes : length st.codes ≡ 512
  pub records : (i : ℕ) → i < 4 → is_held (own_places g st).heads i ≡ true → IsRecord (place_at (own_places g st) i)
  pub counts : (i : ℕ) → i < 4 → is_held (own_places g st).heads i ≡ true → (place_at (own_places g st) i).held.n ≡ 64
  pub inside : (i : ℕ) → i < 4 → is_held (own_places g st).heads i ≡ true → (j k : ℕ) → j < 64 → k < 64 →
      bit (get_or (place_at (own_places g st) i).held.neighbours j 0) k ≡ true → Own word g k
  pub once : (m i j : ℕ) → i < 4 → j < 4 → has_name (own_places g st).heads m i ≡ true →
      has_name (own_places g st).heads m j ≡ true → i ≡ j

-- save, return and forget: the record, the parties and the party's own places
pub record SharedFits (word g : ℕ) (u : UsedRecord) (st : Store) : Type 0 where
  pub held : IsRecord u
  pub parties : TwoParties word g u
  pub own : OwnStates word g st

-- a save: not all four places hold other names
abbrev pub PartySaveFits : ℕ → ℕ → UsedRecord → ℕ → Store → Type 0
PartySaveFits word g u name st = SharedFits word g u st × (others_held 4 (own_places g st).heads name ≡ false)

-- a return or a forget: one of the four holds the name
abbrev pub PartyNameFits : ℕ → ℕ → UsedRecord → ℕ → Store → Type 0
PartyNameFits word g u name st = SharedFits word g u st × (holds_name 4 (own_places g st).heads name ≡ true)

-- of each call: it is accepted exactly if its arguments fit
pub record PartiesAccepted : Type 0 where
  pub gate : (word g : ℕ) (u : UsedRecord) (q k : ℕ) (nb' cs' : List ℕ) (r : ℕ) →
      Call (party_call word g u (gate_with q k) nb' cs') r → (r ≡ 0) ↔
      (TwoParties word g u × Own word g q × GateFits u q k)
  pub cz : (word g : ℕ) (u : UsedRecord) (a b : ℕ) (nb' cs' : List ℕ) (r : ℕ) →
      Call (party_call word g u (cz_on a b) nb' cs') r →
      (r ≡ 0) ↔ (TwoParties word g u × (Own word g a × Own word g b) × CzFits u a b)
  pub measure : (word g : ℕ) (u : UsedRecord) (pauli q b answer determined : ℕ) (nb' cs' : List ℕ)
      (used' answer' determined' r : ℕ) →
      Call (party_measure_call word g u pauli q b answer determined nb' cs' used' answer' determined') r →
      (r ≡ 0) ↔ (TwoParties word g u × Own word g q × MeasureFits u pauli q b)
  pub complement : (word g : ℕ) (u : UsedRecord) (a : ℕ) (nb' cs' : List ℕ) (r : ℕ) →
      Call (party_call word g u (complement_of a) nb' cs') r →
      (r ≡ 0) ↔ (TwoParties word g u × Own word g a × ComplementFits u a)
  pub save : (word g : ℕ) (u : UsedRecord) (name : ℕ) (st : Store) (heads' nb' cs' : List ℕ) (r : ℕ) →
      Call (party_save_call word g u name st heads' nb' cs') r → (r ≡ 0) ↔ PartySaveFits word g u name st
  pub return : (word g : ℕ) (u : UsedRecord) (name : ℕ) (st : Store) (nb' cs' : List ℕ) (used' r : ℕ) →
      Call (party_return_call word g u name st nb' cs' used') r → (r ≡ 0) ↔ PartyNameFits word g u name st
  pub forget : (word g : ℕ) (u : UsedRecord) (name : ℕ) (st : Store) (heads' : List ℕ) (r : ℕ) →
      Call (party_forget_call word g u name st heads') r → (r ≡ 0) ↔ PartyNameFits word g u name st
