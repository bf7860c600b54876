-- What each call of a party leaves, of the public calls (02, §13): the other party's vertices and states stay, and
-- what is held under each of the party's own names; and which calls are refused by 17 and 18.
use Rattle.std.specs.Prelude.{cond, false, true, List, ◌↔◌, ◌≡◌, ◌<◌, ℕ, eqb, get_or}
use Rattle.buffers.specs.Refusals.{first_fitting}
use Rattle.calls.specs.PartyStores.{party_forget_call, party_return_call, party_save_call}
use Rattle.calls.specs.Parties.{party_call, party_measure_call}
use Rattle.claims.specs.OperationsDemand.{IsReduced}
use Rattle.claims.specs.UsedDemand.{left_used}
use Rattle.buffers.specs.Calls.{Call}
use Rattle.parties.specs.PartyStores.{own_places, shared_lines}
use Rattle.parties.specs.Masks.{crosses, in_party, masked}
use Rattle.operations.specs.Steps.{complement_of, cz_on, gate_with}
use Rattle.store.specs.Places.{Store, found, lookup, nothing, others_held}
use Rattle.store.specs.StoreLines.{store_lines}
use Rattle.operations.specs.Used.{UsedRecord, used_lines}
use Rattle.words.specs.Bits.{bit}

-- ---- the record
-- "codes and neighbour words of the other stay, reduced or not"; so do its used bits. No line refuses the record that
-- is left, and it has no edge between the parties
pub record PartyKeeps (word g : ℕ) (u after : UsedRecord) : Type 0 where
  pub words : (q : ℕ) → q < 64 → in_party word g q ≡ false →
      get_or after.held.neighbours q 0 ≡ get_or u.held.neighbours q 0
  pub codes : (q : ℕ) → q < 64 → in_party word g q ≡ false → get_or after.held.codes q 0 ≡ get_or u.held.codes q 0
  pub used : (q : ℕ) → q < 64 → in_party word g q ≡ false → bit after.used q ≡ bit u.used q
  pub still : first_fitting (used_lines after false false false) ≡ 0
  pub apart : crosses word after ≡ false

-- of every accepted gate, cz, complementation and measurement of a party
pub record PartyCallsKeep : Type 0 where
  pub gate : (word g : ℕ) (u : UsedRecord) (q k : ℕ) (nb' cs' : List ℕ) →
      Call (party_call word g u (gate_with q k) nb' cs') 0 → PartyKeeps word g u (left_used u nb' cs' u.used)
  pub cz : (word g : ℕ) (u : UsedRecord) (a b : ℕ) (nb' cs' : List ℕ) →
      Call (party_call word g u (cz_on a b) nb' cs') 0 → PartyKeeps word g u (left_used u nb' cs' u.used)
  pub complement : (word g : ℕ) (u : UsedRecord) (a : ℕ) (nb' cs' : List ℕ) →
      Call (party_call word g u (complement_of a) nb' cs') 0 → PartyKeeps word g u (left_used u nb' cs' u.used)
  pub measure : (word g : ℕ) (u : UsedRecord) (pauli q b answer determined : ℕ) (nb' cs' : List ℕ)
      (used' answer' determined' : ℕ) →
      Call (party_measure_call word g u pauli q b answer determined nb' cs' used' answer' determined') 0 →
      PartyKeeps word g u (left_used u nb' cs' used')

-- ---- "A group's gate, cz or measure reduces that group's vertices alone": a record that has these vertices alone is
-- reduced
abbrev pub PartyReduced : ℕ → ℕ → UsedRecord → Type 0
PartyReduced word g after = IsReduced (masked (in_party word g) after).held

-- after every accepted gate, cz and measurement of a party
pub record PartyCallsReduce : Type 0 where
  pub gate : (word g : ℕ) (u : UsedRecord) (q k : ℕ) (nb' cs' : List ℕ) →
      Call (party_call word g u (gate_with q k) nb' cs') 0 → PartyReduced word g (left_used u nb' cs' u.used)
  pub cz : (word g : ℕ) (u : UsedRecord) (a b : ℕ) (nb' cs' : List ℕ) →
      Call (party_call word g u (cz_on a b) nb' cs') 0 → PartyReduced word g (left_used u nb' cs' u.used)
  pub measure : (word g : ℕ) (u : UsedRecord) (pauli q b answer determined : ℕ) (nb' cs' : List ℕ)
      (used' answer' determined' : ℕ) →
      Call (party_measure_call word g u pauli q b answer determined nb' cs' used' answer' determined') 0 →
      PartyReduced word g (left_used u nb' cs' used')

-- ---- the store
-- the other party's places are as they were
abbrev pub OtherPlacesStay : ℕ → Store → Store → Type 0
OtherPlacesStay g st after = (h : ℕ) → h < 2 → (h ≡ g → ⊥) → own_places h after ≡ own_places h st

-- "Each holds four named states of its own part": under the name the party's own vertices, under its other names what
-- was held
pub record PartySaveKeeps (word g : ℕ) (u : UsedRecord) (name : ℕ) (st after : Store) : Type 0 where
  pub held : (m : ℕ) → lookup 4 (own_places g after) m
      ≡ cond (eqb m name) (found (masked (in_party word g) u)) (lookup 4 (own_places g st) m)
  -- no line refuses what the party's places hold
  pub still : first_fitting (store_lines 4 (own_places g after) false) ≡ 0
  pub others : OtherPlacesStay g st after

-- of every accepted save of a party
abbrev pub PartySavesKeep : Type 0
PartySavesKeep = (word g : ℕ) (u : UsedRecord) (name : ℕ) (st : Store) (heads' nb' cs' : List ℕ) →
    Call (party_save_call word g u name st heads' nb' cs') 0 →
    PartySaveKeeps word g u name st (record { heads = heads'; neighbours = nb'; codes = cs' })

-- nothing under the name, under its other names what was held
pub record PartyForgetKeeps (g name : ℕ) (st after : Store) : Type 0 where
  pub held : (m : ℕ) → lookup 4 (own_places g after) m ≡ cond (eqb m name) nothing (lookup 4 (own_places g st) m)
  pub still : first_fitting (store_lines 4 (own_places g after) false) ≡ 0
  -- so that 18 does not refuse the party's next save, whatever its name
  pub free : (m : ℕ) → others_held 4 (own_places g after).heads m ≡ false
  pub others : OtherPlacesStay g st after

-- of every accepted forget of a party
abbrev pub PartyForgetsKeep : Type 0
PartyForgetsKeep = (word g : ℕ) (u : UsedRecord) (name : ℕ) (st : Store) (heads' : List ℕ) →
    Call (party_forget_call word g u name st heads') 0 →
    PartyForgetKeeps g name st (record { heads = heads'; neighbours = st.neighbours; codes = st.codes })

-- "returning touches only that part": the party's vertices are those of the state held under the name
pub record PartyReturnGives (word g : ℕ) (u : UsedRecord) (name : ℕ) (st : Store) (after : UsedRecord) : Type 0 where
  pub state : UsedRecord
  pub held : lookup 4 (own_places g st) name ≡ found state
  pub own : masked (in_party word g) after ≡ masked (in_party word g) state
  pub keeps : PartyKeeps word g u after

-- of every accepted return of a party
abbrev pub PartyReturnsGive : Type 0
PartyReturnsGive = (word g : ℕ) (u : UsedRecord) (name : ℕ) (st : Store) (nb' cs' : List ℕ) (used' : ℕ) →
    Call (party_return_call word g u name st nb' cs' used') 0 →
    PartyReturnGives word g u name st (left_used u nb' cs' used')

-- ---- refusals
-- 17: exactly if no earlier line holds and the party holds nothing under the name
abbrev pub PartyNotHeld : ℕ → ℕ → UsedRecord → ℕ → Store → ℕ → Type 0
PartyNotHeld word g u name st r =
    (r ≡ 17) ↔ ((first_fitting (shared_lines word g u st) ≡ 0) × (lookup 4 (own_places g st) name ≡ nothing))

-- 18, "For a group, four names take the place of eight": exactly if no earlier line holds and each of the four places
-- holds another name
abbrev pub PartyFull : ℕ → ℕ → UsedRecord → ℕ → Store → ℕ → Type 0
PartyFull word g u name st r =
    (r ≡ 18) ↔ ((first_fitting (shared_lines word g u st) ≡ 0) × (others_held 4 (own_places g st).heads name ≡ true))

-- of every save, return and forget of a party
pub record PartyNamesRefused : Type 0 where
  pub save : (word g : ℕ) (u : UsedRecord) (name : ℕ) (st : Store) (heads' nb' cs' : List ℕ) (r : ℕ) →
      Call (party_save_call word g u name st heads' nb' cs') r → PartyFull word g u name st r
  pub return-to : (word g : ℕ) (u : UsedRecord) (name : ℕ) (st : Store) (nb' cs' : List ℕ) (used' r : ℕ) →
      Call (party_return_call word g u name st nb' cs' used') r → PartyNotHeld word g u name st r
  pub forget : (word g : ℕ) (u : UsedRecord) (name : ℕ) (st : Store) (heads' : List ℕ) (r : ℕ) →
      Call (party_forget_call word g u name st heads') r → PartyNotHeld word g u name st r
