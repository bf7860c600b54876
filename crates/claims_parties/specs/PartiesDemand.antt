-- The request on two parties (02, §13), of runs of their calls.
use Rattle.std.specs.Prelude.{cond, false, true, List, [], ◌∷◌, ◌≢◌, ◌≡◌, ◌<◌, ℕ, eqb}
use Rattle.buffers.specs.Refusals.{Refusal, first_fitting}
use Rattle.calls.specs.InPlace.{used_call, used_measure_call}
use Rattle.calls.specs.Parties.{party_call, party_measure_call}
use Rattle.claims.specs.StoreDemand.{Session}
use Rattle.buffers.specs.Calls.{Call}
use Rattle.parties.specs.PartyStores.{own_places}
use Rattle.parties.specs.Masks.{crosses, in_party, masked}
use Rattle.jobs.specs.Standing.{left}
use Rattle.operations.specs.Steps.{complement_of, cz_on, gate_with}
use Rattle.record.specs.Lent.{held_rows}
use Rattle.stabilizer.specs.Groups.{SameGroup}
use Rattle.store.specs.StoreLines.{store_lengths}
use Rattle.operations.specs.Used.{UsedRecord, used_lines}
use Rattle.claims_parties.specs.PartyRuns.{
  CallOf,
  SharedCall,
  observations,
  own_calls,
  shared_after,
  shared_call_lines,
  shared_number,
  shared_start,
}

-- "For two runs from one word in which one group's calls are equal in order, with the other group's calls arbitrary and
-- placed anywhere, that party's refusals, outcomes, determined bits, codes, neighbour words, used bits and saved states
-- are equal after each of its calls."
abbrev pub NonInterference : Type 0
NonInterference = (word g : ℕ) → g < 2 → (cs ds : List CallOf) → own_calls g cs ≡ own_calls g ds →
    observations word g shared_start cs ≡ observations word g shared_start ds

-- ---- from any state, and whatever the other party has
-- a record of 64 qubits that no line refuses, with no edge between the parties, and a store of eight places
pub record PartiesApart (word : ℕ) (s : Session) : Type 0 where
  pub count : s.current.held.n ≡ 64
  pub passes : first_fitting (used_lines s.current false false false) ≡ 0
  pub no-crossing : crosses word s.current ≡ false
  pub lengths : store_lengths 8 s.store ≡ false

-- to a party two states look alike: its vertices and its four places are the same
pub record LooksAlike (word g : ℕ) (s t : Session) : Type 0 where
  pub vertices : masked (in_party word g) s.current ≡ masked (in_party word g) t.current
  pub places : own_places g s.store ≡ own_places g t.store

-- what a party sees comes from its own part and its own calls alone
abbrev pub NonInterferenceFrom : Type 0
NonInterferenceFrom = (word g : ℕ) → g < 2 → (s t : Session) → PartiesApart word s → PartiesApart word t →
    LooksAlike word g s t → (cs ds : List CallOf) → own_calls g cs ≡ own_calls g ds →
    observations word g s cs ≡ observations word g t ds

-- ---- refusals
-- the lines before the one with number k
abbrev pub lines_before : ℕ → List Refusal → List Refusal
lines_before k [] = []
lines_before k (l ∷ ls) = cond (eqb l.number k) [] (l ∷ lines_before k ls)

-- "where they have left an edge between the groups, every group call is refused until it is gone": by 19, where no line
-- from 2 to 7 refuses it
pub record RefusedByCrossing (word g : ℕ) (s : Session) (c : SharedCall) : Type 0 where
  pub refused : shared_number word g s c ≢ 0
  pub nineteen : first_fitting (lines_before 19 (shared_call_lines word g s c)) ≡ 0 → shared_number word g s c ≡ 19
  pub unchanged : shared_after word g s c ≡ s

-- of every call on every record with such an edge
abbrev pub CrossingRefused : Type 0
CrossingRefused = (word g : ℕ) (s : Session) → crosses word s.current ≡ true → (c : SharedCall) →
    RefusedByCrossing word g s c

-- "a call's group above 1 gives 6", where no line before refuses it
pub record NeitherParty (word g : ℕ) (s : Session) (c : SharedCall) : Type 0 where
  pub six : first_fitting (lines_before 6 (shared_call_lines word g s c)) ≡ 0 → shared_number word g s c ≡ 6
  pub unchanged : shared_after word g s c ≡ s

-- of every call with such a number
abbrev pub NeitherRefused : Type 0
NeitherRefused = (word g : ℕ) → 1 < g → (s : Session) (c : SharedCall) → NeitherParty word g s c

-- ---- against the whole-record call
-- that call is accepted too, and "the elements of the group" that the two records stand for are the same
pub record StandsAsWhole (u : UsedRecord) (nb' cs' : List ℕ) (r : ℕ) (nb'' cs'' : List ℕ) : Type 0 where
  pub accepted : r ≡ 0
  pub elements : SameGroup 64 64 (held_rows (left u.held nb' cs')) (held_rows (left u.held nb'' cs''))

-- of every accepted gate, cz, complementation and measurement of a party; a measurement's outcome, determined bit and
-- used word are those of the whole-record call
pub record PartyCallsStand : Type 0 where
  pub gate : (word g : ℕ) (u : UsedRecord) (q k : ℕ) (nb' cs' : List ℕ) (r : ℕ) (nb'' cs'' : List ℕ) →
      Call (party_call word g u (gate_with q k) nb' cs') 0 → Call (used_call u (gate_with q k) nb'' cs'') r →
      StandsAsWhole u nb' cs' r nb'' cs''
  pub cz : (word g : ℕ) (u : UsedRecord) (a b : ℕ) (nb' cs' : List ℕ) (r : ℕ) (nb'' cs'' : List ℕ) →
      Call (party_call word g u (cz_on a b) nb' cs') 0 → Call (used_call u (cz_on a b) nb'' cs'') r →
      StandsAsWhole u nb' cs' r nb'' cs''
  pub complement : (word g : ℕ) (u : UsedRecord) (a : ℕ) (nb' cs' : List ℕ) (r : ℕ) (nb'' cs'' : List ℕ) →
      Call (party_call word g u (complement_of a) nb' cs') 0 → Call (used_call u (complement_of a) nb'' cs'') r →
      StandsAsWhole u nb' cs' r nb'' cs''
  pub measure : (word g : ℕ) (u : UsedRecord) (pauli q b answer determined : ℕ) (nb' cs' : List ℕ)
      (used' answer' determined' r : ℕ) (nb'' cs'' : List ℕ) (used'' answer'' determined'' : ℕ) →
      Call (party_measure_call word g u pauli q b answer determined nb' cs' used' answer' determined') 0 →
      Call (used_measure_call u pauli q b answer determined nb'' cs'' used'' answer'' determined'') r →
      StandsAsWhole u nb' cs' r nb'' cs'' × (answer' ≡ answer'') × (determined' ≡ determined'') × (used' ≡ used'')
