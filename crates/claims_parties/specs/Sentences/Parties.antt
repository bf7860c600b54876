-- What the documents say of the exported functions of a party (02, §13), a record for each: demand 1, which arguments
-- it accepts, what it leaves of the other party, and that its answer stands for what the whole-record call leaves. That
-- each is a step of the runs of `NonInterference` is a theorem of its own (`ContractsAreSteps`).
use Rattle.std.specs.Prelude.{List, [], ◌∷◌, ◌↔◌, ◌⊎◌, ◌≡◌, ◌<◌, ◌≤◌, ℕ}
use Rattle.calls.specs.InPlace.{used_call, used_measure_call}
use Rattle.calls.specs.PartyStores.{party_forget_call, party_return_call, party_save_call}
use Rattle.calls.specs.Parties.{party_call, party_measure_call}
use Rattle.calls.specs.Sources.{party_observe_call, party_renew_call, observe_call, renew_call}
use Rattle.claims.specs.Conforming.{Answered}
use Rattle.claims.specs.UsedDemand.{left_used}
use Rattle.claims.specs.families.Parties.{PartyNameFits, PartySaveFits, Own, TwoParties}
use Rattle.claims.specs.families.Records.{ComplementFits, CzFits, GateFits, MeasureFits}
use Rattle.claims.specs.Sources.{ObserveFits, RenewFits, RenewalStands}
use Rattle.buffers.specs.Calls.{Call}
use Rattle.operations.specs.Steps.{Operation, complement_of, cz_on, gate_with}
use Rattle.jobs.specs.Standing.{left}
use Rattle.record.specs.Lent.{held_record}
use Rattle.record.specs.Records.{SameRecord, complement_record}
use Rattle.store.specs.Places.{Store}
use Rattle.operations.specs.Used.{UsedRecord}
use Rattle.operations.specs.UsedSentences.{IsUsed, NoRecord, OfSix, StrayBit}
use Rattle.record.specs.RecordSentences.{CodeAbove23, RecordMisfits}
use Rattle.claims_parties.specs.PartyKeeps.{
  PartyForgetKeeps,
  PartyFull,
  PartyKeeps,
  PartyNotHeld,
  PartyReduced,
  PartyReturnGives,
  PartySaveKeeps,
}
use Rattle.claims_parties.specs.PartiesDemand.{StandsAsWhole}
use Rattle.buffers.specs.Sentences.{FirstTrue, Sentence, sentence}
use Rattle.parties.specs.PartySentences.{
  EdgeBetween,
  NotSixtyFour,
  OtherParties,
  party_argument_sentences,
  party_complement_sentences,
  party_cz_sentences,
  party_gate_sentences,
  party_measure_sentences,
  party_named_sentences,
  party_save_sentences,
}

-- "a group call leaves the group's elements as the whole-record call would"
abbrev pub AsWhole : UsedRecord → Operation → List ℕ → List ℕ → Type 0
AsWhole u o nb' cs' = (r : ℕ) (nb'' cs'' : List ℕ) → Call (used_call u o nb'' cs'') r → StandsAsWhole u nb' cs' r nb'' cs''

-- sukhlent_group_gate
pub record GroupGateSays (word g : ℕ) (u : UsedRecord) (q k : ℕ) (nb' cs' : List ℕ) (r : ℕ) : Type 0 where
  pub answered : Answered (party_call word g u (gate_with q k) nb' cs') r
  pub accepted : (r ≡ 0) ↔ (TwoParties word g u × Own word g q × GateFits u q k)
  pub numbers : FirstTrue (party_gate_sentences word g u q k) r
  pub keeps : r ≡ 0 → PartyKeeps word g u (left_used u nb' cs' u.used)
  pub reduces : r ≡ 0 → PartyReduced word g (left_used u nb' cs' u.used)
  pub stands : r ≡ 0 → AsWhole u (gate_with q k) nb' cs'

-- sukhlent_group_cz
pub record GroupCzSays (word g : ℕ) (u : UsedRecord) (a b : ℕ) (nb' cs' : List ℕ) (r : ℕ) : Type 0 where
  pub answered : Answered (party_call word g u (cz_on a b) nb' cs') r
  pub accepted : (r ≡ 0) ↔ (TwoParties word g u × (Own word g a × Own word g b) × CzFits u a b)
  pub numbers : FirstTrue (party_cz_sentences word g u a b) r
  pub keeps : r ≡ 0 → PartyKeeps word g u (left_used u nb' cs' u.used)
  pub reduces : r ≡ 0 → PartyReduced word g (left_used u nb' cs' u.used)
  pub stands : r ≡ 0 → AsWhole u (cz_on a b) nb' cs'

-- sukhlent_group_complement
pub record GroupComplementSays (word g : ℕ) (u : UsedRecord) (a : ℕ) (nb' cs' : List ℕ) (r : ℕ) : Type 0 where
  pub answered : Answered (party_call word g u (complement_of a) nb' cs') r
  pub accepted : (r ≡ 0) ↔ (TwoParties word g u × Own word g a × ComplementFits u a)
  pub numbers : FirstTrue (party_complement_sentences word g u a) r
  pub keeps : r ≡ 0 → PartyKeeps word g u (left_used u nb' cs' u.used)
  -- "the answer is the record so rewritten, not reduced": that of document 01's rule, of the whole record
  pub rewritten : r ≡ 0 → SameRecord (held_record (left u.held nb' cs')) (complement_record (held_record u.held) a)
  pub stands : r ≡ 0 → AsWhole u (complement_of a) nb' cs'

-- sukhlent_group_measure: its outcome, determined bit and used word are those of the whole-record call too
pub record GroupMeasureSays (word g : ℕ) (u : UsedRecord) (pauli q b answer determined : ℕ) (nb' cs' : List ℕ)
    (used' answer' determined' r : ℕ) : Type 0 where
  pub answered : Answered (party_measure_call word g u pauli q b answer determined nb' cs' used' answer' determined') r
  pub accepted : (r ≡ 0) ↔ (TwoParties word g u × Own word g q × MeasureFits u pauli q b)
  pub numbers : FirstTrue (party_measure_sentences word g u pauli q b) r
  pub keeps : r ≡ 0 → PartyKeeps word g u (left_used u nb' cs' used')
  pub reduces : r ≡ 0 → PartyReduced word g (left_used u nb' cs' used')
  pub stands : r ≡ 0 → (r'' : ℕ) (nb'' cs'' : List ℕ) (used'' answer'' determined'' : ℕ) →
      Call (used_measure_call u pauli q b answer determined nb'' cs'' used'' answer'' determined'') r'' →
      StandsAsWhole u nb' cs' r'' nb'' cs'' × (answer' ≡ answer'') × (determined' ≡ determined'') × (used' ≡ used'')

-- sukhlent_group_save
pub record GroupSaveSays (word g : ℕ) (u : UsedRecord) (name : ℕ) (st : Store) (heads' nb' cs' : List ℕ) (r : ℕ) :
    Type 0 where
  pub answered : Answered (party_save_call word g u name st heads' nb' cs') r
  pub accepted : (r ≡ 0) ↔ PartySaveFits word g u name st
  pub numbers : FirstTrue (party_save_sentences word g u name st) r
  pub full : PartyFull word g u name st r
  pub keeps : r ≡ 0 → PartySaveKeeps word g u name st (record { heads = heads'; neighbours = nb'; codes = cs' })

-- sukhlent_group_return
pub record GroupReturnSays (word g : ℕ) (u : UsedRecord) (name : ℕ) (st : Store) (nb' cs' : List ℕ) (used' r : ℕ) :
    Type 0 where
  pub answered : Answered (party_return_call word g u name st nb' cs' used') r
  pub accepted : (r ≡ 0) ↔ PartyNameFits word g u name st
  pub numbers : FirstTrue (party_named_sentences word g u name st) r
  pub not-held : PartyNotHeld word g u name st r
  pub gives : r ≡ 0 → PartyReturnGives word g u name st (left_used u nb' cs' used')

-- sukhlent_group_forget
pub record GroupForgetSays (word g : ℕ) (u : UsedRecord) (name : ℕ) (st : Store) (heads' : List ℕ) (r : ℕ)
    : Type 0 where
  pub answered : Answered (party_forget_call word g u name st heads') r
  pub accepted : (r ≡ 0) ↔ PartyNameFits word g u name st
  pub numbers : FirstTrue (party_named_sentences word g u name st) r
  pub not-held : PartyNotHeld word g u name st r
  pub keeps : r ≡ 0 → PartyForgetKeeps g name st (record {
    heads = heads';
    neighbours = st.neighbours;
    codes =
        st.codes;
  })

-- sukhlent_group_observe: its outcome, determined bit and used word are those of the whole-record call too
pub record GroupObserveSays (word g : ℕ) (u : UsedRecord) (pauli q b answer determined : ℕ) (nb' cs' : List ℕ)
    (used' answer' determined' r : ℕ) : Type 0 where
  pub answered : Answered (party_observe_call word g u pauli q b answer determined nb' cs' used' answer' determined') r
  pub accepted : (r ≡ 0) ↔ (TwoParties word g u × Own word g q × ObserveFits u pauli q b)
  pub numbers : FirstTrue (party_argument_sentences word g u pauli q b) r
  pub never-14 : r ≡ 14 → ⊥
  -- accepted, it is the party's measurement with the outcome that it answers
  pub as-measured : r ≡ 0 →
      Call (party_measure_call word g u pauli q answer' answer determined nb' cs' used' answer' determined') 0
  pub keeps : r ≡ 0 → PartyKeeps word g u (left_used u nb' cs' used')
  pub reduces : r ≡ 0 → PartyReduced word g (left_used u nb' cs' used')
  pub stands : r ≡ 0 → (r'' : ℕ) (nb'' cs'' : List ℕ) (used'' answer'' determined'' : ℕ) →
      Call (observe_call u pauli q b answer determined nb'' cs'' used'' answer'' determined'') r'' →
      StandsAsWhole u nb' cs' r'' nb'' cs'' × (answer' ≡ answer'') × (determined' ≡ determined'') × (used' ≡ used'')

-- the lines of a party's renewal. 6: the code is none of the six; 19: "checked directly before 8"; 20: the qubit is not
-- used
abbrev pub party_renew_sentences : ℕ → ℕ → UsedRecord → ℕ → ℕ → List Sentence
party_renew_sentences word g u q k =
    sentence 2 (NotSixtyFour u) ∷ sentence 4 (RecordMisfits u.held) ∷ sentence 5 (StrayBit u)
    ∷ sentence 6 ((CodeAbove23 u.held ⊎ (OfSix k → ⊥)) ⊎ (1 < g)) ∷ sentence 7 (NoRecord u)
    ∷ sentence 19 (EdgeBetween word u ⊎ OtherParties word g u q) ∷ sentence 8 (u.held.n ≤ q)
    ∷ sentence 20 (IsUsed u q → ⊥) ∷ []

-- sukhlent_group_renew: what it leaves is what the whole-record call leaves
pub record GroupRenewSays (word g : ℕ) (u : UsedRecord) (q k : ℕ) (nb' cs' : List ℕ) (used' r : ℕ) : Type 0 where
  pub answered : Answered (party_renew_call word g u q k nb' cs' used') r
  pub accepted : (r ≡ 0) ↔ (TwoParties word g u × Own word g q × RenewFits u q k)
  pub numbers : FirstTrue (party_renew_sentences word g u q k) r
  pub whole : r ≡ 0 → Call (renew_call u q k nb' cs' used') 0
  pub stands : r ≡ 0 → RenewalStands u q k (left_used u nb' cs' used')
  pub keeps : r ≡ 0 → PartyKeeps word g u (left_used u nb' cs' used')
