-- The comparison of parts of any size: demand 3 for n from 1 to 64, without a hypothesis on parts; and where no part is
-- larger than 20 its answers are those of the comparison with the limit.
use Rattle.std.specs.Prelude.{false, ◌++◌, List, [], ◌∷◌, ◌↔◌, ◌⊎◌, ◌≡◌, ℕ, length}
use Rattle.buffers.specs.Refusals.{first_fitting}
use Rattle.buffers.specs.Sentences.{FirstTrue, Sentence, sentence}
use Rattle.calls.specs.Comparisons.{compare_call}
use Rattle.calls.specs.Equivalences.{equivalent_call, equivalent_records_call, equivalent_records_lines}
use Rattle.calls.specs.RecordComparisons.{compare_records_call, record_large_part, records_lines}
use Rattle.claims.specs.Arguments.{IsList}
use Rattle.claims.specs.Conforming.{Answered}
use Rattle.claims.specs.Numbers.{NoneCarries, pair_sentences}
use Rattle.claims.specs.PartsDemand.{SmallParts}
use Rattle.claims.specs.ThirdDemand.{AcceptedPair, Decided}
use Rattle.claims.specs.RecordPairs.{AcceptedRecords, expansion, records_sentences}
use Rattle.clifford.specs.Clifford.{Clifford}
use Rattle.comparison.specs.Compared.{equivalent_lines}
use Rattle.buffers.specs.Calls.{Call}
use Rattle.record.specs.Lent.{LentRecord, held_rows}
use Rattle.record.specs.Accepted.{AcceptedRecord}
use Rattle.stabilizer.specs.Carries.{Carries}
use Rattle.stabilizer.specs.Lists.{GeneratorList, rows}

-- demand 3 word for word, for every two accepted lists: an accepted list has n from 1 to 64
abbrev pub ThirdDemandTo64 : Type 0
ThirdDemandTo64 =
    (l m : GeneratorList) (choice list : List ℕ) (count r : ℕ) (choice' list' : List ℕ) (count' : ℕ) →
    Call (equivalent_call l m choice list count choice' list' count') r → AcceptedPair l m choice list →
    Decided l m list r choice' list' count'

-- 3 never comes back
abbrev pub NeverTooLarge : Type 0
NeverTooLarge =
    (l m : GeneratorList) (choice list : List ℕ) (count r : ℕ) (choice' list' : List ℕ) (count' : ℕ) →
    Call (equivalent_call l m choice list count choice' list' count') r → r ≡ 3 → ⊥

-- where no part is larger than 20: what one call answers, number and buffers, the other answers, for all arguments
abbrev pub SameWhereSmall : Type 0
SameWhereSmall =
    (l m : GeneratorList) (choice list : List ℕ) (count r : ℕ) (choice' list' : List ℕ) (count' : ℕ) →
    SmallParts l → SmallParts m →
    Call (compare_call l m choice list count choice' list' count') r
    ↔ Call (equivalent_call l m choice list count choice' list' count') r

-- .. and of two records
abbrev pub SameRecordsWhereSmall : Type 0
SameRecordsWhereSmall =
    (l m : LentRecord) (choice list : List ℕ) (count r : ℕ) (choice' list' : List ℕ) (count' : ℕ) →
    record_large_part l ≡ false → record_large_part m ≡ false →
    Call (compare_records_call l m choice list count choice' list' count') r
    ↔ Call (equivalent_records_call l m choice list count choice' list' count') r

-- what a buffer lent only for the answer holds makes no line true
abbrev pub EquivalentBuffersUnread : Type 0
EquivalentBuffersUnread =
    (l m : GeneratorList) (choice list choice₂ list₂ : List ℕ) → length choice ≡ length choice₂ →
    length list ≡ length list₂ →
    first_fitting (equivalent_lines l m choice list) ≡ first_fitting (equivalent_lines l m choice₂ list₂)

-- .. and of two records
abbrev pub EquivalentRecordsBuffersUnread : Type 0
EquivalentRecordsBuffersUnread =
    (l m : LentRecord) (choice list choice₂ list₂ : List ℕ) → length choice ≡ length choice₂ →
    length list ≡ length list₂ →
    first_fitting (equivalent_records_lines l m choice list) ≡ first_fitting (equivalent_records_lines l m choice₂ list₂)

-- two lists on one number of qubits, and some choice that carries the first group onto the second
pub record EquivalentFits (l m : GeneratorList) (choice list : List ℕ) : Type 0 where
  pub first : IsList l
  pub second : IsList m
  pub same_count : l.n ≡ m.n
  pub choice-places : length choice ≡ l.n
  pub list-places : length list ≡ 96
  pub equivalent : (c : ℕ → Clifford) × Carries l.n c (rows l) (rows m)

-- its lines in words: those of sukhlent_compare without 3
abbrev pub equivalent_sentences : GeneratorList → GeneratorList → List ℕ → List ℕ → List Sentence
equivalent_sentences l m choice list =
    pair_sentences l m choice list ++ (sentence 13 (NoneCarries l.n (rows l) (rows m)) ∷ [])

-- .. and of two records
abbrev pub equivalent_records_sentences : LentRecord → LentRecord → List ℕ → List ℕ → List Sentence
equivalent_records_sentences l m choice list =
    records_sentences l m choice list ++ (sentence 13 (NoneCarries l.n (held_rows l) (held_rows m)) ∷ [])

-- sukhlent_equivalent, in one record: demand 1, which arguments it accepts, demand 3 for n up to 64, and where no part
-- is larger than 20 the answer of sukhlent_compare
pub record EquivalentSays (l m : GeneratorList) (choice list : List ℕ) (count : ℕ) (choice' list' : List ℕ)
    (count' r : ℕ) : Type 0 where
  pub answered : Answered (equivalent_call l m choice list count choice' list' count') r
  pub accepted : (r ≡ 0) ↔ EquivalentFits l m choice list
  pub numbers : FirstTrue (equivalent_sentences l m choice list) r
  pub to-64 : AcceptedPair l m choice list → Decided l m list r choice' list' count'
  pub never-3 : r ≡ 3 → ⊥
  pub same : SmallParts l → SmallParts m → Call (compare_call l m choice list count choice' list' count') r

-- two records whose expansions sukhlent_equivalent accepts
pub record EquivalentRecordsFits (l m : LentRecord) (choice list : List ℕ) : Type 0 where
  pub first : AcceptedRecord l
  pub second : AcceptedRecord m
  pub expansions : EquivalentFits (expansion l) (expansion m) choice list

-- sukhlent_equivalent_records, in one record: demand 1, which arguments it accepts, the answer of sukhlent_equivalent
-- on the records' expansions, and so demand 3 for n up to 64; records that no line refuses are taken, or refused by 13;
-- and where no part is larger than 20 the answer of sukhlent_compare_records
pub record EquivalentRecordsSays (l m : LentRecord) (choice list : List ℕ) (count : ℕ) (choice' list' : List ℕ)
    (count' r : ℕ) : Type 0 where
  pub answered : Answered (equivalent_records_call l m choice list count choice' list' count') r
  pub accepted : (r ≡ 0) ↔ EquivalentRecordsFits l m choice list
  pub taken : AcceptedRecords l m choice list → (r ≡ 0) ⊎ (r ≡ 13)
  pub numbers : FirstTrue (equivalent_records_sentences l m choice list) r
  pub expanded : first_fitting (records_lines l m choice list) ≡ 0 →
      Call (equivalent_call (expansion l) (expansion m) choice list count choice' list' count') r
  pub to-64 : AcceptedRecords l m choice list → Decided (expansion l) (expansion m) list r choice' list' count'
  pub never-3 : r ≡ 3 → ⊥
  pub same : record_large_part l ≡ false → record_large_part m ≡ false →
      Call (compare_records_call l m choice list count choice' list' count') r

-- what is claimed of the calls
pub record EquivalentsDemand : Type 0 where
  pub to-64 : ThirdDemandTo64
  pub never-3 : NeverTooLarge
  pub same : SameWhereSmall
  pub same-records : SameRecordsWhereSmall
  pub unread : EquivalentBuffersUnread
  pub unread-records : EquivalentRecordsBuffersUnread
