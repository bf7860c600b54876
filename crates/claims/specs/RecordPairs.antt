-- The comparison of two records: demand 1, which arguments it accepts, that its answer is that of `compare` on the
-- records' expansions, and so demand 3.
use Rattle.std.specs.Prelude.{false, ◌++◌, List, [], ◌∷◌, ◌↔◌, ◌⊎◌, ◌≡◌, ◌<◌, ℕ, ◌≤◌, length}
use Rattle.buffers.specs.Refusals.{first_fitting}
use Rattle.calls.specs.Comparisons.{compare_call}
use Rattle.calls.specs.RecordComparisons.{compare_records_call, compare_records_lines, records_lines}
use Rattle.claims.specs.Conforming.{Answered, Conforms}
use Rattle.claims.specs.PartsDemand.{LargePart, SmallParts}
use Rattle.claims.specs.ThirdDemand.{Decided}
use Rattle.claims.specs.families.Comparisons.{CompareFits}
use Rattle.buffers.specs.Calls.{Call}
use Rattle.record.specs.Accepted.{AcceptedRecord}
use Rattle.record.specs.Lent.{LentRecord, held_rows, record_lines}
use Rattle.stabilizer.specs.Lists.{GeneratorList, list_of}
use Rattle.buffers.specs.Sentences.{FirstTrue, Sentence, sentence}
use Rattle.claims.specs.Numbers.{AnswersMisfit, CountsWrong, NoneCarries}
use Rattle.cut.specs.Kernel.{count}
use Rattle.record.specs.NeighbourWords.{graph_in}
use Rattle.comparison.specs.Parts.{part_of}
use Rattle.record.specs.RecordSentences.{CodeAbove23, NoSimpleGraph, RecordMisfits, StrayNeighbour}
use Rattle.record.specs.Reduced.{reduced_graph}

-- the record's expansion: its generators in order, as `expand` writes them
abbrev pub expansion : LentRecord → GeneratorList
expansion l = list_of l.n (held_rows l)

-- ---- demand 1
-- its lines stand in the published order, and its answers fill their buffers
abbrev pub RecordComparisonsConform : Type 0
RecordComparisonsConform =
    (l m : LentRecord) (choice list : List ℕ) (count : ℕ) (choice' list' : List ℕ) (count' : ℕ) →
    Conforms (compare_records_call l m choice list count choice' list' count')

-- what a buffer lent only for the answer holds makes no line true
abbrev pub RecordComparisonBuffersUnread : Type 0
RecordComparisonBuffersUnread =
    (l m : LentRecord) (choice list choice₂ list₂ : List ℕ) → length choice ≡ length choice₂ →
    length list ≡ length list₂ →
    first_fitting (compare_records_lines l m choice list) ≡ first_fitting (compare_records_lines l m choice₂ list₂)

-- two records whose expansions `compare` accepts
pub record CompareRecordsFits (l m : LentRecord) (choice list : List ℕ) : Type 0 where
  pub first : AcceptedRecord l
  pub second : AcceptedRecord m
  pub expansions : CompareFits (expansion l) (expansion m) choice list

-- it is accepted exactly if its arguments fit
abbrev pub RecordComparisonsAccepted : Type 0
RecordComparisonsAccepted =
    (l m : LentRecord) (choice list : List ℕ) (count : ℕ) (choice' list' : List ℕ) (count' r : ℕ) →
    Call (compare_records_call l m choice list count choice' list' count') r →
    (r ≡ 0) ↔ CompareRecordsFits l m choice list

-- ---- the same answer as on the expansions
-- where none of lines 2 to 7 holds of the records, nor line 4 of the buffers: what `compare` answers on the two
-- expansions, number and buffers, is what the call answers on the records, and nothing else is
abbrev pub SameOnExpansions : Type 0
SameOnExpansions =
    (l m : LentRecord) (choice list : List ℕ) (count : ℕ) (choice' list' : List ℕ) (count' r : ℕ) →
    first_fitting (records_lines l m choice list) ≡ 0 →
    Call (compare_records_call l m choice list count choice' list' count') r
    ↔ Call (compare_call (expansion l) (expansion m) choice list count choice' list' count') r

-- what is claimed of the call for all arguments
pub record RecordPairsDemand : Type 0 where
  pub conform : RecordComparisonsConform
  pub unread : RecordComparisonBuffersUnread
  pub accepted : RecordComparisonsAccepted
  pub same : SameOnExpansions

-- ---- two records that no line refuses, with the same n, and the two answer buffers with their places
pub record AcceptedRecords (l m : LentRecord) (choice list : List ℕ) : Type 0 where
  pub first : first_fitting (record_lines l false false) ≡ 0
  pub second : first_fitting (record_lines m false false) ≡ 0
  pub same_count : l.n ≡ m.n
  pub choice-places : length choice ≡ l.n
  pub list-places : length list ≡ 96

-- ---- its lines in words
-- lines 2 to 7 of two records
abbrev pub records_sentences : LentRecord → LentRecord → List ℕ → List ℕ → List Sentence
records_sentences l m choice list =
    sentence 2 (CountsWrong l.n m.n)
    ∷ sentence 4 (RecordMisfits l ⊎ (RecordMisfits m ⊎ AnswersMisfit l.n choice list))
    ∷ sentence 5 (StrayNeighbour l ⊎ StrayNeighbour m) ∷ sentence 6 (CodeAbove23 l ⊎ CodeAbove23 m)
    ∷ sentence 7 (NoSimpleGraph l.n (graph_in l.neighbours) ⊎ NoSimpleGraph m.n (graph_in m.neighbours)) ∷ []

-- 3: "a part exceeds 20", of the record's reduced graph
abbrev pub LargePartOf : LentRecord → Type 0
LargePartOf l = (q : ℕ) × (q < l.n) × (20 < count l.n (part_of l.n (reduced_graph l.n (held_rows l)) q))

-- then 3 and 13
abbrev pub compare_records_sentences : LentRecord → LentRecord → List ℕ → List ℕ → List Sentence
compare_records_sentences l m choice list =
    records_sentences l m choice list
    ++ (sentence 3 (LargePartOf l ⊎ LargePartOf m) ∷ sentence 13 (NoneCarries l.n (held_rows l) (held_rows m)) ∷ [])

-- ---- sukhlent_compare_records, in one record
pub record CompareRecordsSays (l m : LentRecord) (choice list : List ℕ) (count : ℕ) (choice' list' : List ℕ)
    (count' r : ℕ) : Type 0 where
  pub answered : Answered (compare_records_call l m choice list count choice' list' count') r
  pub accepted : (r ≡ 0) ↔ CompareRecordsFits l m choice list
  pub numbers : FirstTrue (compare_records_sentences l m choice list) r
  -- the answer of `compare` on the expansions
  pub same : first_fitting (records_lines l m choice list) ≡ 0 →
      Call (compare_call (expansion l) (expansion m) choice list count choice' list' count') r
  -- such records are taken, or refused by 3 or 13
  pub taken : AcceptedRecords l m choice list → (r ≡ 0) ⊎ ((r ≡ 3) ⊎ (r ≡ 13))
  -- demand 3 word for word, "n from 1 to 20": without a hypothesis on parts
  pub to-20 : AcceptedRecords l m choice list → l.n ≤ 20 →
      Decided (expansion l) (expansion m) list r choice' list' count'
  -- demand 3 where no part is larger than 20, and refusal 3 (02, §9)
  pub decided : first_fitting (records_lines l m choice list) ≡ 0 → SmallParts (expansion l) →
      SmallParts (expansion m) → Decided (expansion l) (expansion m) list r choice' list' count'
  pub large : first_fitting (records_lines l m choice list) ≡ 0 →
      (r ≡ 3) ↔ (LargePart (expansion l) ⊎ LargePart (expansion m))
