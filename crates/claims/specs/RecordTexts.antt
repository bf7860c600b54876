-- Records as texts, of the public calls: a record written (sukhlent_write_record) and a text read
-- (sukhlent_read_record). A name with a prime is what the buffer, or the lent number, holds at exit.
use Rattle.std.specs.Prelude.{List, ◌++◌, ◌∷◌, ◌↔◌, ◌⊎◌, ◌≡◌, ℕ, drop, length, take}
use Rattle.buffers.specs.Calls.{Call}
use Rattle.buffers.specs.Sentences.{FirstTrue, OtherLength, Sentence, sentence}
use Rattle.calls.specs.RecordTexts.{print_of, read_record_call, record_in_text, write_record_call}
use Rattle.claims.specs.Arguments.{IsRecord}
use Rattle.claims.specs.Conforming.{Answered}
use Rattle.claims.specs.ProgramDemand.{JobPrinted, RecordPrinted, reduced_record}
use Rattle.jobs.specs.Runs.{run, started}
use Rattle.jobs.specs.declared.Step.{Step}
use Rattle.operations.specs.Used.{UsedRecord, used_record}
use Rattle.operations.specs.UsedSentences.{StrayBit, used_sentences}
use Rattle.record.specs.RecordSentences.{CodeAbove23, RecordMisfits}
use Rattle.stabilizer.specs.Lists.{GeneratorList}
use Rattle.text.specs.RecordTexts.{HasRecordForm}

-- ---- writing
-- a record, and a buffer of 1,627 bytes
abbrev pub WriteRecordFits : UsedRecord → List ℕ → Type 0
WriteRecordFits u text = IsRecord u × (length text ≡ 1627)

-- its lines. 4: also of the text's buffer
abbrev pub write_record_sentences : UsedRecord → List ℕ → List Sentence
write_record_sentences u text =
    used_sentences u (RecordMisfits u.held ⊎ OtherLength 1627 text) (StrayBit u) (CodeAbove23 u.held)

-- the record in the buffers after a read
abbrev pub record_read : ℕ → List ℕ → List ℕ → ℕ → UsedRecord
record_read n' nb' cs' used' =
    used_record n' (take n' nb') (take n' cs') used'

-- "reading back a written record yields that record": every read of the text into buffers of 64 places is accepted, and
-- leaves the record
abbrev pub RecordComesBack : UsedRecord → List ℕ → Type 0
RecordComesBack u t = (n : ℕ) (nb cs : List ℕ) (used n' : ℕ) (nb' cs' : List ℕ) (used' r : ℕ) → length nb ≡ 64 →
    length cs ≡ 64 → Call (read_record_call t n nb cs used n' nb' cs' used') r →
    (r ≡ 0) × (record_read n' nb' cs' used' ≡ u)

-- sukhlent_write_record, in one record
pub record WriteRecordSays (u : UsedRecord) (text : List ℕ) (size : ℕ) (text' : List ℕ) (size' r : ℕ) : Type 0 where
  pub answered : Answered (write_record_call u text size text' size') r
  pub accepted : (r ≡ 0) ↔ WriteRecordFits u text
  pub numbers : FirstTrue (write_record_sentences u text) r
  -- "The record print of `reduce`"
  pub print : r ≡ 0 → take size' text' ≡ print_of u
  -- "the places past `*length` keep their values"
  pub past : r ≡ 0 → drop size' text' ≡ drop size' text
  pub back : r ≡ 0 → RecordComesBack u (take size' text')

-- ---- reading
-- the text is the print of a record, and the two buffers have 64 places
abbrev pub ReadRecordFits : List ℕ → List ℕ → List ℕ → Type 0
ReadRecordFits t nb cs = (u : UsedRecord) × IsRecord u × (t ≡ print_of u) × (length nb ≡ 64) × (length cs ≡ 64)

-- its lines. 1: the text is not that of any lines; 2 to 7 of the record that it stands for, 4 also of the two buffers
abbrev pub read_record_sentences : List ℕ → List ℕ → List ℕ → List Sentence
read_record_sentences t nb cs =
    sentence 1 (HasRecordForm t → ⊥)
    ∷ used_sentences (record_in_text t) (RecordMisfits (record_in_text t).held ⊎ (OtherLength 64 nb ⊎ OtherLength 64 cs))
    (StrayBit (record_in_text t)) (CodeAbove23 (record_in_text t).held)

-- "each accepted text is rewritten unchanged": every write of the record into a buffer of 1,627 bytes is accepted, and
-- leaves the text
abbrev pub RecordTextComesBack : List ℕ → UsedRecord → Type 0
RecordTextComesBack t u = (text : List ℕ) (size : ℕ) (text' : List ℕ) (size' r : ℕ) → length text ≡ 1627 →
    Call (write_record_call u text size text' size') r → (r ≡ 0) × (take size' text' ≡ t)

-- sukhlent_read_record, in one record
pub record ReadRecordSays (t : List ℕ) (n : ℕ) (nb cs : List ℕ) (used n' : ℕ) (nb' cs' : List ℕ) (used' r : ℕ)
    : Type 0 where
  pub answered : Answered (read_record_call t n nb cs used n' nb' cs' used') r
  pub accepted : (r ≡ 0) ↔ ReadRecordFits t nb cs
  pub numbers : FirstTrue (read_record_sentences t nb cs) r
  -- what is read is a record, and the text is its print
  pub read : r ≡ 0 → IsRecord (record_read n' nb' cs' used') × (t ≡ print_of (record_read n' nb' cs' used'))
  -- "those from `*n` on keep their values"
  pub past : r ≡ 0 → (drop n' nb' ≡ drop n' nb) × (drop n' cs' ≡ drop n' cs)
  pub back : r ≡ 0 → RecordTextComesBack t (record_read n' nb' cs' used')

-- ---- of both, and of the programs
pub record RecordTextsDemand : Type 0 where
  -- "one record has one text": accepted texts that are read as one record are one text
  pub one-text : (t s : List ℕ) (n : ℕ) (nb cs : List ℕ) (used m : ℕ) (nb₂ cs₂ : List ℕ) (used₂ n' : ℕ)
      (nb' cs' : List ℕ)
      (used' : ℕ) (nb'' cs'' : List ℕ) → Call (read_record_call t n nb cs used n' nb' cs' used') 0 →
      Call (read_record_call s m nb₂ cs₂ used₂ n' nb'' cs'' used') 0 → record_read n' nb' cs' used' ≡ record_read n' nb'' cs''
      used' →
      t ≡ s
  -- and accepted records with one text are one record
  pub one-record : (u v : UsedRecord) (a b : List ℕ) (i j : ℕ) (a' b' : List ℕ) (i' j' : ℕ) →
      Call (write_record_call u a i a' i') 0 → Call (write_record_call v b j b' j') 0 → take i' a' ≡ take j' b' → u ≡ v
  -- "what `reduce` and `job` print as a record is such a text"
  pub reduce-prints : (l : GeneratorList) (bytes : List ℕ) → RecordPrinted l bytes →
      RecordComesBack (record { held = reduced_record l; used = 0 }) bytes
  pub job-prints : (n : ℕ) (steps : List Step) (bytes : List ℕ) → JobPrinted n steps bytes →
      (results : List ℕ) × (tail : List ℕ) × (bytes ≡ results ++ tail) × RecordComesBack (run (started n) steps) tail
