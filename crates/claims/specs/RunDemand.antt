-- Many steps in one call: demand 1 of sukhlent_run, which arguments it accepts, and what the record that it leaves and
-- the answer of each step say of the group. What `JobsStand` says of jobs is said of it: "the record after the first k
-- steps stands for the group that the definitions give, refused steps counting as no change" (02, §5).
use Rattle.std.specs.Prelude.{List, ◌∷◌, ◌↔◌, ◌⊎◌, ◌≡◌, ◌<◌, ℕ, ◌≤◌, get_or, length, take}
use Rattle.buffers.specs.Refusals.{first_fitting}
use Rattle.calls.specs.Runs.{LentSteps, run_call, run_lines, steps_of}
use Rattle.claims.specs.Arguments.{IsRecord}
use Rattle.claims.specs.Conforming.{Answered, Conforms}
use Rattle.claims.specs.ProgramDemand.{LineSays}
use Rattle.buffers.specs.Calls.{Call}
use Rattle.jobs.specs.Results.{Result}
use Rattle.jobs.specs.GroupsAfter.{Group, GroupAfter, StartGroup}
use Rattle.jobs.specs.Parallel.{step_in}
use Rattle.jobs.specs.Runs.{run, started}
use Rattle.jobs.specs.Standing.{StandsFor, left}
use Rattle.pauli.specs.Pauli.{Pauli}
use Rattle.record.specs.Lent.{held_rows}
use Rattle.stabilizer.specs.Groups.{InGroup}
use Rattle.operations.specs.Used.{UsedRecord, UsedUnrefused}
use Rattle.buffers.specs.Sentences.{FirstTrue, Sentence, SomeAbove, sentence}
use Rattle.record.specs.RecordSentences.{CodeAbove23, RecordMisfits}
use Rattle.operations.specs.UsedSentences.{StrayBit, used_sentences}
use Rattle.claims.specs.Numbers.{ThreeMisfit}

-- at most 4,096 steps, operations from 0 to 6, and seven slices of one length; what else a step asks is not looked at
-- before it is run
pub record StepsFit (s : LentSteps) : Type 0 where
  pub few : length s.ops ≤ 4096
  pub operations : (k : ℕ) → k < length s.ops → get_or s.ops k 0 < 7
  pub a-places : length s.a ≡ length s.ops
  pub b-places : length s.b ≡ length s.ops
  pub value-places : length s.value ≡ length s.ops
  pub refusals-places : length s.refusals ≡ length s.ops
  pub outcomes-places : length s.outcomes ≡ length s.ops
  pub determined-places : length s.determined ≡ length s.ops

-- and a record
pub record RunFits (u : UsedRecord) (s : LentSteps) : Type 0 where
  pub held : IsRecord u
  pub steps : StepsFit s

-- a slice has another length than the operations
abbrev pub SlicesDiffer : LentSteps → Type 0
SlicesDiffer s =
    ThreeMisfit (length s.ops) s.a s.b s.value
    ⊎ ThreeMisfit (length s.ops) s.refusals s.outcomes s.determined

-- its lines in words. 15: "more than 4,096 steps"; 4: "all seven slices have one length"; 6: "an op above 6"
abbrev pub run_sentences : UsedRecord → LentSteps → List Sentence
run_sentences u s =
    sentence 15 (4096 < length s.ops)
    ∷ used_sentences u (RecordMisfits u.held ⊎ SlicesDiffer s) (StrayBit u)
    (CodeAbove23 u.held ⊎ SomeAbove 6 s.ops)

-- ---- what an accepted call leaves
-- the group of a record: the products of its generators
abbrev pub held_group : UsedRecord → Group
held_group u = InGroup u.held.n u.held.n (held_rows u.held)

-- what the three slices hold of step k
abbrev pub answer_in : List ℕ → List ℕ → List ℕ → ℕ → Result
answer_in refusals outcomes determined k =
    record { refusal = get_or refusals k 0; outcome = get_or outcomes k 0; determined = get_or determined k 0 }

-- an accepted call on a record that stands for the group G
pub record RunStands (u : UsedRecord) (G : Pauli → Type 0) (s : LentSteps) (neighbours' codes' : List ℕ) (used' : ℕ)
    (refusals' outcomes' determined' : List ℕ) : Type 0 where
  -- the record that it leaves stands for the group after all steps, "refused steps counting as no change"
  pub group : StandsFor (record { held = left u.held neighbours' codes'; used = used' }) (GroupAfter u G (steps_of s))
  -- what is answered of step k is about the group after the first k steps: its refusal; its determined, 1 exactly if
  -- "the
  -- Pauli or its negative is in the group"; and its outcome
  pub steps : (k : ℕ) → k < length s.ops →
      LineSays (run u (take k (steps_of s))) (GroupAfter u G (take k (steps_of s)))
      (step_in s.ops s.a s.b s.value k) (answer_in refusals' outcomes' determined' k)

-- sukhlent_run: demand 1; which arguments it accepts; and the record and the answers, about the record's own group
pub record RunSays (u : UsedRecord) (s : LentSteps) (neighbours' codes' : List ℕ) (used' : ℕ)
    (refusals' outcomes' determined' : List ℕ) (r : ℕ) : Type 0 where
  pub answered : Answered (run_call u s neighbours' codes' used' refusals' outcomes' determined') r
  pub accepted : (r ≡ 0) ↔ RunFits u s
  pub numbers : FirstTrue (run_sentences u s) r
  -- every record that no line refuses is taken
  pub taken : UsedUnrefused u → StepsFit s → r ≡ 0
  pub follows : r ≡ 0 → RunStands u (held_group u) s neighbours' codes' used' refusals' outcomes' determined'

-- ---- of every call
-- what the slices lent for the answers hold makes no line true
abbrev pub RunBuffersUnread : Type 0
RunBuffersUnread = (u : UsedRecord) (s t : LentSteps) → s.ops ≡ t.ops → length s.a ≡ length t.a →
    length s.b ≡ length t.b → length s.value ≡ length t.value →
    length s.refusals ≡ length t.refusals → length s.outcomes ≡ length t.outcomes →
    length s.determined ≡ length t.determined → first_fitting (run_lines u s) ≡ first_fitting (run_lines u t)

-- the demand, with the record and the answers about any group that the record stands for
pub record RunDemand : Type 1 where
  -- demand 1: its lines stand in the published order, and its answers fill their buffers
  pub conforms : (u : UsedRecord) (s : LentSteps) (neighbours' codes' : List ℕ) (used' : ℕ)
      (refusals' outcomes' determined' : List ℕ) →
      Conforms (run_call u s neighbours' codes' used' refusals' outcomes' determined')
  pub unread : RunBuffersUnread
  pub accepted : (u : UsedRecord) (s : LentSteps) (neighbours' codes' : List ℕ) (used' : ℕ)
      (refusals' outcomes' determined' : List ℕ) (r : ℕ) →
      Call (run_call u s neighbours' codes' used' refusals' outcomes' determined') r → (r ≡ 0) ↔ RunFits u s
  pub follows : (u : UsedRecord) (G : Group) → StandsFor u G → (s : LentSteps) (neighbours' codes' : List ℕ) (used' : ℕ)
      (refusals' outcomes' determined' : List ℕ) →
      Call (run_call u s neighbours' codes' used' refusals' outcomes' determined') 0 →
      RunStands u G s neighbours' codes' used' refusals' outcomes' determined'
  -- of the record that a job starts from, the groups are those of `JobsStand`
  pub jobs : (n : ℕ) → 1 ≤ n → n ≤ 64 → (s : LentSteps) (neighbours' codes' : List ℕ) (used' : ℕ)
      (refusals' outcomes' determined' : List ℕ) →
      Call (run_call (started n) s neighbours' codes' used' refusals' outcomes' determined') 0 →
      RunStands (started n) (StartGroup n) s neighbours' codes' used' refusals' outcomes' determined'
