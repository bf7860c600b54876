-- What the run of lent steps promises: the record after the last, and what each answers, kept as one number. A name
-- with a prime is what the buffer holds at exit, or the word that is returned.
use Rattle.std.specs.Prelude.{Bool, cond, List, [], ◌∷◌, ◌≡◌, ◌*◌, ◌+◌, ◌<◌, ℕ, leb, get_or, length}
use Rattle.call_run.specs.internal.Waiting.{Standing, held_in, meant, meant_record}
use Rattle.jobs.specs.Asked.{number_of}
use Rattle.jobs.specs.Runs.{after_step, answer_of, run}
use Rattle.jobs.specs.declared.Answer.{Answer}
use Rattle.jobs.specs.declared.Step.{Step}
use Rattle.call_run.specs.internal.StepRuns.{next_waiting}
use Rattle.buffers.specs.Writing.{overwritten}
use Rattle.operations.specs.Used.{UsedRecord}

-- an answer as one number, with the mark of a record that waits after it
abbrev pub packed : Bool → Answer → ℕ
packed mark r = cond mark 128 0 + (r.refusal * 4 + r.outcome * 2 + r.determined)

-- it fits into a byte, and its parts can be told
pub record SmallAnswer (r : Answer) : Type 0 where
  pub refusal : r.refusal < 32
  pub outcome : r.outcome < 2
  pub determined : r.determined < 2

-- what each step answers, from a record that waits or not
unfoldable pub packed_answers : Bool → UsedRecord → List Step → List ℕ
packed_answers mark u [] = []
packed_answers mark u (s ∷ rest) =
    packed (next_waiting s.op (number_of u s) mark) (answer_of u s)
    ∷ packed_answers (next_waiting s.op (number_of u s) mark) (after_step u s) rest

-- the answer that is kept before a place has the mark; there is none before the first
abbrev pub marked_before : ℕ → List ℕ → Bool
marked_before place answers = leb 128 (get_or (0 ∷ answers) place 0)

-- ---- the record as the definitions have it
-- the steps were run from the record u on: the record after the last, and the answers from a place on
pub record LentRun (u : UsedRecord) (steps : List Step) (at : ℕ) (before neighbours' codes' : List ℕ) (used' : ℕ)
    (after : List ℕ) : Type 0 where
  pub words : neighbours' ≡ (run u steps).held.neighbours
  pub numbers : codes' ≡ (run u steps).held.codes
  pub marks : used' ≡ (run u steps).used
  pub answers : after ≡ overwritten before at (packed_answers (marked_before at before) u steps)

-- ---- the record as it is held between steps
-- before the step that answers at a place: it waits where the answer before has the mark
pub record ReadyAt (place : ℕ) (answers : List ℕ) (u : UsedRecord) : Type 0 where
  pub standing : Standing (marked_before place answers) u

-- steps, from the record that is meant before them to that which is meant after them
pub record WaitingRun (u : UsedRecord) (steps : List Step) (at : ℕ) (before words' codes' : List ℕ) (used' : ℕ)
    (after : List ℕ) : Type 0 where
  pub ran : LentRun (meant (marked_before at before) u) steps at before
      (meant_record (marked_before (at + length steps) after) (held_in u words' codes')).neighbours
      (meant_record (marked_before (at + length steps) after) (held_in u words' codes')).codes used' after
  pub ready : ReadyAt at before u
      → ReadyAt (at + length steps) after (record { held = held_in u words' codes'; used = used' })
