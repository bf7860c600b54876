-- What the programs `reduce` and `job` print for a text, from what fn `list_reply` of text_replies and `job_reply` of
-- jobs_replies ensure of the text that was scanned, whatever text it was. The bytes are those of the buffer up to the
-- place that it answers; the program writes these.
use Rattle.std.specs.Prelude.{List, ◌↔◌, ◌⊎◌, ◌≡◌, ◌<◌, ℕ, ◌≤◌, get_or, length, take}
use Rattle.buffers.specs.Refusals.{first_fitting}
use Rattle.jobs.specs.Answer.{JobResponse, results_of}
use Rattle.jobs.specs.Results.{Result, job_answer}
use Rattle.jobs.specs.Text.{HasJobForm, JobTextOf}
use Rattle.jobs.specs.Asked.{Request, asked, carry_out, number_of, observation_of, renewal_of}
use Rattle.jobs.specs.GroupsAfter.{Group, GroupAfter, GroupDetermines, Refused, StartGroup}
use Rattle.jobs.specs.Runs.{record_after, run, started}
use Rattle.jobs.specs.Standing.{StandsFor, StillRecord}
use Rattle.jobs.specs.declared.Step.{Step}
use Rattle.calls.specs.Lists.{check_lines}
use Rattle.calls.specs.ListAnswers.{ListResponse, list_answer, list_read}
use Rattle.operations.specs.Measurement.{pauli_letter, single}
use Rattle.operations.specs.Steps.{Operation, complement_of, cz_on, gate_with, measurement_of, pivot_of}
use Rattle.pauli.specs.Pauli.{Pauli}
use Rattle.record.specs.Lent.{code_numbers, held_rows, LentRecord, neighbour_words}
use Rattle.record.specs.Reduced.{reduced}
use Rattle.stabilizer.specs.Groups.{SameGroup}
use Rattle.stabilizer.specs.Lists.{GeneratorList, rows}
use Rattle.text.specs.Text.{HasForm, ListLine, TextOf, record_text, refused_text}
use Rattle.operations.specs.Used.{UsedRecord}
use Rattle.words.specs.Bits.{is_odd}
use Rattle.claims.specs.OperationsDemand.{IsReduced}

-- ---- `reduce`
-- the reduced record of a list, in buffers
abbrev pub reduced_record : GeneratorList → LentRecord
reduced_record l =
    record {
      n = l.n;
      neighbours = neighbour_words l.n (reduced l.n (rows l));
      codes = code_numbers l.n (reduced l.n (rows l));
    }

-- an accepted list: the record printed is the reduced one, with the used word 0, and stands for the list's group
pub record RecordPrinted (l : GeneratorList) (bytes : List ℕ) : Type 0 where
  pub printed : bytes ≡ record_text l.n (reduced_record l).neighbours (reduced_record l).codes 0
  pub still : StillRecord (reduced_record l)
  pub is-reduced : IsReduced (reduced_record l)
  pub group : SameGroup l.n l.n (rows l) (held_rows (reduced_record l))

-- these bytes answer the text t
pub record ListTextAnswered (t bytes : List ℕ) : Type 0 where
  -- 1: "The program's text does not have its form"
  pub malformed : (HasForm t → ⊥) → bytes ≡ refused_text 1
  -- "or the one line `refused` and the number": that of the first line that holds of the list
  pub refused : (ls : List ListLine) → TextOf ls t → (first_fitting (check_lines (list_read ls)) ≡ 0 → ⊥) →
      bytes ≡ refused_text (first_fitting (check_lines (list_read ls)))
  pub accepted : (ls : List ListLine) → TextOf ls t → first_fitting (check_lines (list_read ls)) ≡ 0 →
      RecordPrinted (list_read ls) bytes

-- of every response of `reduce`
abbrev pub ListTextsAnswered : Type 0
ListTextsAnswered =
    (t before after : List ℕ) (end : ℕ) → ListResponse list_answer t before after end → ListTextAnswered t
    (take end after)

-- ---- `job`
-- the operation is a measurement, and "the Pauli or its negative is in the group"
abbrev pub Determines : Group → Operation → Type 0
Determines G (gate_with q k) = ⊥
Determines G (cz_on a b) = ⊥
Determines G (measurement_of pauli q b) = GroupDetermines G (pauli_letter pauli) q
Determines G (complement_of a) = ⊥
Determines G (pivot_of j k) = ⊥

-- the outcome of an accepted step: of a measurement the bit, and where it is determined "the sign". "Fields without
-- meaning print 0"
abbrev pub OutcomeIs : Group → Operation → ℕ → Type 0
OutcomeIs G (gate_with q k) v = v ≡ 0
OutcomeIs G (cz_on a b) v = v ≡ 0
OutcomeIs G (measurement_of pauli q b) v =
    (v ≡ b) × (GroupDetermines G (pauli_letter pauli) q → G (single (pauli_letter pauli) q (is_odd v)))
OutcomeIs G (complement_of a) v = v ≡ 0
OutcomeIs G (pivot_of j k) v = v ≡ 0

-- the same of what a step asks: an observation has the sign where the outcome is determined, and otherwise the bit
abbrev pub RequestDetermines : Group → Request → Type 0
RequestDetermines G (carry_out o) = Determines G o
RequestDetermines G (observation_of pauli q b) = GroupDetermines G (pauli_letter pauli) q
RequestDetermines G (renewal_of q k) = ⊥

-- its outcome
abbrev pub RequestOutcomeIs : Group → Request → ℕ → Type 0
RequestOutcomeIs G (carry_out o) v = OutcomeIs G o v
RequestOutcomeIs G (observation_of pauli q b) v =
    (GroupDetermines G (pauli_letter pauli) q → G (single (pauli_letter pauli) q (is_odd v)))
    × ((GroupDetermines G (pauli_letter pauli) q → ⊥) → v ≡ b)
RequestOutcomeIs G (renewal_of q k) v = v ≡ 0

-- what is printed of the step s, which meets the group G and the record u that stands for it
pub record LineSays (u : UsedRecord) (G : Pauli → Type 0) (s : Step) (r : Result) : Type 0 where
  -- the step's number, which is not 0 exactly if the fields or the group refuse the step
  pub number : r.refusal ≡ number_of u s
  pub refused : (r.refusal ≡ 0 → ⊥) ↔ Refused u G s
  -- determined is 1 exactly if the step is an accepted measurement and the Pauli or its negative is in the group
  pub either : (r.determined ≡ 0) ⊎ (r.determined ≡ 1)
  pub determined : (r.determined ≡ 1) ↔ ((Refused u G s → ⊥) × RequestDetermines G (asked s))
  pub outcome : (Refused u G s → ⊥) → RequestOutcomeIs G (asked s) r.outcome
  pub no-outcome : Refused u G s → r.outcome ≡ 0

-- an accepted job: "one line per step with steps counted from 0, and then the record"
pub record JobPrinted (n : ℕ) (steps : List Step) (bytes : List ℕ) : Type 0 where
  pub printed : bytes ≡ job_answer (length steps) (results_of (started n) steps) (run (started n) steps)
  -- the record printed stands for the group after all steps
  pub stands : StandsFor (run (started n) steps) (GroupAfter (started n) (StartGroup n) steps)
  -- line k is about the group after the first k steps
  pub lines : (k : ℕ) (other : Step) → k < length steps →
      LineSays (record_after n steps k) (GroupAfter (started n) (StartGroup n) (take k steps))
      (get_or steps k other) (results_of (started n) steps k)

-- these bytes answer the text t
pub record JobTextAnswered (t bytes : List ℕ) : Type 0 where
  -- 1: "The program's text does not have its form"
  pub malformed : (HasJobForm t → ⊥) → bytes ≡ refused_text 1
  -- "15, more than 4,096 steps; checked directly after 1 and so before 2"
  pub many : (n : ℕ) (steps : List Step) → JobTextOf n steps t → 4096 < length steps → bytes ≡ refused_text 15
  -- 2: "n is 0 or above 64"
  pub sizes : (n : ℕ) (steps : List Step) → JobTextOf n steps t → length steps ≤ 4096 → (n ≡ 0) ⊎ (64 < n) →
      bytes ≡ refused_text 2
  pub accepted : (n : ℕ) (steps : List Step) → JobTextOf n steps t → length steps ≤ 4096 → 1 ≤ n → n ≤ 64 →
      JobPrinted n steps bytes

-- of every response of `job`
abbrev pub JobTextsAnswered : Type 0
JobTextsAnswered =
    (t before after : List ℕ) (end : ℕ) → JobResponse t before after end → JobTextAnswered t (take end after)
