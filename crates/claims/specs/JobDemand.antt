-- Jobs: "For all jobs, the record after the first k steps stands for the group that the definitions give, refused
-- steps counting as no change." (02, §5)
use Rattle.std.specs.Prelude.{List, ◌↔◌, ◌≡◌, ℕ, ◌≤◌, take}
use Rattle.jobs.specs.Asked.{number_of}
use Rattle.jobs.specs.GroupsAfter.{Group, GroupAfter, Refused, StartGroup}
use Rattle.jobs.specs.Runs.{record_after, run, started}
use Rattle.jobs.specs.Standing.{StandsFor}
use Rattle.jobs.specs.declared.Step.{Step}
use Rattle.operations.specs.Used.{UsedRecord}

-- of every job, after any number of its steps, with observations and renewals among them, which a job's text does not
-- have
abbrev pub JobsStand : Type 0
JobsStand = (n : ℕ) → 1 ≤ n → n ≤ 64 → (steps : List Step) (k : ℕ) →
    StandsFor (record_after n steps k) (GroupAfter (started n) (StartGroup n) (take k steps))

-- the same from any record on, for the group that it stands for
abbrev pub RunsStand : Type 1
RunsStand = (u : UsedRecord) (G : Group) → StandsFor u G → (steps : List Step) →
    StandsFor (run u steps) (GroupAfter u G steps)

-- a step's number is not 0 exactly if its fields or the group refuse it
abbrev pub RefusedExactly : Type 1
RefusedExactly = (u : UsedRecord) (G : Group) → StandsFor u G → (s : Step) →
    (number_of u s ≡ 0 → ⊥) ↔ Refused u G s
