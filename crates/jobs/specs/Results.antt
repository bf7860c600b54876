-- The text that answers a job: a line for each step, and the record after the last.
use Rattle.std.specs.Prelude.{List, [], ◌∷◌, ◌++◌, ℕ, zero, suc}
use Rattle.text.specs.Text.{digits, decimal, space, newline, record_text}
use Rattle.operations.specs.Used.{UsedRecord}

-- what is printed of a step: the refusal's number, 0 where it is accepted, the outcome and whether it is determined.
-- "Fields without meaning print 0"
pub record Result : Type 0 where
  pub refusal : ℕ
  pub outcome : ℕ
  pub determined : ℕ

-- "the names `step refusal outcome determined`"
abbrev pub result_names : List ℕ
result_names =
    115 ∷ 116 ∷ 101 ∷ 112 ∷ 32
    ∷ 114 ∷ 101 ∷ 102 ∷ 117 ∷ 115 ∷ 97 ∷ 108 ∷ 32
    ∷ 111 ∷ 117 ∷ 116 ∷ 99 ∷ 111 ∷ 109 ∷ 101 ∷ 32
    ∷ 100 ∷ 101 ∷ 116 ∷ 101 ∷ 114 ∷ 109 ∷ 105 ∷ 110 ∷ 101 ∷ 100 ∷ 10 ∷ []

-- the line of step k
unfoldable pub result_line : ℕ → Result → List ℕ
result_line k r =
    digits 4 k ++ space ++ decimal r.refusal ++ space ++ decimal r.outcome ++ space
    ++ decimal r.determined ++ newline

-- "one line per step with steps counted from 0": the lines of the steps below k
unfoldable pub result_lines : ℕ → (ℕ → Result) → List ℕ
result_lines zero results = []
result_lines (suc k) results = result_lines k results ++ result_line k (results k)

-- "The program prints the names .., one line per step .., and then the record as `reduce` prints it"
unfoldable pub job_answer : ℕ → (ℕ → Result) → UsedRecord → List ℕ
job_answer count results u =
    result_names ++ result_lines count results
    ++ record_text u.held.n u.held.neighbours u.held.codes u.used
