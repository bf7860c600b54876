-- The record that a job starts from, in buffers, and what is printed of an answer that is kept as one number.
use Rattle.std.specs.Prelude.{List, ◌≡◌, ◌%◌, ◌/◌, ◌≤◌, ℕ, get_or, length, replicate}
use Rattle.jobs.specs.Results.{Result}
use Rattle.jobs_replies.specs.Room.{longest_job}

-- the buffers hold the record that a job starts from, and there is room
pub record Fresh (n : ℕ) (neighbours codes : List ℕ) (count : ℕ) (answers out : List ℕ) : Type 0 where
  pub positive : 1 ≤ n
  pub upto : n ≤ 64
  pub no_edge : neighbours ≡ replicate n 0
  pub eights : codes ≡ replicate n 8
  pub few : count ≤ 4096
  pub kept : count ≤ length answers
  pub room : longest_job ≤ length out

-- what is printed of the answer at place k
abbrev pub result_in : List ℕ → ℕ → Result
result_in answers k =
    record {
      refusal = get_or answers k 0 / 4 % 32;
      outcome = get_or answers k 0 / 2 % 2;
      determined = get_or answers k 0 % 2;
    }
