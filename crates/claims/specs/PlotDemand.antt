-- What the program `amplitudes` prints for a text, from what fn `plot_reply` of jobs_replies ensures of the text that
-- was scanned, whatever text it was. The bytes are those of the buffer up to the place that it answers; the program
-- writes these.
use Rattle.std.specs.Prelude.{List, ◌≡◌, ◌<◌, ◌^◌, ℕ, ◌≤◌, length, take}
use Rattle.amplitude.specs.Ratios.{plot_at}
use Rattle.buffers.specs.Refusals.{first_fitting}
use Rattle.calls.specs.Lists.{check_lines}
use Rattle.calls.specs.ListAnswers.{ListResponse, list_read}
use Rattle.pauli.specs.Pauli.{Pauli}
use Rattle.calls.specs.PlotAnswers.{plot_answer}
use Rattle.jobs.specs.Table.{table_text}
use Rattle.stabilizer.specs.Groups.{Proper, SameGroup}
use Rattle.stabilizer.specs.Lists.{GeneratorList, rows}
use Rattle.text.specs.Text.{HasForm, ListLine, TextOf, refused_text}
use Rattle.claims.specs.AmplitudeDemand.{AmplitudeAnswer}

-- an accepted list: the table printed has the plot line of each word below 2^n, and the line says what an accepted call
-- says of the list's group there
pub record TablePrinted (l : GeneratorList) (bytes : List ℕ) : Type 0 where
  pub printed : bytes ≡ table_text (2 ^ l.n) (plot_at l.n (rows l))
  pub lines : (y : ℕ) → AmplitudeAnswer l.n (rows l) y (plot_at l.n (rows l) y).re
      (plot_at l.n (rows l) y).im (plot_at l.n (rows l) y).p
  -- the table depends on the group alone
  pub group : (S : ℕ → Pauli) → Proper l.n S → SameGroup l.n l.n (rows l) S →
      bytes ≡ table_text (2 ^ l.n) (plot_at l.n S)

-- these bytes answer the text t
pub record PlotTextAnswered (t bytes : List ℕ) : Type 0 where
  -- 1: "The program's text does not have its form"
  pub malformed : (HasForm t → ⊥) → bytes ≡ refused_text 1
  -- "there n above 10 gives 2", whatever else the list holds
  pub many : (ls : List ListLine) → TextOf ls t → 10 < length ls → bytes ≡ refused_text 2
  -- "`reduce`'s .. refused texts": the number of the first line that holds of the list
  pub refused : (ls : List ListLine) → TextOf ls t → length ls ≤ 10 →
      (first_fitting (check_lines (list_read ls)) ≡ 0 → ⊥) → bytes ≡ refused_text (first_fitting (check_lines (list_read ls)))
  pub accepted : (ls : List ListLine) → TextOf ls t → length ls ≤ 10 → first_fitting (check_lines (list_read ls)) ≡ 0 →
      TablePrinted (list_read ls) bytes

-- of every response of `amplitudes`
abbrev pub PlotTextsAnswered : Type 0
PlotTextsAnswered =
    (t before after : List ℕ) (end : ℕ) → ListResponse plot_answer t before after end → PlotTextAnswered t
    (take end after)
