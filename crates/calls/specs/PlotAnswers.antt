-- The answer to the text of a generator list: the table of its amplitudes, or the one line `refused` and the number.
use Rattle.std.specs.Prelude.{cond, List, ◌∷◌, ◌*◌, ◌+◌, ◌^◌, ℕ, eqb, ltb}
use Rattle.amplitude.specs.Ratios.{plot_at}
use Rattle.buffers.specs.Refusals.{Refusal, first_fitting, line}
use Rattle.calls.specs.Lists.{check_lines}
use Rattle.jobs.specs.Table.{table_text}
use Rattle.stabilizer.specs.Lists.{GeneratorList, rows}
use Rattle.text.specs.Text.{refused_text}

-- "there n above 10 gives 2": before the other lines of a list, of which the first is 2
abbrev pub plot_lines : GeneratorList → List Refusal
plot_lines l = line 2 (ltb 10 l.n) ∷ check_lines l

-- "For n up to 10 a program with `reduce`'s input, layout and refused texts prints, for y rising from 0, y .. and the
-- three floats' bits": the words below 2^n, or the number of the first line that holds of the list
unfoldable pub plot_answer : GeneratorList → List ℕ
plot_answer l =
    cond (eqb (first_fitting (plot_lines l)) 0)
    (table_text (2 ^ l.n) (plot_at l.n (rows l)))
    (refused_text (first_fitting (plot_lines l)))

-- the longest answer: the names and 1,024 lines
abbrev pub longest_table : ℕ
longest_table = 10 + 1024 * 56
