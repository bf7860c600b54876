-- The line on n of the program that prints amplitudes: where it holds, and where it does not.
use mathlib.Core.Bool.{cond}
use mathlib.Core.Path.{ap, ◌≡◌}
use Prim.Native.Nat.{◌<◌, ◌^◌, ◌≤◌}
use lib.Dec.{eqb}
use borrow.Author.Tests.{le-ltb, lt-ltb}
use Rattle.amplitude.specs.Ratios.{plot_at}
use Rattle.buffers.proofs.Lines.{fits, passed}
use Rattle.buffers.specs.Refusals.{first_fitting}
use Rattle.jobs.specs.Table.{table_text}
use Rattle.stabilizer.specs.Lists.{GeneratorList, rows}
use Rattle.text.specs.Text.{refused_text}
use Rattle.calls.specs.Lists.{check_lines}
use Rattle.calls.specs.PlotAnswers.{plot_answer, plot_lines}

-- a list of more than 10 is refused with 2, whatever else it holds
pub many-refused : (l : GeneratorList) → 10 < l.n → plot_answer l ≡ refused_text 2
unfolding plot_answer
many-refused l h =
    ap (λ k. cond (eqb k 0) (table_text (2 ^ l.n) (plot_at l.n (rows l))) (refused_text k))
    (fits 2 (check_lines l) (lt-ltb 10 l.n h))

-- the program's own line does not hold
pub same_number : (l : GeneratorList) → l.n ≤ 10 → first_fitting (plot_lines l) ≡ first_fitting (check_lines l)
same_number l few = passed 2 (check_lines l) (le-ltb 10 l.n few)
