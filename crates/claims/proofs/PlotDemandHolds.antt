-- What the program `amplitudes` prints for a text, from what `plot_reply` of jobs_replies ensures of it.
use mathlib.Core.Bool.{cond, false}
use mathlib.Core.List.{List}
use mathlib.Core.Path.{◌∙◌, ◌≡◌, ap}
use Prim.Native.Nat.{◌^◌, ℕ, ◌≤◌}
use lib.Dec.{eqb}
use lib.ListN.{take}
use borrow.Author.Tests.{eq-eqb, ne_eqb}
use Rattle.amplitude.proofs.CountedWords.{plot-of-group}
use Rattle.amplitude.specs.Ratios.{is_supported, plot_at, ratio}
use Rattle.buffers.specs.Refusals.{first_fitting}
use Rattle.calls.specs.Lists.{check_lines}
use Rattle.cut.specs.Rank.{rank}
use Rattle.calls.proofs.PlotLines.{many-refused, same_number}
use Rattle.calls.specs.PlotAnswers.{plot_answer}
use Rattle.jobs.specs.Table.{table_text}
use Rattle.record.specs.Reduced.{x_words}
use Rattle.stabilizer.proofs.Accepted.{AcceptedList, accepted-list}
use Rattle.stabilizer.specs.Lists.{GeneratorList, rows}
use Rattle.text.specs.Text.{refused_text}
use Rattle.claims.proofs.AmplitudeDemandHolds.{amplitude-demand, plotted-as}
use Rattle.claims.proofs.ProgramDemandHolds.{bytes-printed}
use Rattle.claims.specs.PlotDemand.{PlotTextsAnswered, TablePrinted}

module _ (l : GeneratorList) (few : l.n ≤ 10) where
  -- the table of the list
  abbrev table_of : List ℕ
  table_of = table_text (2 ^ l.n) (plot_at l.n (rows l))

  plot-answer : plot_answer l
      ≡ cond (eqb (first_fitting (check_lines l)) 0) table_of (refused_text (first_fitting (check_lines l)))
  unfolding plot_answer
  plot-answer = ap (λ k. cond (eqb k 0) table_of (refused_text k)) (same_number l few)

  plot-refused : (first_fitting (check_lines l) ≡ 0 → ⊥) → plot_answer l ≡ refused_text (first_fitting (check_lines l))
  plot-refused h =
      plot-answer ∙ ap (λ b. cond b table_of (refused_text (first_fitting (check_lines l)))) (ne_eqb _ 0 h)

  plot-printed : first_fitting (check_lines l) ≡ 0 → plot_answer l ≡ table_of
  plot-printed z =
      plot-answer ∙ ap (λ b. cond b table_of (refused_text (first_fitting (check_lines l)))) (eq-eqb _ 0 z)

  table-printed : (bytes : List ℕ) → bytes ≡ plot_answer l → first_fitting (check_lines l) ≡ 0 → TablePrinted l bytes
  table-printed bytes e z =
      record {
        printed = e ∙ plot-printed z;
        lines = λ y. record {
          vector = amplitude-demand l.n (rows l) A.proper;
          line = plotted-as (is_supported l.n (rows l) y) (ratio l.n (rows l) y)
              (rank l.n l.n (x_words (rows l)));
        };
        group = λ S P s. e ∙ plot-printed z
            ∙ ap (table_text (2 ^ l.n)) (λ i y. plot-of-group l.n (rows l) S A.proper P s y i);
      }
    where
      A : AcceptedList l
      A = accepted-list l false z

pub plot-texts-answered : PlotTextsAnswered
plot-texts-answered t before after end R =
    record {
      malformed = λ h. same ∙ R.answers.malformed h;
      many = λ ls T h. same ∙ R.answers.formed ls T ∙ many-refused _ h;
      refused = λ ls T few h. same ∙ R.answers.formed ls T ∙ plot-refused _ few h;
      accepted = λ ls T few z. table-printed _ few _ (same ∙ R.answers.formed ls T) z;
    }
  where
    same : take end after ≡ R.bytes
    same = bytes-printed R.bytes before after end R.out
