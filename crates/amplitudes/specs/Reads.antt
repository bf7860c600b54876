-- What the program promises of the text that it reads. No contract can name what a read brings, so the text is some
-- list of bytes.
use Rattle.std.specs.Prelude.{List, ℕ, take}
use Rattle.claims.specs.PlotDemand.{PlotTextAnswered}
use Rattle.calls.specs.ListAnswers.{ListResponse}
use Rattle.calls.specs.PlotAnswers.{plot_answer}

-- a text was read, and its answer printed; the bytes up to there say of the text what the demands say
pub record AmplitudesResponded (before after : List ℕ) (r : ℕ) : Type 0 where
  pub text : List ℕ
  pub response : ListResponse plot_answer text before after r
  pub answered : PlotTextAnswered text (take r after)
