-- What the program promises of the text that it reads. No contract can name what a read brings, so the text is some
-- list of bytes.
use Rattle.std.specs.Prelude.{List, ℕ, take}
use Rattle.claims.specs.ProgramDemand.{JobTextAnswered}
use Rattle.jobs.specs.Answer.{JobResponse}

-- a text was read, and its answer printed; the bytes up to there say of the text what the demands say
pub record JobResponded (before after : List ℕ) (r : ℕ) : Type 0 where
  pub text : List ℕ
  pub response : JobResponse text before after r
  pub answered : JobTextAnswered text (take r after)
