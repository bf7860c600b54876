-- The buffers for the answer to a list of at most 10 generators.
use Rattle.std.specs.Prelude.{List, ◌≡◌, ℕ, ◌≤◌, length}
use Rattle.calls.specs.PlotAnswers.{longest_table}

-- the buffers lent for the record of a list of n, for a copy of it and for the print
pub record RoomFor (n : ℕ) (neighbours codes words bytes out : List ℕ) : Type 0 where
  pub few : n ≤ 10
  pub neighbours-long : length neighbours ≡ n
  pub codes-long : length codes ≡ n
  pub words_long : length words ≡ n
  pub bytes-long : length bytes ≡ n
  pub room : longest_table ≤ length out
