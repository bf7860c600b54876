-- What the reader of a list promises.
use Rattle.std.specs.Prelude.{List, Result, ◌≡◌, ℕ}
use Rattle.text.specs.internal.Scan.{begin, fed, as_reading, verdict}
use Rattle.text.specs.declared.scan.Scan.{Scan}

-- a text was read and scanned, with this verdict; its lines are in the buffers, whose names have a prime for what they
-- hold after. No contract can name what a read brings, so the text is some list of bytes.
pub record Scanned (signs z x signs' z' x' : List ℕ) (r : Result ℕ ℕ) : Type 0 where
  pub text : List ℕ
  pub scan : Scan
  pub lines : as_reading scan signs' z' x' ≡ fed (as_reading begin signs z x) text
  pub judged : r ≡ verdict scan

-- a read failed, and the text that was read before it was scanned: its lines are in the buffers, whose names have a prime
-- for what they hold after
pub record ScannedSoFar (signs z x signs' z' x' : List ℕ) : Type 0 where
  pub text : List ℕ
  pub scan : Scan
  pub lines : as_reading scan signs' z' x' ≡ fed (as_reading begin signs z x) text
