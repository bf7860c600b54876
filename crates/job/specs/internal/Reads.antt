-- What the program promises of the text that it reads. No contract can name what a read brings, so the text is some
-- list of bytes: what only the proofs name.
use Rattle.std.specs.Prelude.{List, ◌≡◌, ℕ}
use Rattle.jobs.specs.internal.Scan.{empty, fed, Reading}

-- a text was read and scanned
pub record ScannedJob (r : Reading) : Type 0 where
  pub text : List ℕ
  pub scanned : r ≡ fed empty text
