-- A list that was scanned into buffers of 64 places, and the buffers for the answer to it: what only the proofs name.
use Rattle.std.specs.Prelude.{List, Result, ◌≡◌, min, ℕ, ◌≤◌, length, replicate, take}
use Rattle.stabilizer.specs.Lists.{GeneratorList}
use Rattle.text.specs.internal.Scan.{begin, fed, as_reading, verdict}
use Rattle.text.specs.declared.scan.Scan.{Scan}
use Rattle.text_replies.specs.Places.{longest_record}

-- the text t was scanned into buffers of zeros: this is the verdict on it, and this is what the buffers hold
pub record ScanOf (t : List ℕ) (v : Result ℕ ℕ) (signs z x : List ℕ) : Type 0 where
  pub scan : Scan
  pub lines : as_reading scan signs z x ≡ fed (as_reading begin (replicate 64 0) (replicate 64 0) (replicate 64 0)) t
  pub judged : v ≡ verdict scan

-- the list of n generators at the start of buffers of 64 places
abbrev pub list_at : ℕ → List ℕ → List ℕ → List ℕ → GeneratorList
list_at n signs z x =
    record { n = n; signs = take (min n 64) signs; z = take (min n 64) z; x = take (min n 64) x }

-- the buffers lent for the answer to a list of n
pub record Lent (n : ℕ) (neighbours codes out : List ℕ) : Type 0 where
  pub words-fit : n ≤ 64 → length neighbours ≡ n
  pub codes-fit : n ≤ 64 → length codes ≡ n
  pub room : longest_record ≤ length out
