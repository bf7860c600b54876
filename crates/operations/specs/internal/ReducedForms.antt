-- The form of a reduced record, read off the record itself.
use Rattle.std.specs.Prelude.{false, true, ◌≡◌, ◌<◌, ℕ, ◌≤◌}
use Rattle.clifford.specs.Clifford.{bit_c, code_of, identity_clifford}
use Rattle.record.specs.Records.{GraphRecord}

-- the codes are 0, 2, 4, 6, 8 and 10, and a vertex with 8 or 10 (C = 1) has smaller neighbours only; so no two of these
-- are joined
pub record ReducedForm (n : ℕ) (r : GraphRecord) : Type 0 where
  pub low : (q : ℕ) → q < n → code_of (r.codes q) < 12
  pub even : (q : ℕ) → q < n → (r.codes q).sz ≡ false
  pub smaller : (q j : ℕ) → q < n → bit_c (r.codes q) ≡ true → r.graph q j ≡ true → j < q
  pub above : (q : ℕ) → n ≤ q → r.codes q ≡ identity_clifford
