-- Steps as parallel lists of numbers: what only the proofs name.
use Rattle.std.specs.Prelude.{List, ◌≡◌, ℕ, length}
use Rattle.jobs.specs.declared.Op.{Op}
use Rattle.jobs.specs.declared.Op.TheVariants.{Complement, Cz, Gate, Measure, Observe, Pivot, Renew}

-- the number of an operation
abbrev pub op_number : Op → ℕ
op_number Gate = 0
op_number Cz = 1
op_number Measure = 2
op_number Complement = 3
op_number Pivot = 4
op_number Observe = 5
op_number Renew = 6

-- the lists are of one length
pub record OneLength (ops a b value : List ℕ) : Type 0 where
  pub first : length a ≡ length ops
  pub second : length b ≡ length ops
  pub values : length value ≡ length ops
