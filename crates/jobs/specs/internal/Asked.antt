-- What a step of a job asks: its operation, the fields that it does not use, and its lines in checking order: what only
-- the proofs name.
use Rattle.std.specs.Prelude.{Bool, false, true, ℕ, leb}
use Rattle.jobs.specs.declared.Op.{Op}
use Rattle.jobs.specs.declared.Op.TheVariants.{Complement, Cz, Gate, Measure, Observe, Pivot, Renew}

-- the value is no code, or for a measurement no Pauli and outcome: line 6 of its call. Of a renewal's code its parity
-- is not looked at
abbrev pub wrong_value : Op → ℕ → Bool
wrong_value Gate value = leb 24 value
wrong_value Cz value = false
wrong_value Measure value = leb 6 value
wrong_value Complement value = false
wrong_value Pivot value = false
wrong_value Observe value = leb 6 value
wrong_value Renew value = leb 12 value

-- the operation does not use its second qubit
abbrev pub without_b : Op → Bool
without_b Gate = true
without_b Cz = false
without_b Measure = true
without_b Complement = true
without_b Pivot = false
without_b Observe = true
without_b Renew = true

-- the operation does not use its value
abbrev pub without_value : Op → Bool
without_value Gate = false
without_value Cz = true
without_value Measure = false
without_value Complement = true
without_value Pivot = true
without_value Observe = false
without_value Renew = false

-- the least number that is no value of the operation; 2^16 where it uses none, which no field reaches
abbrev pub value_limit : Op → ℕ
value_limit Gate = 24
value_limit Cz = 65536
value_limit Measure = 6
value_limit Complement = 65536
value_limit Pivot = 65536
value_limit Observe = 6
value_limit Renew = 12
