-- What a drawn step can be: its qubits are below n, its code below 24, or its Pauli 1 to 3 with an outcome of 0 or 1, a
-- CZ has two qubits, and unused fields are 0: what only the proofs name.
use Rattle.std.specs.Prelude.{◌<◌}
use Rattle.jobs.specs.declared.Step.{Step}

-- the numbers of a step have at most two digits
pub record Small (s : Step) : Type 0 where
  pub a : s.a < 100
  pub b : s.b < 100
  pub value : s.value < 100
