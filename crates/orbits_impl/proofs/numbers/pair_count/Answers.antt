-- `pair_count` meets its contract: how many pairs n vertices have.
use native.Mathlib.Omega.{arith}
use Rattle.orbits_impl.proofs.PairLoops.{product-fits}
use Rattle.orbits_impl.proofs.numbers.pair_count.Goals as goal

pub overflow_mul-result : goal.overflow_mul-result
overflow_mul-result c = record { fits = omega (arith, product-fits c.args.n c.requires.1) }
