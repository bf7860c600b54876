-- `outcome_of` meets its contract: what is answered: the sign that was read off where the measurement is determined,
-- else the bit.
use mathlib.Core.Bool.{cond}
use mathlib.Core.Path.{ap, sym}
use Rattle.operations.specs.declared.Outcome.TheVariants.{Chosen, Determined}
use Rattle.operations_measurement.proofs.outcome_of.Goals as goal

pub returns-then-known : goal.returns-then-known
returns-then-known c =
    let a = c.args in
    sym (ap (λ d. cond d (Determined a.known.minus) (Chosen a.bit)) c.if-known.true)

pub returns : goal.returns
returns c =
    let a = c.args in
    sym (ap (λ d. cond d (Determined a.known.minus) (Chosen a.bit)) c.if-known.false)
