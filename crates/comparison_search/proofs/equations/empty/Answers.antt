-- `empty` meets its contract: whether an equation has no unknown.
use borrow.Author.Tests.{eqb-false, eqb-true}
use Rattle.comparison.specs.internal.Equations.{equation_of}
use Rattle.comparison.proofs.LastUnknowns.{no-unknown, some-unknown}
use Rattle.comparison_search.proofs.equations.empty.Goals as goal

pub returns : goal.returns
returns c = let e = equation_of c.args.e in record { j_value = (λ h. no-unknown e (eqb-true _ 0 h)); fact = (λ h none. eqb-false _ 0 h (some-unknown e none)) }
