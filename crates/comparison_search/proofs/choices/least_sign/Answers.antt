-- `least_sign` meets its contract.
use Rattle.clifford.specs.Vectors.{codes_of}
use Rattle.comparison.specs.internal.Equations.{sign_assignment}
use Rattle.comparison.specs.internal.Searches.{with_signs}
use Rattle.comparison_search.proofs.choices.least_sign.Goals as goal

pub returns : goal.returns
returns c n choice inside long h =
    c.first_fit.ensures (sign_assignment n) (λ u. codes_of (with_signs choice c.args.q u))
    (λ v w small p. p.1 n choice inside long h)
