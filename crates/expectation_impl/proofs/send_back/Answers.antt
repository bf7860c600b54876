-- `send_back` meets its contract: a row with each place sent back through its own code.
use Rattle.clifford.specs.Clifford.{inverse}
use Rattle.clifford.specs.Vectors.{codes_of}
use Rattle.expectation_impl.proofs.send_back.Goals as goal

pub returns : goal.returns
returns c =
    let codes = c.args.codes.now in
    c.act_on.ensures (λ q. inverse (codes_of codes q))
    (c.undoing-back.ensures (codes_of codes) c.action_of-by.ensures)
