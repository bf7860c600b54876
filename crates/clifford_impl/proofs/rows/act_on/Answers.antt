-- `act_on` meets its contract: a row with each place sent through its own code.
use borrow.Author.Rules.{rules}
use Rattle.clifford_impl.proofs.Acting.{acted}
use Rattle.clifford_impl.proofs.rows.act_on.Goals as goal

pub returns : goal.returns
returns c k W =
    let call = c.before.before.before.before.before in
    let a = call.args in
    acted k a.by W a.g.z a.g.x (search rules) (search rules) a.g.minus call.odd.result
    call.negative.result (search rules) (call.negative.ensures k W) call.odd.ensures
