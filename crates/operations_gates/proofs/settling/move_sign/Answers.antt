-- `move_sign` meets its contract: X before the code of vertex a, and Z before those of its neighbours.
use Rattle.operations_gates.proofs.SignBuffers.{sign-written}
use Rattle.operations_gates.proofs.settling.move_sign.Goals as goal

pub returns : goal.returns
returns c =
    sign-written _ _ c.requires.0 c.args.a c.requires.1 _ c.recode.ensures
