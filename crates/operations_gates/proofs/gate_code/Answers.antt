-- `gate_code` meets its contract: applies code k after the code held at q.
use mathlib.Core.Path.{ap}
use lib.ListN.{set}
use Rattle.operations_gates.proofs.gate_code.Goals as goal

pub compose-requires : goal.compose-requires
compose-requires c = (c.requires.1 c.args.q, c.requires.2)

pub returns : goal.returns
returns c =
    ap (set c.args.codes.now c.args.q)
    c.compose.ensures.0
