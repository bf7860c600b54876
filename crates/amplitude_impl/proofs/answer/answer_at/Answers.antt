-- `answer_at` meets its contract: the answer at y of a record of reduced form with this smallest supported word.
use Rattle.amplitude_impl.proofs.PlotLines.{nothing-there, value_there}
use Rattle.amplitude_impl.proofs.answer.answer_at.Goals as goal

pub returns-then-not-supports : goal.returns-then-not-supports
returns-then-not-supports c =
    nothing-there _ _ _ c.requires _ _ c.supports.ensures c.if-not-supports.true-raw

pub returns : goal.returns
returns c =
    value_there _ _ _ c.requires _ _ _ c.turns-there.ensures c.turns-here.ensures _
    c.supports.ensures
    c.if-not-supports.false-raw _ c.turned.ensures
