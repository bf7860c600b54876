-- `line_at` meets its contract: the line of the plot at y of a record of reduced form with this smallest supported
-- word.
use Rattle.operations.proofs.UnrefusedRecords.{unrefused-codes}
use Rattle.amplitude_impl.proofs.PlotLines.{line-there}
use Rattle.amplitude_impl.proofs.answer.line_at.Goals as goal

pub kept-requires : goal.kept-requires
kept-requires c =
    unrefused-codes _ _ c.requires.unrefused

pub returns : goal.returns
returns c =
    line-there _ _ _ c.requires _ _ _ _ _ c.answer_at-answer.ensures c.kept.ensures c.count.ensures.0
    c.plot_line.ensures
