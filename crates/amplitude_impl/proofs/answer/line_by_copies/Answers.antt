-- `line_by_copies` meets its contract: the line at y of the plot of a record, by two copies of it.
use mathlib.Core.Path.{◌∙◌}
use Rattle.operations.proofs.UnrefusedRecords.{copied-unrefused, unrefused-long}
use Rattle.amplitude_impl.proofs.PlotLines.{copied-plots, normalised-plots}
use Rattle.amplitude_impl.proofs.answer.line_by_copies.Goals as goal

pub copy_record-requires : goal.copy_record-requires
copy_record-requires c =
    record { codes_len = unrefused-long _ _ c.requires.unrefused; words_len = c.requires.words_len }

pub returns : goal.returns
returns c =
    c.line_at.ensures
    ∙ normalised-plots _ _ (copied-unrefused c.copy_record.ensures c.requires.unrefused) _ _ c.normalise.ensures _
    ∙ copied-plots _ _ _ _ c.copy_record.ensures _
