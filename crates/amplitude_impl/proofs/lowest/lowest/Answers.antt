-- `lowest` meets its contract: the smallest supported word; words and bytes are room for a copy.
use Rattle.operations.proofs.UnrefusedRecords.{unrefused-long}
use Rattle.amplitude_impl.proofs.Copies.{copied-lowest}
use Rattle.amplitude_impl.proofs.lowest.lowest.Goals as goal

pub copy_record-requires : goal.copy_record-requires
copy_record-requires c =
    record { codes_len = unrefused-long _ _ c.requires.unrefused; words_len = c.requires.words_len }

pub returns : goal.returns
returns c =
    copied-lowest _ _ c.requires.unrefused _ _ c.copy_record.ensures _ c.measured_down.ensures
