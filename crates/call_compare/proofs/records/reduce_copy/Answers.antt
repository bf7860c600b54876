-- `reduce_copy` meets its contract: copies a record into two buffers and reduces it there.
use mathlib.Core.Path.{ap₂, subst, sym}
use Rattle.operations.proofs.UnrefusedRecords.{unrefused-long}
use Rattle.operations.specs.internal.InPlace.{Unrefused, record_in}
use Rattle.call_compare.proofs.RecordPairs.{copied-reduced}
use Rattle.call_compare.proofs.records.reduce_copy.Goals as goal

pub copy_record-requires : goal.copy_record-requires
copy_record-requires c = record { codes_len = unrefused-long _ _ c.requires.unrefused; words_len = c.requires.words_len }

pub normalise-requires : goal.normalise-requires
normalise-requires c =
    let E = c.copy_record.ensures in
    subst Unrefused (sym (ap₂ record_in E.0 E.1)) c.requires.unrefused

pub returns : goal.returns
returns c =
    copied-reduced _ _ c.requires.unrefused _ _ c.copy_record.ensures _ _ c.normalise.ensures
