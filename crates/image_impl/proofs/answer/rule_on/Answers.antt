-- `rule_on` meets its contract: the image rule on a copy of the record, in lent buffers.
use mathlib.Core.Path.{ap, sym, ◌∙◌}
use lib.ListN.{length}
use Rattle.image_impl.proofs.TrackedRecords.{tracked-codes}
use Rattle.operations.proofs.UnrefusedRecords.{copied-unrefused, unrefused-codes, unrefused-long}
use Rattle.image_impl.proofs.Answering.{copied-ruled, ruled}
use Rattle.image_impl.proofs.answer.rule_on.Goals as goal

pub copy_record-requires : goal.copy_record-requires
copy_record-requires c = record { codes_len = unrefused-long _ _ c.requires.unrefused; words_len = (c.requires.words_len.0, c.requires.words_len.1) }

pub begin-requires : goal.begin-requires
begin-requires c =
    unrefused-codes _ _ (copied-unrefused c.copy_record.ensures c.requires.unrefused)

pub run_rule-requires : goal.run_rule-requires
run_rule-requires c = (
  c.begin.ensures.count_value,
  c.begin.ensures.by_index _ _ (copied-unrefused c.copy_record.ensures c.requires.unrefused)
      c.requires.words_len.2,
)

pub shape_of-words : goal.shape_of-words
shape_of-words c =
    c.run_rule.ensures.tracking.long ∙ ap length c.copy_record.ensures.0 ∙ sym c.requires.words_len.0

pub shape_of-bytes : goal.shape_of-bytes
shape_of-bytes c =
    tracked-codes _ _ c.run_rule.ensures.tracking
    ∙ ap length c.copy_record.ensures.0 ∙ sym c.requires.words_len.1

pub returns : goal.returns
returns c =
    copied-ruled c.copy_record.ensures
    (ruled _ _ _ (copied-unrefused c.copy_record.ensures c.requires.unrefused) c.begin.result
    c.begin.ensures.count_value _ c.run_rule.ensures)
