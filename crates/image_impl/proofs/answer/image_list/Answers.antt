-- `image_list` meets its contract: the vertices that the image rule complements.
use mathlib.Core.Path.{subst}
use Rattle.operations.proofs.UnrefusedRecords.{accepted-unrefused}
use Rattle.record.specs.Lent.{held_record}
use Rattle.operations.specs.internal.InPlace.{record_in}
use Rattle.image_impl.specs.internal.Working.{Ruled, working}
use Rattle.image_impl.proofs.Answering.{listed-all}
use Rattle.image_impl.proofs.answer.image_list.Goals as goal

pub rule_on-requires-clause-unrefused : goal.rule_on-requires-clause-unrefused
rule_on-requires-clause-unrefused c = accepted-unrefused _ _ _ c.requires.accepted

pub returns : goal.returns
returns c =
    let r = held_record (record_in c.args.neighbours.now c.args.codes.now) in
    let new = c.rule_on.new in
    listed-all _ _ c.requires.accepted.simple _
    (subst (λ m. Ruled m r (working new.words new.bytes new.list c.rule_on.result))
    c.requires.accepted.neighbours-length c.rule_on.ensures)
