-- `write_record` meets its contract: the text of a record, and how many bytes it has.
use mathlib.Core.Path.{refl}
use Rattle.buffers.proofs.RefusalLaws.{passed_on}
use Rattle.operations.specs.Used.{used_record}
use Rattle.call_texts.proofs.WriteCalls.{write_done, write-refused, write-room}
use Rattle.call_texts.proofs.write_record.Goals as goal

pub returns-in_err-used_refusal : goal.returns-in_err-used_refusal
returns-in_err-used_refusal c =
    let a = c.args in
    let R = passed_on _ _ c.from_residual.ensures.1 c.in_err-used_refusal.ensures in
    write-refused (used_record a.n a.neighbours.now a.codes.now a.used) a.text.now a.size.now _
    c.other_than-others.ensures _ R.0 R.1

pub print_record-end-requires : goal.print_record-end-requires
print_record-end-requires c =
    let a = c.args in
    write-room (used_record a.n a.neighbours.now a.codes.now a.used) a.text.now a.size.now _
    c.other_than-others.ensures _ c.in_ok-used_refusal.ensures refl

pub returns : goal.returns
returns c =
    let a = c.args in
    write_done (used_record a.n a.neighbours.now a.codes.now a.used) a.text.now a.size.now _
    c.other_than-others.ensures _ c.in_ok-used_refusal.ensures refl c.print_record-end.ensures
