-- `print_reduced` meets its contract: reduces a list and prints its record, or the refusal's number.
use mathlib.Core.Path.{refl}
use native.Mathlib.Omega.{arith}
use Rattle.buffers.proofs.RefusalLaws.{refuses}
use Rattle.stabilizer.specs.Lists.{GeneratorList}
use Rattle.text_replies.proofs.Answering.{printable, record-printed, refused-printed}
use Rattle.buffers.proofs.Writing.{same-print}
use Rattle.text_replies.proofs.print_reduced.Goals as goal

pub print_record-requires : goal.print_record-requires
print_record-requires c =
    let a = c.args in
    let l : GeneratorList = record { n = a.n; signs = a.signs.now; z = a.z.now; x = a.x.now } in
    printable l _ _ _ c.requires _ _ _ c.in-Ok.ensures refl

pub returns-in-Ok : goal.returns-in-Ok
returns-in-Ok c =
    let a = c.args in
    let l : GeneratorList = record { n = a.n; signs = a.signs.now; z = a.z.now; x = a.x.now } in
    same-print (record-printed l _ _ _ c.requires _ _ _ c.in-Ok.ensures refl)
    c.print_record.ensures

pub print_refusal-requires : goal.print_refusal-requires
print_refusal-requires c = omega (arith, c.requires.room)

pub returns-in-Err : goal.returns-in-Err
returns-in-Err c =
    let a = c.args in
    let l : GeneratorList = record { n = a.n; signs = a.signs.now; z = a.z.now; x = a.x.now } in
    same-print (refused-printed l _ _ _ c.requires _ _ _ c.in-Err.ensures (refuses c.in-Err.refusal))
    c.print_refusal.ensures
