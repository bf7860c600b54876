-- `reduce_unused` meets its contract: the same, with the used word of the record: no qubit is used.
use mathlib.Core.Path.{refl}
use Rattle.buffers.proofs.RefusalLaws.{passed_on}
use Rattle.stabilizer.specs.Lists.{GeneratorList}
use Rattle.call_lists.proofs.Lists.{unused-done, unused-refused}
use Rattle.call_lists.proofs.reduce_unused.Goals as goal

pub returns-in_err-reduce : goal.returns-in_err-reduce
returns-in_err-reduce c =
    let a = c.args in
    let l : GeneratorList = record { n = a.n; signs = a.signs.now; z = a.z.now; x = a.x.now } in
    let R = passed_on _ _ c.from_residual.ensures.1 refl in
    unused-refused l _ _ a.used.now (rw R.0 c.in_err-reduce.ensures) R.1

pub returns : goal.returns
returns c =
    let a = c.args in
    let l : GeneratorList = record { n = a.n; signs = a.signs.now; z = a.z.now; x = a.x.now } in
    unused-done l _ _ a.used.now c.in_ok-reduce.ensures refl
