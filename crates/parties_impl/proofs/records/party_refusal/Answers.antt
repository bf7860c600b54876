-- `party_refusal` meets its contract: the number of the first line before 8 that holds.
use mathlib.Core.Bool.{false, ◌||◌}
use mathlib.Core.Path.{refl}
use lib.Dec.{ltb}
use Rattle.buffers.proofs.RefusalLaws.{passed_on}
use Rattle.operations.specs.Used.{used_record}
use Rattle.operations_checks.proofs.UsedNumbers.{no-further}
use Rattle.parties_impl.proofs.EarlyNumbers.{of-64, other-count, record-refused, then-19, then-none}
use Rattle.parties_impl.proofs.records.party_refusal.Goals as goal

pub returns-then-n-ne64 : goal.returns-then-n-ne64
returns-then-n-ne64 c =
    let a = c.args in
    let u = used_record a.n a.neighbours.now a.codes.now a.used in
    other-count a.word a.party u a.six a.other c.if-n-ne64.true

pub returns-in_err-used_refusal : goal.returns-in_err-used_refusal
returns-in_err-used_refusal c =
    let a = c.args in
    let u = used_record a.n a.neighbours.now a.codes.now a.used in
    let R = passed_on _ _ c.from_residual.ensures.1 c.in_err-used_refusal.ensures in
    record-refused a.word a.party u a.six a.other c.if-n-ne64.false
    (no-further u false (a.six || ltb 1 a.party) R.0) R.1

pub crosses-requires : goal.crosses-requires
crosses-requires c =
    let a = c.args in
    let u = used_record a.n a.neighbours.now a.codes.now a.used in
    of-64 a.word a.party u a.six a.other c.if-n-ne64.false
    (no-further u false (a.six || ltb 1 a.party) c.in_ok-used_refusal.ensures) refl

pub returns-then-crosses-other : goal.returns-then-crosses-other
returns-then-crosses-other c =
    let a = c.args in
    let u = used_record a.n a.neighbours.now a.codes.now a.used in
    then-19 a.word a.party u a.six a.other c.if-n-ne64.false
    (no-further u false (a.six || ltb 1 a.party) c.in_ok-used_refusal.ensures) refl
    c.crosses.ensures c.if-crosses-other.true

pub returns-else-crosses-other : goal.returns-else-crosses-other
returns-else-crosses-other c =
    let a = c.args in
    let u = used_record a.n a.neighbours.now a.codes.now a.used in
    then-none a.word a.party u a.six a.other c.if-n-ne64.false
    (no-further u false (a.six || ltb 1 a.party) c.in_ok-used_refusal.ensures) refl
    c.crosses.ensures c.if-crosses-other.false
