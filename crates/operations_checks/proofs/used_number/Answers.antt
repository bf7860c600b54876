-- `used_number` meets its contract: the first line of a record that holds.
use mathlib.Core.Path.{refl, sym, ◌∙◌}
use Prim.Native.Nat.{◌^◌}
use lib.Dec.{leb}
use Rattle.buffers.proofs.RefusalLaws.{no-shape, of-shape, passed_on}
use Rattle.stabilizer.proofs.EarlyLines.{either-says}
use Rattle.operations.specs.Used.{UsedRecord, used_record}
use Rattle.operations_checks.proofs.UsedNumbers.{number-0, number-2, number-4, number-5, number-7, number-other, vertices-tested, word-tested}
use Rattle.operations_checks.proofs.used_number.Goals as goal

pub returns-then-refuses_shape : goal.returns-then-refuses_shape
returns-then-refuses_shape c =
    let a = c.args in
    let u : UsedRecord = used_record a.n a.neighbours.now a.codes.now a.used in
    let five = leb (2 ^ a.n) a.word in
    of-shape _ (sym c.refuses_shape.ensures ∙ c.if-refuses_shape.true)
    (number-2 u a.others five a.six _ c.record_number-record.ensures)
    (number-4 u a.others five a.six _ c.record_number-record.ensures)

pub stray-requires : goal.stray-requires
stray-requires c =
    let a = c.args in
    let u : UsedRecord = used_record a.n a.neighbours.now a.codes.now a.used in
    let S = no-shape _ (sym c.refuses_shape.ensures ∙ c.if-refuses_shape.false) in
    word-tested u a.others (leb (2 ^ a.n) a.word) a.six _ c.record_number-record.ensures S.0

pub stray-requires-2 : goal.stray-requires-2
stray-requires-2 c =
    let a = c.args in
    let u : UsedRecord = used_record a.n a.neighbours.now a.codes.now a.used in
    let S = no-shape _ (sym c.refuses_shape.ensures ∙ c.if-refuses_shape.false) in
    word-tested u a.others (leb (2 ^ a.n) a.word) a.six _ c.record_number-record.ensures S.0

pub returns-then-stray : goal.returns-then-stray
returns-then-stray c =
    let a = c.args in
    let u : UsedRecord = used_record a.n a.neighbours.now a.codes.now a.used in
    let S = no-shape _ (sym c.refuses_shape.ensures ∙ c.if-refuses_shape.false) in
    number-5 u a.others (leb (2 ^ a.n) a.word) a.six _ c.record_number-record.ensures S.0 S.1
    (either-says c.stray.ensures c.stray-2.ensures c.if-stray.true)

pub returns-in_err-record : goal.returns-in_err-record
returns-in_err-record c =
    let a = c.args in
    let u : UsedRecord = used_record a.n a.neighbours.now a.codes.now a.used in
    let R = passed_on _ _ c.from_residual.ensures.1 c.in_err-record.ensures in
    number-other u a.others (leb (2 ^ a.n) a.word) a.six _ R.0
    (either-says c.stray.ensures c.stray-2.ensures c.if-stray.false) R.1

pub used_wrong-requires : goal.used_wrong-requires
used_wrong-requires c =
    let a = c.args in
    let u : UsedRecord = used_record a.n a.neighbours.now a.codes.now a.used in
    let whole = vertices-tested u a.others (leb (2 ^ a.n) a.word) a.six _ c.in_ok-record.ensures
    (either-says c.stray.ensures c.stray-2.ensures c.if-stray.false) refl in
    record { neighbours_len_bound = whole.0; used_bound = whole.1 }

pub returns-then-used_wrong : goal.returns-then-used_wrong
returns-then-used_wrong c =
    let a = c.args in
    let u : UsedRecord = used_record a.n a.neighbours.now a.codes.now a.used in
    number-7 u a.others (leb (2 ^ a.n) a.word) a.six _ c.in_ok-record.ensures
    (either-says c.stray.ensures c.stray-2.ensures c.if-stray.false) refl _ c.used_wrong.ensures c.if-used_wrong.true

pub returns-else-used_wrong : goal.returns-else-used_wrong
returns-else-used_wrong c =
    let a = c.args in
    let u : UsedRecord = used_record a.n a.neighbours.now a.codes.now a.used in
    number-0 u a.others (leb (2 ^ a.n) a.word) a.six _ c.in_ok-record.ensures
    (either-says c.stray.ensures c.stray-2.ensures c.if-stray.false) refl _ c.used_wrong.ensures c.if-used_wrong.false
