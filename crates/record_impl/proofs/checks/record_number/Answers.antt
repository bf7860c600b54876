-- `record_number` meets its contract: the first line of a record that holds; 0 where none does.
use mathlib.Core.Path.{refl}
use Rattle.buffers.proofs.Fitting.{first-is}
use Rattle.buffers.specs.Answers.{here, later, none}
use Rattle.stabilizer.proofs.EarlyLines.{either-says, says}
use Rattle.stabilizer.proofs.SharedTests.{counted}
use Rattle.record.specs.Lent.{LentRecord, lent_record, record_lengths}
use Rattle.record.proofs.RecordLines.{square-tested}
use Rattle.record_impl.proofs.checks.record_number.Goals as goal

pub returns-then-bad_count : goal.returns-then-bad_count
returns-then-bad_count c = first-is (here (says c.bad_count.ensures c.if-bad_count.true))

pub returns-then-record_lengths-others : goal.returns-then-record_lengths-others
returns-then-record_lengths-others c =
    let past2 = c.before.before.before in
    first-is (later (says past2.bad_count.ensures past2.if-bad_count.false)
    (here (either-says c.record_lengths.ensures refl c.if-record_lengths-others.true)))

pub strays-requires : goal.strays-requires
strays-requires c =
    let past2 = c.before.before.before in
    counted _ (says past2.bad_count.ensures past2.if-bad_count.false)

pub returns-then-strays : goal.returns-then-strays
returns-then-strays c =
    let past4 = c.before.before.before in
    let past2 = past4.before.before in
    first-is (later (says past2.bad_count.ensures past2.if-bad_count.false)
    (later (either-says past4.record_lengths.ensures refl past4.if-record_lengths-others.false)
    (here (says c.strays.ensures c.if-strays.true))))

pub returns-then-over_known-six : goal.returns-then-over_known-six
returns-then-over_known-six c =
    let past5 = c.before.before.before in
    let past4 = past5.before.before in
    let past2 = past4.before.before in
    first-is (later (says past2.bad_count.ensures past2.if-bad_count.false)
    (later (either-says past4.record_lengths.ensures refl past4.if-record_lengths-others.false)
    (later (says past5.strays.ensures past5.if-strays.false)
    (here (either-says c.over_known.ensures refl c.if-over_known-six.true)))))

pub not_simple-requires : goal.not_simple-requires
not_simple-requires c =
    let past5 = c.before.before.before in
    let past4 = past5.before.before in
    let past2 = past4.before.before in
    let a = past2.args in
    let l : LentRecord = lent_record a.n a.neighbours.now a.codes.now in
    square-tested l a.others (says past2.bad_count.ensures past2.if-bad_count.false)
    (either-says {b = record_lengths l} past4.record_lengths.ensures refl past4.if-record_lengths-others.false)

pub returns-then-not_simple : goal.returns-then-not_simple
returns-then-not_simple c =
    let past6 = c.before.before.before in
    let past5 = past6.before.before in
    let past4 = past5.before.before in
    let past2 = past4.before.before in
    first-is (later (says past2.bad_count.ensures past2.if-bad_count.false)
    (later (either-says past4.record_lengths.ensures refl past4.if-record_lengths-others.false)
    (later (says past5.strays.ensures past5.if-strays.false)
    (later (either-says past6.over_known.ensures refl past6.if-over_known-six.false)
    (here (says c.not_simple.ensures c.if-not_simple.true))))))

pub returns : goal.returns
returns c =
    let past6 = c.before.before.before in
    let past5 = past6.before.before in
    let past4 = past5.before.before in
    let past2 = past4.before.before in
    first-is (later (says past2.bad_count.ensures past2.if-bad_count.false)
    (later (either-says past4.record_lengths.ensures refl past4.if-record_lengths-others.false)
    (later (says past5.strays.ensures past5.if-strays.false)
    (later (either-says past6.over_known.ensures refl past6.if-over_known-six.false)
    (later (says c.not_simple.ensures c.if-not_simple.false) none)))))
