-- `form_refusal` meets its contract: the first of lines 2, 4, 5 and 6 of a list that holds; 0 where none does.
use mathlib.Core.Path.{refl}
use Rattle.buffers.proofs.Fitting.{first-is}
use Rattle.buffers.specs.Answers.{here, later, none}
use Rattle.stabilizer.proofs.EarlyLines.{either-says, says}
use Rattle.stabilizer_impl.proofs.checks.form_refusal.Goals as goal

pub returns-then-bad_count : goal.returns-then-bad_count
returns-then-bad_count c = first-is (here (says c.bad_count.ensures c.if-bad_count.true))

pub returns-then-list_lengths-others : goal.returns-then-list_lengths-others
returns-then-list_lengths-others c =
    first-is (later (says c.bad_count.ensures c.if-bad_count.false)
    (here (either-says c.list_lengths.ensures refl c.if-list_lengths-others.true)))

pub returns-then-strays : goal.returns-then-strays
returns-then-strays c =
    first-is (later (says c.bad_count.ensures c.if-bad_count.false)
    (later (either-says c.list_lengths.ensures refl c.if-list_lengths-others.false)
    (here (either-says c.strays.ensures c.strays-2.ensures c.if-strays.true))))

pub returns-then-reaches : goal.returns-then-reaches
returns-then-reaches c =
    first-is (later (says c.bad_count.ensures c.if-bad_count.false)
    (later (either-says c.list_lengths.ensures refl c.if-list_lengths-others.false)
    (later (either-says c.strays.ensures c.strays-2.ensures c.if-strays.false)
    (here (says c.reaches.ensures c.if-reaches.true)))))

pub returns : goal.returns
returns c =
    first-is (later (says c.bad_count.ensures c.if-bad_count.false)
    (later (either-says c.list_lengths.ensures refl c.if-list_lengths-others.false)
    (later (either-says c.strays.ensures c.strays-2.ensures c.if-strays.false)
    (later (says c.reaches.ensures c.if-reaches.false) none))))
