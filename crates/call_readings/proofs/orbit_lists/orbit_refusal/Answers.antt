-- `orbit_refusal` meets its contract: the first line that holds; `Ok` where none does.
use Rattle.buffers.proofs.Fitting.{first-is}
use Rattle.buffers.specs.Answers.{here, later, none}
use Rattle.stabilizer.proofs.EarlyLines.{says}
use Rattle.call_readings.proofs.orbit_lists.orbit_refusal.Goals as goal

pub returns-then-n : goal.returns-then-n
returns-then-n c = first-is (here c.if-n.true)

pub returns-then-neighbours-vertices : goal.returns-then-neighbours-vertices
returns-then-neighbours-vertices c = first-is (later c.if-n.false (here c.if-neighbours-vertices.true))

pub returns-then-strays : goal.returns-then-strays
returns-then-strays c =
    first-is (later c.if-n.false (later c.if-neighbours-vertices.false
    (here (says c.strays.ensures c.if-strays.true))))

pub returns-then-not_simple : goal.returns-then-not_simple
returns-then-not_simple c =
    first-is (later c.if-n.false (later c.if-neighbours-vertices.false
    (later (says c.strays.ensures c.if-strays.false)
    (here (says c.not_simple.ensures c.if-not_simple.true)))))

pub returns : goal.returns
returns c =
    first-is (later c.if-n.false (later c.if-neighbours-vertices.false
    (later (says c.strays.ensures c.if-strays.false)
    (later (says c.not_simple.ensures c.if-not_simple.false) none))))
