-- `generate_refusal` meets its contract: the first line that holds; `Ok` where none does.
use mathlib.Core.Path.{sym, ◌∙◌}
use borrow.Author.Tests.{eq-eqb, le-ltb, lt-ltb, ne_eqb}
use Rattle.buffers.proofs.Fitting.{first-is}
use Rattle.buffers.specs.Answers.{here, later, none}
use Rattle.call_readings.proofs.generated_jobs.generate_refusal.Goals as goal

pub returns-then-count-gt4096 : goal.returns-then-count-gt4096
returns-then-count-gt4096 c = first-is (here (lt-ltb 4096 _ c.if-count-gt4096.true))

pub returns-then-bad_count : goal.returns-then-bad_count
returns-then-bad_count c =
    first-is (later (le-ltb 4096 _ c.if-count-gt4096.false) (here (sym c.bad_count.ensures ∙ c.if-bad_count.true)))

pub returns-then-other_than : goal.returns-then-other_than
returns-then-other_than c =
    first-is (later (le-ltb 4096 _ c.if-count-gt4096.false) (later (sym c.bad_count.ensures ∙ c.if-bad_count.false)
    (here (sym c.other_than.ensures ∙ c.if-other_than.true))))

pub returns-then-seed-eq0 : goal.returns-then-seed-eq0
returns-then-seed-eq0 c =
    first-is (later (le-ltb 4096 _ c.if-count-gt4096.false) (later (sym c.bad_count.ensures ∙ c.if-bad_count.false)
    (later (sym c.other_than.ensures ∙ c.if-other_than.false) (here (eq-eqb _ 0 c.if-seed-eq0.true)))))

pub returns : goal.returns
returns c =
    first-is (later (le-ltb 4096 _ c.if-count-gt4096.false) (later (sym c.bad_count.ensures ∙ c.if-bad_count.false)
    (later (sym c.other_than.ensures ∙ c.if-other_than.false) (later (ne_eqb _ 0 c.if-seed-eq0.false) none))))
