-- `held_refusal` meets its contract: the first of lines 2 to 7 that holds of the record in the first n of 64 places.
use mathlib.Core.Path.{◌∙◌, sym}
use lib.ListN.{take}
use Rattle.buffers.proofs.Parts.{part-long}
use Rattle.operations.specs.Used.{used_record}
use Rattle.operations_checks.proofs.UsedNumbers.{no-further}
use Rattle.stabilizer.proofs.SharedTests.{counted}
use Rattle.call_texts.proofs.ReadCalls.{two}
use Rattle.call_texts.proofs.held_refusal.Goals as goal

pub returns-then-bad_count : goal.returns-then-bad_count
returns-then-bad_count c =
    let a = c.args in
    two (used_record a.n (take a.n a.neighbours.now) (take a.n a.codes.now) a.used) a.others
    (sym c.bad_count.ensures ∙ c.if-bad_count.true)

pub slice_bounds-used_refusal-end : goal.slice_bounds-used_refusal-end
slice_bounds-used_refusal-end c =
    sym (part-long c.args.n c.args.neighbours.now
    (counted c.args.n (sym c.bad_count.ensures ∙ c.if-bad_count.false)).1 c.requires.0)

pub slice_bounds-used_refusal-end-2 : goal.slice_bounds-used_refusal-end-2
slice_bounds-used_refusal-end-2 c =
    sym (part-long c.args.n c.args.codes.now
    (counted c.args.n (sym c.bad_count.ensures ∙ c.if-bad_count.false)).1 c.requires.1)

pub returns : goal.returns
returns c =
    let a = c.args in
    no-further (used_record a.n (take a.n a.neighbours.now) (take a.n a.codes.now) a.used) _ _ c.used_refusal.ensures
