-- `generators` meets its contract: the generators of a record.
use mathlib.Core.Path.{◌∙◌}
use native.Mathlib.Omega.{arith}
use Rattle.buffers.proofs.Filling.{all-filled, none_filled}
use Rattle.clifford.specs.Vectors.{codes_of}
use Rattle.comparison.specs.internal.Setting.{generators_in, no_generator}
use Rattle.comparison.proofs.ComparedRecords.{generator-sent}
use Rattle.comparison.proofs.GeneratorRows.{generator-stored, generators-long}
use Rattle.comparison_search.proofs.records.generators.Goals as goal

pub action_of-by-requires : goal.action_of-by-requires
action_of-by-requires c =
    let pre = c.requires in
    (omega (arith, pre.0, pre.1.codes-long), pre.1.codes-sound)

pub loop-j-init : goal.loop-j-init
loop-j-init c =
    none_filled no_generator 64 _ _ (generators-long c.args.rows.now ∙ c.requires.2)

pub loop-j-preserved : goal.loop-j-preserved
loop-j-preserved c =
    let l = c.loop-j in
    let a = c.args in
    let more = c.loop-j-test.true in
    generator-stored 64 _ l.rows l.j c.row_of.result c.act_on-sent.result l.invariant
    (omega (arith, more, c.requires.0)) c.row_of.ensures
    (generator-sent a.n c.requires.0 a.neighbours.now a.codes.now c.requires.1 l.j more _
    c.single.ensures _ (c.act_on-sent.ensures (codes_of a.codes.now)
    c.action_of-by.ensures))

pub returns : goal.returns
returns c =
    let l = c.loop-j in
    all-filled no_generator 64 _ (generators_in l.rows) l.j _ l.invariant c.loop-j-test.false
