-- `sign_table` meets its contract: the sign equations put into an empty table, for classes that send each generator
-- into the second group up to a sign.
use mathlib.Core.Bool.{beq, not}
use mathlib.Core.Path.{ap, subst, ◌∙◌}
use Prim.Native.Nat.{zero-le}
use native.Mathlib.Nat.{le_antisymm}
use native.Mathlib.Omega.{arith}
use lib.ListN.{take}
use Rattle.clifford.specs.Vectors.{act, codes_of}
use Rattle.pauli.specs.internal.Rows.{generator_of}
use Rattle.comparison.specs.internal.Equations.{equation_of, equations_in, sign_equation}
use Rattle.comparison.specs.internal.Searches.{SignTable}
use Rattle.comparison.specs.internal.Setting.{generators_in, generators_of}
use Rattle.comparison.proofs.TableEnds.{empty-solved, empty-triangular}
use Rattle.comparison.proofs.SignExtension.{sign-found, sign-more, sign-start}
use Rattle.buffers.proofs.Parts.{part-long}
use Rattle.comparison_search.proofs.FirstCodes.{first-act, first_frame, first-sound}
use Rattle.comparison_search.proofs.tables.sign_table.Goals as goal

pub action_of-by-requires : goal.action_of-by-requires
action_of-by-requires c =
    let few = c.requires.setting.0.few in (
      omega (arith, few, part-long c.args.n c.args.choice.now few c.told-choice),
      first-sound c.args.n c.args.choice.now c.requires.setting.1,
    )

pub action_of-undone-requires : goal.action_of-undone-requires
action_of-undone-requires c =
    let few = c.requires.setting.0.few in (
      omega (arith, few, part-long c.args.n c.args.frame.now few c.told-frame),
      first-sound c.args.n c.args.frame.now c.requires.setting.0.codes,
    )

pub loop-i-init : goal.loop-i-init
loop-i-init c =
    let a = c.args in (
      zero-le,
      (λ choice frame S sent bare acts. sign-start a.n (generators_in a.first.now) (generators_in a.second.now)
          frame S (codes_of choice) sent
          (equations_in a.table.now) (empty-triangular _ c.requires.sent_up_to_sign.1)
          (empty-solved _ c.requires.sent_up_to_sign.1)),
    )

pub element-h-requires : goal.element-h-requires
element-h-requires c =
    let S = c.requires.setting.0 in (
      S.few,
      (
        codes_of (take c.args.n c.args.frame.now),
        first_frame c.args.n c.args.frame.now _ S.framed,
        c.action_of-undone.ensures,
      ),
    )

pub insert-requires : goal.insert-requires
insert-requires c =
    let a = c.args in
    let l = c.loop-i in
    let T = l.invariant.1 c.args.choice.now c.args.frame.now c.requires.setting.0 c.requires.sent_up_to_sign.0 c.requires.setting.2
    c.action_of-by.ensures in
    (c.requires.setting.0.few, T.0.triangular)

pub loop-i-preserved : goal.loop-i-preserved
loop-i-preserved c =
    let a = c.args in
    let l = c.loop-i in
    let more = c.loop-i-test.true in
    let p = c.act_on-p in
    let h = c.element-h in
    let g = c.generator_at-g in
    let e = c.sign_equation-e in (
      omega (arith, more),
      (λ choice frame S sent bare acts. sign-more a.n (generators_in a.first.now) (generators_in a.second.now)
          frame S (codes_of choice) sent l.i more
          (equations_in l.table) (equation_of e.result) _ (l.invariant.1 choice frame S sent bare acts)
          (sign-found a.n (generators_in a.first.now) (generators_in a.second.now) frame S (codes_of choice)
          sent bare l.i more p.result h.result
          (p.ensures (codes_of (take a.n choice)) acts
          ∙ ap (λ g. act 64 (codes_of (take a.n choice)) (generator_of g)) g.ensures
          ∙ first-act a.n choice 64 (generators_of (generators_in a.first.now) l.i)
          (S.proper.within l.i more)) h.ensures
          (equation_of e.result)
          (e.ensures ∙ ap (λ g. sign_equation g (not (beq p.result.minus h.result.minus))) g.ensures))
          c.insert.ensures),
    )

pub returns : goal.returns
returns c =
    let a = c.args in
    let l = c.loop-i in
    subst (λ k. SignTable a.n (generators_in a.first.now) (generators_in a.second.now) (codes_of c.args.choice.now) k
    (equations_in l.table))
    (le_antisymm l.invariant.0 c.loop-i-test.false)
    (l.invariant.1 c.args.choice.now c.args.frame.now c.requires.setting.0 c.requires.sent_up_to_sign.0 c.requires.setting.2
    c.action_of-by.ensures)
