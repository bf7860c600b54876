-- `merge` meets its contract: the vertices of a word put into a record; the others stay.
use mathlib.Core.Bool.{cond}
use mathlib.Core.Path.{ap, ◌∙◌}
use native.Mathlib.Nat.{le_refl, lt_of_lt_of_le}
use native.Mathlib.Omega.{arith}
use lib.ListN.{get_or}
use Rattle.buffers.proofs.Mapping.{mapped-start, mapped-store}
use Rattle.buffers.proofs.Tabulate.{tabulate-is}
use Rattle.words.specs.Bits.{bit}
use Rattle.parties_impl.proofs.masks.merge.Goals as goal

pub loop-q-init : goal.loop-q-init
loop-q-init c = (mapped-start _ _, mapped-start _ _)

pub loop-q-preserved : goal.loop-q-preserved
loop-q-preserved c =
    let l = c.loop-q in
    let a = c.args in (
      mapped-store _ _ l.neighbours l.q _ l.invariant.0 (omega (arith, c.requires.neighbours_len.0))
          (c.pick.ensures ∙ ap (cond (bit a.own l.q) (get_or a.words.now l.q 0))
          (l.invariant.0.rest l.q (le_refl _))),
      mapped-store _ _ l.codes l.q _ l.invariant.1 (omega (arith, c.requires.neighbours_len.1))
          (c.pick-in-loop-q.ensures ∙ ap (cond (bit a.own l.q) (get_or a.bytes.now l.q 0))
          (l.invariant.1.rest l.q (le_refl _))),
    )

pub returns : goal.returns
returns c =
    let l = c.loop-q in (
      tabulate-is 64 _ _ (l.invariant.0.long ∙ c.requires.neighbours_len.0)
          (λ q h. l.invariant.0.done q (lt_of_lt_of_le h (omega arith))),
      tabulate-is 64 _ _ (l.invariant.1.long ∙ c.requires.neighbours_len.1)
          (λ q h. l.invariant.1.done q (lt_of_lt_of_le h (omega arith))),
    )
