-- `other_count` meets its contract: whether a state held in the party's places has another n than 64.
use mathlib.Core.Bool.{◌&&◌, not}
use mathlib.Core.Path.{◌∙◌, ◌≡◌, ap, sym}
use Prim.Native.Nat.{◌*◌, ◌<◌}
use native.Mathlib.Omega.{arith}
use lib.Dec.{eqb}
use Rattle.parties.proofs.OwnHeads.{own-head}
use Rattle.parties.specs.PartyStores.{own_heads}
use Rattle.store.specs.Places.{count_at}
use Rattle.words.proofs.Searching.{no-some, none_here, some-found}
use Rattle.parties_impl.proofs.OwnNumbers.{none-counted}
use Rattle.parties_impl.proofs.checks.other_count.Goals as goal

pub returns-then-party-gt1 : goal.returns-then-party-gt1
returns-then-party-gt1 c =
    let a = c.args in
    none-counted a.party a.heads.now c.if-party-gt1.true

pub returns-then-n : goal.returns-then-n
returns-then-n c =
    let a = c.args in
    let l : c.loop-i.i < 4 = omega arith in
    let here : count_at (own_heads a.party a.heads.now) c.loop-i.i ≡ c.word_at-n.result =
    own-head a.party a.heads.now (3 * c.loop-i.i) (omega (arith, c.if-party-gt1.false)) (omega arith)
    ∙ sym c.word_at-n.ensures in
    some-found _ _ c.loop-i.invariant _ l (ap (λ n. not (eqb n 0) && not (eqb n 64)) here ∙ c.if-n.true)

pub loop-i-preserved : goal.loop-i-preserved
loop-i-preserved c =
    let a = c.args in
    let l : c.loop-i.i < 4 = omega arith in
    let here : count_at (own_heads a.party a.heads.now) c.loop-i.i ≡ c.word_at-n.result =
    own-head a.party a.heads.now (3 * c.loop-i.i) (omega (arith, c.if-party-gt1.false)) (omega arith)
    ∙ sym c.word_at-n.ensures in
    none_here _ _ c.loop-i.invariant (ap (λ n. not (eqb n 0) && not (eqb n 64)) here ∙ c.if-n.false)

pub returns : goal.returns
returns c = no-some _ _ c.loop-i.invariant _ (omega arith)
