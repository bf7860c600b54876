-- `read_text` meets its contract: the record of a text.
use mathlib.Core.Path.{refl, subst}
use native.Mathlib.Omega.{arith}
use Rattle.text_records.proofs.Following.{all-followed, line-missing, names-missing, names-other, names-there}
use Rattle.text_records.proofs.Following.{next-inside, none-followed, one-followed, rest-is, told_none}
use Rattle.text_records.specs.internal.Reads.{LineOther, LineThere}
use Rattle.text_records.proofs.reading.read_text.Goals as goal

pub returns-then-not-starts_with : goal.returns-then-not-starts_with
returns-then-not-starts_with c =
    let t = c.args.text.now in
    told_none t (names-missing t (names-other t c.starts_with.ensures.value c.if-not-starts_with.true))

pub loop-at-init : goal.loop-at-init
loop-at-init c =
    let t = c.args.text.now in
    none-followed t (names-there t c.starts_with.ensures.value c.if-not-starts_with.false) _ _ refl refl

pub returns-in_default : goal.returns-in_default
returns-in_default c =
    let t = c.args.text.now in
    let F = c.loop-at.invariant in
    let r = c.in_default.field-0 in
    told_none t (line-missing t F c.loop-at-test.true r
    (subst (λ rest. LineOther c.loop-at.count rest r) (rest-is t F) c.in_default.ensures))

pub loop-at-smaller : goal.loop-at-smaller
loop-at-smaller c =
    let t = c.args.text.now in
    let F = c.loop-at.invariant in
    omega (
      arith,
      next-inside t F c.loop-at-test.true c.in-Ok.read
          (subst (λ rest. LineThere c.loop-at.count rest c.in-Ok.read) (rest-is t F) c.in-Ok.ensures),
      c.loop-at-test.true,
    )

pub loop-at-preserved : goal.loop-at-preserved
loop-at-preserved c =
    let t = c.args.text.now in
    let F = c.loop-at.invariant in
    one-followed t F c.loop-at-test.true c.in-Ok.read
    (subst (λ rest. LineThere c.loop-at.count rest c.in-Ok.read) (rest-is t F) c.in-Ok.ensures)
    c.put_bit-used.ensures

pub returns : goal.returns
returns c = all-followed _ c.loop-at.invariant c.loop-at-test.false
