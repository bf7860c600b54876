-- `turn_each` meets its contract: each of these vertices gets the word that `flips` names for it flipped in its own, and
-- code k before its code. What the loop says of the words and of the codes are two facts side by side.
use mathlib.Core.Path.{subst, sym, ◌≡◌}
use Prim.Native.Nat.{◌<◌, ◌^◌, ℕ, ◌≤◌}
use native.Mathlib.Omega.{arith}
use Rattle.buffers.proofs.OverSets.{next-in, next-less, next-short}
use Rattle.operations_rewriting.proofs.PuttingBefore.{put-end, put-more, put_small, put-start}
use Rattle.words.proofs.Dropping.{dropped-at}
use Rattle.operations_rewriting.proofs.FlippedRows.{flip-end, flip-more, flip-start}
use Rattle.operations_rewriting.proofs.complements.turn_each.Goals as goal

-- there are as many codes as words
codes-short : {m n : ℕ} → (n ≤ 64) × (m ≡ n) → m ≤ 64
codes-short h = subst (λ k. k ≤ 64) (sym h.1) h.0

pub loop-rest-init : goal.loop-rest-init
loop-rest-init g c =
    let below = c.requires.vertices_bound.0 in (
      λ f T. flip-start _ _ f below,
      put-start _ _ c.args.k c.requires.by_index
          (subst (λ m. c.args.vertices < 2 ^ m) (sym c.requires.neighbours_len_bound.1) below),
    )

pub bounds-codes-i : goal.bounds-codes-i
bounds-codes-i g c =
    let short = codes-short c.requires.neighbours_len_bound in
    next-in _ _ _ _ _ c.loop-rest.invariant.1 short c.loop-rest-test.true _ c.smallest-i.ensures.0

pub overflow_cast-codes : goal.overflow_cast-codes
overflow_cast-codes g c =
    let short = codes-short c.requires.neighbours_len_bound in
    omega (arith, put_small _ _ c.args.k _ _ c.loop-rest.invariant.1 short c.requires.by_index c.loop-rest-test.true _ c.smallest-i.ensures.0)

pub bounds-turned-code : goal.bounds-turned-code
bounds-turned-code g c =
    let short = codes-short c.requires.neighbours_len_bound in
    put_small _ _ c.args.k _ _ c.loop-rest.invariant.1 short c.requires.by_index c.loop-rest-test.true _ c.smallest-i.ensures.0

pub bounds-codes-i-in-loop-rest : goal.bounds-codes-i-in-loop-rest
bounds-codes-i-in-loop-rest g c =
    let short = codes-short c.requires.neighbours_len_bound in
    next-in _ _ _ _ _ c.loop-rest.invariant.1 short c.loop-rest-test.true _ c.smallest-i.ensures.0

pub flips-requires : goal.flips-requires
flips-requires g c =
    let short = codes-short c.requires.neighbours_len_bound in
    c.requires.callable _ (next-short _ _ _ _ _ c.loop-rest.invariant.1 short c.loop-rest-test.true _ c.smallest-i.ensures.0)

pub offset_bounds-neighbours-i : goal.offset_bounds-neighbours-i
offset_bounds-neighbours-i g c =
    let short = codes-short c.requires.neighbours_len_bound in
    omega (arith, next-short _ _ _ _ _ c.loop-rest.invariant.1 short c.loop-rest-test.true _ c.smallest-i.ensures.0)

pub bounds-neighbours-i : goal.bounds-neighbours-i
bounds-neighbours-i g c =
    let short = codes-short c.requires.neighbours_len_bound in
    let here = next-in _ _ _ _ _ c.loop-rest.invariant.1 short c.loop-rest-test.true _ c.smallest-i.ensures.0 in
    omega (arith, here, c.loop-rest.auto.neighbours, c.loop-rest.auto.codes, c.requires.neighbours_len_bound.1)

pub bounds-neighbours-i-in-loop-rest : goal.bounds-neighbours-i-in-loop-rest
bounds-neighbours-i-in-loop-rest g c =
    let short = codes-short c.requires.neighbours_len_bound in
    let here = next-in _ _ _ _ _ c.loop-rest.invariant.1 short c.loop-rest-test.true _ c.smallest-i.ensures.0 in
    omega (arith, here, c.loop-rest.auto.neighbours, c.loop-rest.auto.codes, c.requires.neighbours_len_bound.1)

pub without_smallest-rest-requires : goal.without_smallest-rest-requires
without_smallest-rest-requires g c = c.loop-rest-test.true

pub loop-rest-smaller : goal.loop-rest-smaller
loop-rest-smaller g c =
    let short = codes-short c.requires.neighbours_len_bound in
    next-less _ _ _ _ _ c.loop-rest.invariant.1 short c.loop-rest-test.true _ c.smallest-i.ensures.0 _
    (dropped-at _ _ _ c.without_smallest-rest.ensures c.smallest-i.ensures.0)

pub loop-rest-preserved : goal.loop-rest-preserved
loop-rest-preserved g c =
    let short = codes-short c.requires.neighbours_len_bound in
    let inv = c.loop-rest.invariant in
    let least = c.smallest-i.ensures.0 in
    let dropped = dropped-at _ _ _ c.without_smallest-rest.ensures least in (
      λ f T. flip-more _ _ f _ _ (inv.0 f T) c.requires.neighbours_len_bound.0 c.loop-rest-test.true _ least _ _
          (T _ _ c.flips.ensures) dropped,
      put-more _ _ c.args.k _ _ inv.1 short c.loop-rest-test.true _ least _ _
          (c.before_each-turned.ensures _ (put_small _ _ c.args.k _ _ c.loop-rest.invariant.1 short c.requires.by_index c.loop-rest-test.true _ c.smallest-i.ensures.0)) dropped,
    )

pub returns : goal.returns
returns g c =
    let inv = c.loop-rest.invariant in
    record {
      words_after = λ f T. flip-end _ _ f _ _ (inv.0 f T) c.loop-rest-test.false;
      codes_after = put-end _ _ c.args.k _ _ inv.1 c.loop-rest-test.false;
    }
