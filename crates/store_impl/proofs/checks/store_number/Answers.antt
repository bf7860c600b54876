-- `store_number` meets its contract: the first number of the records held in the first k places.
use native.Mathlib.Omega.{arith}
use Prim.Native.Nat.{◌<◌}
use Rattle.store.specs.Places.{Store}
use Rattle.store_impl.proofs.PlaceNumbers.{all-passed, none_passed, place-long, place-part, place-passed, place-small}
use Rattle.store_impl.proofs.checks.store_number.Goals as goal

pub loop-i-init : goal.loop-i-init
loop-i-init c = none_passed _ _

pub held_number-here-requires : goal.held_number-here-requires
held_number-here-requires c =
    let a = c.args in
    let st : Store = record { heads = a.heads.now; neighbours = a.neighbours.now; codes = a.codes.now } in
    let l : c.loop-i.i < a.k = omega arith in (
      place-small _ st c.requires.k_bound.1 _ _ l c.word_at-n.ensures,
      place-long _ _ st.neighbours l c.requires.neighbours_len.0,
      place-long _ _ st.codes l c.requires.neighbours_len.1,
    )

pub loop-i-preserved : goal.loop-i-preserved
loop-i-preserved c =
    let a = c.args in
    let st : Store = record { heads = a.heads.now; neighbours = a.neighbours.now; codes = a.codes.now } in
    let i = c.loop-i.i in
    let l : i < a.k = omega arith in
    place-passed _ st _ _ c.loop-i.invariant _ _ _ _ l
    (place-small _ st c.requires.k_bound.1 _ _ l c.word_at-n.ensures)
    c.word_at-n.ensures c.word_at-used.ensures (place-part i st.neighbours)
    (place-part i st.codes) _ c.held_number-here.ensures _
    c.earlier_refusal-first.ensures

pub returns : goal.returns
returns c = all-passed _ _ _ _ c.loop-i.invariant (omega arith)
