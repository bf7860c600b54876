-- `write_word` meets its contract: the numbers of one word of marks, from place at on.
use native.Mathlib.Omega.{arith}
use borrow.Author.Rules.{rules}
use Rattle.orbits_impl.proofs.WrittenNumbers.{emit-end, emit-next, emit-room, emit-start, first_small, rest-less}
use Rattle.orbits_impl.proofs.writing.write_word.Goals as goal

pub loop-rest-init : goal.loop-rest-init
loop-rest-init c = emit-start _ _ _ _ (search rules)

pub overflow_add-list : goal.overflow_add-list
overflow_add-list c =
    omega (
      arith,
      first_small _ c.loop-rest.invariant.small c.loop-rest-test.true _
          c.smallest-q.ensures.0,
    )

pub overflow_cast-list : goal.overflow_cast-list
overflow_cast-list c =
    omega (
      arith,
      first_small _ c.loop-rest.invariant.small c.loop-rest-test.true _
          c.smallest-q.ensures.0,
    )

pub offset_bounds-list-end : goal.offset_bounds-list-end
offset_bounds-list-end c =
    record {
      fits = omega (
        arith,
        emit-room c.loop-rest.invariant c.requires.1 c.loop-rest-test.true _
            c.smallest-q.ensures.0,
        c.loop-rest.invariant.long,
      );
    }

pub bounds-list-end : goal.bounds-list-end
bounds-list-end c =
    emit-room c.loop-rest.invariant c.requires.1 c.loop-rest-test.true _
    c.smallest-q.ensures.0

pub overflow_add-end : goal.overflow_add-end
overflow_add-end c =
    omega (
      arith,
      emit-room c.loop-rest.invariant c.requires.1 c.loop-rest-test.true _
          c.smallest-q.ensures.0,
      c.loop-rest.invariant.long,
    )

pub flip-rest-requires : goal.flip-rest-requires
flip-rest-requires c = first_small _ c.loop-rest.invariant.small c.loop-rest-test.true _ c.smallest-q.ensures.0

pub loop-rest-smaller : goal.loop-rest-smaller
loop-rest-smaller c =
    rest-less _ c.loop-rest.invariant.small c.loop-rest-test.true _ c.smallest-q.ensures.0 _
    c.flip-rest.ensures

pub loop-rest-preserved : goal.loop-rest-preserved
loop-rest-preserved c =
    emit-next c.loop-rest.invariant c.requires.1 c.loop-rest-test.true _
    c.smallest-q.ensures.0 _ c.flip-rest.ensures

pub returns : goal.returns
returns c = emit-end c.loop-rest.invariant c.requires.1 c.loop-rest-test.false
