-- `put_step` meets its contract: the line of a step.
use native.Mathlib.Omega.{arith}
use Rattle.jobs_impl.proofs.StepLines.{rooms, step-printed}
use Rattle.jobs_impl.proofs.generated.put_step.Goals as goal

pub put_op-after_op-requires : goal.put_op-after_op-requires
put_op-after_op-requires c =
    omega (arith, (rooms c.args.s c.requires.0 c.args.at c.args.out.now c.requires.1).op)

pub overflow_cast-s : goal.overflow_cast-s
overflow_cast-s c = omega (arith, c.requires.0.a)

pub put_field-after_a-requires : goal.put_field-after_a-requires
put_field-after_a-requires c =
    let room = rooms c.args.s c.requires.0 c.args.at c.args.out.now c.requires.1 in
    (c.requires.0.a, omega (arith, room.a, c.put_op-after_op.ensures.end, c.put_op-after_op.auto))

pub overflow_cast-s-2 : goal.overflow_cast-s-2
overflow_cast-s-2 c =
    omega (arith, c.requires.0.b)

pub put_field-after_b-requires : goal.put_field-after_b-requires
put_field-after_b-requires c =
    let room = rooms c.args.s c.requires.0 c.args.at c.args.out.now c.requires.1 in (
      c.requires.0.b,
      omega (
        arith,
        room.b,
        c.put_op-after_op.ensures.end,
        c.put_op-after_op.auto,
        c.put_field-after_a.ensures.end,
        c.put_field-after_a.auto,
      ),
    )

pub overflow_cast-s-3 : goal.overflow_cast-s-3
overflow_cast-s-3 c =
    omega (arith, c.requires.0.value)

pub put_decimal-after_value-requires : goal.put_decimal-after_value-requires
put_decimal-after_value-requires c =
    let room = rooms c.args.s c.requires.0 c.args.at c.args.out.now c.requires.1 in (
      c.requires.0.value,
      omega (
        arith,
        room.value,
        c.put_op-after_op.ensures.end,
        c.put_op-after_op.auto,
        c.put_field-after_a.ensures.end,
        c.put_field-after_a.auto,
        c.put_field-after_b.ensures.end,
        c.put_field-after_b.auto,
      ),
    )

pub put-requires : goal.put-requires
put-requires c =
    let room = rooms c.args.s c.requires.0 c.args.at c.args.out.now c.requires.1 in
    omega (
      arith,
      room.newline,
      c.put_op-after_op.ensures.end,
      c.put_op-after_op.auto,
      c.put_field-after_a.ensures.end,
      c.put_field-after_a.auto,
      c.put_field-after_b.ensures.end,
      c.put_field-after_b.auto,
      c.put_decimal-after_value.ensures.end,
      c.put_decimal-after_value.auto,
    )

pub returns : goal.returns
returns c =
    step-printed c.args.s c.requires.0 c.args.at c.args.out.now c.requires.1
    c.put_op-after_op.ensures c.put_field-after_a.ensures c.put_field-after_b.ensures c.put_decimal-after_value.ensures
    c.put.ensures
