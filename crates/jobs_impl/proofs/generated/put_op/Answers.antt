-- `put_op` meets its contract.
use mathlib.Core.Path.{ap, subst, sym}
use native.Mathlib.Omega.{arith}
use lib.ListN.{length}
use lib.Seq.{length-take-le}
use Rattle.buffers.specs.Writing.{Printed}
use Rattle.jobs_impl.proofs.StepLines.{letters-inside, letters-taken}
use Rattle.jobs_impl.proofs.generated.put_op.Goals as goal

pub slice_bounds-letters-end : goal.slice_bounds-letters-end
slice_bounds-letters-end c = letters-inside c.args.op _ _ c.op_letters-letters.ensures c.op_length-count.ensures

pub slice_bounds-put_bytes-end : goal.slice_bounds-put_bytes-end
slice_bounds-put_bytes-end c =
    sym (length-take-le c.op_length-count.result c.op_letters-letters.result
    (letters-inside c.args.op _ _ c.op_letters-letters.ensures
    c.op_length-count.ensures))

pub put_bytes-requires : goal.put_bytes-requires
put_bytes-requires c =
    omega (
      arith,
      ap length (letters-taken c.args.op _ _ c.op_letters-letters.ensures c.op_length-count.ensures),
      c.requires,
    )

pub returns : goal.returns
returns c =
    let a = c.args in
    subst (λ t. Printed t a.at a.out.now c.put_bytes.new.out
    c.put_bytes.result)
    (letters-taken a.op _ _ c.op_letters-letters.ensures c.op_length-count.ensures)
    c.put_bytes.ensures
