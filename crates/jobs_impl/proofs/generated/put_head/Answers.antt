-- `put_head` meets its contract: the three lines before the steps.
use mathlib.Core.Path.{subst}
use native.Mathlib.Omega.{arith}
use lib.ListN.{length-append}
use Rattle.jobs.specs.Text.{qubits_line}
use Rattle.text.proofs.HexLaws.{length-decimal}
use Rattle.buffers.proofs.Writing.{and_then}
use Rattle.text.specs.Text.{decimal}
use Rattle.buffers.specs.Writing.{Printed}
use Rattle.jobs_impl.proofs.JobLines.{head-parts}
use Rattle.jobs_impl.proofs.generated.put_head.Goals as goal

pub put_bytes-requires : goal.put_bytes-requires
put_bytes-requires c =
    omega (
      arith,
      length-decimal c.args.n,
      c.put_bytes-after_names.ensures.end,
      c.put_bytes-after_names.auto,
      c.put_decimal-after_n.ensures.end,
      c.put_decimal-after_n.auto,
      c.requires,
    )

pub returns : goal.returns
returns c =
    let n = c.args.n in
    subst (λ l. Printed l 0 c.args.out.now c.put_bytes.new.out
    c.put_bytes.result)
    (head-parts n c.requires.0)
    (and_then (omega (arith, length-append qubits_line (decimal n), length-decimal n, c.requires))
    (and_then (omega (arith, c.requires)) c.put_bytes-after_names.ensures c.put_decimal-after_n.ensures)
    c.put_bytes.ensures)
