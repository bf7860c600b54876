-- `print_record` meets its contract: the record of n qubits, from a place on: the names and a line for each qubit.
use mathlib.Core.Path.{◌≡◌, ap, refl, sym, subst}
use mathlib.Core.List.{◌++◌}
use Prim.Native.Nat.{zero-le}
use native.Mathlib.Numerals.{add-one}
use native.Mathlib.Nat.{add-zero}
use native.Mathlib.Omega.{arith}
use borrow.Author.Rules.{rules}
use Rattle.text.specs.Text.{qubit_line, record_names, qubit_lines, record_text}
use Rattle.buffers.specs.Writing.{Printed}
use Rattle.text.proofs.RecordLaws.{length-lines}
use Rattle.buffers.proofs.Writing.{and_then, same-print, write-none}
use Rattle.text_impl.proofs.printing.print_record.Goals as goal

pub loop-q-init : goal.loop-q-init
unfolding qubit_lines
loop-q-init c = (zero-le, record { end = sym (add-zero _); out = write-none _ _ }, refl)

pub has-requires : goal.has-requires
has-requires c =
    omega (arith, c.loop-q-test.true, c.requires.qubits)

pub put_line-at-requires : goal.put_line-at-requires
put_line-at-requires c =
    let code = c.requires.codes-small c.loop-q.q c.loop-q-test.true in
    omega (
      arith,
      code,
      length-lines c.loop-q.q c.args.neighbours.now c.args.codes.now c.args.used,
      c.loop-q.invariant.1.end,
      c.put_bytes-at.ensures.end,
      c.put_bytes-at.auto,
      c.requires.room,
      c.requires.qubits,
    )

pub loop-q-preserved : goal.loop-q-preserved
unfolding qubit_lines
loop-q-preserved c =
    let lines = length-lines c.loop-q.q c.args.neighbours.now c.args.codes.now c.args.used
    in (
      search rules,
      subst (λ k. Printed (qubit_lines k c.args.neighbours.now c.args.codes.now c.args.used)
          c.put_bytes-at.result c.put_bytes-at.new.out
          c.put_line-at.new.out c.put_line-at.result)
          (sym (add-one c.loop-q.q))
          (and_then (omega (
            arith,
            lines,
            c.put_bytes-at.ensures.end,
            c.put_bytes-at.auto,
            c.requires.room,
          ))
          c.loop-q.invariant.1 (same-print (ap (qubit_line _ _ _) c.has.ensures)
          c.put_line-at.ensures)),
      search rules,
    )

pub returns : goal.returns
unfolding record_text
returns c =
    let all : c.loop-q.q ≡ c.args.n = omega arith in
    subst (λ k. Printed (record_names
    ++ qubit_lines k c.args.neighbours.now c.args.codes.now c.args.used)
    c.args.from c.args.out.now c.loop-q.out c.loop-q.at) all
    (and_then (omega (arith, c.requires.room)) c.put_bytes-at.ensures c.loop-q.invariant.1)
