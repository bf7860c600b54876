-- `print_refusal` meets its contract: the line of a refusal.
use mathlib.Core.List.{◌++◌}
use mathlib.Core.Path.{subst}
use native.Mathlib.Omega.{arith}
use lib.Dec.{lit<}
use lib.ListN.{length-append}
use Prim.Native.Nat.{◌<◌}
use Rattle.buffers.specs.internal.Numbers.{refusal_number}
use Rattle.buffers.specs.declared.refusals.Refusal.{Refusal}
use Rattle.buffers.specs.declared.refusals.Refusal.TheVariants.{Anticommute, Contradicted, Count, Dependent, Form, Full}
use Rattle.buffers.specs.declared.refusals.Refusal.TheVariants.{Graph, ImageC, ImageY, Inequivalent, Large, Length}
use Rattle.buffers.specs.declared.refusals.Refusal.TheVariants.{NotHeld, NotUsed, OtherGroup, Qubit, Steps, Stray, Used, Value}
use Rattle.buffers.specs.Writing.{Printed}
use Rattle.text.specs.Text.{decimal, newline, refused_word, refused_text}
use Rattle.text.proofs.HexLaws.{length-decimal}
use Rattle.buffers.proofs.Writing.{and_then}
use Rattle.text_impl.proofs.printing.print_refusal.Goals as goal

-- the published list has two digits at most
two_digits : (refusal : Refusal) → refusal_number refusal < 100
two_digits Form = lit< tt
two_digits Count = lit< tt
two_digits Large = lit< tt
two_digits Length = lit< tt
two_digits Stray = lit< tt
two_digits Value = lit< tt
two_digits Graph = lit< tt
two_digits Qubit = lit< tt
two_digits Anticommute = lit< tt
two_digits Dependent = lit< tt
two_digits ImageC = lit< tt
two_digits ImageY = lit< tt
two_digits Inequivalent = lit< tt
two_digits Contradicted = lit< tt
two_digits Steps = lit< tt
two_digits Used = lit< tt
two_digits NotHeld = lit< tt
two_digits Full = lit< tt
two_digits OtherGroup = lit< tt
two_digits NotUsed = lit< tt

pub put_decimal-number-requires : goal.put_decimal-number-requires
put_decimal-number-requires c =
    omega (
      arith,
      two_digits c.args.refusal,
      c.number.ensures,
      c.put_bytes-word.ensures.end,
      c.put_bytes-word.auto,
      c.requires,
    )

pub put-requires : goal.put-requires
put-requires c =
    omega (
      arith,
      length-decimal c.number.result,
      c.put_bytes-word.ensures.end,
      c.put_bytes-word.auto,
      c.put_decimal-number.ensures.end,
      c.put_decimal-number.auto,
      c.requires,
    )

pub returns : goal.returns
unfolding refused_text
returns c =
    let k = c.number.result in
    let long = length-append refused_word (decimal k) in
    subst (λ k. Printed (refused_word ++ decimal k ++ newline) 0 c.args.out.now c.put.new.out c.put.result)
    c.number.ensures
    (and_then (omega (arith, long, length-decimal k, c.requires))
    (and_then (omega (arith, c.requires)) c.put_bytes-word.ensures c.put_decimal-number.ensures)
    c.put.ensures)
