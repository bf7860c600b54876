-- What the loops of `put_word` keep.
use mathlib.Core.Path.{◌≡◌}
use Prim.Native.Nat.{◌-◌, ◌*◌, ◌/◌, ◌^◌, ◌≤◌}
use lib.ListN.{length}
use Rattle.text.specs.Text.{hex_text}
use Rattle.buffers.specs.Writing.{overwritten}
use Rattle.text_impl.proofs.printing.put_word.Given as goal

abbrev pub invariant-loop-i : goal.invariant-loop-i
invariant-loop-i l =
    (l.i ≤ 16) × (l.out ≡ overwritten l.initial.out l.at (hex_text l.i (l.w / 2 ^ (64 - 4 * l.i))))
    × (length l.out ≡ length l.initial.out)
