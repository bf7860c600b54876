-- What was printed, and where it ends in its buffer.
use mathlib.Core.List.{List}
use mathlib.Core.Path.{ap, ◌∙◌, ◌≡◌}
use Prim.Native.Nat.{◌+◌, ℕ, ◌≤◌}
use native.Mathlib.Omega.{arith}
use lib.ListN.{drop, length, length-append, length-drop, take}
use lib.Seq.{length-take-le}
use Rattle.buffers.specs.Writing.{Printed, overwritten}

-- what was printed ends within the buffer
pub printed-fits : (bytes before after : List ℕ) (r : ℕ) → Printed bytes 0 before after r →
    length after ≡ length before → r ≤ length after
unfolding overwritten
printed-fits bytes before after r P e =
    omega (
      arith,
      P.end,
      e,
      ap length P.out ∙ length-append bytes (drop (0 + length bytes) before),
      length-drop (0 + length bytes) before,
    )

-- .. so that the bytes up to there are a part of it
pub printed-part : (bytes before after : List ℕ) (r : ℕ) → Printed bytes 0 before after r →
    length after ≡ length before → length (take r after) ≡ r
printed-part bytes before after r P e =
    length-take-le r after (printed-fits bytes before after r P e)
