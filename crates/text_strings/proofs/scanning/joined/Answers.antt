-- `joined` meets its contract: a word of two halves.
use mathlib.Core.Path.{ap, subst, sym, ◌≡◌}
use Prim.Native.Nat.{◌%◌, ◌*◌, ◌+◌, ◌<◌, ◌^◌, ℕ, ◌≤◌}
use native.Mathlib.Omega.{arith}
use lib.Pow.{shl_exact}
use Rattle.text_strings.proofs.scanning.joined.Goals as goal

-- nothing is shifted out
whole : (high half : ℕ) → half ≤ 32 → high < 2 ^ 32 → high * 2 ^ half % 2 ^ 64 ≡ high * 2 ^ half
whole high half l h = shl_exact {a = high} 32 half 64 h (omega arith)

pub overflow_add-result : goal.overflow_add-result
overflow_add-result c =
    record {
      fits = subst (λ v. c.args.low + v < 2 ^ 64) (sym (whole c.args.high c.args.half c.requires.0
          c.requires.1))
          c.requires.2;
    }

pub returns : goal.returns
returns c = ap (λ v. c.args.low + v) (whole c.args.high c.args.half c.requires.0 c.requires.1)
