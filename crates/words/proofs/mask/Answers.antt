-- `mask` meets its contract: the mask of n qubits: the bits below n are 1.
use mathlib.Core.Path.{◌∙◌, ap, ◌≡◌}
use Prim.Native.Nat.{◌+◌, ◌-◌, ◌/◌, ◌^◌}
use native.Mathlib.Omega.{arith}
use lib.Pow.{high, ones_lt, ones_split}
use Rattle.words.proofs.mask.Goals as goal

pub returns : goal.returns
returns c =
    let n = c.args.n in
    let whole : 64 ≡ n + (64 - n) = omega arith in
    ap (λ k. (2 ^ k - 1) / 2 ^ (64 - n)) whole ∙ ap (λ k. k / 2 ^ (64 - n)) (ones_split n (64 - n))
    ∙ high (2 ^ n - 1) (64 - n) (ones_lt (64 - n))
