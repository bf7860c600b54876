-- `turned` meets its contract.
use mathlib.Core.Path.{◌≡◌, ap, refl, sym}
use Prim.Native.Nat.{ℕ, ◌<◌, suc, zero}
use native.Mathlib.Omega.{arith}
use lib.Ieee.{neg, of_bits}
use Rattle.amplitude.specs.Plotting.{turned}
use Rattle.amplitude_impl.proofs.lines.turned.Goals as goal

three : (k : ℕ) → k < 4 → (k ≡ 0 → ⊥) → (k ≡ 1 → ⊥) → (k ≡ 2 → ⊥) → k ≡ 3
three zero h a b c = absurd (a refl)
three (suc zero) h a b c = absurd (b refl)
three (suc (suc zero)) h a b c = absurd (c refl)
three (suc (suc (suc zero))) h a b c = refl
three (suc (suc (suc (suc k)))) h a b c = absurd (omega (arith, h))

pub returns-in-0 : goal.returns-in-0
unfolding of_bits
returns-in-0 c = ap turned (sym c.in-0.is)

pub returns-in-1 : goal.returns-in-1
unfolding of_bits
returns-in-1 c = ap turned (sym c.in-1.is)

pub returns-in-2 : goal.returns-in-2
unfolding of_bits neg
returns-in-2 c = ap turned (sym c.in-2.is)

pub returns-in_default : goal.returns-in_default
unfolding of_bits neg
returns-in_default c =
    let default = c.in_default.in_default-own.rest in
    ap turned (sym (three c.args.k c.requires default.0.0.1 default.0.1 default.1))
