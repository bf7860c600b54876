-- Powers of one half as bit patterns, by one test over the exponents 0 to 64.
use mathlib.Core.Bool.{Bool, true, false, not, ◌&&◌}
use mathlib.Core.Path.{◌≡◌, refl, ap, ap₂, sym, subst}
use native.Mathlib.Omega.{arith}
use Prim.Native.Nat.{ℕ, ◌-◌, ◌*◌, ◌%◌, ◌≤◌}
use lib.Dec.{T, eqb, eqb→eq}
use lib.IntN.{ℤ, pos, negsuc, neg_ℤ}
use lib.Ieee.{Float, binary64, fin, inf, nan, nan_bits, of_bits}
use Rattle.words.proofs.Finite.{and_l, and_r}
use Rattle.words.proofs.Flags.{both_true}
use Rattle.words.proofs.SearchLaws.{every-at}
use Rattle.words.specs.Search.{every}
use Rattle.amplitude.specs.Plotting.{halves}

abbrev pub pattern : ℕ → ℕ
pattern r = (1023 - r) * 4503599627370496 % 18446744073709551616

unfoldable same_z : ℤ → ℤ → Bool
same_z (pos a) (pos b) = eqb a b
same_z (pos a) (negsuc b) = false
same_z (negsuc a) (pos b) = false
same_z (negsuc a) (negsuc b) = eqb a b

same_z→≡ : (a b : ℤ) → T (same_z a b) → a ≡ b
unfolding same_z
same_z→≡ (pos a) (pos b) t = ap pos (eqb→eq _ _ t)
same_z→≡ (pos a) (negsuc b) t = absurd t
same_z→≡ (negsuc a) (pos b) t = absurd t
same_z→≡ (negsuc a) (negsuc b) t = ap negsuc (eqb→eq _ _ t)

-- the number is 2 ^ e
unfoldable is_power : ℤ → Float → Bool
is_power e nan = false
is_power e (inf s) = false
is_power e (fin true m d) = false
is_power e (fin false m d) = eqb m 1 && same_z d e

power-is : (e : ℤ) (x : Float) → T (is_power e x) → x ≡ fin false 1 e
unfolding is_power
power-is e nan t = absurd t
power-is e (inf s) t = absurd t
power-is e (fin true m d) t = absurd t
power-is e (fin false m d) t =
    ap₂ (fin false) (eqb→eq _ _ (and_l (eqb m 1) (same_z d e) t)) (same_z→≡ d e (and_r (eqb m 1) (same_z d e) t))

abbrev test : ℕ → Bool
test r = is_power (neg_ℤ (pos r)) (of_bits binary64 (pattern r)) && not (nan_bits binary64 (pattern r))

all : every 65 test ≡ true
unfolding every of_bits nan_bits is_power same_z
all = refl

pub pattern-is : (r : ℕ) → r ≤ 64 → of_bits binary64 (pattern r) ≡ halves r
pattern-is r h = power-is (neg_ℤ (pos r)) _
    (subst T (sym (both_true (is_power (neg_ℤ (pos r)) (of_bits binary64 (pattern r))) _
    (every-at 65 test all r (omega arith))).0) tt)

pub pattern-good : (r : ℕ) → r ≤ 64 → T (not (nan_bits binary64 (pattern r)))
pattern-good r h =
    subst T (sym (both_true (is_power (neg_ℤ (pos r)) (of_bits binary64 (pattern r))) _
    (every-at 65 test all r (omega arith))).1) tt
