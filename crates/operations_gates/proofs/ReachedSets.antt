-- The sets of a CZ and its signs, word by word.
use mathlib.Core.Bool.{cond, false, true}
use mathlib.Core.Path.{ap, sym, ◌∙◌, ◌≡◌}
use Prim.Native.Nat.{◌^◌, ℕ}
use lib.Dec.{eqb}
use Rattle.clifford.specs.Clifford.{bit_c, clifford_of}
use Rattle.words.proofs.BitLaws.{bit-single}
use Rattle.words.specs.Bits.{bit}

pub reached-own : (word code a r : ℕ) → bit_c (clifford_of code) ≡ false → r ≡ 2 ^ a
    → (q : ℕ) → bit r q ≡ cond (bit_c (clifford_of code)) (bit word q) (eqb q a)
reached-own word code a r f e q =
    ap (λ w. bit w q) e ∙ bit-single a q ∙ sym (ap (λ b. cond b (bit word q) (eqb q a)) f)

pub reached-neighbours : (word code a : ℕ) → bit_c (clifford_of code) ≡ true
    → (q : ℕ) → bit word q ≡ cond (bit_c (clifford_of code)) (bit word q) (eqb q a)
reached-neighbours word code a t q = sym (ap (λ b. cond b (bit word q) (eqb q a)) t)
