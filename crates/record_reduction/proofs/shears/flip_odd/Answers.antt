-- `flip_odd` meets its contract: the word of signs, that of row j flipped where the ones of a word are odd in number.
use mathlib.Core.Bool.{◌&&◌, Bool, and-false, and-true, false, true}
use mathlib.Core.Path.{◌∙◌, ◌≡◌, ap, sym}
use Prim.Native.Nat.{◌%◌, ◌*◌, ◌^◌, ℕ}
use native.Mathlib.Nat.{one-mul}
use native.Mathlib.Omega.{arith}
use lib.Bits.{bit_xor}
use lib.Dec.{eqb}
use lib.Pow.{shl_exact}
use Rattle.words.proofs.BitLaws.{bit-flip, bit-xor, digit-odd, zero_bit}
use Rattle.words.specs.Bits.{bit, digit, is_odd, ◌⊕◌}
use Rattle.record_reduction.proofs.shears.flip_odd.Goals as goal

flip-digit : (s j k : ℕ) (b : Bool) → bit (bit_xor s (digit b * 2 ^ j)) k ≡ bit s k ⊕ (eqb k j && b)
flip-digit s j k true =
    ap (λ v. bit (bit_xor s v) k) (one-mul (2 ^ j)) ∙ bit-flip s j k
    ∙ ap (λ b. bit s k ⊕ b) (sym (and-true (eqb k j)))
flip-digit s j k false =
    bit-xor s (0 * 2 ^ j) k
    ∙ ap (λ b. bit s k ⊕ b) (ap (λ v. bit v k) (none (2 ^ j)) ∙ zero_bit k ∙ sym (and-false (eqb k j)))
  where
    none : (v : ℕ) → 0 * v ≡ 0
    none v = omega arith

pub returns : goal.returns
returns c k =
    let a = c.args in
    ap (λ v. bit (bit_xor a.signs v) k)
    (shl_exact {a = c.count.result % 2} 1 a.j 64 (omega arith) (omega arith))
    ∙ ap (λ v. bit (bit_xor a.signs (v * 2 ^ a.j)) k)
    (sym (digit-odd c.count.result) ∙ ap (λ v. digit (is_odd v)) c.count.ensures.0)
    ∙ flip-digit a.signs a.j k _
