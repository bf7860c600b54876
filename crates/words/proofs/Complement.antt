-- A word from its bits, and the word of the bits that another has not.
use mathlib.Core.Bool.{not}
use mathlib.Core.Path.{ap, sym, ◌∙◌, ◌≡◌}
use Prim.Native.Nat.{◌%◌, ◌-◌, ◌/◌, ◌<◌, ◌^◌, ℕ, suc, zero}
use native.Mathlib.Omega.{arith}
use lib.Dec.{eqb}
use mir.Syntax.{w64}
use Rattle.std.proofs.Math.Pow.{ones_sub-lt}
use Rattle.std.proofs.lemmas.Nat.Bits.{bit_at_not}
use Rattle.words.proofs.BitLaws.{word-cong, word_of-bit}
use Rattle.words.specs.Bits.{Word, bit, word_of}

-- a word with these bits
pub word-of : (w : ℕ) (f : Word) → w < 2 ^ 64 → ((q : ℕ) → q < 64 → bit w q ≡ f q) → w ≡ word_of 64 f
word-of w f h e = sym (word_of-bit 64 w h) ∙ word-cong 64 (bit w) f e

-- one digit turned
turned : (d e : ℕ) → d < 2 → e ≡ 1 - d → eqb e 1 ≡ not (eqb d 1)
turned zero e l h = ap (λ k. eqb k 1) h
turned (suc zero) e l h = ap (λ k. eqb k 1) h
turned (suc (suc d)) e l h = absurd (omega arith)

-- the other bits
pub other-bits : (w : ℕ) → w < 2 ^ 64 → 2 ^ 64 - 1 - w ≡ word_of 64 (λ q. not (bit w q))
unfolding bit
other-bits w h = word-of _ _ (ones_sub-lt 64 w)
    (λ q l. turned (w / 2 ^ q % 2) ((2 ^ 64 - 1 - w) / 2 ^ q % 2) (omega arith) (bit_at_not w64 w q h l))
