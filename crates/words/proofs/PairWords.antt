-- Two rows of a round, bit by bit: where the column has bit s, the upper row takes from the lower, and where it lacks
-- it, the lower from the upper.
use mathlib.Core.Bool.{◌&&◌, Bool, and-false, and-true, cond, false, not, true}
use mathlib.Core.Logic.{inl, inr, ◌⊎◌}
use mathlib.Core.Path.{ap, ap₂, refl, sym, ◌∙◌, ◌≡◌}
use Prim.Native.Nat.{◌%◌, ◌*◌, ◌+◌, ◌-◌, ◌/◌, ◌<◌, ◌^◌, ℕ, ◌≤◌}
use native.Mathlib.Nat.{add_comm}
use native.Mathlib.Omega.{arith}
use lib.Bits.{and_mask, and_shifted, bit_and, bit_xor}
use lib.Pow.{pow-lt, shl-shr}
use Rattle.words.proofs.BitLaws.{bit-and, bit_mask, bit-shr, bit-single, bit-xor, zero_bit}
use Rattle.words.proofs.Finite.{bits}
use Rattle.words.proofs.Places.{same_place}
use Rattle.words.proofs.Sums.{lt-or-ge}
use Rattle.words.specs.Bits.{bit, ◌⊕◌}
use Rattle.words.specs.internal.Squares.{Round, lacks}

-- ---- a word shifted up
-- only the bits below n
pub bit-mod : (w n q : ℕ) → q < n → bit (w % 2 ^ n) q ≡ bit w q
bit-mod w n q l = ap (λ v. bit v q) (sym (and_mask w n)) ∙ bit-and w (2 ^ n - 1) q
    ∙ ap (λ b. bit w q && b) (bit_mask n q l) ∙ and-true (bit w q)

pub bit-shl : (w s q : ℕ) → bit (w * 2 ^ s) (s + q) ≡ bit w q
bit-shl w s q = sym (bit-shr (w * 2 ^ s) s q) ∙ ap (λ v. bit v q) (shl-shr w s)

pub bit-shl-low : (w s q : ℕ) → q < s → bit (w * 2 ^ s) q ≡ false
bit-shl-low w s q l =
    sym (and-true (bit (w * 2 ^ s) q)) ∙ ap (λ b. bit (w * 2 ^ s) q && b) (sym (bit-single q q ∙ same_place q))
    ∙ sym (bit-and (w * 2 ^ s) (2 ^ q) q) ∙ ap (λ v. bit v q) (and_shifted w s (2 ^ q) (pow-lt l)) ∙ zero_bit q

module _ (s low : ℕ) (R : Round s low) (a b : ℕ) where
  -- where the two differ, at the columns that lack bit s
  abbrev d : ℕ
  d = bit_and (bit_xor (a / 2 ^ s) b) low

  differs : (c : ℕ) → c < 64 → bit d c ≡ ((bit a (s + c) ⊕ bit b c) && lacks s c)
  differs c h = bit-and (bit_xor (a / 2 ^ s) b) low c
      ∙ ap₂ ◌&&◌ (bit-xor (a / 2 ^ s) b c ∙ ap (λ v. v ⊕ bit b c) (bit-shr a s c)) (R.mask c h)

  pub lower-bit : (c : ℕ) → c < 64 → bit (bit_xor b (bit_and (bit_xor (a / 2 ^ s) b) low)) c
      ≡ cond (lacks s c) (bit a (c + s)) (bit b c)
  lower-bit c h = bit-xor b d c ∙ ap (λ v. bit b c ⊕ v) (differs c h)
      ∙ taken (bit b c) (bit a (s + c)) (lacks s c)
      ∙ ap (λ q. cond (lacks s c) (bit a q) (bit b c)) (add_comm s c)
    where
      taken : (u v l : Bool) → u ⊕ ((v ⊕ u) && l) ≡ cond l v u
      taken = bits 3 (λ u v l. u ⊕ ((v ⊕ u) && l)) (λ u v l. cond l v u) tt

  shifted : (c : ℕ) → c < 64 → bit (d * 2 ^ s % 2 ^ 64) c ≡ ((bit a c ⊕ bit b (c - s)) && not (lacks s c))
  shifted c h = bit-mod (d * 2 ^ s) 64 c h ∙ go (lt-or-ge c s)
    where
      go : (c < s) ⊎ (s ≤ c) → bit (d * 2 ^ s) c ≡ ((bit a c ⊕ bit b (c - s)) && not (lacks s c))
      go (inl l) = bit-shl-low d s c l ∙ sym (ap (λ v. (bit a c ⊕ bit b (c - s)) && not v) (low-lacks (lacks s c) refl)
          ∙ and-false (bit a c ⊕ bit b (c - s)))
        where
          low-lacks : (v : Bool) → lacks s c ≡ v → v ≡ true
          low-lacks true e = refl
          low-lacks false e = absurd (omega (arith, R.above c h e))
      go (inr l) =
          let whole : s + (c - s) ≡ c = omega arith in
          ap (bit (d * 2 ^ s)) (sym whole) ∙ bit-shl d s (c - s) ∙ differs (c - s) (omega arith)
          ∙ ap₂ (λ q v. (bit a q ⊕ bit b (c - s)) && v) whole (R.back c h l)

  pub upper-bit : (c : ℕ) → c < 64 → bit (bit_xor a (bit_and (bit_xor (a / 2 ^ s) b) low * 2 ^ s % 2 ^ 64)) c
      ≡ cond (lacks s c) (bit a c) (bit b (c - s))
  upper-bit c h = bit-xor a (d * 2 ^ s % 2 ^ 64) c ∙ ap (λ v. bit a c ⊕ v) (shifted c h)
      ∙ taken (bit a c) (bit b (c - s)) (lacks s c)
    where
      taken : (u v l : Bool) → u ⊕ ((u ⊕ v) && not l) ≡ cond l u v
      taken = bits 3 (λ u v l. u ⊕ ((u ⊕ v) && not l)) (λ u v l. cond l u v) tt
