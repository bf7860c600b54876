-- Numbers written in a base, the leading digit first: their digits, and that their order is that of the first digit
-- that differs.
use mathlib.Core.Logic.{inl, inr, ◌⊎◌}
use mathlib.Core.Path.{ap, subst, subst₂, sym, ◌∙◌, ◌≡◌}
use Prim.Native.Nat.{◌%◌, ◌*◌, ◌+◌, ◌-◌, ◌/◌, ◌<◌, ◌^◌, suc, zero, ℕ, ◌≤◌}
use native.Mathlib.Decide.{dec_lt}
use native.Mathlib.Nat.{
  div-add-mod',
  div-div-eq-div-mul,
  div-lt_iff_lt-mul,
  div-one,
  le-div_iff_mul-le,
  lt_trans,
  mul_comm,
  not-suc-le-zero,
  pow-suc,
  pow-zero,
}
use native.Mathlib.Omega.{arith}
use lib.Arith.{digits_div, digits_lt, digits_mod}
use lib.Dec.{lit<}
use Rattle.words.proofs.Sums.{last_or}
use Rattle.comparison.specs.Choices.{FirstDiffers, digit_at}

-- a division splits an order
module _ (b : ℕ) (pos : 0 < b) where
  pub division-splits : (x y : ℕ) → x < y → (x / b < y / b) ⊎ ((x / b ≡ y / b) × (x % b < y % b))
  division-splits x y l = go (dec_lt (x / b) (y / b))
    where
      below : x / b ≤ y / b
      below = (le-div_iff_mul-le pos).1 (part (x / b * b) (x % b) (div-add-mod' x b))
        where
          part : (u v : ℕ) → u + v ≡ x → u ≤ y
          part u v e = omega (arith, e, l)

      go : Dec (x / b < y / b) → (x / b < y / b) ⊎ ((x / b ≡ y / b) × (x % b < y % b))
      go (yes h) = inl h
      go (no h) =
          inr (
            e,
            rest (x / b * b) (x % b) (y / b * b) (y % b) (div-add-mod' x b) (div-add-mod' y b)
                (ap (λ k. k * b) e),
          )
        where
          e : x / b ≡ y / b
          e = meet (x / b) (y / b) below h
            where
              meet : (u v : ℕ) → u ≤ v → (u < v → ⊥) → u ≡ v
              meet u v k n = omega (arith, k, n)

          rest : (u v w t : ℕ) → u + v ≡ x → w + t ≡ y → u ≡ w → v < t
          rest u v w t p q r = omega (arith, p, q, r, l)

  digit_at-shift : (n x q : ℕ) → q < n → digit_at b (suc n) x q ≡ digit_at b n (x / b) q
  digit_at-shift n x q l =
      ap (λ e. x / b ^ e % b) s
      ∙ ap (λ e. x / e % b) (pow-suc b (n - suc q) ∙ mul_comm (b ^ (n - suc q)) b)
      ∙ ap (λ e. e % b) (sym (div-div-eq-div-mul x b (b ^ (n - suc q))))
    where
      s : suc n - suc q ≡ suc (n - suc q)
      s = omega arith

  digit_at-last : (n x : ℕ) → digit_at b (suc n) x n ≡ x % b
  digit_at-last n x = ap (λ e. x / b ^ e % b) z ∙ ap (λ e. x / e % b) (pow-zero b)
      ∙ ap (λ e. e % b) (div-one x)
    where
      z : suc n - suc n ≡ 0
      z = omega arith

  -- the smaller of two numbers has the smaller digit where they first differ
  pub numeral-order : (n x y : ℕ) → y < b ^ n → x < y → FirstDiffers n (digit_at b n x) (digit_at b n y)
  numeral-order zero x y h l = absurd (none (subst (λ k. y < k) (pow-zero b) h))
    where
      none : y < 1 → ⊥
      none k = omega (arith, k, l)
  numeral-order (suc n) x y h l =
      go (λ k. numeral-order n (x / b) (y / b) ((div-lt_iff_lt-mul pos).1 (subst (λ e. y < e) (pow-suc b n) h))
      k)
      (division-splits x y l)
    where
      go : (x / b < y / b → FirstDiffers n (digit_at b n (x / b)) (digit_at b n (y / b)))
          → (x / b < y / b) ⊎ ((x / b ≡ y / b) × (x % b < y % b))
          → FirstDiffers (suc n) (digit_at b (suc n) x) (digit_at b (suc n) y)
      go ih (inl k) =
          let d = ih k in (
            d.0,
            up d.1,
            (λ t m. digit_at-shift n x t (lt_trans m d.1) ∙ d.2 t m
                ∙ sym (digit_at-shift n y t (lt_trans m d.1))),
            subst₂ ◌<◌ (sym (digit_at-shift n x d.0 d.1)) (sym (digit_at-shift n y d.0 d.1)) d.3,
          )
        where
          up : {q : ℕ} → q < n → q < suc n
          up k = omega (arith, k)
      go ih (inr e) = (
        n,
        omega arith,
        (λ t m. digit_at-shift n x t m ∙ ap (λ c. digit_at b n c t) e.0 ∙ sym (digit_at-shift n y t m)),
        subst₂ ◌<◌ (sym (digit_at-last n x)) (sym (digit_at-last n y)) e.1,
      )

-- the number with the digits f 0, f 1 .. f (n - 1), the first leading
unfoldable pub numeral : ℕ → ℕ → (ℕ → ℕ) → ℕ
numeral b zero f = 0
numeral b (suc n) f = numeral b n f * b + f n

module _ (b : ℕ) (pos : 0 < b) (f : ℕ → ℕ) (small : (q : ℕ) → f q < b) where
  pub numeral-lt : (n : ℕ) → numeral b n f < b ^ n
  unfolding numeral
  numeral-lt zero = subst (λ k. 0 < k) (sym (pow-zero b)) (lit< tt)
  numeral-lt (suc n) =
      subst (λ k. numeral b n f * b + f n < k) (sym (pow-suc b n)) (digits_lt (numeral-lt n) (small n))

  pub numeral-digit : (n q : ℕ) → q < n → digit_at b n (numeral b n f) q ≡ f q
  unfolding numeral
  numeral-digit zero q l = absurd (not-suc-le-zero l)
  numeral-digit (suc n) q l = go (λ k. numeral-digit n q k) (last_or l)
    where
      go : (q < n → digit_at b n (numeral b n f) q ≡ f q) → (q ≡ n) ⊎ (q < n)
          → digit_at b (suc n) (numeral b n f * b + f n) q ≡ f q
      go ih (inl p) =
          ap (digit_at b (suc n) (numeral b n f * b + f n)) p ∙ digit_at-last b pos n (numeral b n f * b + f n)
          ∙ digits_mod (numeral b n f) (small n) ∙ ap f (sym p)
      go ih (inr k) =
          digit_at-shift b pos n (numeral b n f * b + f n) q k
          ∙ ap (λ e. digit_at b n e q) (digits_div (numeral b n f) (small n)) ∙ ih k
