-- The numbers of the choices follow document 01's order, and every choice has its number.
use mathlib.Core.Bool.{Bool, cond, false, true}
use mathlib.Core.Logic.{inl, inr, ◌⊎◌}
use mathlib.Core.Path.{ap, ap₂, refl, subst, subst₂, sym, ◌∙◌, ◌≡◌}
use Prim.Native.Nat.{◌%◌, ◌*◌, ◌+◌, ◌/◌, ◌<◌, ◌^◌, suc, zero, ℕ}
use native.Mathlib.Nat.{div-lt_iff_lt-mul, lt_trans, mod-lt, mul_assoc, mul_comm, pow-suc, pow-zero}
use native.Mathlib.Omega.{arith}
use lib.Arith.{digits_div, digits_lt, digits_mod}
use lib.Dec.{lit<, ltb}
use borrow.Author.Tests.{lt-ltb}
use Rattle.clifford.proofs.CliffordLaws.{class-lt, class_of-number, cliffords, from_five, on_clifford}
use Rattle.clifford.specs.Clifford.{Class, Clifford, class_number, class_of, clifford_of}
use Rattle.words.proofs.BitLaws.{digit-odd}
use Rattle.words.specs.Bits.{digit}
use Rattle.comparison.proofs.Numerals.{
  division-splits,
  numeral,
  numeral-digit,
  numeral-lt,
  numeral-order,
}
use Rattle.comparison.specs.Choices.{
  Agree,
  Before,
  FirstDiffers,
  choice,
  choice_at,
  class_key,
  digit_at,
  sign_key,
}

four-pos : (n : ℕ) → 0 < 4 ^ n
four-pos zero = subst (λ k. 0 < k) (sym (pow-zero 4)) (lit< tt)
four-pos (suc n) = subst (λ k. 0 < k) (sym (pow-suc 4 n)) (up (4 ^ n) (four-pos n))
  where
    up : (k : ℕ) → 0 < k → 0 < k * 4
    up k l = omega (arith, l)

pub pow-mul : (n : ℕ) → 24 ^ n ≡ 6 ^ n * 4 ^ n
pow-mul zero = pow-zero 24 ∙ sym (ap₂ ◌*◌ (pow-zero 6) (pow-zero 4))
pow-mul (suc n) =
    pow-suc 24 n ∙ ap (λ k. k * 24) (pow-mul n) ∙ regroup (6 ^ n) (4 ^ n)
    ∙ sym (ap₂ ◌*◌ (pow-suc 6 n) (pow-suc 4 n))
  where
    regroup : (u v : ℕ) → u * v * 24 ≡ u * 6 * (v * 4)
    regroup u v =
        mul_assoc u v 24
        ∙ ap (λ k. u * k) (sym (mul_assoc v 6 4) ∙ ap (λ k. k * 4) (mul_comm v 6) ∙ mul_assoc 6 v 4)
        ∙ sym (mul_assoc u 6 (v * 4))

-- ---- a code and its two digits
pub class_key-lt : (k : Clifford) → class_key k < 6
class_key-lt k = class-lt k.class

pub sign_key-lt : (k : Clifford) → sign_key k < 4
sign_key-lt k = go k.sx k.sz
  where
    go : (a b : Bool) → 2 * digit a + digit b < 4
    go false false = lit< tt
    go false true = lit< tt
    go true false = lit< tt
    go true true = lit< tt

pub code-of-keys : (k : Clifford) → clifford_of (4 * class_key k + sign_key k) ≡ k
code-of-keys =
    on_clifford _ (cliffords 5 (λ a b c d e. let k = from_five a b c d e in
    clifford_of (4 * class_key k + sign_key k))
    from_five tt)

class-number : (a : ℕ) → a < 6 → class_number (class_of a) ≡ a
class-number zero l = refl
class-number (suc zero) l = refl
class-number (suc (suc zero)) l = refl
class-number (suc (suc (suc zero))) l = refl
class-number (suc (suc (suc (suc zero)))) l = refl
class-number (suc (suc (suc (suc (suc zero))))) l = refl
class-number (suc (suc (suc (suc (suc (suc a)))))) l = absurd (omega (arith, l))

module _ (a b : ℕ) (small : b < 4) where
  pub class-of-code : (clifford_of (4 * a + b)).class ≡ class_of a
  class-of-code = ap class_of (quarter a b small)
    where
      quarter : (a b : ℕ) → b < 4 → (4 * a + b) / 4 ≡ a
      quarter a b l = omega (arith, l)

  pub class_key-of-code : a < 6 → class_key (clifford_of (4 * a + b)) ≡ a
  class_key-of-code l = ap class_number class-of-code ∙ class-number a l

  pub sign_key-of-code : sign_key (clifford_of (4 * a + b)) ≡ b
  sign_key-of-code =
      ap₂ (λ u v. 2 * u + v) (digit-odd ((4 * a + b) / 2)) (digit-odd (4 * a + b)) ∙ halves a b small
    where
      halves : (a b : ℕ) → b < 4 → 2 * ((4 * a + b) / 2 % 2) + (4 * a + b) % 2 ≡ b
      halves a b l = omega (arith, l)

-- ---- the digits of a choice's number
abbrev class_digit : ℕ → ℕ → ℕ → ℕ
class_digit n k = digit_at 6 n (k / 4 ^ n)

abbrev sign_digit : ℕ → ℕ → ℕ → ℕ
sign_digit n k = digit_at 4 n (k % 4 ^ n)

module _ (n k q : ℕ) (l : q < n) where
  choice-code : choice n k q ≡ 4 * class_digit n k q + sign_digit n k q
  unfolding choice
  choice-code = ap (λ b. cond b (4 * class_digit n k q + sign_digit n k q) 0) (lt-ltb q n l)

  choice-class : class_key (choice_at n k q) ≡ class_digit n k q
  choice-class =
      ap (λ c. class_key (clifford_of c)) choice-code
      ∙ class_key-of-code (class_digit n k q) (sign_digit n k q) (mod-lt _ (lit< tt)) (mod-lt _ (lit< tt))

  choice-sign : sign_key (choice_at n k q) ≡ sign_digit n k q
  choice-sign =
      ap (λ c. sign_key (clifford_of c)) choice-code
      ∙ sign_key-of-code (class_digit n k q) (sign_digit n k q) (mod-lt _ (lit< tt))

pub choice-lt : (n k q : ℕ) → choice n k q < 24
unfolding choice
choice-lt n k q = go (ltb q n)
  where
    small : (a b : ℕ) → a < 6 → b < 4 → 4 * a + b < 24
    small a b h l = omega (arith, h, l)

    go : (b : Bool) → cond b (4 * class_digit n k q + sign_digit n k q) 0 < 24
    go true = small (class_digit n k q) (sign_digit n k q) (mod-lt _ (lit< tt)) (mod-lt _ (lit< tt))
    go false = lit< tt

pub class-injective : (c d : Class) → class_number c ≡ class_number d → c ≡ d
class-injective c d e = sym (class_of-number c) ∙ ap class_of e ∙ class_of-number d

-- of two numbers the smaller is that of the choice which comes before the other
pub number-order : (n k m : ℕ) → m < 24 ^ n → k < m → Before n (choice_at n k) (choice_at n m)
number-order n k m h l = go (division-splits (4 ^ n) (four-pos n) k m l)
  where
    move : (key : Clifford → ℕ) (digits : ℕ → ℕ → ℕ)
        → ((k q : ℕ) → q < n → key (choice_at n k q) ≡ digits k q) → FirstDiffers n (digits k) (digits m)
        → FirstDiffers n (λ q. key (choice_at n k q)) (λ q. key (choice_at n m q))
    move key digits e d = (
      d.0,
      d.1,
      (λ t j. e k t (lt_trans j d.1) ∙ d.2 t j ∙ sym (e m t (lt_trans j d.1))),
      subst₂ ◌<◌ (sym (e k d.0 d.1)) (sym (e m d.0 d.1)) d.3,
    )

    go : (k / 4 ^ n < m / 4 ^ n) ⊎ ((k / 4 ^ n ≡ m / 4 ^ n) × (k % 4 ^ n < m % 4 ^ n))
        → Before n (choice_at n k) (choice_at n m)
    go (inl a) = inl (move class_key (class_digit n) (choice-class n)
        (numeral-order 6 (lit< tt) n (k / 4 ^ n) (m / 4 ^ n)
        ((div-lt_iff_lt-mul (four-pos n)).1 (subst (λ e. m < e) (pow-mul n) h)) a))
    go (inr b) = inr (
      (λ q j. class-injective _ _ (choice-class n k q j ∙ ap (λ e. digit_at 6 n e q) b.0
          ∙ sym (choice-class n m q j))),
      move sign_key (sign_digit n) (choice-sign n)
          (numeral-order 4 (lit< tt) n (k % 4 ^ n) (m % 4 ^ n) (mod-lt m (four-pos n)) b.1),
    )

-- every choice has a number
pub numbered : (n : ℕ) (d : ℕ → Clifford) → (k : ℕ) × (k < 24 ^ n) × Agree n (choice_at n k) d
numbered n d = (
  number,
  subst (λ e. number < e) (sym (pow-mul n))
      (digits_lt (numeral-lt 6 (lit< tt) cs hc n) (numeral-lt 4 (lit< tt) ss hs n)),
  (λ q l. ap clifford_of (choice-code n number q l ∙ ap₂ (λ a b. 4 * a + b)
      (ap (λ e. digit_at 6 n e q) (digits_div (numeral 6 n cs) (numeral-lt 4 (lit< tt) ss hs n))
      ∙ numeral-digit 6 (lit< tt) cs hc n q l)
      (ap (λ e. digit_at 4 n e q) (digits_mod (numeral 6 n cs) (numeral-lt 4 (lit< tt) ss hs n))
      ∙ numeral-digit 4 (lit< tt) ss hs n q l)) ∙ code-of-keys (d q)),
)
  where
    cs : ℕ → ℕ
    cs q = class_key (d q)

    ss : ℕ → ℕ
    ss q = sign_key (d q)

    hc : (q : ℕ) → cs q < 6
    hc q = class_key-lt (d q)

    hs : (q : ℕ) → ss q < 4
    hs q = sign_key-lt (d q)

    number : ℕ
    number = numeral 6 n cs * 4 ^ n + numeral 4 n ss
