-- Loops that test one place after another and keep whether all have passed; a line and a text by their tests.
use mathlib.Core.Bool.{◌&&◌, Bool, false, true}
use mathlib.Core.List.{List, [], ◌∷◌}
use mathlib.Core.Logic.{inl, inr, ◌⊎◌}
use mathlib.Core.Path.{ap, ap₂, refl, subst, sym, ◌∙◌, ◌≡◌}
use Prim.Native.Nat.{◌*◌, ◌+◌, ◌-◌, ◌<◌, suc, zero-le, ℕ, ◌≤◌}
use native.Mathlib.Nat.{add-zero, eq-zero-or-pos, le_antisymm, mul-le-mul_right, one-mul, zero-mul}
use native.Mathlib.Numerals.{add-one}
use native.Mathlib.Omega.{arith}
use lib.Dec.{eqb}
use lib.ListN.{drop, get_or, length, take}
use lib.Seq.{take_all}
use borrow.Author.Tests.{eqb-false, eqb-true, ne_eqb}
use Rattle.text.proofs.FirstLine.{first-letters, first-newline}
use Rattle.text.proofs.StringsFormLaws.{form-lines, form-size, lines-form}
use Rattle.text.specs.Reading.{byte_at, is_letter, is_sign, line_count, line_fits, string_form}
use Rattle.text.specs.Strings.{text_size}
use Rattle.words.proofs.Flags.{never_true, same-by-both}
use Rattle.words.proofs.SearchLaws.{every-at, every_in}
use Rattle.words.proofs.Sums.{lt-or-ge}
use Rattle.words.specs.Search.{every}

-- whether each of the places below i passes
pub record FitBelow (n : ℕ) (f : ℕ → Bool) (fit : Bool) (i : ℕ) : Type 0 where
  pub upto : i ≤ n
  pub fits : fit ≡ every i f

module _ (n : ℕ) (f : ℕ → Bool) where
  pub none-tested : FitBelow n f true 0
  unfolding every
  none-tested = record { upto = zero-le; fits = refl }

  pub one-tested : {fit : Bool} {i : ℕ} → FitBelow n f fit i → i < n → {b : Bool} → b ≡ f i →
      FitBelow n f (fit && b) (i + 1)
  unfolding every
  one-tested {fit} {i} F l {b} e =
      record { upto = omega arith; fits = ap₂ ◌&&◌ F.fits e ∙ ap (λ k. every k f) (sym (add-one i)) }

  pub all_tested : {fit : Bool} {i : ℕ} → FitBelow n f fit i → n ≤ i → fit ≡ every n f
  all_tested F l = F.fits ∙ ap (λ k. every k f) (le_antisymm F.upto l)

-- the three tests of a line of n letters that starts at a place
pub line-tested : (t : List ℕ) (from n : ℕ) {a b : Bool} → a ≡ is_sign (get_or t from 0) →
    b ≡ every n (λ q. is_letter (get_or t (from + suc q) 0)) →
    (a && (b && eqb (get_or t (from + (n + 1)) 0) 10)) ≡ line_fits n (λ c. get_or t (from + c) 0)
unfolding line_fits
line-tested t from n ea eb =
    ap₂ ◌&&◌ (ea ∙ ap (λ k. is_sign (get_or t k 0)) (sym (add-zero from)))
    (ap₂ ◌&&◌ eb (ap (λ k. eqb (get_or t (from + k) 0) 10) (add-one n)))

-- the two tests of a text that has n lines if it has the form
module _ (t : List ℕ) (n : ℕ) (c : string_form t ≡ true → n ≡ line_count t) where
  pub lines-decide : eqb (length t) (text_size n) ≡ true → {r : Bool} →
      r ≡ every n (λ j. line_fits n (byte_at n t j)) → r ≡ string_form t
  lines-decide h e =
      e ∙ same-by-both _ (string_form t)
      (λ fit. lines-form t n (eqb-true (length t) (text_size n) h) (every-at n (λ j. line_fits n (byte_at n t j)) fit))
      (λ form. every_in n (λ j. line_fits n (byte_at n t j))
      (subst (λ m. (j : ℕ) → j < m → line_fits m (byte_at m t j) ≡ true) (sym (c form)) (form-lines t form)))

  pub size-decides : eqb (length t) (text_size n) ≡ false → false ≡ string_form t
  size-decides h =
      sym (never_true (string_form t)
      (λ form. eqb-false (length t) (text_size n) h (form-size t form ∙ ap text_size (sym (c form)))))

-- ---- the first newline behind the first byte
-- none stands before a place
pub record NoneBefore (t : List ℕ) (end : ℕ) : Type 0 where
  pub start : 1 ≤ end
  pub inside : (end ≡ 1) ⊎ (end ≤ length t)
  pub none : (k : ℕ) → 0 < k → k < end → eqb (get_or t k 0) 10 ≡ false

pub none_yet : (t : List ℕ) → NoneBefore t 1
none_yet t = record { start = omega arith; inside = inl refl; none = λ k l h. absurd (omega arith) }

module _ (t : List ℕ) {end : ℕ} (B : NoneBefore t end) where
  module _ (form : string_form t ≡ true) where
    -- the first line's newline does not stand before it
    not_behind : 0 < line_count t → suc (line_count t) < end → ⊥
    not_behind some l =
        eqb-false (get_or t (suc (line_count t)) 0) 10 (B.none (suc (line_count t)) (omega arith) l)
        (first-newline t form some)

    empty : line_count t ≡ 0 → length t ≡ 0
    empty e = form-size t form ∙ ap text_size e ∙ zero-mul (0 + 2)

    pub newline-found : end < length t → get_or t end 0 ≡ 10 → end - 1 ≡ line_count t
    newline-found l e = elim (eq-zero-or-pos (line_count t)) [
      | inl z ↦ absurd (omega (arith, empty z, l))
      | inr some ↦ elim (lt-or-ge (line_count t) end) [
        | inl d ↦ elim (lt-or-ge (suc (line_count t)) end) [
          | inl k ↦ absurd (not_behind some k)
          | inr k ↦ omega (arith, d, k)
        ]
        | inr d ↦ absurd (eqb-false (get_or t end 0) 10 (letter some d) e)
      ]
    ]
      where
        letter : 0 < line_count t → end ≤ line_count t → eqb (get_or t end 0) 10 ≡ false
        letter some d =
            ap (λ k. eqb (get_or t k 0) 10) (omega (arith, B.start))
            ∙ first-letters t form some (end - 1) (omega (arith, B.start, d))

    pub newline-missing : length t ≤ end → end - 1 ≡ line_count t
    newline-missing l = elim (eq-zero-or-pos (line_count t)) [
      | inl z ↦ elim B.inside [
        | inl e ↦ omega (arith, e, z)
        | inr d ↦ absurd (omega (arith, empty z, d, B.start))
      ]
      | inr some ↦ absurd (not_behind some (omega (arith, form-size t form, l, long (line_count t) some)))
    ]
      where
        long : (m : ℕ) → 0 < m → m + 2 ≤ text_size m
        long m some = subst (λ k. k ≤ m * (m + 2)) (one-mul (m + 2)) (mul-le-mul_right (m + 2) some)

-- the bytes behind the first, up to their first newline
pub first-line : (t : List ℕ) → 1 ≤ length t → (r : ℕ) → r ≤ length (take (length t - 1) (drop 1 t)) →
    ((k : ℕ) → k < r → get_or (take (length t - 1) (drop 1 t)) k 0 ≡ 10 → ⊥) →
    (r < length (take (length t - 1) (drop 1 t)) → get_or (take (length t - 1) (drop 1 t)) r 0 ≡ 10) →
    string_form t ≡ true → r ≡ line_count t
first-line [] l r within none found form = absurd (omega arith)
first-line (b ∷ u) l r within none found form = elim (lt-or-ge (r + 1) (length (b ∷ u))) [
  | inl more ↦ here ∙ newline-found (b ∷ u) B form more
      (ap (λ i. get_or (b ∷ u) i 0) (add-one r) ∙ at r ∙ found (omega (arith, long, more)))
  | inr all ↦ here ∙ newline-missing (b ∷ u) B form all
]
  where
    rest : take (length (b ∷ u) - 1) u ≡ u
    rest = take_all (length (b ∷ u) - 1) u (omega arith)

    long : length (take (length (b ∷ u) - 1) u) ≡ length u
    long = ap length rest

    at : (k : ℕ) → get_or u k 0 ≡ get_or (take (length (b ∷ u) - 1) u) k 0
    at k = ap (λ v. get_or v k 0) (sym rest)

    here : r ≡ r + 1 - 1
    here = omega arith

    B : NoneBefore (b ∷ u) (r + 1)
    B =
        record {
          start = omega arith;
          inside = inr (omega (arith, within, long));
          none = λ k some below. let one : k ≡ suc (k - 1) = omega arith in
              ne_eqb (get_or (b ∷ u) k 0) 10 (λ e. none (k - 1) (omega arith)
              (sym (at (k - 1)) ∙ sym (ap (λ i. get_or (b ∷ u) i 0) one) ∙ e));
        }
