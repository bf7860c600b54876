-- A list falls apart at the first place of a byte in one way; a number's digits hold no such byte.
use mathlib.Core.Path.{◌≡◌, refl, sym, ap, ap₂, ◌∙◌}
use mathlib.Core.Bool.{Bool, true, not, ◌&&◌, and-eq-true_iff, false≢true}
use mathlib.Core.List.{List, [], ◌∷◌, ◌++◌}
use Prim.Native.Nat.{ℕ, zero, suc, ◌+◌, ◌/◌, ◌%◌, ◌<◌}
use native.Mathlib.Omega.{arith}
use lib.Dec.{eqb, ltb}
use lib.ListN.{length, get_or, drop}
use borrow.Author.Tests.{eq-eqb, ne_eqb}
use Rattle.words.proofs.Flags.{by-test}
use Rattle.text.specs.Text.{digits}

-- the byte x is not in the list
abbrev pub without : ℕ → List ℕ → Bool
without x [] = true
without x (b ∷ bs) = not (eqb b x) && without x bs

without-append : (x : ℕ) (s t : List ℕ) → without x s ≡ true → without x t ≡ true → without x (s ++ t) ≡ true
without-append x [] t p q = q
without-append x (b ∷ s) t p q =
    let both = (and-eq-true_iff (not (eqb b x)) (without x s)).0 p in
    (and-eq-true_iff (not (eqb b x)) (without x (s ++ t))).1 (both.0, without-append x s t both.1 q)

not-head : (x b : ℕ) (bs : List ℕ) → without x (b ∷ bs) ≡ true → (b ≡ x → ⊥)
not-head x b bs p e =
    let off = ((and-eq-true_iff (not (eqb b x)) (without x bs)).0 p).0 in
    false≢true (sym (ap not (eq-eqb b x e)) ∙ off)

not-tail : (x b : ℕ) (bs : List ℕ) → without x (b ∷ bs) ≡ true → without x bs ≡ true
not-tail x b bs p = ((and-eq-true_iff (not (eqb b x)) (without x bs)).0 p).1

pub without_at : (x : ℕ) (l : List ℕ) (k : ℕ) → without x l ≡ true → k < length l → (get_or l k 0 ≡ x → ⊥)
without_at x [] k p inside = absurd (omega arith)
without_at x (b ∷ l) zero p inside = not-head x b l p
without_at x (b ∷ l) (suc k) p inside = without_at x l k (not-tail x b l p) (omega arith)

-- the first x parts a list in one way
pub parts_at : (x : ℕ) (a b c d : List ℕ) → without x a ≡ true → without x c ≡ true
    → a ++ x ∷ b ≡ c ++ x ∷ d → (a ≡ c) × (b ≡ d)
parts_at x [] b [] d p q e = (refl, ap (drop 1) e)
parts_at x [] b (y ∷ c) d p q e = absurd (not-head x y c q (sym (ap (λ l. get_or l 0 0) e)))
parts_at x (y ∷ a) b [] d p q e = absurd (not-head x y a p (ap (λ l. get_or l 0 0) e))
parts_at x (y ∷ a) b (z ∷ c) d p q e =
    let rest = parts_at x a b c d (not-tail x y a p) (not-tail x z c q) (ap (drop 1) e) in
    (ap₂ (λ h l. h ∷ l) (ap (λ l. get_or l 0 0) e) rest.0, rest.1)

one-digit : (x d : ℕ) → x < 48 → without x ((48 + d) ∷ []) ≡ true
one-digit x d small = ap (λ t. not t && true) (ne_eqb (48 + d) x (λ e. omega arith))

-- a number's digits
pub digits-without : (x : ℕ) → x < 48 → (k v : ℕ) → without x (digits k v) ≡ true
unfolding digits
digits-without x small zero v = refl
digits-without x small (suc k) v =
    by-test (λ l. without x l ≡ true) (ltb v 10) ((48 + v) ∷ []) (digits k (v / 10) ++ (48 + v % 10) ∷ [])
    (λ _. one-digit x v small)
    (λ _. without-append x (digits k (v / 10)) ((48 + v % 10) ∷ []) (digits-without x small k (v / 10))
    (one-digit x (v % 10) small))
