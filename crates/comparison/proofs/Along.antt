-- A sum over the vertices below n of which only the numbered ones count is the sum over the numbers.
use mathlib.Core.Logic.{inl, inr, ◌⊎◌}
use mathlib.Core.Path.{ap, ap₂, refl, subst, sym, ◌∙◌, ◌≡◌}
use Prim.Native.Nat.{◌<◌, suc, zero, ℕ}
use native.Mathlib.Decide.{ℕ_discrete}
use native.Mathlib.Nat.{lt_irrefl, not-suc-le-zero}
use native.Mathlib.Omega.{arith}
use Rattle.words.proofs.Sums.{Monoid, fold-unit, last_or}
use Rattle.words.specs.Bits.{fold}

-- the number, or that there is none
pub numbered-or-not : (k : ℕ) (e : ℕ → ℕ) (q : ℕ) →
    ((i : ℕ) × (i < k) × (e i ≡ q)) ⊎ ((i : ℕ) → i < k → e i ≡ q → ⊥)
numbered-or-not zero e q = inr (λ i l. absurd (not-suc-le-zero l))
numbered-or-not (suc k) e q = go (ℕ_discrete (e k) q) (numbered-or-not k e q)
  where
    go : Dec (e k ≡ q) → ((i : ℕ) × (i < k) × (e i ≡ q)) ⊎ ((i : ℕ) → i < k → e i ≡ q → ⊥)
        → ((i : ℕ) × (i < suc k) × (e i ≡ q)) ⊎ ((i : ℕ) → i < suc k → e i ≡ q → ⊥)
    go (yes h) d = inl (k, omega arith, h)
    go (no h) (inl d) = inl (d.0, up d.1, d.2)
      where
        up : {i : ℕ} → i < k → i < suc k
        up l = omega arith
    go (no h) (inr d) = inr (λ i l. both i (last_or l))
      where
        both : (i : ℕ) → (i ≡ k) ⊎ (i < k) → e i ≡ q → ⊥
        both i (inl p) f = h (ap e (sym p) ∙ f)
        both i (inr m) f = d i m f

module _ {A : Type 0} (unit : A) (◌·◌ : A → A → A) (M : Monoid A unit ◌·◌) where
  infixl 70 ◌·◌
  pub fold_along : (n k : ℕ) (e : ℕ → ℕ) → ((i j : ℕ) → i < j → j < k → e i < e j)
      → ((i : ℕ) → i < k → e i < n) → (f : ℕ → A)
      → ((q : ℕ) → q < n → ((i : ℕ) → i < k → e i ≡ q → ⊥) → f q ≡ unit)
      → fold unit ◌·◌ n f ≡ fold unit ◌·◌ k (λ i. f (e i))
  unfolding fold
  fold_along zero zero e rising below f h = refl
  fold_along zero (suc k) e rising below f h = absurd (not-suc-le-zero (below k (omega arith)))
  fold_along (suc n) zero e rising below f h =
      fold-unit unit ◌·◌ M (suc n) (λ q l. h q l (λ i k. absurd (not-suc-le-zero k)))
  fold_along (suc n) (suc k) e rising below f h =
      go (ℕ_discrete (e k) n)
      (λ p. fold_along n k e (λ i j l m. rising i j l (omega arith))
      (λ i l. subst (λ v. e i < v) p (rising i k l (omega arith))) f
      (λ q l none. h q (omega arith) (λ i m r. last q l none i (last_or m) r p)))
      (λ d. fold_along n (suc k) e rising (λ i l. lower d i (last_or l) (below i l)) f
      (λ q l none. h q (omega arith) none))
    where
      last : (q : ℕ) → q < n → ((i : ℕ) → i < k → e i ≡ q → ⊥) → (i : ℕ) → (i ≡ k) ⊎ (i < k) → e i ≡ q
          → e k ≡ n → ⊥
      last q l none i (inl m) r p = lt_irrefl q (subst (λ v. q < v) (sym p ∙ sym (ap e m) ∙ r) l)
      last q l none i (inr m) r p = none i m r

      lower : (e k ≡ n → ⊥) → (i : ℕ) → (i ≡ k) ⊎ (i < k) → e i < suc n → e i < n
      lower d i (inl m) b = under (e i) n b (λ r. d (sym (ap e m) ∙ r))
        where
          under : (a b : ℕ) → a < suc b → (a ≡ b → ⊥) → a < b
          under a b l d = omega (arith, l, d)
      lower d i (inr m) b = omega (arith, rising i k m (omega arith), below k (omega arith))

      go : Dec (e k ≡ n) → (e k ≡ n → fold unit ◌·◌ n f ≡ fold unit ◌·◌ k (λ i. f (e i)))
          → ((e k ≡ n → ⊥) → fold unit ◌·◌ n f ≡ fold unit ◌·◌ (suc k) (λ i. f (e i)))
          → fold unit ◌·◌ n f · f n ≡ fold unit ◌·◌ k (λ i. f (e i)) · f (e k)
      go (yes p) a b = ap₂ ◌·◌ (a p) (ap f (sym p))
      go (no d) a b = ap₂ ◌·◌ (b d) (h n (omega arith) (λ i m r. lt_irrefl n
          (subst (λ v. v < n) r (lower d i (last_or m) (below i m))))) ∙ M.unit-r _
