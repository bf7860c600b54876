-- The product f 0 · f 1 · .. · f (n - 1), in index order, and its laws. A sum modulo 2, a sum of quarter turns and
-- a product of rows are three cases of it.
use mathlib.Core.Bool.{Bool, false}
use mathlib.Core.Logic.{inl, inr, ◌≢◌, ◌⊎◌}
use mathlib.Core.Path.{ap, ap₂, refl, sym, ◌∙◌, ◌≡◌}
use Prim.Native.Nat.{◌<◌, suc, zero, ℕ, ◌≤◌}
use native.Mathlib.Decide.{dec_lt}
use native.Mathlib.Nat.{eq-or-lt_of_le, le_of_suc-le-suc, lt_irrefl, not-suc-le-zero}
use native.Mathlib.Omega.{arith}
use Rattle.words.proofs.Finite.{⊕-assoc, ⊕-comm, ⊕-zero}
use Rattle.words.specs.Bits.{fold, parity, ◌⊕◌}

pub record Monoid (A : Type 0) (e : A) (◌·◌ : A → A → A) : Type 0 where
  pub assoc : (a b c : A) → ◌·◌ (◌·◌ a b) c ≡ ◌·◌ a (◌·◌ b c)
  pub unit-l : (a : A) → ◌·◌ e a ≡ a
  pub unit-r : (a : A) → ◌·◌ a e ≡ a

-- a number up to n is n, or below it
pub last_or : {i n : ℕ} → i < suc n → (i ≡ n) ⊎ (i < n)
last_or h = eq-or-lt_of_le (le_of_suc-le-suc h)

pub lt-or-ge : (a b : ℕ) → (a < b) ⊎ (b ≤ a)
lt-or-ge a b = go (dec_lt a b)
  where
    go : Dec (a < b) → (a < b) ⊎ (b ≤ a)
    go (yes l) = inl l
    go (no h) = inr (omega arith)

module _ {A : Type 0} (e : A) (◌·◌ : A → A → A) where
  infixl 70 ◌·◌
  pub fold-ext : (n : ℕ) {f g : ℕ → A} → ((j : ℕ) → j < n → f j ≡ g j) → fold e ◌·◌ n f ≡ fold e ◌·◌ n g
  unfolding fold
  fold-ext zero h = refl
  fold-ext (suc n) h = ap₂ ◌·◌ (fold-ext n (λ j l. h j (omega arith))) (h n (omega arith))

  module _ (M : Monoid A e ◌·◌) where
    pub fold-unit : (n : ℕ) {f : ℕ → A} → ((j : ℕ) → j < n → f j ≡ e) → fold e ◌·◌ n f ≡ e
    unfolding fold
    fold-unit zero h = refl
    fold-unit (suc n) h = ap₂ ◌·◌ (fold-unit n (λ j l. h j (omega arith))) (h n (omega arith)) ∙ M.unit-l e

    -- one factor only
    pub fold-one : (n i : ℕ) {f : ℕ → A} → i < n → ((j : ℕ) → j < n → j ≢ i → f j ≡ e) → fold e ◌·◌ n f ≡ f i
    unfolding fold
    fold-one zero i l h = absurd (not-suc-le-zero l)
    fold-one (suc n) i {f} l h = go (λ k. fold-one n i k (λ j k'. h j (omega arith))) (last_or l)
      where
        go : (i < n → fold e ◌·◌ n f ≡ f i) → (i ≡ n) ⊎ (i < n) → fold e ◌·◌ n f · f n ≡ f i
        go ih (inl p) = ap₂ ◌·◌
            (fold-unit n (λ j k. h j (omega arith) (λ q. lt_irrefl n (rw (q ∙ p) at k)))) (ap f (sym p))
            ∙ M.unit-l (f i)
        go ih (inr k) = ap₂ ◌·◌ (ih k) (h n (omega arith) (λ q. lt_irrefl n (rw (sym q) at k)))
            ∙ M.unit-r (f i)

    -- factors that are the unit from n on do not count
    pub fold_more : (n m : ℕ) {f : ℕ → A} → n ≤ m → ((j : ℕ) → n ≤ j → f j ≡ e)
        → fold e ◌·◌ m f ≡ fold e ◌·◌ n f
    unfolding fold
    fold_more n zero {f} l h = let p : 0 ≡ n = omega arith in ap (λ k. fold e ◌·◌ k f) p
    fold_more n (suc m) {f} l h = go (λ k. fold_more n m k h) (eq-or-lt_of_le l)
      where
        go : (n ≤ m → fold e ◌·◌ m f ≡ fold e ◌·◌ n f) → (n ≡ suc m) ⊎ (n < suc m)
            → fold e ◌·◌ m f · f m ≡ fold e ◌·◌ n f
        go ih (inl p) = ap (λ k. fold e ◌·◌ k f) (sym p)
        go ih (inr k) = ap₂ ◌·◌ (ih (le_of_suc-le-suc k)) (h m (le_of_suc-le-suc k))
            ∙ M.unit-r (fold e ◌·◌ n f)

    -- the first factor apart
    pub fold-shift : (n : ℕ) (f : ℕ → A) → fold e ◌·◌ (suc n) f ≡ f zero · fold e ◌·◌ n (λ j. f (suc j))
    unfolding fold
    fold-shift zero f = M.unit-l (f zero) ∙ sym (M.unit-r (f zero))
    fold-shift (suc n) f = ap (λ x. x · f (suc n)) (fold-shift n f) ∙ M.assoc _ _ _

    module _ (comm : (a b : A) → a · b ≡ b · a) where
      four : (a b c d : A) → (a · b) · (c · d) ≡ (a · c) · (b · d)
      four a b c d = M.assoc a b (c · d)
          ∙ ap (λ x. a · x) (sym (M.assoc b c d) ∙ ap (λ x. x · d) (comm b c) ∙ M.assoc c b d)
          ∙ sym (M.assoc a c (b · d))

      pub fold-mul : (n : ℕ) (f g : ℕ → A) → fold e ◌·◌ n (λ j. f j · g j) ≡ fold e ◌·◌ n f · fold e ◌·◌ n g
      unfolding fold
      fold-mul zero f g = sym (M.unit-l e)
      fold-mul (suc n) f g = ap (λ x. x · (f n · g n)) (fold-mul n f g) ∙ four _ _ _ _

      pub fold-swap : (n m : ℕ) (f : ℕ → ℕ → A)
          → fold e ◌·◌ n (λ i. fold e ◌·◌ m (λ j. f i j)) ≡ fold e ◌·◌ m (λ j. fold e ◌·◌ n (λ i. f i j))
      unfolding fold
      fold-swap zero m f = sym (fold-unit m (λ j l. refl))
      fold-swap (suc n) m f = ap (λ x. x · fold e ◌·◌ m (λ j. f n j)) (fold-swap n m f)
          ∙ sym (fold-mul m (λ j. fold e ◌·◌ n (λ i. f i j)) (λ j. f n j))

-- a homomorphism passes through
module _ {A B : Type 0} (e : A) (◌·◌ : A → A → A) (e' : B) (◌∘◌ : B → B → B) (h : A → B) where
  pub fold-hom : h e ≡ e' → ((a b : A) → h (◌·◌ a b) ≡ ◌∘◌ (h a) (h b)) → (n : ℕ) (f : ℕ → A)
      → h (fold e ◌·◌ n f) ≡ fold e' ◌∘◌ n (λ j. h (f j))
  unfolding fold
  fold-hom he hm zero f = he
  fold-hom he hm (suc n) f = hm _ _ ∙ ap (λ x. ◌∘◌ x (h (f n))) (fold-hom he hm n f)

pub bit_monoid : Monoid Bool false ◌⊕◌
bit_monoid = record { assoc = ⊕-assoc; unit-l = λ a. refl; unit-r = ⊕-zero }

pub parity-add : (n : ℕ) (f g : ℕ → Bool) → parity n (λ q. f q ⊕ g q) ≡ parity n f ⊕ parity n g
parity-add = fold-mul false ◌⊕◌ bit_monoid ⊕-comm
