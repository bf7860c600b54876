-- Searches over the numbers below a bound.
use mathlib.Core.Bool.{◌&&◌, Bool, cond, false, or-true, true, true≢false, ◌||◌}
use mathlib.Core.Logic.{inl, inr, ◌⊎◌}
use mathlib.Core.Path.{ap, ap₂, refl, subst, sym, ◌∙◌, ◌≡◌}
use Prim.Native.Nat.{◌<◌, suc, zero, ℕ, ◌≤◌}
use native.Mathlib.Nat.{eq-or-lt_of_le, lt_trans, not-suc-le-zero}
use native.Mathlib.Omega.{arith}
use Rattle.words.proofs.Flags.{both_true}
use Rattle.words.proofs.Sums.{last_or, lt-or-ge}
use Rattle.words.specs.Search.{IsFirst, every, first, some}

pub some_in : (b : ℕ) (f : ℕ → Bool) (i : ℕ) → i < b → f i ≡ true → some b f ≡ true
unfolding some
some_in zero f i l e = absurd (not-suc-le-zero l)
some_in (suc b) f i l e = go (λ k. some_in b f i k e) (last_or l)
  where
    go : (i < b → some b f ≡ true) → (i ≡ b) ⊎ (i < b) → (some b f || f b) ≡ true
    go ih (inl p) = ap (λ v. some b f || v) (ap f (sym p) ∙ e) ∙ or-true (some b f)
    go ih (inr k) = ap (λ v. v || f b) (ih k)

pub every-at : (b : ℕ) (f : ℕ → Bool) → every b f ≡ true → (i : ℕ) → i < b → f i ≡ true
unfolding every
every-at zero f h i l = absurd (not-suc-le-zero l)
every-at (suc b) f h i l = go (every-at b f (both_true (every b f) (f b) h).0 i) (last_or l)
  where
    go : (i < b → f i ≡ true) → (i ≡ b) ⊎ (i < b) → f i ≡ true
    go ih (inl p) = ap f p ∙ (both_true (every b f) (f b) h).1
    go ih (inr k) = ih k

pub every_in : (b : ℕ) (f : ℕ → Bool) → ((i : ℕ) → i < b → f i ≡ true) → every b f ≡ true
unfolding every
every_in zero f h = refl
every_in (suc b) f h = ap₂ ◌&&◌ (every_in b f (λ i l. h i (omega arith))) (h b (omega arith))

pub some-none : (b : ℕ) (f : ℕ → Bool) → ((i : ℕ) → i < b → f i ≡ false) → some b f ≡ false
unfolding some
some-none zero f h = refl
some-none (suc b) f h = ap₂ ◌||◌ (some-none b f (λ i l. h i (omega arith))) (h b (omega arith))

-- a search finds the least, or nothing passes
pub first-is : (b : ℕ) (f : ℕ → Bool) → IsFirst b f (first b f) ⊎ ((i : ℕ) → i < b → f i ≡ false)
unfolding first
first-is zero f = inr (λ i l. absurd (not-suc-le-zero l))
first-is (suc b) f = go (first-is b f)
  where
    keep : {i : ℕ} → IsFirst b f i → IsFirst (suc b) f i
    keep F = record { below = omega (arith, F.below); passes = F.passes; least = F.least }

    last : (v : Bool) → f b ≡ v → ((i : ℕ) → i < b → f i ≡ false) → IsFirst (suc b) f (cond v b (suc b))
        ⊎ ((i : ℕ) → i < suc b → f i ≡ false)
    last true e none = inl (record { below = omega arith; passes = e; least = none })
    last false e none = inr (λ i l. elim (last_or l) [ inl p ↦ ap f p ∙ e | inr k ↦ none i k ])

    go : IsFirst b f (first b f) ⊎ ((i : ℕ) → i < b → f i ≡ false) → IsFirst (suc b) f (first (suc b) f)
        ⊎ ((i : ℕ) → i < suc b → f i ≡ false)
    go (inl F) = inl (subst (IsFirst (suc b) f)
        (ap (λ v. cond v (first b f) (cond (f b) b (suc b))) (sym (some_in b f _ F.below F.passes)))
        (keep F))
    go (inr none) = subst (λ v. IsFirst (suc b) f (cond v (first b f) (cond (f b) b (suc b)))
        ⊎ ((i : ℕ) → i < suc b → f i ≡ false)) (sym (some-none b f none)) (last (f b) refl none)

-- what is least is found
pub first-unique : (b : ℕ) (f : ℕ → Bool) (i : ℕ) → IsFirst b f i → first b f ≡ i
first-unique b f i F = go (first-is b f)
  where
    go : IsFirst b f (first b f) ⊎ ((i : ℕ) → i < b → f i ≡ false) → first b f ≡ i
    go (inr none) = absurd (true≢false (sym F.passes ∙ none i F.below))
    go (inl G) = cmp (lt-or-ge (first b f) i) (lt-or-ge i (first b f))
      where
        cmp : (first b f < i) ⊎ (i ≤ first b f) → (i < first b f) ⊎ (first b f ≤ i) → first b f ≡ i
        cmp (inl l) c = absurd (true≢false (sym G.passes ∙ F.least (first b f) l))
        cmp (inr l) (inl k) = absurd (true≢false (sym F.passes ∙ G.least i k))
        cmp (inr l) (inr k) = omega arith

-- where nothing passes, the search answers the bound
pub first-none : (b : ℕ) (f : ℕ → Bool) → ((i : ℕ) → i < b → f i ≡ false) → first b f ≡ b
unfolding first
first-none zero f none = refl
first-none (suc b) f none =
    ap₂ (λ u v. cond u (first b f) (cond v b (suc b))) (some-none b f (λ i l. none i (omega arith)))
    (none b (omega arith))

-- where some does not pass, none does
pub some-false : (b : ℕ) (f : ℕ → Bool) → some b f ≡ false → (i : ℕ) → i < b → f i ≡ false
some-false b f e i l = go (f i) refl
  where
    go : (v : Bool) → f i ≡ v → v ≡ false
    go true h = absurd (true≢false (sym (some_in b f i l h) ∙ e))
    go false h = refl

-- where some passes, the first does
pub some-true : (b : ℕ) (f : ℕ → Bool) → some b f ≡ true → IsFirst b f (first b f)
some-true b f e = go (first-is b f)
  where
    go : IsFirst b f (first b f) ⊎ ((i : ℕ) → i < b → f i ≡ false) → IsFirst b f (first b f)
    go (inl F) = F
    go (inr none) = absurd (true≢false (sym e ∙ some-none b f none))

-- searches agree where the tests do
pub some-ext : (b : ℕ) (f g : ℕ → Bool) → ((i : ℕ) → i < b → f i ≡ g i) → some b f ≡ some b g
unfolding some
some-ext zero f g h = refl
some-ext (suc b) f g h = ap₂ ◌||◌ (some-ext b f g (λ i l. h i (omega arith))) (h b (omega arith))

-- of a symmetric test that no number passes with itself, the pairs j < i are enough
pub some_pairs : (n : ℕ) (f : ℕ → ℕ → Bool) → ((i j : ℕ) → f i j ≡ f j i) → ((i : ℕ) → f i i ≡ false) →
    some n (λ i. some n (f i)) ≡ some n (λ i. some i (f i))
some_pairs n f symmetric self = go (some n (λ i. some i (f i))) refl
  where
    none : some n (λ i. some i (f i)) ≡ false → (i j : ℕ) → i < n → j < n → f i j ≡ false
    none e i j k l = elim (lt-or-ge j i) [
      | inl h ↦ some-false i (f i) (some-false n (λ i. some i (f i)) e i k) j h
      | inr h ↦ elim (eq-or-lt_of_le h) [
        | inl p ↦ ap (f i) (sym p) ∙ self i
        | inr m ↦ symmetric i j ∙ some-false j (f j) (some-false n (λ i. some i (f i)) e j l) i m
      ]
    ]

    go : (v : Bool) → some n (λ i. some i (f i)) ≡ v → some n (λ i. some n (f i)) ≡ v
    go true e =
        let F = some-true n (λ i. some i (f i)) e in
        let G = some-true (first n (λ i. some i (f i))) (f (first n (λ i. some i (f i)))) F.passes in
        some_in n (λ i. some n (f i)) _ F.below
        (some_in n (f (first n (λ i. some i (f i)))) _ (lt_trans G.below F.below) G.passes)
    go false e = some-none n (λ i. some n (f i)) (λ i k. some-none n (f i) (λ j l. none e i j k l))
