-- Paths of edges reach the whole part: a set of reached vertices that some edge leaves is made larger by one vertex.
use mathlib.Core.Bool.{◌&&◌, Bool, false, not, true, true≢false, ◌||◌}
use mathlib.Core.Logic.{inl, inr, ◌⊎◌}
use mathlib.Core.Path.{ap, refl, subst, sym, ◌∙◌, ◌≡◌}
use Prim.Native.Nat.{◌<◌, ◌≤◌, suc, zero, ℕ}
use native.Mathlib.Nat.{le_refl}
use native.Mathlib.Omega.{arith}
use lib.Dec.{eqb}
use borrow.Author.Tests.{eq-eqb, eqb-true, not-false, not-true}
use Rattle.cut.proofs.Counting.{count-except, count-ext, except}
use Rattle.cut.specs.Kernel.{count}
use Rattle.record.specs.Graph.{Graph}
use Rattle.comparison.proofs.PartLaws.{closed_is, part-within, path-in-part}
use Rattle.comparison.specs.internal.Parts.{Closed}
use Rattle.comparison.specs.Parts.{Path, along, is_closed, here}
use Rattle.words.proofs.Finite.{bits}
use Rattle.words.proofs.Flags.{both_true, either, neither}
use Rattle.words.proofs.SearchLaws.{every_in, first-is}
use Rattle.words.specs.Bits.{Word}
use Rattle.words.specs.Search.{IsFirst, every, first}
use Rattle.claims.specs.PartsDemand.{PartsAreReached}

-- a number that does not pass
every-false : (b : ℕ) (f : ℕ → Bool) → every b f ≡ false → (i : ℕ) × (i < b) × (f i ≡ false)
every-false b f e = go (first-is b (λ i. not (f i)))
  where
    go : IsFirst b (λ i. not (f i)) (first b (λ i. not (f i))) ⊎ ((i : ℕ) → i < b → not (f i) ≡ false)
        → (i : ℕ) × (i < b) × (f i ≡ false)
    go (inl F) = (first b (λ i. not (f i)), F.below, not-true (f (first b (λ i. not (f i)))) F.passes)
    go (inr h) = absurd (true≢false (sym (every_in b f (λ i l. not-false (f i) (h i l))) ∙ e))

-- an edge that leaves a set
leaving : (n : ℕ) (θ : Graph) (s : Word) → is_closed n θ s ≡ false
    → (i : ℕ) × (j : ℕ) × (i < n) × (j < n) × (s i ≡ true) × (θ i j ≡ true) × (s j ≡ false)
unfolding is_closed
leaving n θ s e =
    let a = every-false n (λ i. every n (λ j. not (s i && θ i j) || s j)) e in
    let i = a.0 in
    let b = every-false n (λ j. not (s i && θ i j) || s j) a.2 in
    let j = b.0 in
    let h = neither (not (s i && θ i j)) (s j) b.2 in
    let g = both_true (s i) (θ i j) (not-false (s i && θ i j) h.0) in
    (i, j, a.1, b.1, g.0, g.1, h.1)

module _ (n : ℕ) (θ : Graph) (q : ℕ) (l : q < n) where
  record ReachedSet (s : Word) : Type 0 where
    has : s q ≡ true
    paths : (v : ℕ) → s v ≡ true → Path n θ q v

  -- one vertex more
  module _ (s : Word) (R : ReachedSet s) (e : is_closed n θ s ≡ false) where
    found : (i : ℕ) × (j : ℕ) × (i < n) × (j < n) × (s i ≡ true) × (θ i j ≡ true) × (s j ≡ false)
    found = leaving n θ s e

    abbrev larger : Word
    larger v = s v || eqb v found.1

    larger-reached : ReachedSet larger
    larger-reached =
        record {
          has = ap (λ b. b || eqb q found.1) R.has;
          paths = λ v a. go v (either (s v) (eqb v found.1) a);
        }
      where
        go : (v : ℕ) → (s v ≡ true) ⊎ (eqb v found.1 ≡ true) → Path n θ q v
        go v (inl a) = R.paths v a
        go v (inr a) = subst (Path n θ q) (sym (eqb-true v found.1 a))
            (along found.0 found.1 found.2 found.3 (R.paths found.0 found.4) found.5)

    one_less : count n (λ v. not (s v)) ≡ suc (count n (λ v. not (larger v)))
    one_less = count-except n (λ v. not (s v)) found.1 found.3 (ap not found.6)
        ∙ ap suc (count-ext n (except (λ v. not (s v)) found.1) (λ v. not (larger v))
        (λ v k. dual (s v) (eqb v found.1)))
      where
        dual : (a b : Bool) → (not a && not b) ≡ not (a || b)
        dual = bits 2 (λ a b. not a && not b) (λ a b. not (a || b)) tt

  grown : (m : ℕ) (s : Word) → count n (λ v. not (s v)) ≤ m → ReachedSet s
      → (t : Word) × Closed n θ t × ReachedSet t
  grown zero s few R = go (is_closed n θ s) refl
    where
      go : (b : Bool) → is_closed n θ s ≡ b → (t : Word) × Closed n θ t × ReachedSet t
      go true e = (s, (closed_is n θ s).0 e, R)
      go false e = absurd (omega (arith, few, one_less s R e))
  grown (suc m) s few R = go (is_closed n θ s) refl (grown m)
    where
      go : (b : Bool) → is_closed n θ s ≡ b
          → ((t : Word) → count n (λ v. not (t v)) ≤ m → ReachedSet t → (t : Word) × Closed n θ t × ReachedSet t)
          → (t : Word) × Closed n θ t × ReachedSet t
      go true e more = (s, (closed_is n θ s).0 e, R)
      go false e more = more (larger s R e) (omega (arith, few, one_less s R e)) (larger-reached s R e)

pub parts-are-reached : PartsAreReached
parts-are-reached n θ q t k l = (
  (λ e. let w = grown n θ q k (count n (λ v. not (eqb v q))) (λ v. eqb v q) (le_refl _) (record {
    has = eq-eqb q q refl;
    paths = λ v a. subst (Path n θ q) (sym (eqb-true v q a)) here;
  }) in
      w.2.paths t (part-within n θ w.0 w.1 q t k l w.2.has e)),
  path-in-part n θ q t,
)
