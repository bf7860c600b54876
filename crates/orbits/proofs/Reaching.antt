-- The numbers that complementations reach: after as many rounds as there are graphs nothing more is reached.
use mathlib.Core.Bool.{◌&&◌, Bool, false, not, or-true, true, true≢false, ◌||◌}
use mathlib.Core.Logic.{inl, inr, ◌⊎◌}
use mathlib.Core.Path.{ap, ap₂, refl, subst, sym, ◌∙◌, ◌≡◌}
use Prim.Native.Nat.{◌<◌, ◌^◌, ◌≤◌, suc, zero, ℕ}
use native.Mathlib.Nat.{not-le_of_lt}
use native.Mathlib.Omega.{arith}
use lib.Pow.{pow-lt}
use borrow.Author.Tests.{eqb-true, not-true}
use Rattle.cut.proofs.Counting.{count-except, count-le, count-upto, except}
use Rattle.cut.specs.Kernel.{count}
use Rattle.words.proofs.BitLaws.{bit-ext, bit-single, bit-word_of, word_of-lt}
use Rattle.words.proofs.Flags.{both_true, either, same-by-both}
use Rattle.words.proofs.Places.{other_place, same_place}
use Rattle.words.proofs.SearchLaws.{some-false, some_in, some-true}
use Rattle.words.specs.Bits.{bit}
use Rattle.words.specs.Search.{first, some}
use Rattle.orbits.proofs.Complements.{complement-lt, number-twice}
use Rattle.orbits.specs.Numbers.{complement_number, graph_count}
use Rattle.orbits.specs.Orbits.{reached_within, spread_once}

-- no complementation leads from a number of which P holds to one of which it does not
abbrev pub Closed : ℕ → (ℕ → Type 0) → Type 0
Closed n P = (h a : ℕ) → h < graph_count n → a < n → P h → P (complement_number n h a)

-- ---- one round
spread-bit : (n s h : ℕ) → h < graph_count n
    → bit (spread_once n s) h ≡ (bit s h || some n (λ a. bit s (complement_number n h a)))
unfolding spread_once
spread-bit n s h l = bit-word_of (graph_count n) (λ h. bit s h || some n (λ a. bit s (complement_number n h a))) h l

spread-lt : (n s : ℕ) → spread_once n s < 2 ^ graph_count n
unfolding spread_once
spread-lt n s = word_of-lt (graph_count n) (λ h. bit s h || some n (λ a. bit s (complement_number n h a)))

spread-keeps : (n s h : ℕ) → h < graph_count n → bit s h ≡ true → bit (spread_once n s) h ≡ true
spread-keeps n s h l e = spread-bit n s h l ∙ ap (λ b. b || some n (λ a. bit s (complement_number n h a))) e

-- a round changes nothing, or more numbers are marked
spread-grows : (n s : ℕ) → s < 2 ^ graph_count n
    → (spread_once n s ≡ s) ⊎ (count (graph_count n) (bit s) < count (graph_count n) (bit (spread_once n s)))
spread-grows n s small = go (some (graph_count n) new) refl
  where
    new : ℕ → Bool
    new h = bit (spread_once n s) h && not (bit s h)

    below_next : (a b : ℕ) → a ≤ b → a < suc b
    below_next a b h = omega arith

    not_new : (b c : Bool) → (b && not c) ≡ false → b ≡ true → c ≡ true
    not_new b true e h = refl
    not_new true false e h = absurd (true≢false e)
    not_new false false e h = absurd (true≢false (sym h))

    go : (b : Bool) → some (graph_count n) new ≡ b
        → (spread_once n s ≡ s) ⊎ (count (graph_count n) (bit s) < count (graph_count n) (bit (spread_once n s)))
    go false e = inl (bit-ext (graph_count n) (spread_once n s) s (spread-lt n s) small (λ h l.
        same-by-both _ _ (not_new _ (bit s h) (some-false (graph_count n) new e h l)) (spread-keeps n s h l)))
    go true e =
        let F = some-true (graph_count n) new e in
        let u = first (graph_count n) new in
        let b = both_true (bit (spread_once n s) u) (not (bit s u)) F.passes in
        inr (subst (λ k. count (graph_count n) (bit s) < k)
        (sym (count-except (graph_count n) (bit (spread_once n s)) u F.below b.0))
        (below_next _ _ (count-le (graph_count n) (bit s) (graph_count n) (except (bit (spread_once n s)) u) (record {
          to = λ v l e. v;
          below = λ v l e. l;
          passes = λ v l e. ap₂ (λ x y. x && not y) (spread-keeps n s v l e)
              (other_place (λ d. true≢false (sym (ap (bit s) (sym d) ∙ e) ∙ not-true (bit s u) b.1)));
          apart = λ v w l k e d p. p;
        }))))

-- ---- all rounds
within-lt : (k n g : ℕ) → g < graph_count n → reached_within k n g < 2 ^ graph_count n
unfolding reached_within
within-lt zero n g l = pow-lt l
within-lt (suc k) n g l = spread-lt n (reached_within k n g)

-- each round marks a number more, or the rounds have come to an end
rounds : (k n g : ℕ) → g < graph_count n
    → (k < count (graph_count n) (bit (reached_within k n g)))
    ⊎ (spread_once n (reached_within k n g) ≡ reached_within k n g)
unfolding reached_within
rounds zero n g l = inl (subst (λ c. 0 < c)
    (sym (count-except (graph_count n) (bit (2 ^ g)) g l (bit-single g g ∙ same_place g))) (omega arith))
rounds (suc k) n g l = go (rounds k n g l) (spread-grows n (reached_within k n g) (within-lt k n g l))
  where
    up : (k a b : ℕ) → k < a → a < b → suc k < b
    up k a b l m = omega arith

    go : (k < count (graph_count n) (bit (reached_within k n g)))
        ⊎ (spread_once n (reached_within k n g) ≡ reached_within k n g)
        → (spread_once n (reached_within k n g) ≡ reached_within k n g)
        ⊎ (count (graph_count n) (bit (reached_within k n g))
        < count (graph_count n) (bit (spread_once n (reached_within k n g))))
        → (suc k < count (graph_count n) (bit (spread_once n (reached_within k n g))))
        ⊎ (spread_once n (spread_once n (reached_within k n g)) ≡ spread_once n (reached_within k n g))
    go (inr e) s = inr (ap (spread_once n) e)
    go (inl m) (inl e) = inr (ap (spread_once n) e)
    go (inl m) (inr h) = inl (up k _ _ m h)

-- the numbers reached
abbrev pub reached : ℕ → ℕ → ℕ → Bool
reached n g = bit (reached_within (graph_count n) n g)

module _ (n g : ℕ) (l : g < graph_count n) where
  at-end : spread_once n (reached_within (graph_count n) n g) ≡ reached_within (graph_count n) n g
  at-end = go (rounds (graph_count n) n g l)
    where
      go : (graph_count n < count (graph_count n) (reached n g))
          ⊎ (spread_once n (reached_within (graph_count n) n g) ≡ reached_within (graph_count n) n g)
          → spread_once n (reached_within (graph_count n) n g) ≡ reached_within (graph_count n) n g
      go (inl m) = absurd (not-le_of_lt m (count-upto (graph_count n) (reached n g)))
      go (inr e) = e

  -- what is reached stays reached
  pub reached-start : (k : ℕ) → bit (reached_within k n g) g ≡ true
  unfolding reached_within
  reached-start zero = bit-single g g ∙ same_place g
  reached-start (suc k) = spread-keeps n (reached_within k n g) g l (reached-start k)

  -- "all graphs that complementations reach": none leads out
  pub reached-closed : n ≤ 6 → Closed n (λ h. reached n g h ≡ true)
  reached-closed few h a m p e =
      ap (λ s. bit s (complement_number n h a)) (sym at-end)
      ∙ spread-bit n s (complement_number n h a) (complement-lt n h a)
      ∙ ap (λ b. bit s (complement_number n h a) || b)
      (some_in n (λ b. bit s (complement_number n (complement_number n h a) b)) a p
      (ap (bit s) (number-twice n few h a m) ∙ e))
      ∙ or-true (bit s (complement_number n h a))
    where
      s : ℕ
      s = reached_within (graph_count n) n g

-- what holds of g, and is closed, holds of every number reached
pub reached-all : (n g : ℕ) → n ≤ 6 → (P : ℕ → Type 0) → P g → Closed n P → (k h : ℕ) → h < graph_count n
    → bit (reached_within k n g) h ≡ true → P h
unfolding reached_within
reached-all n g few P start closed zero h l e = subst P (sym (eqb-true h g (sym (bit-single g h) ∙ e))) start
reached-all n g few P start closed (suc k) h l e =
    go (reached-all n g few P start closed k)
    (either (bit (reached_within k n g) h) (some n (λ a. bit (reached_within k n g) (complement_number n h a)))
    (sym (spread-bit n (reached_within k n g) h l) ∙ e))
  where
    go : ((h : ℕ) → h < graph_count n → bit (reached_within k n g) h ≡ true → P h)
        → (bit (reached_within k n g) h ≡ true)
        ⊎ (some n (λ a. bit (reached_within k n g) (complement_number n h a)) ≡ true) → P h
    go ih (inl d) = ih h l d
    go ih (inr d) =
        let test : ℕ → Bool = λ a. bit (reached_within k n g) (complement_number n h a) in
        let F = some-true n test d in
        let a = first n test in
        subst P (number-twice n few h a l)
        (closed (complement_number n h a) a (complement-lt n h a) F.below
        (ih (complement_number n h a) (complement-lt n h a) F.passes))
