-- The vertices of a set listed in rising order, and words in their numbers.
use mathlib.Core.Bool.{◌&&◌, Bool, false, not, true, true≢false}
use mathlib.Core.List.{List}
use mathlib.Core.Logic.{inl, inr, ◌⊎◌}
use mathlib.Core.Path.{ap, ap₂, refl, subst, subst₂, sym, ◌∙◌, ◌≡◌}
use Prim.Native.Nat.{◌+◌, ◌<◌, ◌≤◌, ◌^◌, suc, zero-le, ℕ}
use native.Mathlib.Decide.{dec_lt, ℕ_discrete}
use native.Mathlib.Nat.{lt_irrefl, not-suc-le-zero}
use native.Mathlib.Omega.{arith}
use lib.Bits.{bit_xor}
use lib.Count.{count_trailing_zeros}
use lib.Dec.{eqb, ltb}
use lib.ListN.{get_or, length, length-set, set, take}
use lib.Seq.{get_or-set_other, get_or-set_same, get_or-take}
use Rattle.buffers.proofs.Parts.{part-long}
use borrow.Author.Tests.{le-ltb, lt-ltb}
use Rattle.cut.proofs.Counting.{count-except, count-ext, count-upto, except}
use Rattle.cut.specs.Kernel.{count}
use Rattle.comparison.specs.internal.Numbered.{Numbers}
use Rattle.words.proofs.BitLaws.{bit-above, bit-ext, bit-flip, bit-word_of, lt-of-bits, word_of-lt, zero_bit}
use Rattle.words.proofs.Places.{other_place, same_place, upto-other}
use Rattle.words.proofs.Trailing.{trailing-set}
use Rattle.words.specs.Bits.{Word, bit, ◌⊕◌}
use Rattle.words.specs.Search.{IsFirst}
use Rattle.comparison_parts.specs.internal.Listed.{renumbered}

-- ---- the loop that lists: k vertices are listed, the others are in `rest`
pub record Listing (component : ℕ) (at : List ℕ) (k rest : ℕ) : Type 0 where
  pub long : length at ≡ 64
  pub small : rest < 2 ^ 64
  pub few : k + count 64 (bit rest) ≤ 64
  pub left : (q : ℕ) → bit rest q ≡ true → bit component q ≡ true
  pub rising : (i j : ℕ) → i < j → j < k → get_or at i 0 < get_or at j 0
  pub before : (i q : ℕ) → i < k → bit rest q ≡ true → get_or at i 0 < q
  pub below : (i : ℕ) → i < k → get_or at i 0 < 64
  pub inside : (i : ℕ) → i < k → bit component (get_or at i 0) ≡ true
  pub onto : (q : ℕ) → bit component q ≡ true → (bit rest q ≡ true) ⊎ ((i : ℕ) × (i < k) × (get_or at i 0 ≡ q))

pub listing_start : (component : ℕ) (at : List ℕ) → length at ≡ 64 → component < 2 ^ 64
    → Listing component at 0 component
listing_start component at l b =
    record {
      long = l;
      small = b;
      few = omega (arith, count-upto 64 (bit component));
      left = λ q a. a;
      rising = λ i j m k. absurd (not-suc-le-zero k);
      before = λ i q m a. absurd (not-suc-le-zero m);
      below = λ i m. absurd (not-suc-le-zero m);
      inside = λ i m. absurd (not-suc-le-zero m);
      onto = λ q a. inl a;
    }

module _ (component : ℕ) (at : List ℕ) (k rest : ℕ) (L : Listing component at k rest) where
  module _ (some_left : rest ≡ 0 → ⊥) (q : ℕ) (e : q ≡ count_trailing_zeros 64 rest) where
    F : IsFirst 64 (bit rest) q
    F = subst (IsFirst 64 (bit rest)) (sym e) (trailing-set 64 rest L.small some_left)

    taken : (t : ℕ) → bit (bit_xor rest (2 ^ q)) t ≡ except (bit rest) q t
    taken t = bit-flip rest q t ∙ go (ℕ_discrete t q)
      where
        one : (b : Bool) → b ≡ true → (b ⊕ true) ≡ (b && not true)
        one true h = refl
        one false h = absurd (true≢false (sym h))

        none : (b : Bool) → (b ⊕ false) ≡ (b && not false)
        none true = refl
        none false = refl

        go : Dec (t ≡ q) → (bit rest t ⊕ eqb t q) ≡ except (bit rest) q t
        go (yes h) = subst (λ v. (bit rest t ⊕ v) ≡ (bit rest t && not v)) (sym (ap (λ u. eqb u q) h ∙ same_place q))
            (one (bit rest t) (ap (bit rest) h ∙ F.passes))
        go (no d) = subst (λ v. (bit rest t ⊕ v) ≡ (bit rest t && not v)) (sym (other_place d)) (none (bit rest t))

    one_less : count 64 (bit rest) ≡ suc (count 64 (bit (bit_xor rest (2 ^ q))))
    one_less = count-except 64 (bit rest) q F.below F.passes
        ∙ ap suc (sym (count-ext 64 (bit (bit_xor rest (2 ^ q))) (except (bit rest) q) (λ t l. taken t)))

    pub room : k < 64
    room = omega (arith, L.few, one_less)

    pub place-below : q < 64
    place-below = F.below

    pub place-taken : bit rest q ≡ true
    place-taken = F.passes

    -- what is left is larger
    left_after : (t : ℕ) → bit (bit_xor rest (2 ^ q)) t ≡ true → (bit rest t ≡ true) × (q < t)
    left_after t a = go (dec_lt t q) (ℕ_discrete t q) (bit rest t) refl (sym (taken t) ∙ a)
      where
        after : (t < q → ⊥) → (t ≡ q → ⊥) → q < t
        after x y = omega (arith, x, y)

        go : Dec (t < q) → Dec (t ≡ q) → (b : Bool) → bit rest t ≡ b → (b && not (eqb t q)) ≡ true
            → (bit rest t ≡ true) × (q < t)
        go (yes l) d true h f = absurd (true≢false (sym h ∙ F.least t l))
        go (no l) (no d) true h f = (h, after l d)
        go (no l) (yes d) true h f =
            absurd (true≢false (sym f ∙ ap (λ v. not (eqb v q)) d ∙ ap not (same_place q)))
        go l d false h f = absurd (true≢false (sym f))

    kept : (i : ℕ) → i < k → get_or (set at k q) i 0 ≡ get_or at i 0
    kept i l = get_or-set_other at k i q 0 (λ p. lt_irrefl k (subst (λ w. w < k) p l))

    here : get_or (set at k q) k 0 ≡ q
    here = get_or-set_same at k q 0 (subst (λ m. k < m) (sym L.long) room)

    last : {i : ℕ} → i < k + 1 → (i < k) ⊎ (i ≡ k)
    last {i} l = go (dec_lt i k)
      where
        end : (i < k → ⊥) → i ≡ k
        end h = omega (arith, h, l)

        go : Dec (i < k) → (i < k) ⊎ (i ≡ k)
        go (yes m) = inl m
        go (no h) = inr (end h)

    -- a property of the listed vertices
    every-listed : (P : ℕ → Type 0) → ((i : ℕ) → i < k → P (get_or at i 0)) → P q
        → (i : ℕ) → i < k + 1 → P (get_or (set at k q) i 0)
    every-listed P h x i l = go (last l)
      where
        go : (i < k) ⊎ (i ≡ k) → P (get_or (set at k q) i 0)
        go (inl m) = subst P (sym (kept i m)) (h i m)
        go (inr m) = subst (λ v. P (get_or (set at k q) v 0)) (sym m) (subst P (sym here) x)

    pub listing_step : Listing component (set at k q) (k + 1) (bit_xor rest (2 ^ q))
    listing_step =
        record {
          long = length-set at k q ∙ L.long;
          small = lt-of-bits 64 (bit_xor rest (2 ^ q)) (λ t m. taken t
              ∙ ap (λ b. b && not (eqb t q)) (bit-above 64 rest L.small t m));
          few = omega (arith, L.few, one_less);
          left = λ t a. L.left t (left_after t a).0;
          rising = λ i j m l. rise i j m (last l);
          before = λ i t m a. every-listed (λ v. v < t) (λ j n. L.before j t n (left_after t a).0)
              (left_after t a).1 i m;
          below = every-listed (λ v. v < 64) L.below F.below;
          inside = every-listed (λ v. bit component v ≡ true) L.inside (L.left q F.passes);
          onto = λ t a. reach t (L.onto t a) (ℕ_discrete t q);
        }
      where
        rise : (i j : ℕ) → i < j → (j < k) ⊎ (j ≡ k) → get_or (set at k q) i 0 < get_or (set at k q) j 0
        rise i j m (inl n) =
            subst (λ v. v < get_or (set at k q) j 0) (sym (kept i (less m n)))
            (subst (λ v. get_or at i 0 < v) (sym (kept j n)) (L.rising i j m n))
          where
            less : {a b c : ℕ} → a < b → b < c → a < c
            less x y = omega (arith, x, y)
        rise i j m (inr n) =
            subst (λ v. get_or (set at k q) i 0 < get_or (set at k q) v 0) (sym n)
            (subst (λ v. get_or (set at k q) i 0 < v) (sym here)
            (subst (λ v. v < q) (sym (kept i (subst (λ v. i < v) n m)))
            (L.before i q (subst (λ v. i < v) n m) F.passes)))

        more : {i : ℕ} → i < k → i < k + 1
        more l = omega (arith, l)

        end : k < k + 1
        end = omega arith

        reach : (t : ℕ) → (bit rest t ≡ true) ⊎ ((i : ℕ) × (i < k) × (get_or at i 0 ≡ t)) → Dec (t ≡ q)
            → (bit (bit_xor rest (2 ^ q)) t ≡ true) ⊎ ((i : ℕ) × (i < k + 1) × (get_or (set at k q) i 0 ≡ t))
        reach t (inr w) d = inr (w.0, more w.1, kept w.0 w.1 ∙ w.2)
        reach t (inl a) (yes d) = inr (k, end, here ∙ sym d)
        reach t (inl a) (no d) = inl (taken t ∙ ap₂ (λ u v. u && not v) a (other_place d))

  pub listing-end : rest ≡ 0 → (k ≤ 64) × Numbers 64 (bit component) k (λ i. get_or at i 0)
  listing-end e = (
    omega (arith, L.few),
    record {
      rising = L.rising;
      below = L.below;
      inside = L.inside;
      onto = λ q l a. go q (L.onto q a);
    },
  )
    where
      go : (q : ℕ) → (bit rest q ≡ true) ⊎ ((i : ℕ) × (i < k) × (get_or at i 0 ≡ q))
          → (i : ℕ) × (i < k) × (get_or at i 0 ≡ q)
      go q (inl a) = absurd (true≢false (sym a ∙ ap (λ w. bit w q) e ∙ zero_bit q))
      go q (inr w) = w

-- ---- the loop that compresses a word
abbrev pub Compressed : List ℕ → ℕ → ℕ → ℕ → Type 0
Compressed at w bits i = (j : ℕ) → bit bits j ≡ (ltb j i && bit w (get_or at j 0))

pub compressed-none : (at : List ℕ) (w : ℕ) → Compressed at w 0 0
compressed-none at w j = zero_bit j ∙ sym (ap (λ b. b && bit w (get_or at j 0)) (le-ltb j 0 zero-le))

pub compressed-more : (at : List ℕ) (w bits i v : ℕ) (b : Bool) → Compressed at w bits i → b ≡ bit w (get_or at i 0)
    → ((j : ℕ) → bit v j ≡ bit bits j ⊕ (eqb j i && b)) → Compressed at w v (i + 1)
compressed-more at w bits i v b C e h j = h j ∙ ap (λ u. u ⊕ (eqb j i && b)) (C j) ∙ go (ℕ_discrete j i)
  where
    up : i < i + 1
    up = omega arith

    same : i ≤ i
    same = omega arith

    plain : (a : Bool) → (a ⊕ false) ≡ a
    plain false = refl
    plain true = refl

    go : Dec (j ≡ i) → ((ltb j i && bit w (get_or at j 0)) ⊕ (eqb j i && b)) ≡ (ltb j (i + 1) && bit w (get_or at j 0))
    go (yes p) =
        ap (λ t. (ltb t i && bit w (get_or at t 0)) ⊕ (eqb t i && b)) p
        ∙ ap₂ (λ x y. (x && bit w (get_or at i 0)) ⊕ (y && b)) (le-ltb i i same) (same_place i)
        ∙ e
        ∙ sym (ap (λ t. ltb t (i + 1) && bit w (get_or at t 0)) p
        ∙ ap (λ x. x && bit w (get_or at i 0)) (lt-ltb i (i + 1) up))
    go (no d) =
        ap (λ y. (ltb j i && bit w (get_or at j 0)) ⊕ (y && b)) (other_place d)
        ∙ plain (ltb j i && bit w (get_or at j 0))
        ∙ ap (λ x. x && bit w (get_or at j 0)) (sym (upto-other j i d))

pub compressed-all : (at : List ℕ) (w k bits i : ℕ) → i ≤ k → k ≤ i → Compressed at w bits i
    → bits ≡ renumbered k at w
compressed-all at w k bits i l m C =
    bit-ext k bits (renumbered k at w) below (word_of-lt k (λ j. bit w (get_or at j 0)))
    (λ j n. C j ∙ ap (λ x. x && bit w (get_or at j 0)) (lt-ltb j i (within j n))
    ∙ sym (bit-word_of k (λ j. bit w (get_or at j 0)) j n))
  where
    within : (j : ℕ) → j < k → j < i
    within j n = omega (arith, n, m)

    past : (j : ℕ) → k ≤ j → i ≤ j
    past j n = omega (arith, n, l)

    below : bits < 2 ^ k
    below = lt-of-bits k bits (λ j n. C j ∙ ap (λ x. x && bit w (get_or at j 0)) (le-ltb j i (past j n)))

-- ---- the listed vertices as a part of their array
pub first-numbers : (s : Word) (k : ℕ) (at : List ℕ) → length at ≡ 64 → k ≤ 64
    → Numbers 64 s k (λ i. get_or at i 0) → Numbers 64 s (length (take k at)) (λ i. get_or (take k at) i 0)
first-numbers s k at long few N =
    subst (λ m. Numbers 64 s m (λ i. get_or (take k at) i 0)) (sym (part-long k at few long))
    (record {
      rising = λ i j l m. subst₂ ◌<◌ (sym (same i (below l m))) (sym (same j m)) (N.rising i j l m);
      below = λ i l. subst (λ v. v < 64) (sym (same i l)) (N.below i l);
      inside = λ i l. ap s (same i l) ∙ N.inside i l;
      onto = λ q l a. let w = N.onto q l a in (w.0, w.1, same w.0 w.1 ∙ w.2);
    })
  where
    same : (i : ℕ) → i < k → get_or (take k at) i 0 ≡ get_or at i 0
    same i l = get_or-take k at i 0 l

    below : {i j : ℕ} → i < j → j < k → i < k
    below l m = omega (arith, l, m)
