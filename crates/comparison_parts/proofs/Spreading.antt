-- The search for the part of a vertex: what it has reached lies in the part, and where nothing is new it is the part.
use mathlib.Core.Bool.{◌&&◌, Bool, and-false, false, or-false, or-true, true, true≢false, ◌||◌}
use mathlib.Core.List.{List}
use mathlib.Core.Logic.{inl, inr, ◌⊎◌}
use mathlib.Core.Path.{ap, ap₂, refl, subst, sym, ◌∙◌, ◌≡◌}
use Prim.Native.Nat.{◌+◌, ◌-◌, ◌<◌, ◌≤◌, ◌^◌, ℕ}
use native.Mathlib.Numerals.{add-one}
use native.Mathlib.Omega.{arith}
use lib.Arith.{lt_of_le-ne}
use lib.Bits.{and_le_r, bit_and, bit_or}
use lib.Count.{ones}
use lib.Dec.{eqb, ltb}
use lib.ListN.{get_or, length}
use lib.Pow.{pow-lt}
use borrow.Author.Tests.{eqb-true}
use Rattle.cut.proofs.Counting.{count-ext, ones-count}
use Rattle.cut.specs.Kernel.{count}
use Rattle.record.specs.Graph.{Graph, Simple}
use Rattle.record.specs.NeighbourWords.{graph_in}
use Rattle.stabilizer.proofs.Scanning.{NoneSoFar, none-at, none-at-first}
use Rattle.comparison.proofs.PartLaws.{both, of_part, part-closed, part-has, part-together}
use Rattle.comparison.specs.internal.Parts.{Closed}
use Rattle.comparison.specs.Parts.{part_of}
use Rattle.words.proofs.BitLaws.{bit-above, bit-and, bit-ext∞, bit-or, bit-single, lt-of-bits, zero_bit}
use Rattle.words.proofs.Flags.{both_true, either, same-by-both}
use Rattle.words.proofs.Places.{same_place}
use Rattle.words.proofs.SearchLaws.{some_in, some-none, some-true}
use Rattle.words.specs.Bits.{bit}
use Rattle.words.specs.Search.{first, some}
use Rattle.comparison_parts.specs.internal.Spreads.{PartWord, spread_to}

-- ---- one step: the vertices below i are passed
abbrev pub Passed : List ℕ → ℕ → ℕ → ℕ → Type 0
Passed nb marked reached i = (j : ℕ) → bit reached j ≡ spread_to i (graph_in nb) (bit marked) j

pub passed_none : (nb : List ℕ) (marked : ℕ) → Passed nb marked marked 0
unfolding some
passed_none nb marked j = sym (or-false (bit marked j))

pub passed-joined : (nb : List ℕ) (marked reached i v : ℕ) → Passed nb marked reached i → bit marked i ≡ true
    → v ≡ bit_or reached (get_or nb i 0) → Passed nb marked v (i + 1)
unfolding some
passed-joined nb marked reached i v P e h j =
    ap (λ w. bit w j) h ∙ bit-or reached (get_or nb i 0) j ∙ ap (λ b. b || bit (get_or nb i 0) j) (P j)
    ∙ or_assoc (bit marked j) (some i (λ i. bit marked i && graph_in nb i j)) (bit (get_or nb i 0) j)
    ∙ ap (λ b. bit marked j || (some i (λ i. bit marked i && graph_in nb i j) || (b && graph_in nb i j))) (sym e)
    ∙ ap (λ k. spread_to k (graph_in nb) (bit marked) j) (sym (add-one i))
  where
    or_assoc : (a b c : Bool) → ((a || b) || c) ≡ (a || (b || c))
    or_assoc true b c = refl
    or_assoc false b c = refl

pub passed-kept : (nb : List ℕ) (marked reached i v : ℕ) → Passed nb marked reached i → bit marked i ≡ false
    → v ≡ reached → Passed nb marked v (i + 1)
unfolding some
passed-kept nb marked reached i v P e h j =
    ap (λ w. bit w j) h ∙ P j
    ∙ ap (λ b. bit marked j || b) (sym (or-false (some i (λ i. bit marked i && graph_in nb i j))))
    ∙ ap (λ b. bit marked j || (some i (λ i. bit marked i && graph_in nb i j) || (b && graph_in nb i j))) (sym e)
    ∙ ap (λ k. spread_to k (graph_in nb) (bit marked) j) (sym (add-one i))

pub passed-all : (nb : List ℕ) (marked reached i : ℕ) → i ≤ length nb → length nb ≤ i → Passed nb marked reached i
    → Passed nb marked reached (length nb)
passed-all nb marked reached i l m P = subst (Passed nb marked reached) end P
  where
    end : i ≡ length nb
    end = omega (arith, l, m)

-- ---- the search
pub record Growing (n : ℕ) (θ : Graph) (q reached : ℕ) : Type 0 where
  pub has : bit reached q ≡ true
  pub below : reached < 2 ^ n
  pub inside : (t : ℕ) → t < n → bit reached t ≡ true → part_of n θ q t ≡ true

module _ (n : ℕ) (θ : Graph) (S : Simple n θ) (q : ℕ) (l : q < n) where
  pub grow-start : (reached : ℕ) → reached ≡ 2 ^ q → Growing n θ q reached
  grow-start reached e =
      record {
        has = ap (λ w. bit w q) e ∙ bit-single q q ∙ same_place q;
        below = subst (λ w. w < 2 ^ n) (sym e) (pow-lt l);
        inside = λ t k a. alone t (sym (ap (λ w. bit w t) e ∙ bit-single q t) ∙ a);
      }
    where
      alone : (t : ℕ) → eqb t q ≡ true → part_of n θ q t ≡ true
      alone t a = subst (λ u. part_of n θ q u ≡ true) (sym (eqb-true t q a)) (part-has n θ q)

  module _ (reached next : ℕ) (G : Growing n θ q reached)
      (step : (j : ℕ) → bit next j ≡ spread_to n θ (bit reached) j) where
    kept : (j : ℕ) → bit reached j ≡ true → bit next j ≡ true
    kept j a = step j ∙ ap (λ b. b || some n (λ i. bit reached i && θ i j)) a

    pub next-below : next < 2 ^ n
    next-below = lt-of-bits n next (λ j k. step j
        ∙ ap₂ ◌||◌ (bit-above n reached G.below j k)
        (some-none n (λ i. bit reached i && θ i j) (λ i m. ap (λ b. bit reached i && b) (S.below i j k) ∙ and-false
        (bit reached i))))

    -- as numbers the reached words rise
    pub next-above : (next ≡ reached → ⊥) → reached < next
    next-above d = lt_of_le-ne (and-le same) (λ e. d (sym e))
      where
        same : bit_and reached next ≡ reached
        same = bit-ext∞ _ _ (λ j. bit-and reached next j ∙ absorb (bit reached j) (bit next j) (kept j))
          where
            absorb : (a b : Bool) → (a ≡ true → b ≡ true) → (a && b) ≡ a
            absorb false b h = refl
            absorb true b h = h refl

        and-le : bit_and reached next ≡ reached → reached ≤ next
        and-le e = subst (λ w. w ≤ next) e (and_le_r reached next)

    pub grow-less : (next ≡ reached → ⊥) → 2 ^ n - next < 2 ^ n - reached
    grow-less d = falls (2 ^ n) reached next (next-above d) next-below
      where
        falls : (b u v : ℕ) → u < v → v < b → b - v < b - u
        falls b u v l m = omega (arith, l, m)

    pub grow-more : Growing n θ q next
    grow-more =
        record {
          has = kept q G.has;
          below = next-below;
          inside = λ t k a. go t k (either (bit reached t) (some n (λ i. bit reached i && θ i t))
              (sym (step t) ∙ a));
        }
      where
        go : (t : ℕ) → t < n → (bit reached t ≡ true) ⊎ (some n (λ i. bit reached i && θ i t) ≡ true)
            → part_of n θ q t ≡ true
        go t k (inl a) = G.inside t k a
        go t k (inr a) =
            let F = some-true n (λ i. bit reached i && θ i t) a in
            let i = first n (λ i. bit reached i && θ i t) in
            let b = both_true (bit reached i) (θ i t) F.passes in
            part-closed n θ q l i t F.below k (G.inside i F.below b.0) b.1

    pub grown : next ≡ reached → PartWord n θ q reached
    grown e =
        record {
          below = G.below;
          marks = λ t k. same-by-both (bit reached t) (part_of n θ q t) (G.inside t k)
              (λ a. of_part n θ q t reached G.below a closed G.has);
        }
      where
        closed : Closed n θ (bit reached)
        closed i j k m a b =
            ap (λ w. bit w j) (sym e) ∙ step j
            ∙ ap (λ v. bit reached j || v) (some_in n (λ i. bit reached i && θ i j) i k (both a b))
            ∙ or-true (bit reached j)

-- ---- sizes
pub part-ones : (n : ℕ) (θ : Graph) (q r : ℕ) → PartWord n θ q r → ones r ≡ count n (part_of n θ q)
part-ones n θ q r P = ones-count n r P.below ∙ count-ext n (bit r) (part_of n θ q) P.marks

-- the part of q has more than 20 vertices
abbrev pub is_large : ℕ → Graph → ℕ → Bool
is_large n θ q = ltb 20 (count n (part_of n θ q))

pub large_is : (n : ℕ) (θ : Graph) (q r o : ℕ) → PartWord n θ q r → o ≡ ones r → ltb 20 o ≡ is_large n θ q
large_is n θ q r o P e = ap (ltb 20) (e ∙ part-ones n θ q r P)

-- the vertices of a part have one part
part-size : (n : ℕ) (θ : Graph) → Simple n θ → (q t : ℕ) → q < n → t < n → part_of n θ q t ≡ true
    → count n (part_of n θ t) ≡ count n (part_of n θ q)
part-size n θ S q t l k a =
    count-ext n (part_of n θ t) (part_of n θ q)
    (λ j m. same-by-both (part_of n θ t j) (part_of n θ q j) (part-together n θ S.symmetric t q j k l m home)
    (part-together n θ S.symmetric q t j l k m a))
  where
    home : part_of n θ t q ≡ true
    home = part-together n θ S.symmetric q t q l k l a (part-has n θ q)

-- no part of a vertex below q, or of one that is seen, has more than 20
pub record Seen (n : ℕ) (θ : Graph) (seen q : ℕ) : Type 0 where
  pub before : NoneSoFar n (is_large n θ) q
  pub small : (t : ℕ) → t < n → bit seen t ≡ true → is_large n θ t ≡ false

module _ (n : ℕ) (θ : Graph) where
  pub seen_none : Seen n θ 0 0
  seen_none =
      record { before = none-at-first n (is_large n θ); small = λ t l e. absurd (true≢false (sym e ∙ zero_bit t)) }

  module _ (seen q : ℕ) (K : Seen n θ seen q) (l : q < n) where
    pub seen-again : bit seen q ≡ true → Seen n θ seen (q + 1)
    seen-again e = record { before = none-at n (is_large n θ) q K.before l refl (K.small q l e); small = K.small }

    pub seen_more : Simple n θ → (r o s : ℕ) → PartWord n θ q r → o ≡ ones r → ltb 20 o ≡ false → s ≡ bit_or seen r
        → Seen n θ s (q + 1)
    seen_more S r o s P eo few es =
        record {
          before = none-at n (is_large n θ) q K.before l (large_is n θ q r o P eo) few;
          small = λ t k e. go t k (either (bit seen t) (bit r t) (sym (ap (λ w. bit w t) es ∙ bit-or seen r t) ∙ e));
        }
      where
        go : (t : ℕ) → t < n → (bit seen t ≡ true) ⊎ (bit r t ≡ true) → is_large n θ t ≡ false
        go t k (inl a) = K.small t k a
        go t k (inr a) =
            ap (ltb 20) (part-size n θ S q t l k (sym (P.marks t k) ∙ a)) ∙ sym (large_is n θ q r o P eo) ∙ few
