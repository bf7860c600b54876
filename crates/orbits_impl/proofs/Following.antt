-- The graphs to which one complementation leads from a graph, and the search that follows each graph found.
use mathlib.Core.Bool.{false, true, true≢false}
use mathlib.Core.List.{List}
use mathlib.Core.Logic.{inl, inr, ◌⊎◌}
use mathlib.Core.Path.{ap, refl, subst, sym, ◌∙◌, ◌≡◌}
use Prim.Native.Nat.{◌%◌, ◌+◌, ◌/◌, ◌<◌, ℕ, ◌≤◌}
use native.Mathlib.Nat.{le_trans, lt_of_lt_of_le, not-suc-le-zero}
use native.Mathlib.Omega.{arith}
use lib.Bits.{bit_xor}
use lib.ListN.{get_or, length, replicate, take}
use lib.Seq.{get_or-take}
use Rattle.std.proofs.lemmas.List.{length-take}
use Rattle.buffers.proofs.Mapping.{zeros, zeros-at}
use Rattle.buffers.proofs.Tabulate.{tabulate-at}
use Rattle.buffers.specs.Buffers.{tabulate}
use Rattle.cut.proofs.Counting.{count_none}
use Rattle.orbits.proofs.Complements.{complement-flips, complement-lt}
use Rattle.orbits.proofs.GraphNumbers.{graph-simple}
use Rattle.orbits.proofs.Pairs.{graphs-fit}
use Rattle.orbits.proofs.Reaching.{Closed, reached, reached-all, reached-closed, reached-start}
use Rattle.orbits.proofs.Selecting.{selected-ext, selected-length, selected-upto}
use Rattle.orbits.specs.internal.Numbers.{WordsOf, pairs_within}
use Rattle.orbits.specs.Numbers.{complement_number, graph_count}
use Rattle.orbits.specs.Orbits.{orbit_list, selected}
use Rattle.words.proofs.BitLaws.{lt-of-bits, zero_bit}
use Rattle.words.proofs.Flags.{never_true, same-by-both}
use Rattle.words.proofs.Sums.{last_or}
use Rattle.words.specs.Bits.{bit}
use Rattle.orbits_impl.proofs.Marking.{visited-both, visited-none}
use Rattle.orbits_impl.specs.internal.Marks.{Around, Queue, Spread, Visited, marked}

-- ---- around one graph
module _ {n g : ℕ} {words : List ℕ} (few : n ≤ 6) (W : WordsOf n g words) (a : ℕ) where
  pub word_small : get_or words a 0 < 64
  word_small =
      lt-of-bits 6 (get_or words a 0) (λ q l. W.edges a q ∙ (graph-simple n few g).below a q (le_trans few l))

  pub around-number : g < graph_count n → (within : List ℕ) → within ≡ tabulate 64 (pairs_within n)
      → bit_xor g (get_or within (get_or words a 0) 0) ≡ complement_number n g a
  around-number small within e =
      ap (bit_xor g) (ap (λ t. get_or t (get_or words a 0) 0) e ∙ tabulate-at 64 (pairs_within n) (get_or words a 0) word_small)
      ∙ complement-flips n few g a (get_or words a 0) small (W.edges a)

  pub around-small : g < graph_count n → (within : List ℕ) → within ≡ tabulate 64 (pairs_within n)
      → bit_xor g (get_or within (get_or words a 0) 0) < 32768
  around-small small within e =
      subst (λ h. h < 32768) (sym (around-number small within e))
      (lt_of_lt_of_le (complement-lt n g a) (graphs-fit n few))

-- a word among the first n
pub taken-word : (n : ℕ) (words : List ℕ) (a : ℕ) → a < length (take n words) →
    get_or (take n words) a 0 ≡ get_or words a 0
taken-word n words a l = get_or-take n words a 0 (omega (arith, l, length-take n words))

pub around-none : (n g : ℕ) (marks list : List ℕ) (tail : ℕ) → Queue marks list tail
    → Visited (Around n g 0) marks list tail marks list tail
around-none n g marks list tail Q =
    visited-none (Around n g 0) marks list tail Q (λ u p. absurd (not-suc-le-zero p.1))

pub around-more : (n g a : ℕ) {m l m₁ l₁ m₂ l₂ : List ℕ} {t t₁ t₂ : ℕ} → Visited (Around n g a) m l t m₁ l₁ t₁
    → (h : ℕ) → h ≡ complement_number n g a → Visited (λ u. u ≡ h) m₁ l₁ t₁ m₂ l₂ t₂
    → Visited (Around n g (a + 1)) m l t m₂ l₂ t₂
around-more n g a A h e B =
    visited-both (Around n g (a + 1)) A B (λ u p. (p.0, omega (arith, p.1), p.2)) (λ u p. (a, omega arith, p ∙ e))
    out
  where
    out : (u : ℕ) → Around n g (a + 1) u → Around n g a u ⊎ (u ≡ h)
    out u p = go (last_or (omega (arith, p.1)))
      where
        go : (p.0 ≡ a) ⊎ (p.0 < a) → Around n g a u ⊎ (u ≡ h)
        go (inl d) = inr (p.2 ∙ ap (complement_number n g) d ∙ sym e)
        go (inr l) = inl (p.0, l, p.2)

-- ---- the search
-- the marked numbers are reached from g, and those of the first `head` places are followed; the search began with
-- list₀, which had tail₀ numbers
pub record Following (n g : ℕ) (list₀ : List ℕ) (tail₀ : ℕ) (marks list : List ℕ) (tail head : ℕ) : Type 0 where
  pub queue : Queue marks list tail
  pub since : tail₀ ≤ tail
  pub upto : head ≤ tail
  pub has : marked marks g ≡ true
  pub inside : (h : ℕ) → marked marks h ≡ true → (h < graph_count n) × (reached n g h ≡ true)
  pub followed : (i a : ℕ) → i < head → a < n → marked marks (complement_number n (get_or list i 0) a) ≡ true
  pub past : (i : ℕ) → tail ≤ i → get_or list i 0 ≡ get_or list₀ i 0

-- no number is marked in words that are 0
zeros-unmarked : (h : ℕ) → marked (replicate 512 0) h ≡ false
unfolding marked zeros
zeros-unmarked h = ap (λ w. bit w (h % 64)) (zeros-at 512 (h / 64)) ∙ zero_bit (h % 64)

pub none-marked : (marks list : List ℕ) → marks ≡ replicate 512 0 → length list ≡ 32768 → Queue marks list 0
none-marked marks list e long = record {
  words = ap length e;
  places = long;
  counted = count_none 32768 (marked marks) (λ h l. unmarked h);
  listed = λ h d. absurd (true≢false (sym d ∙ unmarked h));
  entries = λ i l. absurd (not-suc-le-zero l);
}
  where
    unmarked : (h : ℕ) → marked marks h ≡ false
    unmarked h = ap (λ m. marked m h) e ∙ zeros-unmarked h

module _ (n g : ℕ) (few : n ≤ 6) (small : g < graph_count n) where
  pub follow-start : {marks₀ list₀ marks list : List ℕ} {tail : ℕ} → marks₀ ≡ replicate 512 0
      → Visited (λ u. u ≡ g) marks₀ list₀ 0 marks list tail → Following n g list tail marks list tail 0
  follow-start {marks₀} e W = record {
    queue = W.queue;
    since = omega arith;
    upto = omega arith;
    has = W.all g refl;
    inside = λ h d. start h (W.only h d);
    followed = λ i a l. absurd (not-suc-le-zero l);
    past = λ i l. refl;
  }
    where
      start : (h : ℕ) → (marked marks₀ h ≡ true) ⊎ (h ≡ g) → (h < graph_count n) × (reached n g h ≡ true)
      start h (inl d) = absurd (true≢false (sym d ∙ ap (λ m. marked m h) e ∙ zeros-unmarked h))
      start h (inr d) =
          (subst (λ u. u < graph_count n) (sym d) small, ap (reached n g) d ∙ reached-start n g small (graph_count n))

  module _ {list₀ : List ℕ} {tail₀ : ℕ} {marks list : List ℕ} {tail head : ℕ}
      (F : Following n g list₀ tail₀ marks list tail head) where
    pub next_small : head < tail → get_or list head 0 < graph_count n
    next_small more = (F.inside (get_or list head 0) (F.queue.entries head more)).0

    pub follow-more : head < tail → {marks' list' : List ℕ} {tail' : ℕ}
        → Visited (Around n (get_or list head 0) n) marks list tail marks' list' tail'
        → Following n g list₀ tail₀ marks' list' tail' (head + 1)
    follow-more more {marks'} {list'} {tail'} W = record {
      queue = W.queue;
      since = omega (arith, F.since, W.upto);
      upto = omega (arith, more, W.upto);
      has = W.more g F.has;
      inside = λ h d. known h (W.only h d);
      followed = λ i a l m. ap (λ u. marked marks' (complement_number n u a)) (W.kept i (omega (arith, l, more)))
          ∙ before i a m (last_or (omega (arith, l)));
      past = λ i l. W.past i l ∙ F.past i (omega (arith, l, W.upto));
    }
      where
        known : (h : ℕ) → (marked marks h ≡ true) ⊎ Around n (get_or list head 0) n h
            → (h < graph_count n) × (reached n g h ≡ true)
        known h (inl d) = F.inside h d
        known h (inr (a, l, d)) =
            let u = F.inside (get_or list head 0) (F.queue.entries head more) in (
              subst (λ v. v < graph_count n) (sym d) (complement-lt n (get_or list head 0) a),
              ap (reached n g) d ∙ reached-closed n g small few (get_or list head 0) a u.0 l u.1,
            )

        before : (i a : ℕ) → a < n → (i ≡ head) ⊎ (i < head)
            → marked marks' (complement_number n (get_or list i 0) a) ≡ true
        before i a m (inl d) = W.all _ (a, m, ap (λ i. complement_number n (get_or list i 0) a) d)
        before i a m (inr l) = W.more _ (F.followed i a l m)

    -- where all are followed, the marked numbers are those reached
    pub follow-end : tail ≤ head → selected 32768 (marked marks) ≡ orbit_list n g
    unfolding orbit_list
    follow-end end =
        selected-upto (graph_count n) 32768 (marked marks) (graphs-fit n few)
        (λ h l. never_true (marked marks h) (λ d. absurd (above h l (F.inside h d).0)))
        ∙ selected-ext (graph_count n) (marked marks) (reached n g)
        (λ h l. same-by-both (marked marks h) (reached n g h) (λ d. (F.inside h d).1)
        (reached-all n g few (λ h. marked marks h ≡ true) F.has closed (graph_count n) h l))
      where
        above : (h : ℕ) → graph_count n ≤ h → h < graph_count n → ⊥
        above h l m = omega arith

        closed : Closed n (λ h. marked marks h ≡ true)
        closed h a l m d =
            let o = F.queue.listed h d in
            ap (λ u. marked marks (complement_number n u a)) (sym o.2)
            ∙ F.followed o.0 a (lt_of_lt_of_le o.1 end) m

    pub follow-spread : tail ≤ head → {marks₁ list₁ marks₂ : List ℕ}
        → Visited (λ u. u ≡ g) marks₁ list₁ 0 marks₂ list₀ tail₀ → length list₁ ≡ 32768
        → Spread n g list₁ marks list
    follow-spread end W long = record {
      words = F.queue.words;
      places = F.queue.places ∙ sym long;
      marks = follow-end end;
      past = λ i l. let m = subst (λ k. k ≤ i) amount l in F.past i m ∙ W.past i (omega (arith, m, F.since));
    }
      where
        amount : length (orbit_list n g) ≡ tail
        amount = ap length (sym (follow-end end)) ∙ selected-length 32768 (marked marks) ∙ F.queue.counted
