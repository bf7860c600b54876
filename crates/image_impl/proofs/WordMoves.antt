-- The next complementations read off the words: both bits 1 is c & d; where that is 0, C = 1 means D = 0.
use mathlib.Core.Bool.{◌&&◌, Bool, and-false, false, false≢true, not, true, true≢false}
use mathlib.Core.List.{[], ◌∷◌}
use mathlib.Core.Logic.{inl, inr, ◌⊎◌}
use mathlib.Core.Path.{ap, ap₂, refl, subst, sym, ◌∙◌, ◌≡◌}
use Prim.Native.Nat.{◌<◌, ℕ, ◌≤◌}
use native.Mathlib.Decide.{ℕ_discrete}
use native.Mathlib.Omega.{arith}
use lib.Arith.{lt_of_le-ne}
use lib.Bits.{bit_and}
use lib.Count.{count_trailing_zeros}
use lib.Dec.{eqb}
use lib.ListN.{get_or}
use borrow.Author.Tests.{eqb-true, lt-ltb}
use Rattle.words.proofs.BitLaws.{bit-and, bit-ext∞, zero_bit}
use Rattle.words.proofs.Flags.{both_true}
use Rattle.words.proofs.SearchLaws.{first-is, first-none, some_in, some-none}
use Rattle.words.proofs.Sums.{lt-or-ge}
use Rattle.words.proofs.Trailing.{trailing-is}
use Rattle.words.specs.Bits.{bit}
use Rattle.words.specs.Search.{IsFirst, first}
use Rattle.image.proofs.Falling.{pair_is}
use Rattle.image.proofs.Moves.{Move, alone, joined}
use Rattle.image.proofs.Running.{Stopped}
use Rattle.image.specs.Rule.{State, both, only_c, pivot_move, state_of}
use Rattle.image_impl.proofs.TrackedRecords.{tracked-simple}
use Rattle.image_impl.specs.internal.Working.{Tracking, Working, joined_in, working_record}

-- ---- words with no bit at or above n
-- the smallest set bit of a word that is not 0
pub smallest-in : (n w : ℕ) → n ≤ 64 → ((q : ℕ) → n ≤ q → bit w q ≡ false) → (w ≡ 0 → ⊥) →
    IsFirst n (bit w) (count_trailing_zeros 64 w)
smallest-in n w h above nonzero = go (trailing-is 64 w)
  where
    inside : (q : ℕ) → bit w q ≡ true → q < n
    inside q e = elim (lt-or-ge q n) [ inl l ↦ l | inr l ↦ absurd (true≢false (sym e ∙ above q l)) ]

    go : IsFirst 64 (bit w) (count_trailing_zeros 64 w)
        ⊎ (((q : ℕ) → q < 64 → bit w q ≡ false) × (count_trailing_zeros 64 w ≡ 64)) →
        IsFirst n (bit w) (count_trailing_zeros 64 w)
    go (inl F) = record { below = inside _ F.passes; passes = F.passes; least = F.least }
    go (inr N) =
        absurd (nonzero (bit-ext∞ w 0 (λ q. elim (lt-or-ge q 64) [
          | inl l ↦ N.0 q l ∙ sym (zero_bit q)
          | inr l ↦ above q (omega arith) ∙ sym (zero_bit q)
        ])))

-- a set bit makes the word not 0
pub set-bit : (w q : ℕ) → bit w q ≡ true → not (eqb w 0) ≡ true
set-bit w q e = go (eqb w 0) refl
  where
    go : (b : Bool) → eqb w 0 ≡ b → not (eqb w 0) ≡ true
    go false h = ap not h
    go true h = absurd (true≢false (sym e ∙ ap (λ v. bit v q) (eqb-true w 0 h) ∙ zero_bit q))

first_cong : (n i : ℕ) (f g : ℕ → Bool) → ((q : ℕ) → q < n → f q ≡ g q) → IsFirst n f i → IsFirst n g i
first_cong n i f g h F =
    record {
      below = F.below;
      passes = sym (h i F.below) ∙ F.passes;
      least = λ j l. sym (h j (omega (arith, F.below))) ∙ F.least j l;
    }

module _ (n : ℕ) (small : n ≤ 64) (w : Working) (T : Tracking n w) where
  abbrev S : State
  S = state_of (working_record w)

  -- ---- a vertex with both bits 1
  both-bit : (q : ℕ) → q < n → bit (bit_and w.c w.d) q ≡ both S q
  both-bit q l = bit-and w.c w.d q ∙ ap₂ ◌&&◌ (T.C q) (T.D q l)

  pub word-alone : (bit_and w.c w.d ≡ 0 → ⊥) →
      Move n S (count_trailing_zeros 64 (bit_and w.c w.d) ∷ [])
  word-alone nonzero =
      alone _ (first_cong n _ (bit (bit_and w.c w.d)) (both S) both-bit
      (smallest-in n (bit_and w.c w.d) small
      (λ q l. bit-and w.c w.d q ∙ ap (λ b. b && bit w.d q) (T.above q l)) nonzero))

  -- ---- no such vertex
  module _ (zero_word : bit_and w.c w.d ≡ 0) where
    no_both : (q : ℕ) → q < n → both S q ≡ false
    no_both q l = sym (both-bit q l) ∙ ap (λ v. bit v q) zero_word ∙ zero_bit q

    only : (q : ℕ) → q < n → S.C q ≡ true → only_c S q ≡ true
    only q l e = go (S.C q) (S.D q) e (no_both q l)
      where
        go : (c d : Bool) → c ≡ true → (c && d) ≡ false → (c && not d) ≡ true
        go true false e h = refl
        go true true e h = absurd (true≢false h)
        go false d e h = absurd (false≢true e)

    abbrev search : ℕ → Bool
    search = joined_in w.neighbours w.c

    -- the set's neighbours of j
    abbrev among : ℕ → ℕ
    among j = bit_and (get_or w.neighbours j 0) w.c

    among-bit : (j k : ℕ) → bit (among j) k ≡ (S.graph j k && S.C k)
    among-bit j k = bit-and (get_or w.neighbours j 0) w.c k ∙ ap (λ b. S.graph j k && b) (T.C k)

    -- an edge of the set is found from each of its ends
    edge-search : (i k : ℕ) → S.graph i k ≡ true → S.C i ≡ true → S.C k ≡ true → search i ≡ true
    edge-search i k e ci ck =
        ap₂ ◌&&◌ (T.C i ∙ ci) (set-bit (among i) k (among-bit i k ∙ ap₂ ◌&&◌ e ck))

    pair-search : (i k : ℕ) → pivot_move S i k ≡ true → search i ≡ true
    pair-search i k e = let P = pair_is S i k e in edge-search i k P.edge P.Cj P.Ck

    no-pair : (i : ℕ) → search i ≡ false → (k : ℕ) → pivot_move S i k ≡ false
    no-pair i h k = go (pivot_move S i k) refl
      where
        go : (b : Bool) → pivot_move S i k ≡ b → pivot_move S i k ≡ false
        go false e = e
        go true e = absurd (true≢false (sym (pair-search i k e) ∙ h))

    pub word-stopped : (j : ℕ) → j ≡ first n search → j ≡ n → Stopped n S
    word-stopped j found e =
        record { no_both = no_both; no-pair = λ i k l m. no-pair i (none i l) k }
      where
        none : (i : ℕ) → i < n → search i ≡ false
        none i l = elim (first-is n search) [
          | inl F ↦ absurd (omega (arith, F.below, found, e))
          | inr N ↦ N i l
        ]

    module _ (j : ℕ) (found : j ≡ first n search) (some_pair : j ≡ n → ⊥) where
      first-j : IsFirst n search j
      first-j = elim (first-is n search) [
        | inl F ↦ subst (IsFirst n search) (sym found) F
        | inr N ↦ absurd (some_pair (found ∙ first-none n search N))
      ]

      pub joined-below : j < n
      joined-below = first-j.below

      in-set : (S.C j ≡ true) × (not (eqb (among j) 0) ≡ true)
      in-set =
          let b = both_true (bit w.c j) (not (eqb (among j) 0)) first-j.passes in
          (sym (T.C j) ∙ b.0, b.1)

      abbrev k : ℕ
      k = count_trailing_zeros 64 (among j)

      first-k : IsFirst n (bit (among j)) k
      first-k = smallest-in n (among j) small
          (λ q l. among-bit j q ∙ ap (λ b. S.graph j q && b) (sym (T.C q) ∙ T.above q l)
          ∙ and-false (S.graph j q))
          (λ e. false≢true (ap (λ v. not (eqb v 0)) (sym e) ∙ in-set.1))

      to-k : (S.graph j k ≡ true) × (S.C k ≡ true)
      to-k = both_true (S.graph j k) (S.C k) (sym (among-bit j k) ∙ first-k.passes)

      pub word-edge : bit (get_or w.neighbours j 0) (count_trailing_zeros 64 (bit_and (get_or w.neighbours j 0) w.c)) ≡
          true
      word-edge = to-k.0

      -- a smaller neighbour would itself have been found first
      j-below-k : j < k
      j-below-k = elim (lt-or-ge j k) [
        | inl l ↦ l
        | inr l ↦ absurd (not-above (ℕ_discrete k j) l)
      ]
        where
          not-above : Dec (k ≡ j) → k ≤ j → ⊥
          not-above (yes e) l = true≢false (sym to-k.0 ∙ ap (S.graph j) e ∙ (tracked-simple n w T).loopless j)
          not-above (no d) l =
              true≢false (sym (edge-search k j ((tracked-simple n w T).symmetric k j ∙ to-k.0) to-k.1 in-set.0)
              ∙ first-j.least k (lt_of_le-ne l d))

      pair-jk : pivot_move S j k ≡ true
      pair-jk = ap₂ ◌&&◌ (lt-ltb j k j-below-k) (ap₂ ◌&&◌ to-k.0
          (ap₂ ◌&&◌ (only j joined-below in-set.0) (only k first-k.below to-k.1)))

      least-k : (i : ℕ) → i < k → pivot_move S j i ≡ false
      least-k i l = go (pivot_move S j i) refl
        where
          go : (b : Bool) → pivot_move S j i ≡ b → pivot_move S j i ≡ false
          go false e = e
          go true e =
              let P = pair_is S j i e in
              absurd (true≢false (sym (among-bit j i ∙ ap₂ ◌&&◌ P.edge P.Ck) ∙ first-k.least i l))

      pub word-joined : Move n S (j ∷ count_trailing_zeros 64 (bit_and (get_or w.neighbours j 0) w.c) ∷ j ∷ [])
      word-joined =
          joined j k no_both
          (record {
            below = joined-below;
            passes = some_in n (pivot_move S j) k first-k.below pair-jk;
            least = λ i l. some-none n (pivot_move S i) (λ q m. no-pair i (first-j.least i l) q);
          })
          (record { below = first-k.below; passes = pair-jk; least = least-k })
