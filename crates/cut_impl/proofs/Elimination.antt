-- The columns of a bit matrix, one after another: those that are no sum of earlier ones are counted, and what is left
-- of each joins a basis that holds a word for every smallest set bit of a sum.
use mathlib.Core.Bool.{Bool, false, not, true, true≢false}
use mathlib.Core.List.{List}
use mathlib.Core.Logic.{inl, inr, ◌≢◌}
use mathlib.Core.Path.{ap, ap₂, refl, subst, sym, ◌∙◌, ◌≡◌}
use Prim.Native.Nat.{◌+◌, ◌<◌, ◌^◌, suc, zero-le, ℕ, ◌≤◌}
use native.Mathlib.Decide.{ℕ_discrete}
use native.Mathlib.Nat.{add-zero, le_antisymm, lt_of_lt_of_le, lt_trans}
use native.Mathlib.Numerals.{add-one}
use native.Mathlib.Omega.{arith}
use lib.Arith.{lt_of_le-ne}
use lib.Bits.{xor_lt}
use lib.Count.{count_trailing_zeros}
use lib.ListN.{get_or, length, length-set, set}
use lib.Pow.{pow_mono, pow_pos}
use lib.Seq.{get_or-set_other, get_or-set_same}
use Rattle.buffers.proofs.Mapping.{zeros, zeros-at, zeros-long}
use Rattle.cut.specs.Rank.{rank}
use Rattle.record.proofs.ColumnLaws.{column-dependent}
use Rattle.record.specs.Columns.{is_column_dependent}
use Rattle.words.proofs.BitLaws.{bit-above, bit-xor, zero_bit}
use Rattle.words.proofs.Finite.{bits, ⊕-assoc, ⊕-back, ⊕-self, ⊕-twice, ⊕-zero}
use Rattle.words.proofs.Flags.{never_true}
use Rattle.words.proofs.Sums.{lt-or-ge}
use Rattle.words.proofs.Trailing.{trailing-set}
use Rattle.words.specs.Bits.{Word, bit, digit, fold, ◌⊕◌}
use Rattle.words.specs.Search.{IsFirst}
use Rattle.cut_impl.proofs.Spans.{Spanned, span-add, span-cases, span_ext, span_more, span-next, span-zero}
use Rattle.cut_impl.specs.internal.Basis.{SumOf, Echelon, Remainder, none, one}

-- after the columns before k: each word of the basis is a sum of them, and a sum of them has its smallest set bit at
-- a place where the basis holds a word
pub record Spanning (m : ℕ) (M : ℕ → Word) (basis : List ℕ) (count k : ℕ) : Type 0 where
  pub upto : k ≤ m
  pub places : length basis ≡ 64
  pub below : (i : ℕ) → get_or basis i 0 < 2 ^ m
  pub smallest : (i : ℕ) → (get_or basis i 0 ≡ 0 → ⊥) → IsFirst 64 (bit (get_or basis i 0)) i
  pub spanned : (i : ℕ) → Spanned m M k (bit (get_or basis i 0))
  pub held : (f : Word) → Spanned m M k f → (i : ℕ) → IsFirst m f i → get_or basis i 0 ≡ 0 → ⊥
  pub counted : count ≡ rank m k M
  pub few : count ≤ k

-- a fact of every place of a list in which one place is set
set_all : (P : ℕ → ℕ → Type 0) (basis : List ℕ) (i r : ℕ) → i < length basis → P i r
    → ((j : ℕ) → P j (get_or basis j 0)) → (j : ℕ) → P j (get_or (set basis i r) j 0)
set_all P basis i r l h k j = go (ℕ_discrete j i)
  where
    go : Dec (j ≡ i) → P j (get_or (set basis i r) j 0)
    go (yes e) = subst (λ v. P v (get_or (set basis i r) v 0)) (sym e)
        (subst (P i) (sym (get_or-set_same basis i r 0 l)) h)
    go (no d) = subst (P j) (sym (get_or-set_other basis i j r 0 d)) (k j)

module _ (m : ℕ) (M : ℕ → Word) where
  pub spanning-start : Spanning m M (zeros 64) 0 0
  unfolding fold
  spanning-start =
      record {
        upto = zero-le;
        places = zeros-long 64;
        below = λ i. subst (λ v. v < 2 ^ m) (sym (zeros-at 64 i)) (pow_pos m);
        smallest = λ i h. absurd (h (zeros-at 64 i));
        spanned = λ i. span-zero m M 0 _ (λ j l. ap (λ v. bit v j) (zeros-at 64 i) ∙ zero_bit j);
        held = λ f S i F e. true≢false (sym F.passes ∙ S.1 i F.below);
        counted = refl;
        few = zero-le;
      }

module _ (m : ℕ) (small : m ≤ 64) (M : ℕ → Word) (basis : List ℕ) (count k : ℕ)
    (S : Spanning m M basis count k) where
  pub in-echelon : Echelon basis
  in-echelon =
      record { below = λ i. lt_of_lt_of_le (S.below i) (pow_mono small); smallest = S.smallest }

  -- all columns are counted
  pub all-counted : m ≤ k → count ≡ rank m m M
  all-counted l = S.counted ∙ ap (λ q. rank m q M) (le_antisymm S.upto l)

  -- column k as a word, and what the basis leaves of it
  module _ (more : k < m) (w : ℕ) (fits : w < 2 ^ m) (column : (j : ℕ) → bit w j ≡ M j k) (r : ℕ)
      (R : Remainder basis w r) where
    added-spanned : {r : ℕ} → SumOf basis w r → Spanned m M k (λ j. bit w j ⊕ bit r j)
    added-spanned none = span-zero m M k _ (λ j l. ⊕-self (bit w j))
    added-spanned (one {r} i A) =
        span_ext m M k _ _
        (λ j l. ap (λ b. bit w j ⊕ b) (bit-xor r (get_or basis i 0) j)
        ∙ sym (⊕-assoc (bit w j) (bit r j) (bit (get_or basis i 0) j)))
        (span-add m M k _ _ (added-spanned A) (S.spanned i))

    added-below : {r : ℕ} → SumOf basis w r → r < 2 ^ m
    added-below none = fits
    added-below (one {r} i A) = xor_lt m r _ (added-below A) (S.below i)

    -- it differs from column k by a sum of earlier columns
    differs : Spanned m M k (λ j. M j k ⊕ bit r j)
    differs = span_ext m M k _ _ (λ j l. ap (λ b. b ⊕ bit r j) (sym (column j))) (added-spanned R.added)

    -- ---- nothing is left: column k is a sum of earlier ones
    module _ (gone : r ≡ 0) where
      dependent : Spanned m M k (λ j. M j k)
      dependent = span_ext m M k _ _
          (λ j l. sym (⊕-zero (M j k))
          ∙ ap (λ b. M j k ⊕ b) (sym (ap (λ v. bit v j) gone ∙ zero_bit j))) differs

      sum-before : (f : Word) → Spanned m M (suc k) f → Spanned m M k f
      sum-before f T = elim (span-cases m M k f T) [
        | inl U ↦ U
        | inr U ↦ span_ext m M k _ _ (λ j l. sym (⊕-twice (f j) (M j k))) (span-add m M k _ _ U dependent)
      ]

      not-counted : count ≡ rank m (suc k) M
      unfolding fold
      not-counted =
          S.counted ∙ sym (ap (λ b. rank m k M + digit (not b)) ((column-dependent m M k).1 dependent)
          ∙ add-zero (rank m k M))

      pub column-passed : Spanning m M basis count (k + 1)
      column-passed =
          rw add-one
          record {
            upto = more;
            places = S.places;
            below = S.below;
            smallest = S.smallest;
            spanned = λ i. span_more m M k _ (S.spanned i);
            held = λ f T. S.held f (sum-before f T);
            counted = not-counted;
            few = omega (arith, S.few);
          }

    -- ---- something is left, with the smallest set bit i: column k is no sum of earlier ones
    module _ (left : r ≡ 0 → ⊥) (i : ℕ) (at : i ≡ count_trailing_zeros 64 r) where
      set_at : IsFirst 64 (bit r) i
      set_at =
          subst (IsFirst 64 (bit r)) (sym at)
          (trailing-set 64 r (lt_of_lt_of_le (added-below R.added) (pow_mono small)) left)

      pub place-below : i < 64
      place-below = set_at.below

      row_below : i < m
      row_below = elim (lt-or-ge i m) [
        | inl l ↦ l
        | inr l ↦ absurd (true≢false (sym set_at.passes ∙ bit-above m r (added-below R.added) i l))
      ]

      free : get_or basis i 0 ≡ 0
      free = ap (λ v. get_or basis v 0) at ∙ R.last left

      independent : is_column_dependent m M k ≡ false
      independent = never_true (is_column_dependent m M k) (λ e. S.held (bit r)
          (span_ext m M k _ _ (λ j l. sym (⊕-back (M j k) (bit r j)))
          (span-add m M k _ _ ((column-dependent m M k).0 e) differs))
          i (record { below = row_below; passes = set_at.passes; least = set_at.least }) free)

      counts : count + 1 ≡ rank m (suc k) M
      unfolding fold
      counts = ap₂ (λ a b. a + digit (not b)) S.counted (sym independent)

      left-spanned : Spanned m M (suc k) (bit r)
      left-spanned =
          span_ext m M (suc k) _ _ (λ j l. sym (regroup (M j k) (bit r j))) (span-next m M k _ true differs)
        where
          regroup : (a b : Bool) → (a ⊕ b) ⊕ a ≡ b
          regroup = bits 2 (λ a b. (a ⊕ b) ⊕ a) (λ a b. b) tt

      -- a sum with column k in it: what is left of that column is added in its place
      module _ (f : Word) (T : Spanned m M k (λ j. f j ⊕ M j k)) (p : ℕ) (F : IsFirst m f p) where
        other : Word
        other j = f j ⊕ bit r j

        other-spanned : Spanned m M k other
        unfolding other
        other-spanned =
            span_ext m M k _ _ (λ j l. sym (through (f j) (M j k) (bit r j))) (span-add m M k _ _ T differs)
          where
            through : (a b c : Bool) → (a ⊕ b) ⊕ (b ⊕ c) ≡ a ⊕ c
            through = bits 3 (λ a b c. (a ⊕ b) ⊕ (b ⊕ c)) (λ a b c. a ⊕ c) tt

        -- its smallest set bit is p or i, whichever is smaller
        lower : p < i → IsFirst m other p
        unfolding other
        lower l =
            record {
              below = F.below;
              passes = ap₂ ◌⊕◌ F.passes (set_at.least p l);
              least = λ j q. ap₂ ◌⊕◌ (F.least j q) (set_at.least j (lt_trans q l));
            }

        upper : i < p → IsFirst m other i
        unfolding other
        upper l =
            record {
              below = row_below;
              passes = ap₂ ◌⊕◌ (F.least i l) set_at.passes;
              least = λ j q. ap₂ ◌⊕◌ (F.least j (lt_trans q l)) (set_at.least j q);
            }

        sum-held : p ≢ i → get_or basis p 0 ≡ 0 → ⊥
        sum-held d e = elim (lt-or-ge p i) [
          | inl l ↦ S.held other other-spanned p (lower l) e
          | inr l ↦ S.held other other-spanned i (upper (lt_of_le-ne l (λ q. d (sym q)))) free
        ]

      stored-held : (f : Word) → Spanned m M (suc k) f → (p : ℕ) → IsFirst m f p → get_or (set basis i r) p 0 ≡ 0 → ⊥
      stored-held f T p F e = go (ℕ_discrete p i)
        where
          go : Dec (p ≡ i) → ⊥
          go (yes q) = left (sym (get_or-set_same basis i r 0 (subst (λ v. i < v) (sym S.places) place-below))
              ∙ ap (λ v. get_or (set basis i r) v 0) (sym q) ∙ e)
          go (no d) = elim (span-cases m M k f T) [
            | inl U ↦ S.held f U p F (sym (get_or-set_other basis i p r 0 d) ∙ e)
            | inr U ↦ sum-held f U p F d (sym (get_or-set_other basis i p r 0 d) ∙ e)
          ]

      everywhere : (P : ℕ → ℕ → Type 0) → P i r → ((j : ℕ) → P j (get_or basis j 0)) → (j : ℕ)
          → P j (get_or (set basis i r) j 0)
      everywhere P = set_all P basis i r (subst (λ v. i < v) (sym S.places) place-below)

      pub column-stored : Spanning m M (set basis i r) (count + 1) (k + 1)
      column-stored =
          subst (Spanning m M (set basis i r) (count + 1)) (sym (add-one k))
          record {
            upto = more;
            places = length-set basis i r ∙ S.places;
            below = everywhere (λ j v. v < 2 ^ m) (added-below R.added) S.below;
            smallest = everywhere (λ j v. (v ≡ 0 → ⊥) → IsFirst 64 (bit v) j) (λ h. set_at) S.smallest;
            spanned = everywhere (λ j v. Spanned m M (suc k) (bit v)) left-spanned
                (λ j. span_more m M k _ (S.spanned j));
            held = stored-held;
            counted = counts;
            few = omega (arith, S.few);
          }
