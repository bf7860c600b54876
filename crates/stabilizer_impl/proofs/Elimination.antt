-- The elimination: row after row gets a bit that no later row has, and independence stays as it was.
use mathlib.Core.Bool.{◌&&◌, Bool, and-false, cond, false, not, true, true≢false}
use mathlib.Core.List.{List}
use mathlib.Core.Logic.{inl, inr, ◌↔◌}
use mathlib.Core.Path.{ap, ap₂, refl, subst, sym, ◌∙◌, ◌≡◌}
use Prim.Native.Nat.{◌+◌, ◌<◌, zero-le, ℕ, ◌≤◌}
use native.Mathlib.Nat.{le_refl, lt_of_lt_of_le, not-suc-le-zero}
use native.Mathlib.Omega.{arith}
use lib.Count.{count_trailing_zeros}
use lib.Dec.{eqb}
use lib.ListN.{get_or-eq_default, get_or, length}
use lib.Pow.{pow_mono}
use borrow.Author.Count.{below_more}
use borrow.Author.Tests.{eqb-false, eqb-true}
use Rattle.pauli.specs.Pauli.{Pauli}
use Rattle.stabilizer.proofs.Independence.{independent-shear}
use Rattle.stabilizer.proofs.Pairs.{letters_of}
use Rattle.stabilizer.proofs.Products.{x-linear, z-linear}
use Rattle.stabilizer.proofs.RowOperations.{shear-bit}
use Rattle.stabilizer.proofs.Verdicts.{independent-exactly}
use Rattle.stabilizer.specs.Elimination.{shear}
use Rattle.stabilizer.specs.Groups.{Independent, Trivial, Within}
use Rattle.stabilizer.specs.Lists.{dependent}
use Rattle.words.proofs.BitLaws.{lt-of-bits, zero_bit}
use Rattle.words.proofs.Finite.{⊕-cleared, ⊕-twice, ⊕-zero}
use Rattle.words.proofs.Sums.{lt-or-ge}
use Rattle.words.proofs.Trailing.{trailing-set}
use Rattle.words.specs.Bits.{bit, ◌⊕◌}
use Rattle.words.specs.Search.{IsFirst}
use Rattle.stabilizer_impl.proofs.Additions.{added-bit, added-x, added-z, later-named, not-later}
use Rattle.stabilizer_impl.proofs.Letters.{independent-letters}
use Rattle.stabilizer_impl.proofs.Pivots.{Pivot, blank-dependent, letter_bit, pivots-independent}
use Rattle.stabilizer_impl.specs.internal.Additions.{Added, later_with}

-- ---- one addition
module _ (n k : ℕ) (hk : k < n) (in-x : Bool) (i : ℕ) (z x z' x' : List ℕ) (A : Added n k in-x i z x z' x') where
  abbrev named : ℕ → Bool
  named = later_with n k in-x i z x

  -- the row that is added stays
  kept : named k ≡ false
  kept = not-later n k in-x i z x k (le_refl k)

  -- as a row operation, signs dropped
  sheared-there : Independent n (letters_of z x) → Independent n (letters_of z' x')
  sheared-there H = independent-letters n (shear n (letters_of z x) k named) (letters_of z' x')
      record {
        same-x = λ j l q. shear-bit n _ (x-linear n q) (letters_of z x) k named j
            ∙ sym (added-x n k in-x i z x z' x' A j q);
        same-z = λ j l q. shear-bit n _ (z-linear n q) (letters_of z x) k named j
            ∙ sym (added-z n k in-x i z x z' x' A j q);
      } (independent-shear n (letters_of z x) k hk named kept H)

  -- done twice, it undoes itself
  twice : (words words' : List ℕ) → ((j q : ℕ) → bit (get_or words' j 0) q ≡ bit (get_or words j 0) q ⊕
      (named j && bit (get_or words k 0) q))
      → (j q : ℕ) → bit (get_or words' j 0) q ⊕ (named j && bit (get_or words' k 0) q) ≡ bit (get_or words j 0) q
  twice words words' e j q =
      ap₂ (λ a b. a ⊕ (named j && b)) (e j q)
      (e k q ∙ ap (λ b. bit (get_or words k 0) q ⊕ (b && bit (get_or words k 0) q)) kept ∙ ⊕-zero (bit (get_or words k 0) q))
      ∙ ⊕-twice (bit (get_or words j 0) q) (named j && bit (get_or words k 0) q)

  sheared-back : Independent n (letters_of z' x') → Independent n (letters_of z x)
  sheared-back H = independent-letters n (shear n (letters_of z' x') k named) (letters_of z x)
      record {
        same-x = λ j l q. shear-bit n _ (x-linear n q) (letters_of z' x') k named j
            ∙ twice x x' (added-x n k in-x i z x z' x' A) j q;
        same-z = λ j l q. shear-bit n _ (z-linear n q) (letters_of z' x') k named j
            ∙ twice z z' (added-z n k in-x i z x z' x' A) j q;
      } (independent-shear n (letters_of z' x') k hk named kept H)

  pub added-independent : Independent n (letters_of z x) ↔ Independent n (letters_of z' x')
  added-independent = (sheared-there, sheared-back)

  -- row k has the bit, and no later row has it any more
  pub added-pivot : i < n → letter_bit in-x i (letters_of z x k) ≡ true → Pivot n (letters_of z' x') k
  added-pivot l own =
      record {
        in-x = in-x;
        place = i;
        below = l;
        own = added-bit n k in-x i z x z' x' A in-x i k
            ∙ ap₂ (λ a b. a ⊕ (b && letter_bit in-x i (letters_of z x k))) own kept;
        later = λ j m h. added-bit n k in-x i z x z' x' A in-x i j
            ∙ ap₂ (λ a b. letter_bit in-x i (letters_of z x j) ⊕ (a && b))
            (later-named n k in-x i z x z' x' A j m h) own
            ∙ ⊕-cleared (letter_bit in-x i (letters_of z x j));
      }

  -- the pivots of the rows before k stay
  pub kept-pivot : (t : ℕ) → t < k → Pivot n (letters_of z x) t → Pivot n (letters_of z' x') t
  kept-pivot t l P =
      record {
        in-x = P.in-x;
        place = P.place;
        below = P.below;
        own = added-bit n k in-x i z x z' x' A P.in-x P.place t
            ∙ ap₂ (λ a b. a ⊕ (b && letter_bit P.in-x P.place (letters_of z x k))) P.own
            (not-later n k in-x i z x t (omega arith));
        later = λ j m h. added-bit n k in-x i z x z' x' A P.in-x P.place j
            ∙ ap₂ (λ a b. a ⊕ (named j && b)) (P.later j m h) (P.later k l hk) ∙ and-false (named j);
      }

  -- no bit comes in at or above n
  pub added-within : ((j : ℕ) → Within n (letters_of z x j)) → (j : ℕ) → Within n (letters_of z' x' j)
  added-within W j =
      record {
        no-x = λ q l. added-x n k in-x i z x z' x' A j q
            ∙ ap₂ (λ a b. a ⊕ (named j && b)) ((W j).no-x q l) ((W k).no-x q l) ∙ and-false (named j);
        no-z = λ q l. added-z n k in-x i z x z' x' A j q
            ∙ ap₂ (λ a b. a ⊕ (named j && b)) ((W j).no-z q l) ((W k).no-z q l) ∙ and-false (named j);
      }

-- ---- the loop's invariant: the rows before k have their pivots
pub record Pivoted (n : ℕ) (R₀ : ℕ → Pauli) (z x : List ℕ) (k : ℕ) : Type 0 where
  pub z-long : length z ≡ 64
  pub x-long : length x ≡ 64
  pub upto : k ≤ n
  pub same : Independent n R₀ ↔ Independent n (letters_of z x)
  pub within : (j : ℕ) → Within n (letters_of z x j)
  pub pivots : (i : ℕ) → i < k → Pivot n (letters_of z x) i

-- the arrays that the lists are copied into
pub pivoted-start : (n : ℕ) (z₀ x₀ z x : List ℕ) → length z₀ ≡ n → length x₀ ≡ n → length z ≡ 64 → length x ≡ 64
    → ((j : ℕ) → get_or z j 0 ≡ get_or z₀ j 0) → ((j : ℕ) → get_or x j 0 ≡ get_or x₀ j 0)
    → ((j : ℕ) → j < n → Within n (letters_of z₀ x₀ j)) → Pivoted n (letters_of z₀ x₀) z x 0
pivoted-start n z₀ x₀ z x lz₀ lx₀ lz lx ez ex W =
    record {
      z-long = lz;
      x-long = lx;
      upto = zero-le;
      same = (
        independent-letters n (letters_of z₀ x₀) (letters_of z x) (record {
          same-x = λ j l q. ap (λ v. bit v q) (sym (ex j));
          same-z = λ j l q. ap (λ v. bit v q) (sym (ez j));
        }),
        independent-letters n (letters_of z x) (letters_of z₀ x₀) (record {
          same-x = λ j l q. ap (λ v. bit v q) (ex j);
          same-z = λ j l q. ap (λ v. bit v q) (ez j);
        }),
      );
      within = λ j. record {
        no-x = λ q l. ap (λ v. bit v q) (ex j) ∙ none x₀ lx₀ j q (λ k. (W j k).no-x q l);
        no-z = λ q l. ap (λ v. bit v q) (ez j) ∙ none z₀ lz₀ j q (λ k. (W j k).no-z q l);
      };
      pivots = λ i l. absurd (not-suc-le-zero l);
    }
  where
    -- past the list there is no bit
    none : (words : List ℕ) → length words ≡ n → (j q : ℕ) → (j < n → bit (get_or words j 0) q ≡ false)
        → bit (get_or words j 0) q ≡ false
    none words e j q h = elim (lt-or-ge j n) [
      | inl l ↦ h l
      | inr l ↦ ap (λ v. bit v q) (get_or-eq_default words 0 (subst (λ m. m ≤ j) (sym e) l)) ∙ zero_bit q
    ]

module _ (n : ℕ) (R₀ : ℕ → Pauli) (z x : List ℕ) (k : ℕ) (P : Pivoted n R₀ z x k) where
  -- all rows have their pivots
  pub all-pivoted : n ≤ k → true ≡ not (dependent n R₀)
  all-pivoted l = ap not (sym ((independent-exactly n R₀).1 (P.same.1
      (pivots-independent n (letters_of z x) (λ i m. P.pivots i (omega arith))))))

  -- row k: its x word where that has a bit, else its z word
  module _ (more : k < n) (word : ℕ) (w : word ≡ cond (not (eqb (get_or x k 0) 0)) (get_or x k 0) (get_or z k 0)) where
    abbrev in-x : Bool
    in-x = not (eqb (get_or x k 0) 0)

    blank : (b : Bool) → eqb (get_or x k 0) 0 ≡ b → word ≡ 0 → (get_or x k 0 ≡ 0) × (get_or z k 0 ≡ 0)
    blank true e h =
        (eqb-true (get_or x k 0) 0 e, sym (w ∙ ap (λ b. cond (not b) (get_or x k 0) (get_or z k 0)) e) ∙ h)
    blank false e h =
        absurd (eqb-false (get_or x k 0) 0 e (sym (w ∙ ap (λ b. cond (not b) (get_or x k 0) (get_or z k 0)) e) ∙ h))

    -- it has no letter left
    pub blank-found : word ≡ 0 → false ≡ not (dependent n R₀)
    blank-found h = sym (ap not (found (dependent n R₀) refl))
      where
        zero : Trivial n (letters_of z x k)
        zero =
            record {
              no-x = λ q l. ap (λ v. bit v q) (blank _ refl h).0 ∙ zero_bit q;
              no-z = λ q l. ap (λ v. bit v q) (blank _ refl h).1 ∙ zero_bit q;
            }

        found : (b : Bool) → dependent n R₀ ≡ b → dependent n R₀ ≡ true
        found true e = e
        found false e = absurd (blank-dependent n (letters_of z x) k more zero
            (P.same.0 ((independent-exactly n R₀).0 e)))

    -- it has one, at its smallest set bit
    module _ (small : n ≤ 64) (left : word ≡ 0 → ⊥) (i : ℕ) (at : i ≡ count_trailing_zeros 64 word) where
      word-bit : (q : ℕ) → bit word q ≡ letter_bit in-x q (letters_of z x k)
      word-bit q = ap (λ v. bit v q) w ∙ go in-x
        where
          go : (b : Bool) → bit (cond b (get_or x k 0) (get_or z k 0)) q ≡ letter_bit b q (letters_of z x k)
          go false = refl
          go true = refl

      word-above : (q : ℕ) → n ≤ q → bit word q ≡ false
      word-above q l = word-bit q ∙ go in-x
        where
          go : (b : Bool) → letter_bit b q (letters_of z x k) ≡ false
          go false = (P.within k).no-z q l
          go true = (P.within k).no-x q l

      set_at : IsFirst 64 (bit word) i
      set_at =
          subst (IsFirst 64 (bit word)) (sym at)
          (trailing-set 64 word (lt_of_lt_of_le (lt-of-bits n word word-above) (pow_mono small)) left)

      pub place-below : i < 64
      place-below = set_at.below

      inside : i < n
      inside = elim (lt-or-ge i n) [
        | inl l ↦ l
        | inr l ↦ absurd (true≢false (sym set_at.passes ∙ word-above i l))
      ]

      pub pivoted-next : (z' x' : List ℕ) → Added n k in-x i z x z' x' → Pivoted n R₀ z' x' (k + 1)
      pivoted-next z' x' A =
          record {
            z-long = A.z-long;
            x-long = A.x-long;
            upto = omega arith;
            same = (
              λ H. (added-independent n k more in-x i z x z' x' A).0 (P.same.0 H),
              λ H. P.same.1 ((added-independent n k more in-x i z x z' x' A).1 H),
            );
            within = added-within n k more in-x i z x z' x' A P.within;
            pivots = below_more (Pivot n (letters_of z' x')) k
                (λ t l. kept-pivot n k more in-x i z x z' x' A t l (P.pivots t l))
                (added-pivot n k more in-x i z x z' x' A inside (sym (word-bit i) ∙ set_at.passes));
          }
