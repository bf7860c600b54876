-- The words of the bits C and D of a record's codes, by a loop over the vertices; and the state at the start of the
-- rule.
use mathlib.Core.Bool.{◌&&◌, Bool, false, true}
use mathlib.Core.List.{List}
use mathlib.Core.Logic.{inl, inr}
use mathlib.Core.Path.{ap, ap₂, refl, sym, ◌∙◌, ◌≡◌}
use Prim.Native.Nat.{◌+◌, ◌<◌, ℕ, ◌≤◌}
use native.Mathlib.Nat.{le_of_eq, le_trans}
use native.Mathlib.Omega.{arith}
use lib.Dec.{eqb, ltb}
use lib.ListN.{get_or-eq_default, length}
use borrow.Author.Tests.{le-ltb, lt-ltb}
use Rattle.clifford.specs.Clifford.{Clifford, bit_c, bit_d, clifford_of}
use Rattle.clifford.specs.Vectors.{codes_of}
use Rattle.image_impl.specs.internal.Working.{Tracking, working}
use Rattle.operations.proofs.UnrefusedRecords.{unrefused-long}
use Rattle.operations.specs.internal.InPlace.{Unrefused, record_in}
use Rattle.words.proofs.BitLaws.{zero_bit}
use Rattle.words.proofs.Places.{upto-with}
use Rattle.words.proofs.Sums.{lt-or-ge}
use Rattle.words.specs.Bits.{◌⊕◌, bit}

-- the word has the bit f of each code below q
abbrev pub BitsBelow : List ℕ → (Clifford → Bool) → ℕ → ℕ → Type 0
BitsBelow codes f w q = (j : ℕ) → bit w j ≡ (ltb j q && f (codes_of codes j))

module _ (codes : List ℕ) (f : Clifford → Bool) where
  pub bits_none : BitsBelow codes f 0 0
  bits_none j = zero_bit j ∙ ap (λ b. b && f (codes_of codes j)) (sym (le-ltb j 0 (omega arith)))

  pub bits-one : (w q w' : ℕ) (here : Bool) → BitsBelow codes f w q → here ≡ f (codes_of codes q)
      → ((j : ℕ) → bit w' j ≡ bit w j ⊕ (eqb j q && here)) → BitsBelow codes f w' (q + 1)
  bits-one w q w' here B h e j =
      e j ∙ ap₂ (λ u v. u ⊕ (eqb j q && v)) (B j) h ∙ upto-with (λ i. f (codes_of codes i)) q j

  module _ (w q : ℕ) (B : BitsBelow codes f w q) (all : length codes ≤ q) where
    pub bits-here : (j : ℕ) → j < length codes → bit w j ≡ f (codes_of codes j)
    bits-here j l = B j ∙ ap (λ b. b && f (codes_of codes j)) (lt-ltb j q (omega (arith, l, all)))

    module _ (none : f (clifford_of 0) ≡ false) where
      -- at and above the length stands code 0
      past : (j : ℕ) → length codes ≤ j → f (codes_of codes j) ≡ false
      past j l = ap (λ c. f (clifford_of c)) (get_or-eq_default codes 0 l) ∙ none

      pub bits_above : (j : ℕ) → length codes ≤ j → bit w j ≡ false
      bits_above j l = B j ∙ ap (λ b. ltb j q && b) (past j l) ∙ never (ltb j q)
        where
          never : (b : Bool) → (b && false) ≡ false
          never false = refl
          never true = refl

      pub bits-all : (j : ℕ) → bit w j ≡ f (codes_of codes j)
      bits-all j = elim (lt-or-ge j (length codes)) [
        | inl l ↦ bits-here j l
        | inr l ↦ bits_above j l ∙ sym (past j l)
      ]

-- the state at the start
pub begun : (codes : List ℕ) (c d q : ℕ) → BitsBelow codes bit_c c q → BitsBelow codes bit_d d q → length codes ≤ q
    → (words list : List ℕ) → Unrefused (record_in words codes) → length list ≡ 96
    → Tracking (length words) (working words codes list (record { c = c; d = d; count = 0 }))
begun codes c d q C D all words list U long =
    record {
      long = refl;
      unrefused = U;
      C = bits-all codes bit_c c q C all refl;
      D = λ j l. bits-here codes bit_d d q D all j (omega (arith, l, held));
      above = λ j l. bits_above codes bit_c c q C all refl j (le_trans (le_of_eq held) l);
      places = long;
    }
  where
    held : length codes ≡ length words
    held = unrefused-long words codes U
