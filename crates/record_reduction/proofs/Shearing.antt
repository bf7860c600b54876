-- One row multiplied into the rows that a word names, as the code does it: row after row, by rising number. Its sign is
-- laid on all of them at the start; the letters' sign comes with each row.
use mathlib.Core.Bool.{◌&&◌, Bool, beq, and-false, and-true, false, not, true, true≢false}
use mathlib.Core.List.{List, [], ◌∷◌}
use mathlib.Core.Logic.{◌≢◌}
use mathlib.Core.Path.{ap, ap₂, refl, subst, sym, ◌∙◌, ◌≡◌}
use Prim.Native.Nat.{◌<◌, ◌^◌, ℕ, ◌≤◌}
use native.Mathlib.Decide.{ℕ_discrete}
use lib.Bits.{bit_xor}
use lib.Count.{count_trailing_zeros}
use lib.Dec.{eqb}
use lib.ListN.{get_or, length, length-set, set}
use lib.Seq.{get_or-set_other, get_or-set_same}
use Rattle.pauli.proofs.PauliLaws.{anticommute-letters, mul-identity}
use Rattle.pauli.proofs.WordRows.{signed_mul}
use Rattle.pauli.specs.Pauli.{Pauli, anticommute, i⁰, minus, mul, row, signed_row}
use Rattle.stabilizer.specs.Elimination.{shear}
use Rattle.stabilizer.specs.Groups.{chosen}
use Rattle.words.proofs.BitLaws.{bit-flip, bit-single, bit-xor, lt-of-bits, zero_bit}
use Rattle.words.proofs.Finite.{bits, unequal, ⊕-self, ⊕-zero}
use Rattle.words.proofs.Places.{other_place, same_place}
use Rattle.words.proofs.Trailing.{trailing-set}
use Rattle.words.specs.Bits.{Word, bit, ◌⊕◌}
use Rattle.record_reduction.specs.internal.Relative.{half_y, relative, relative_row}

module _ (rows₀ : List (List ℕ)) (signs₀ : Word) (a named : ℕ) where
  -- what the rows named, but not left in rest, have become
  abbrev partly : ℕ → ℕ → Pauli
  partly rest = shear 64 (relative signs₀ rows₀) a (λ k. bit named k && not (bit rest k))

  pub record Sheared (rows : List (List ℕ)) (signs : Word) (rest : ℕ) : Type 0 where
    pub long : length rows ≡ 64
    pub part : (j : ℕ) → bit rest j ≡ true → bit named j ≡ true
    pub sheared : (j : ℕ) →
        relative signs rows j ≡ shear 64 (relative signs₀ rows₀) a (λ k. bit named k && not (bit rest k)) j

  -- a row that is not named stays
  not_named : (b : Bool) (j : ℕ) → b ≡ false →
      mul 64 (relative signs₀ rows₀ j) (chosen b (relative signs₀ rows₀ a)) ≡ relative signs₀ rows₀ j
  not_named b j e =
      ap (λ b. mul 64 (relative signs₀ rows₀ j) (chosen b (relative signs₀ rows₀ a))) e
      ∙ mul-identity 64 (relative signs₀ rows₀ j)

  pub shear-start : length rows₀ ≡ 64 → Sheared rows₀ signs₀ named
  shear-start l =
      record {
        long = l;
        part = λ j e. e;
        sheared = λ j. sym (not_named (bit named j && not (bit named j)) j (and-not (bit named j)));
      }
    where
      and-not : (b : Bool) → (b && not b) ≡ false
      and-not false = refl
      and-not true = refl

  pub shear-end : (rows : List (List ℕ)) (signs : Word) (rest : ℕ) → Sheared rows signs rest
      → ((j : ℕ) → bit rest j ≡ false) → (j : ℕ) →
      relative signs rows j ≡ shear 64 (relative signs₀ rows₀) a (bit named) j
  shear-end rows signs rest S e j =
      S.sheared j
      ∙ ap (λ b. mul 64 (relative signs₀ rows₀ j) (chosen b (relative signs₀ rows₀ a)))
      (ap (λ b. bit named j && not b) (e j) ∙ and-true (bit named j))

  -- rest has bits of named alone, so it is a word of 64 bits too
  pub rest_lt : (rows : List (List ℕ)) (signs : Word) (rest : ℕ) → Sheared rows signs rest
      → ((q : ℕ) → 64 ≤ q → bit named q ≡ false) → rest < 2 ^ 64
  rest_lt rows signs rest S h = lt-of-bits 64 rest (λ q l. go q l (bit rest q) refl)
    where
      go : (q : ℕ) → 64 ≤ q → (b : Bool) → bit rest q ≡ b → b ≡ false
      go q l false e = refl
      go q l true e = absurd (true≢false (sym (S.part q e) ∙ h q l))

  -- the next row: the smallest that is left
  pub next_row : (rows : List (List ℕ)) (signs : Word) (rest : ℕ) {j : ℕ} → Sheared rows signs rest
      → ((q : ℕ) → 64 ≤ q → bit named q ≡ false) →
      (rest ≡ 0 → ⊥) → j ≡ count_trailing_zeros 64 rest → (j < 64) × (bit rest j ≡ true)
  next_row rows signs rest S h nonzero e =
      let F = trailing-set 64 rest (rest_lt rows signs rest S h) nonzero in
      (subst (λ v. v < 64) (sym e) F.below, ap (bit rest) e ∙ F.passes)

  -- row j, the next one
  module _ (rows : List (List ℕ)) (signs : Word) (rest j : ℕ) (S : Sheared rows signs rest) (left : bit rest j ≡ true)
      (hj : j < 64)
      (commute : (j : ℕ) → bit named j ≡ true →
      anticommute 64 (relative signs₀ rows₀ j) (relative signs₀ rows₀ a) ≡ false) where
    is-named : bit named j ≡ true
    is-named = S.part j left

    -- it is still what it was
    still : relative signs rows j ≡ relative signs₀ rows₀ j
    still = S.sheared j
        ∙ not_named (bit named j && not (bit rest j)) j (ap (λ b. bit named j && not b) left
        ∙ and-false (bit named j))

    -- it commutes with row a, so the letters of their product have a sign
    pub next-commutes :
        anticommute 64 (row i⁰ (get_or (get_or rows j []) 0 0) (get_or (get_or rows j []) 1 0))
        (row i⁰ (get_or (get_or rows₀ a []) 0 0) (get_or (get_or rows₀ a []) 1 0)) ≡ false
    next-commutes =
        anticommute-letters 64 (relative signs rows j) (relative signs₀ rows₀ a) i⁰ i⁰
        ∙ ap (λ p. anticommute 64 p (relative signs₀ rows₀ a)) still ∙ commute j is-named

    module _ (rows' : List (List ℕ)) (signs' : Word) (rest' : ℕ) (negative : Bool)
        (m : (mul 64 (row i⁰ (get_or (get_or rows j []) 0 0) (get_or (get_or rows j []) 1 0))
        (row i⁰ (get_or (get_or rows₀ a []) 0 0) (get_or (get_or rows₀ a []) 1 0))).phase
        ≡ minus (((negative ⊕ half_y (get_or (get_or rows j []) 0 0) (get_or (get_or rows j []) 1 0))
        ⊕ half_y (get_or (get_or rows₀ a []) 0 0) (get_or (get_or rows₀ a []) 1 0))
        ⊕ half_y (bit_xor (get_or (get_or rows j []) 0 0) (get_or (get_or rows₀ a []) 0 0))
        (bit_xor (get_or (get_or rows j []) 1 0) (get_or (get_or rows₀ a []) 1 0))))
        (r : rows' ≡ set rows j (bit_xor (get_or (get_or rows j []) 0 0) (get_or (get_or rows₀ a []) 0 0)
        ∷ bit_xor (get_or (get_or rows j []) 1 0) (get_or (get_or rows₀ a []) 1 0) ∷ []))
        (s : (k : ℕ) → signs' k ≡ signs k ⊕ (eqb k j && (signs₀ a ⊕ negative)))
        (f : rest' ≡ bit_xor rest (2 ^ j)) where
      bit-rest : (k : ℕ) → bit rest' k ≡ bit rest k ⊕ eqb k j
      bit-rest k = ap (λ v. bit v k) f ∙ bit-flip rest j k

      -- the halves of the counts of Y: of row j, of row a and of their product
      abbrev half : Bool
      half = half_y (get_or (get_or rows j []) 0 0) (get_or (get_or rows j []) 1 0)

      abbrev half-a : Bool
      half-a = half_y (get_or (get_or rows₀ a []) 0 0) (get_or (get_or rows₀ a []) 1 0)

      abbrev half' : Bool
      half' = half_y (bit_xor (get_or (get_or rows j []) 0 0) (get_or (get_or rows₀ a []) 0 0))
          (bit_xor (get_or (get_or rows j []) 1 0) (get_or (get_or rows₀ a []) 1 0))

      -- the new row j is the product
      here : relative signs' rows' j ≡ mul 64 (relative signs₀ rows₀ j) (relative signs₀ rows₀ a)
      here =
          ap₂ relative_row (s j ∙ ap (λ v. signs j ⊕ (v && (signs₀ a ⊕ negative))) (same_place j))
          (ap (λ v. get_or v j []) r ∙ get_or-set_same rows j _ [] (subst (λ k. j < k) (sym S.long) hj))
          ∙ ap (λ t. signed_row t (bit_xor (get_or (get_or rows j []) 0 0) (get_or (get_or rows₀ a []) 0 0))
          (bit_xor (get_or (get_or rows j []) 1 0) (get_or (get_or rows₀ a []) 1 0)))
          (sums (signs j) (signs₀ a) negative half half-a half')
          ∙ sym (signed_mul 64 (get_or (get_or rows j []) 0 0) (get_or (get_or rows j []) 1 0)
          (get_or (get_or rows₀ a []) 0 0) (get_or (get_or rows₀ a []) 1 0) (signs j ⊕ half) (signs₀ a ⊕ half-a)
          (((negative ⊕ half) ⊕ half-a) ⊕ half') m)
          ∙ ap (λ p. mul 64 p (relative signs₀ rows₀ a)) still
        where
          sums : (u v w h k l : Bool) → (u ⊕ (v ⊕ w)) ⊕ l ≡ ((u ⊕ h) ⊕ (v ⊕ k)) ⊕ (((w ⊕ h) ⊕ k) ⊕ l)
          sums = bits 6 (λ u v w h k l. (u ⊕ (v ⊕ w)) ⊕ l) (λ u v w h k l. ((u ⊕ h) ⊕ (v ⊕ k)) ⊕ (((w ⊕ h) ⊕ k) ⊕ l)) tt

      there : (k : ℕ) → k ≢ j → relative signs' rows' k ≡ relative signs rows k
      there k d =
          ap₂ relative_row
          (s k ∙ ap (λ v. signs k ⊕ (v && (signs₀ a ⊕ negative))) (other_place d) ∙ ⊕-zero (signs k))
          (ap (λ v. get_or v k []) r ∙ get_or-set_other rows j k _ [] d)

      pub shear-step : Sheared rows' signs' rest'
      shear-step =
          record {
            long = ap length r ∙ length-set rows j _ ∙ S.long;
            part = λ k e. S.part k (was-left k e (ℕ_discrete k j));
            sheared = λ k. at k (ℕ_discrete k j);
          }
        where
          was-left : (k : ℕ) → bit rest' k ≡ true → Dec (k ≡ j) → bit rest k ≡ true
          was-left k e (yes p) = ap (bit rest) p ∙ left
          was-left k e (no d) = sym (⊕-zero (bit rest k)) ∙ ap (λ b. bit rest k ⊕ b) (sym (other_place d))
              ∙ sym (bit-rest k) ∙ e

          done-here : (bit named j && not (bit rest' j)) ≡ true
          done-here = ap₂ (λ u v. u && not v) is-named (bit-rest j ∙ ap₂ ◌⊕◌ left (same_place j))

          at : (k : ℕ) → Dec (k ≡ j) → relative signs' rows' k ≡ partly rest' k
          at k (yes p) =
              subst (λ v. relative signs' rows' v ≡ partly rest' v) (sym p)
              (here ∙ ap (λ b. mul 64 (relative signs₀ rows₀ j) (chosen b (relative signs₀ rows₀ a)))
              (sym done-here))
          at k (no d) =
              there k d ∙ S.sheared k
              ∙ ap (λ b. mul 64 (relative signs₀ rows₀ k)
              (chosen (bit named k && not b) (relative signs₀ rows₀ a)))
              (sym (bit-rest k ∙ ap (λ b. bit rest k ⊕ b) (other_place d) ∙ ⊕-zero (bit rest k)))

-- ---- one row alone
module _ (rows : List (List ℕ)) (signs a j : ℕ) (long : length rows ≡ 64) (hj : j < 64)
    (commutes : (k : ℕ) → bit (2 ^ j) k ≡ true →
    anticommute 64 (relative (bit signs) rows k) (relative (bit signs) rows a) ≡ false) where
  left_alone : bit (2 ^ j) j ≡ true
  left_alone = bit-single j j ∙ same_place j

  pub alone-commutes :
      anticommute 64 (row i⁰ (get_or (get_or rows j []) 0 0) (get_or (get_or rows j []) 1 0))
      (row i⁰ (get_or (get_or rows a []) 0 0) (get_or (get_or rows a []) 1 0)) ≡ false
  alone-commutes =
      next-commutes rows (bit signs) a (2 ^ j) rows (bit signs) (2 ^ j) j
      (shear-start rows (bit signs) a (2 ^ j) long) left_alone hj commutes

  module _ (rows' : List (List ℕ)) (signs' : ℕ) (sign negative : Bool) (b : sign ≡ bit signs a)
      (m : (mul 64 (row i⁰ (get_or (get_or rows j []) 0 0) (get_or (get_or rows j []) 1 0))
      (row i⁰ (get_or (get_or rows a []) 0 0) (get_or (get_or rows a []) 1 0))).phase
      ≡ minus (((negative ⊕ half_y (get_or (get_or rows j []) 0 0) (get_or (get_or rows j []) 1 0))
      ⊕ half_y (get_or (get_or rows a []) 0 0) (get_or (get_or rows a []) 1 0))
      ⊕ half_y (bit_xor (get_or (get_or rows j []) 0 0) (get_or (get_or rows a []) 0 0))
      (bit_xor (get_or (get_or rows j []) 1 0) (get_or (get_or rows a []) 1 0))))
      (r : rows' ≡ set rows j (bit_xor (get_or (get_or rows j []) 0 0) (get_or (get_or rows a []) 0 0)
      ∷ bit_xor (get_or (get_or rows j []) 1 0) (get_or (get_or rows a []) 1 0) ∷ []))
      (s : (k : ℕ) → bit signs' k ≡ bit signs k ⊕ (eqb k j && not (beq sign negative))) where
    step : Sheared rows (bit signs) a (2 ^ j) rows' (bit signs') (bit_xor (2 ^ j) (2 ^ j))
    step =
        shear-step rows (bit signs) a (2 ^ j) rows (bit signs) (2 ^ j) j
        (shear-start rows (bit signs) a (2 ^ j) long) left_alone hj commutes rows' (bit signs') _ negative m r
        (λ k. s k ∙ ap (λ v. bit signs k ⊕ (eqb k j && v)) (unequal sign negative ∙ ap (λ v. v ⊕ negative) b)) refl

    pub alone-long : length rows' ≡ 64
    alone-long = step.long

    pub alone-sheared : (k : ℕ) → relative (bit signs') rows' k ≡ shear 64 (relative (bit signs) rows) a (bit (2 ^ j)) k
    alone-sheared = shear-end rows (bit signs) a (2 ^ j) rows' (bit signs') _ step
        (λ k. bit-xor (2 ^ j) (2 ^ j) k ∙ ⊕-self (bit (2 ^ j) k))

-- ---- the sign of row a laid on all rows named at the start
-- the signs as they were before, and as the rows that are left have them
abbrev pub without_sign : ℕ → Bool → ℕ → Word
without_sign signs sign rest k = bit signs k ⊕ (sign && bit rest k)

-- the signs before it was laid
pub laid_on : (signs₀ signs named flips : ℕ) (sign : Bool) → ((k : ℕ) → bit flips k ≡ (sign && bit named k))
    → signs ≡ bit_xor signs₀ flips → (k : ℕ) → without_sign signs sign named k ≡ bit signs₀ k
laid_on signs₀ signs named flips sign f e k =
    ap (λ v. v ⊕ (sign && bit named k)) (ap (λ v. bit v k) e ∙ bit-xor signs₀ flips k ∙ ap (λ v. bit signs₀ k ⊕ v)
    (f k))
    ∙ bits 2 (λ u v. (u ⊕ v) ⊕ v) (λ u v. u) tt (bit signs₀ k) (sign && bit named k)

-- row a is not named: its sign is the one that was laid
pub sign_kept : (signs₀ a named : ℕ) (sign : Bool) → bit named a ≡ false
    → without_sign signs₀ sign named a ≡ bit signs₀ a
sign_kept signs₀ a named sign e = ap (λ b. bit signs₀ a ⊕ (sign && b)) e
    ∙ bits 2 (λ u v. u ⊕ (v && false)) (λ u v. u) tt (bit signs₀ a) sign

-- a row that is done has it, and the letters' sign
pub sign-step : (signs signs' rest rest' j : ℕ) (sign sign₀ negative : Bool) → sign₀ ≡ sign
    → ((k : ℕ) → bit signs' k ≡ bit signs k ⊕ (eqb k j && negative)) → rest' ≡ bit_xor rest (2 ^ j)
    → (k : ℕ) → without_sign signs' sign rest' k ≡ without_sign signs sign rest k ⊕ (eqb k j && (sign₀ ⊕ negative))
sign-step signs signs' rest rest' j sign sign₀ negative e s f k =
    ap₂ (λ u v. u ⊕ (sign && v)) (s k) (ap (λ v. bit v k) f ∙ bit-flip rest j k)
    ∙ bits 5 (λ u v w h g. (u ⊕ (v && w)) ⊕ (h && (g ⊕ v))) (λ u v w h g. (u ⊕ (h && g)) ⊕ (v && (h ⊕ w))) tt
    (bit signs k) (eqb k j) negative sign (bit rest k)
    ∙ ap (λ v. without_sign signs sign rest k ⊕ (eqb k j && (v ⊕ negative))) (sym e)

-- no row is left
pub sign-end : (signs rest : ℕ) (sign : Bool) → rest ≡ 0 → (k : ℕ) → without_sign signs sign rest k ≡ bit signs k
sign-end signs rest sign e k = ap (λ b. bit signs k ⊕ (sign && b)) (ap (λ v. bit v k) e ∙ zero_bit k)
    ∙ bits 2 (λ u v. u ⊕ (v && false)) (λ u v. u) tt (bit signs k) sign
