-- Signs and relative signs: they differ where a row's pairs of Y are odd in number.
use mathlib.Core.Bool.{◌&&◌, Bool, and-false, false, true}
use mathlib.Core.List.{List, []}
use mathlib.Core.Logic.{inl, inr, ◌⊎◌}
use mathlib.Core.Path.{ap, ap₂, fun_ext, refl, subst, sym, ◌∙◌, ◌≡◌}
use Prim.Native.Nat.{◌+◌, ◌*◌, ◌/◌, ◌<◌, ◌^◌, ℕ, ◌≤◌}
use native.Mathlib.Decide.{ℕ_discrete}
use native.Mathlib.Nat.{le_trans}
use native.Mathlib.Omega.{arith}
use lib.Bits.{and_zero_l, bit_and}
use lib.Count.{ones, ones_cat}
use lib.Dec.{eqb, ltb}
use lib.ListN.{get_or}
use lib.Pow.{pow_pos}
use borrow.Author.Tests.{le-ltb, lt-ltb}
use Rattle.pauli.specs.Pauli.{Pauli, signed_row}
use Rattle.record_reduction.specs.internal.Relative.{half_y, relative}
use Rattle.stabilizer.specs.internal.Tableau.{tableau}
use Rattle.words.proofs.BitLaws.{bit-and, bit-ext∞, bit-single, zero_bit}
use Rattle.words.proofs.Finite.{⊕-assoc, ⊕-twice, ⊕-zero}
use Rattle.words.proofs.Places.{other_place, upto-with}
use Rattle.words.proofs.Sums.{lt-or-ge}
use Rattle.words.specs.Bits.{bit, is_odd, ◌⊕◌}
use Rattle.record_reduction.specs.internal.Passes.{Loaded}

-- a row without z letters has no Y
pub no_pairs : (z x : ℕ) → ((q : ℕ) → bit z q ≡ false) → half_y z x ≡ false
unfolding half_y ones
no_pairs z x e =
    ap (λ v. is_odd (ones (bit_and v x) / 2)) (bit-ext∞ z 0 (λ q. e q ∙ sym (zero_bit q)))
    ∙ ap (λ v. is_odd (ones v / 2)) (and_zero_l x)

-- a word of one bit
ones-single : (j : ℕ) → ones (2 ^ j) ≡ 1
unfolding ones
ones-single j = ap ones (one-times (2 ^ j)) ∙ ones_cat j 1 0 (pow_pos j)
  where
    one-times : (v : ℕ) → v ≡ 1 * v + 0
    one-times v = omega arith

-- a row with one x letter has no pair of Y
pub one_place : (z x j : ℕ) → ((q : ℕ) → bit x q ≡ eqb j q) → half_y z x ≡ false
unfolding half_y ones
one_place z x j e = go (bit z j) refl
  where
    at : (q : ℕ) → Dec (j ≡ q) → (bit z q && eqb j q) ≡ (bit z j && eqb q j)
    at q (yes p) = ap (λ v. bit z v && eqb j v) (sym p) ∙ ap (λ v. bit z j && eqb v j) p
    at q (no d) =
        ap (λ b. bit z q && b) (other_place d) ∙ and-false (bit z q)
        ∙ sym (ap (λ b. bit z j && b) (other_place (λ p. d (sym p))) ∙ and-false (bit z j))

    both : (q : ℕ) → bit (bit_and z x) q ≡ (bit z j && eqb q j)
    both q = bit-and z x q ∙ ap (λ b. bit z q && b) (e q) ∙ at q (ℕ_discrete j q)

    go : (b : Bool) → bit z j ≡ b → is_odd (ones (bit_and z x) / 2) ≡ false
    go true h =
        ap (λ v. is_odd (ones v / 2))
        (bit-ext∞ (bit_and z x) (2 ^ j) (λ q. both q ∙ ap (λ b. b && eqb q j) h ∙ sym (bit-single j q)))
        ∙ ap (λ v. is_odd (v / 2)) (ones-single j)
    go false h =
        ap (λ v. is_odd (ones v / 2))
        (bit-ext∞ (bit_and z x) 0 (λ q. both q ∙ ap (λ b. b && eqb q j) h ∙ sym (zero_bit q)))

-- ---- row after row
module _ (rows : List (List ℕ)) (signs₀ n : ℕ) where
  -- the pairs of Y in row j
  abbrev half : ℕ → Bool
  half j = half_y (get_or (get_or rows j []) 0 0) (get_or (get_or rows j []) 1 0)

  pub record Paired (signs k : ℕ) : Type 0 where
    pub upto : k ≤ n
    pub paired : (j : ℕ) → bit signs j
        ≡ bit signs₀ j ⊕ (ltb j k && half_y (get_or (get_or rows j []) 0 0) (get_or (get_or rows j []) 1 0))

  pub paired-step : (signs k : ℕ) → Paired signs k → k < n → {signs' : ℕ} {b : Bool}
      → b ≡ half_y (get_or (get_or rows k []) 0 0) (get_or (get_or rows k []) 1 0)
      → ((j : ℕ) → bit signs' j ≡ bit signs j ⊕ (eqb j k && b)) → Paired signs' (k + 1)
  paired-step signs k P l e h =
      record {
        upto = omega arith;
        paired = λ j. h j ∙ ap₂ (λ u v. u ⊕ (eqb j k && v)) (P.paired j) e
            ∙ ⊕-assoc (bit signs₀ j) (ltb j k && half j) (eqb j k && half k)
            ∙ ap (λ b. bit signs₀ j ⊕ b) (upto-with half k j);
      }

  pub paired-end : (signs k : ℕ) → Paired signs k → n ≤ k → Loaded n (tableau signs₀ rows) → (j : ℕ)
      → relative (bit signs) rows j ≡ tableau signs₀ rows j
  paired-end signs k P l L j =
      ap (λ b. signed_row (b ⊕ half j) (get_or (get_or rows j []) 0 0) (get_or (get_or rows j []) 1 0))
      (P.paired j ∙ ap (λ b. bit signs₀ j ⊕ b) (go (lt-or-ge j k)))
      ∙ ap (λ b. signed_row b (get_or (get_or rows j []) 0 0) (get_or (get_or rows j []) 1 0)) (⊕-twice (bit signs₀ j) (half j))
    where
      go : (j < k) ⊎ (k ≤ j) → (ltb j k && half j) ≡ half j
      go (inl h) = ap (λ b. b && half j) (lt-ltb j k h)
      go (inr h) =
          ap (λ b. b && half j) (le-ltb j k h)
          ∙ sym (no_pairs (get_or (get_or rows j []) 0 0) (get_or (get_or rows j []) 1 0)
          (λ q. ap (λ p. p.z q) (L.beyond j (le_trans l h))))

-- where no row has a pair of Y, the two are the same
pub not-paired : (signs : ℕ) (rows : List (List ℕ))
    → ((j : ℕ) → half_y (get_or (get_or rows j []) 0 0) (get_or (get_or rows j []) 1 0) ≡ false)
    → (j : ℕ) → tableau signs rows j ≡ relative (bit signs) rows j
not-paired signs rows e j =
    ap (λ b. signed_row b (get_or (get_or rows j []) 0 0) (get_or (get_or rows j []) 1 0))
    (sym (ap (λ b. bit signs j ⊕ b) (e j) ∙ ⊕-zero (bit signs j)))

-- rows that are the same, relative or not
pub related-loaded : (n : ℕ) {R S : ℕ → Pauli} → ((j : ℕ) → R j ≡ S j) → Loaded n S → Loaded n R
related-loaded n e L = subst (Loaded n) (sym (fun_ext e)) L
