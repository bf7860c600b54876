-- Hadamards on the columns that a word names: z and x are exchanged there, and the sign flips for each Y.
use mathlib.Core.Bool.{◌&&◌, Bool, cond, false}
use mathlib.Core.List.{List, [], ◌∷◌}
use mathlib.Core.Logic.{inl, inr, ◌≢◌, ◌⊎◌}
use mathlib.Core.Path.{ap, ap₂, refl, subst, sym, ◌∙◌, ◌≡◌}
use Prim.Native.Nat.{◌+◌, ◌/◌, ◌<◌, ◌^◌, ℕ, ◌≤◌}
use native.Mathlib.Nat.{le_refl, le_trans, lt_irrefl, lt_of_lt_of_le}
use native.Mathlib.Omega.{arith}
use lib.Bits.{bit_and, bit_xor}
use lib.Count.{ones}
use lib.Dec.{eqb}
use lib.ListN.{get_or, length, length-set, set}
use lib.Seq.{get_or-set_other, get_or-set_same}
use borrow.Author.Count.{below_more}
use Rattle.clifford.proofs.VectorLaws.{act-identity}
use Rattle.clifford.specs.Clifford.{clifford_of, identity_clifford, image, image_phase}
use Rattle.clifford.specs.Vectors.{act}
use Rattle.pauli.proofs.PauliLaws.{Pauli-path}
use Rattle.pauli.proofs.PhaseLaws.{minus-⊕, phases}
use Rattle.pauli.specs.Pauli.{◌+ᵖ◌, identity, i⁰, letter, minus, signed_row, sum_phase, x_bit, z_bit}
use Rattle.record.specs.Reduced.{hadamard_where}
use Rattle.record_reduction.specs.internal.Relative.{half_y, relative, relative_row}
use Rattle.words.proofs.BitLaws.{and-lt-right, bit-and, bit-ext∞, bit-xor}
use Rattle.words.proofs.Finite.{bits, ⊕-zero}
use Rattle.words.proofs.OnesLaws.{parity-ones}
use Rattle.words.proofs.Places.{other_place, same_place}
use Rattle.words.proofs.Sums.{fold-ext, fold-hom, lt-or-ge}
use Rattle.words.specs.Bits.{bit, is_odd, ◌⊕◌}

-- ---- at one place, by one test
z-at : (h z x : Bool) → z_bit (image (cond h (clifford_of 8) identity_clifford) (letter z x)) ≡ z
    ⊕ ((z ⊕ x) && h)
z-at = bits 3 (λ h z x. z_bit (image (cond h (clifford_of 8) identity_clifford) (letter z x))) (λ h z x. z
    ⊕ ((z ⊕ x) && h)) tt

x-at : (h z x : Bool) → x_bit (image (cond h (clifford_of 8) identity_clifford) (letter z x)) ≡ x
    ⊕ ((z ⊕ x) && h)
x-at = bits 3 (λ h z x. x_bit (image (cond h (clifford_of 8) identity_clifford) (letter z x))) (λ h z x. x
    ⊕ ((z ⊕ x) && h)) tt

phase-at : (h z x : Bool)
    → image_phase (cond h (clifford_of 8) identity_clifford) (letter z x) ≡ minus ((z && x) && h)
phase-at = phases 3 (λ h z x. image_phase (cond h (clifford_of 8) identity_clifford) (letter z x))
    (λ h z x. minus ((z && x) && h)) tt

-- ---- one row on words
module _ (h z x : ℕ) (small : h < 2 ^ 64) (s : Bool) where
  bit-swapped : (a q : ℕ) → bit (bit_xor a (bit_and (bit_xor z x) h)) q ≡ bit a q
      ⊕ ((bit z q ⊕ bit x q) && bit h q)
  bit-swapped a q =
      bit-xor a (bit_and (bit_xor z x) h) q
      ∙ ap (λ b. bit a q ⊕ b) (bit-and (bit_xor z x) h q ∙ ap (λ b. b && bit h q) (bit-xor z x q))

  sign-sum : sum_phase 64 (λ q. minus ((bit z q && bit x q) && bit h q)) ≡ minus
      (is_odd (ones (bit_and (bit_and z x) h)))
  sign-sum =
      sym (fold-hom false ◌⊕◌ i⁰ ◌+ᵖ◌ minus refl minus-⊕ 64 (λ q. (bit z q && bit x q) && bit h q))
      ∙ ap minus (fold-ext false ◌⊕◌ 64
      (λ q l. sym (bit-and (bit_and z x) h q ∙ ap (λ b. b && bit h q) (bit-and z x q)))
      ∙ sym (parity-ones 64 (bit_and (bit_and z x) h) (and-lt-right 64 (bit_and z x) h small)))

  pub rotated-row : signed_row (s ⊕ is_odd (ones (bit_and (bit_and z x) h))) (bit_xor z (bit_and (bit_xor z x) h))
      (bit_xor x (bit_and (bit_xor z x) h)) ≡ act 64 (hadamard_where (bit h)) (signed_row s z x)
  unfolding act
  rotated-row =
      Pauli-path
      (minus-⊕ s _ ∙ ap (λ t. minus s
      +ᵖ t) (sym (fold-ext i⁰ ◌+ᵖ◌ 64 (λ q l. phase-at (bit h q) (bit z q) (bit x q)) ∙ sign-sum)))
      (λ q. bit-swapped z q ∙ sym (z-at (bit h q) (bit z q) (bit x q)))
      (λ q. bit-swapped x q ∙ sym (x-at (bit h q) (bit z q) (bit x q)))

-- the letters keep their Y, and so a relative sign changes as a sign does
module _ (h z x : ℕ) (small : h < 2 ^ 64) (s : Bool) where
  same-pairs : half_y (bit_xor z (bit_and (bit_xor z x) h)) (bit_xor x (bit_and (bit_xor z x) h)) ≡ half_y z x
  unfolding half_y
  same-pairs =
      ap (λ v. is_odd (ones v / 2))
      (bit-ext∞ _ _ (λ q. bit-and (bit_xor z (bit_and (bit_xor z x) h)) (bit_xor x (bit_and (bit_xor z x) h)) q
      ∙ ap₂ ◌&&◌ (bit-swapped h z x small s z q) (bit-swapped h z x small s x q)
      ∙ bits 3 (λ u v w. (u ⊕ ((u ⊕ v) && w)) && (v ⊕ ((u ⊕ v) && w))) (λ u v w. u && v) tt (bit z q) (bit x q)
      (bit h q)
      ∙ sym (bit-and z x q)))

  pub rotated-relative : relative_row (s ⊕ is_odd (ones (bit_and (bit_and z x) h)))
      (bit_xor z (bit_and (bit_xor z x) h) ∷ bit_xor x (bit_and (bit_xor z x) h) ∷ [])
      ≡ act 64 (hadamard_where (bit h)) (signed_row (s ⊕ half_y z x) z x)
  rotated-relative =
      ap (λ b. signed_row b (bit_xor z (bit_and (bit_xor z x) h)) (bit_xor x (bit_and (bit_xor z x) h)))
      (ap (λ v. (s ⊕ is_odd (ones (bit_and (bit_and z x) h))) ⊕ v) same-pairs
      ∙ bits 3 (λ u v w. (u ⊕ v) ⊕ w) (λ u v w. (u ⊕ w) ⊕ v) tt s (is_odd (ones (bit_and (bit_and z x) h))) (half_y z x))
      ∙ rotated-row h z x small (s ⊕ half_y z x)

-- ---- row after row
module _ (rows₀ : List (List ℕ)) (signs₀ n h : ℕ) where
  pub record Rotated (rows : List (List ℕ)) (signs i : ℕ) : Type 0 where
    pub long : length rows ≡ 64
    pub upto : i ≤ n
    pub done : (j : ℕ) → j < i
        → relative (bit signs) rows j ≡ act 64 (hadamard_where (bit h)) (relative (bit signs₀) rows₀ j)
    pub rest : (j : ℕ) → i ≤ j → relative (bit signs) rows j ≡ relative (bit signs₀) rows₀ j

  module _ (rows : List (List ℕ)) (signs i : ℕ) (D : Rotated rows signs i) (l : i < n) (hn : n ≤ 64)
      (small : h < 2 ^ 64)
      (rows' : List (List ℕ)) (signs' : ℕ) (b : Bool)
      (e : b ≡ is_odd (ones (bit_and (bit_and (get_or (get_or rows i []) 0 0) (get_or (get_or rows i []) 1 0)) h)))
      (r : rows' ≡ set rows i
      (bit_xor (get_or (get_or rows i []) 0 0)
      (bit_and (bit_xor (get_or (get_or rows i []) 0 0) (get_or (get_or rows i []) 1 0)) h)
      ∷ bit_xor (get_or (get_or rows i []) 1 0)
      (bit_and (bit_xor (get_or (get_or rows i []) 0 0) (get_or (get_or rows i []) 1 0)) h) ∷ []))
      (s : (k : ℕ) → bit signs' k ≡ bit signs k ⊕ (eqb k i && b)) where
    pub rotate-step : Rotated rows' signs' (i + 1)
    rotate-step =
        record {
          long = ap length r ∙ length-set rows i _ ∙ D.long;
          upto = omega arith;
          done = below_more _ i
              (λ j k. elsewhere j (λ p. lt_irrefl i (subst (λ w. w < i) p k)) ∙ D.done j k) here;
          rest = λ j k. elsewhere j (λ p. lt_irrefl i (omega (arith, k, p))) ∙ D.rest j (omega arith);
        }
      where
        elsewhere : (j : ℕ) → j ≢ i → relative (bit signs') rows' j ≡ relative (bit signs) rows j
        elsewhere j d =
            ap₂ relative_row
            (s j ∙ ap (λ t. bit signs j ⊕ (t && b)) (other_place d) ∙ ⊕-zero (bit signs j))
            (ap (λ v. get_or v j []) r ∙ get_or-set_other rows i j _ [] d)

        here : relative (bit signs') rows' i ≡ act 64 (hadamard_where (bit h)) (relative (bit signs₀) rows₀ i)
        here =
            ap₂ relative_row
            (s i ∙ ap (λ t. bit signs i ⊕ (t && b)) (same_place i) ∙ ap (λ t. bit signs i ⊕ t) e)
            (ap (λ v. get_or v i []) r ∙ get_or-set_same rows i _ []
            (subst (λ k. i < k) (sym D.long) (lt_of_lt_of_le l hn)))
            ∙ rotated-relative h (get_or (get_or rows i []) 0 0) (get_or (get_or rows i []) 1 0) small (bit signs i)
            ∙ ap (act 64 (hadamard_where (bit h))) (D.rest i (le_refl i))

  pub rotate-end : (rows : List (List ℕ)) (signs i : ℕ) → Rotated rows signs i → n ≤ i →
      ((j : ℕ) → n ≤ j → relative (bit signs₀) rows₀ j ≡ identity) → (j : ℕ) →
      relative (bit signs) rows j ≡ act 64 (hadamard_where (bit h)) (relative (bit signs₀) rows₀ j)
  rotate-end rows signs i D l far j = go (lt-or-ge j i)
    where
      go : (j < i) ⊎ (i ≤ j) → relative (bit signs) rows j ≡ act 64 (hadamard_where (bit h))
          (relative (bit signs₀) rows₀ j)
      go (inl k) = D.done j k
      go (inr k) =
          D.rest j k ∙ far j (le_trans l k)
          ∙ sym (ap (act 64 (hadamard_where (bit h))) (far j (le_trans l k))
          ∙ act-identity 64 (hadamard_where (bit h)))
