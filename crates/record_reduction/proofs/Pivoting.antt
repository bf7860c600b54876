-- The pivot of a column as the code does it, and the words that name the rows.
use mathlib.Core.Bool.{◌&&◌, and-false, and-true, false, not, true, true≢false}
use mathlib.Core.List.{List, []}
use mathlib.Core.Logic.{inl, inr, ◌⊎◌}
use mathlib.Core.Path.{ap, ap₂, fun_ext, refl, subst, sym, ◌∙◌, ◌≡◌}
use Prim.Native.Nat.{◌*◌, ◌+◌, ◌-◌, ◌<◌, ◌^◌, suc, ℕ, ◌≤◌}
use native.Mathlib.Nat.{add-zero, lt_irrefl, lt_of_lt_of_le, mul_comm, zero-add}
use native.Mathlib.Omega.{arith}
use lib.Dec.{eqb, ltb}
use lib.ListN.{get_or-eq_default, get_or, length}
use lib.Pow.{pow_mono}
use borrow.Author.Tests.{eqb-true, le-ltb, lt-ltb}
use Rattle.pauli.proofs.PauliLaws.{mul-identity}
use Rattle.pauli.specs.Pauli.{Pauli, anticommute, mul}
use Rattle.record_reduction.specs.internal.Relative.{relative}
use Rattle.stabilizer.proofs.RowOperations.{clear_self, lend-self, shear-commuting}
use Rattle.stabilizer.specs.internal.Elimination.{clear, lend, pivot_on}
use Rattle.stabilizer.specs.Elimination.{shear}
use Rattle.stabilizer.specs.Groups.{chosen}
use Rattle.words.proofs.BitLaws.{bit-above, bit-single, bit-word_of, word_of-lt, zero_bit}
use Rattle.words.proofs.Places.{other_place, put_all, put_other, put_same}
use Rattle.words.proofs.Sums.{lt-or-ge}
use Rattle.words.specs.Bits.{Word, bit, digit, put, word_of}
use Rattle.record_reduction.specs.internal.Passes.{PivotReady}

-- ---- a word made from the highest row down: the rows from j on, j at bit 0
pub record NamedFrom (n : ℕ) (f : Word) (word j : ℕ) : Type 0 where
  pub count : ℕ
  pub reaches : count + j ≡ n
  pub held : word ≡ word_of count (λ t. f (j + t))

module _ (n : ℕ) (f : Word) where
  pub from_start : NamedFrom n f 0 n
  unfolding word_of
  from_start = record { count = 0; reaches = zero-add n; held = refl }

  pub from_step : (word j : ℕ) → NamedFrom n f word j → 0 < j → (b : ℕ) → b ≡ digit (f (j - 1))
      → NamedFrom n f (2 * word + b) (j - 1)
  unfolding word_of
  from_step word j N l b e =
      record {
        count = suc N.count;
        reaches = omega (arith, N.reaches);
        held =
            ap₂ ◌+◌ (mul_comm 2 word
            ∙ ap (λ v. v * 2) (N.held ∙ ap (word_of N.count) (fun_ext (λ t. ap f (next t)))))
            (e ∙ ap (λ v. digit (f v)) (sym (add-zero (j - 1))));
      }
    where
      next : (t : ℕ) → j + t ≡ (j - 1) + suc t
      next t = omega arith

  pub from-small : (word j : ℕ) → NamedFrom n f word j → 0 < j → n ≤ 64 → word < 2 ^ 63
  from-small word j N k l = subst (λ v. v < 2 ^ 63) (sym N.held)
      (lt_of_lt_of_le (word_of-lt N.count _) (pow_mono few))
    where
      few : N.count ≤ 63
      few = omega (arith, N.reaches)

  pub from_end : (word j : ℕ) → NamedFrom n f word j → j ≡ 0 → (i : ℕ) → bit word i ≡ (ltb i n && f i)
  from_end word j N z i = ap (λ v. bit v i) N.held ∙ go (lt-or-ge i n)
    where
      all : N.count ≡ n
      all = omega (arith, N.reaches)

      at : (j : ℕ) → j ≡ 0 → j + i ≡ i
      at j z = omega arith

      go : (i < n) ⊎ (n ≤ i) → bit (word_of N.count (λ t. f (j + t))) i ≡ (ltb i n && f i)
      go (inl l) = bit-word_of N.count (λ t. f (j + t)) i (subst (λ m. i < m) (sym all) l)
          ∙ ap f (at j z) ∙ sym (ap (λ b. b && f i) (lt-ltb i n l))
      go (inr l) = bit-above N.count _ (word_of-lt N.count _) i (subst (λ m. m ≤ i) (sym all) l)
          ∙ sym (ap (λ b. b && f i) (le-ltb i n l))

-- ---- the bit lent
module _ (R : ℕ → Pauli) (q i holders : ℕ) (P : PivotReady R q i holders) where
  -- row q has it already
  pub lent-already : bit holders q ≡ true → (j : ℕ) → R j ≡ shear 64 R i (lend R q) j
  lent-already e j =
      sym (ap (λ b. mul 64 (R j) (chosen b (R i)))
      (ap (λ b. eqb j q && not b) (sym (P.holds q) ∙ e) ∙ and-false (eqb j q)) ∙ mul-identity 64 (R j))

  module _ (lacks : bit holders q ≡ false) (single : ℕ) (s : single ≡ 2 ^ q) where
    bit-here : (j : ℕ) → bit single j ≡ eqb j q
    bit-here j = ap (λ v. bit v j) s ∙ bit-single q j

    -- the word that names row q alone is the definition's
    pub lent-now : (j : ℕ) → shear 64 R i (bit single) j ≡ shear 64 R i (lend R q) j
    lent-now j =
        ap (λ b. mul 64 (R j) (chosen b (R i)))
        (bit-here j ∙ sym (ap (λ b. eqb j q && not b) (sym (P.holds q) ∙ lacks) ∙ and-true (eqb j q)))

    pub lent-commutes : (j : ℕ) → bit single j ≡ true → anticommute 64 (R j) (R i) ≡ false
    lent-commutes j e =
        subst (λ v. anticommute 64 (R v) (R i) ≡ false) (sym (eqb-true j q (sym (bit-here j) ∙ e)))
        (P.commuting.commute q i P.column P.lender)

-- ---- the column cleared
module _ (R : ℕ → Pauli) (q i holders : ℕ) (P : PivotReady R q i holders) (R₁ : ℕ → Pauli)
    (e : (j : ℕ) → R₁ j ≡ shear 64 R i (lend R q) j) (named : ℕ)
    (h : (j : ℕ) → bit named j ≡ put (bit holders) q false j) where
  is-clear : (j : ℕ) → bit named j ≡ clear (shear 64 R i (lend R q)) q j
  is-clear j =
      h j
      ∙ put_all (λ j b. b ≡ clear (shear 64 R i (lend R q)) q j) (bit holders) q false
      (sym (clear_self 64 R q i P.column P.lender P.has)) j
      (λ d. P.holds j
      ∙ sym (ap (λ b. (mul 64 (R j) (chosen b (R i))).x q) (ap (λ b. b && not ((R q).x q)) (other_place d))
      ∙ ap (λ p. p.x q) (mul-identity 64 (R j)))
      ∙ sym (ap (λ b. not b && (shear 64 R i (lend R q) j).x q) (other_place d)))

  pub cleared : (j : ℕ) → shear 64 R₁ q (bit named) j ≡ pivot_on 64 R q i j
  cleared j =
      ap (λ f. shear 64 f q (bit named) j) (fun_ext e)
      ∙ ap (λ b. mul 64 (shear 64 R i (lend R q) j) (chosen b (shear 64 R i (lend R q) q))) (is-clear j)

  pub pivot-not-named : bit named q ≡ false
  pivot-not-named = h q ∙ put_same (bit holders) q false

  -- a row that has the bit is one of the 64
  pub cleared-commutes : ((j : ℕ) → 64 ≤ j → (R j).x q ≡ false) → (j : ℕ) → bit named j ≡ true →
      anticommute 64 (R₁ j) (R₁ q) ≡ false
  cleared-commutes far j n =
      ap₂ (anticommute 64) (e j) (e q)
      ∙ (shear-commuting 64 64 R P.commuting i P.lender (lend R q)
      (lend-self 64 R q i P.column P.lender P.has)).commute j q (inside (lt-or-ge j 64)) P.column
    where
      inside : (j < 64) ⊎ (64 ≤ j) → j < 64
      inside (inl l) = l
      inside (inr l) = absurd (true≢false (sym n ∙ h j
          ∙ put_other (bit holders) q false j (λ p. lt_irrefl 64 (omega (arith, P.column, p)))
          ∙ P.holds j ∙ far j l))

-- a row past the array has no bit
pub far-row : (rows : List (List ℕ)) (signs : Word) (q : ℕ) → length rows ≡ 64 → (j : ℕ) → 64 ≤ j →
    (relative signs rows j).x q ≡ false
far-row rows signs q e j l =
    ap (λ v. bit (get_or v 1 0) q) (get_or-eq_default rows [] (subst (λ k. k ≤ j) (sym e) l)) ∙ zero_bit q
