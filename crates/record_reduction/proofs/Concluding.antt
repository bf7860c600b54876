-- The passes put together: the reduced record where every column has its pivot, and dependence otherwise.
use mathlib.Core.Bool.{◌&&◌, Bool, cond, false, not, true}
use mathlib.Core.Logic.{inl, inr, ◌⊎◌}
use mathlib.Core.Path.{ap, ap₂, fun_ext, refl, subst, sym, ◌∙◌, ◌≡◌}
use Prim.Native.Nat.{◌-◌, ◌<◌, ◌^◌, ℕ, ◌≤◌}
use native.Mathlib.Nat.{le_refl, le_trans, lt_irrefl}
use native.Mathlib.Omega.{arith}
use lib.Bits.{bit_xor}
use lib.Dec.{eqb, ltb}
use lib.Pow.{ones_lt}
use borrow.Author.Tests.{le-ltb, lt-ltb, not-false, not-true}
use Rattle.clifford.proofs.VectorLaws.{act-cong, act-identity}
use Rattle.clifford.specs.Clifford.{clifford_of, identity_clifford}
use Rattle.clifford.specs.Vectors.{act}
use Rattle.pauli.specs.Pauli.{Pauli}
use Rattle.record.proofs.FirstPass.{FirstPass, first-pass-pivot, first-pass-skip, first-start, not-both}
use Rattle.record.proofs.Reduction.{passes-dependent, passes-equation, passes-independent}
use Rattle.record.proofs.SecondPass.{
  SecondPass,
  failed,
  second-pass-pivot,
  second-pass-pivoted,
  second-pass-skip,
  second-start,
}
use Rattle.record.proofs.Unique.{record-path}
use Rattle.record.specs.Reduced.{hadamard_where, record_of, reduced}
use Rattle.stabilizer.proofs.Carried.{act-commuting}
use Rattle.stabilizer.proofs.Verdicts.{independent-exactly, not-dependent}
use Rattle.stabilizer.proofs.Within.{act-wide, act-within}
use Rattle.stabilizer.specs.Groups.{Commuting, Independent, Within}
use Rattle.stabilizer.specs.Lists.{dependent}
use Rattle.words.proofs.BitLaws.{bit-above, bit-ext∞, bit_mask, bit-xor, lt-of-bits, zero_bit}
use Rattle.words.proofs.Places.{other_place, put_other}
use Rattle.words.proofs.SearchLaws.{first-is}
use Rattle.words.proofs.Sums.{lt-or-ge}
use Rattle.words.specs.Bits.{Word, bit, ◌⊕◌}
use Rattle.words.specs.Search.{IsFirst, first}
use Rattle.record_reduction.proofs.Passing.{eliminated-loaded}
use Rattle.record_reduction.specs.internal.Passes.{Eliminated, Loaded, pivot, pivoted, skip, start}

-- ---- the passes of the laws, from those of the code
pub first_of : (n : ℕ) {R₀ : ℕ → Pauli} {w₀ : Word} {R : ℕ → Pauli} {w : Word} {q : ℕ} →
    FirstPass n R₀ R₀ w₀ 0 → Eliminated n R₀ w₀ R w q → FirstPass n R₀ R w q
first_of n F start = F
first_of n F (pivoted {q = q} E hq e) =
    absurd (not-both e ((first_of n F E).ahead q (le_refl q)))
first_of n {R₀ = R₀} F (skip {R = R} {w = w} {q = q} E hq none) =
    first-pass-skip n R₀ R w q hq (first_of n F E) none
first_of n {R₀ = R₀} F (pivot {R = R} {w = w} {q = q} E hq i hi e) =
    first-pass-pivot n R₀ R w q hq (first_of n F E) i hi e

pub second-of : (n : ℕ) {R₀ : ℕ → Pauli} {w₀ : Word} {R : ℕ → Pauli} {w : Word} {q : ℕ} →
    SecondPass n R₀ R₀ w₀ w₀ 0 → Eliminated n R₀ w₀ R w q → SecondPass n R₀ R w₀ w q
second-of n F start = F
second-of n {R₀ = R₀} {w₀ = w₀} F (pivoted {R = R} {w = w} {q = q} E hq e) =
    second-pass-pivoted n R₀ R w₀ w q hq (second-of n F E) e
second-of n {R₀ = R₀} {w₀ = w₀} F (skip {R = R} {w = w} {q = q} E hq none) =
    second-pass-skip n R₀ R w₀ w q hq (second-of n F E) none
second-of n {R₀ = R₀} {w₀ = w₀} F (pivot {R = R} {w = w} {q = q} E hq i hi e) =
    second-pass-pivot n R₀ R w₀ w q hq (second-of n F E) i hi e

-- no pivot at or above n
pivots-below : (n : ℕ) {R₀ : ℕ → Pauli} {w₀ : Word} {R : ℕ → Pauli} {w : Word} {q : ℕ} →
    ((t : ℕ) → n ≤ t → w₀ t ≡ false) → Eliminated n R₀ w₀ R w q → (t : ℕ) → n ≤ t → w t ≡ false
pivots-below n h start t l = h t l
pivots-below n h (pivoted E hq e) t l = pivots-below n h E t l
pivots-below n h (skip E hq none) t l = pivots-below n h E t l
pivots-below n h (pivot {w = w} {q = q} E hq i hi e) t l =
    put_other w q true t (λ p. lt_irrefl n (omega (arith, hq, p, l))) ∙ pivots-below n h E t l

-- ---- what the code has after the first pass and the Hadamards
module _ (n : ℕ) (l : n ≤ 64) (R₀ : ℕ → Pauli) (L : Loaded n R₀) (R₁ : ℕ → Pauli) (kept : ℕ)
    (E₁ : Eliminated n R₀ (bit 0) R₁ (bit kept) n) (all : ℕ) (m : all ≡ 2 ^ n - 1) (hadamards : ℕ)
    (h : hadamards ≡ bit_xor all kept) where
  pub first_done : FirstPass n R₀ R₁ (bit kept) n
  first_done =
      first_of n
      (subst (λ w. FirstPass n R₀ R₀ w 0) (sym (fun_ext zero_bit))
      (first-start n R₀ L.commuting (λ i _. L.within i)))
      E₁

  pub loaded-first : Loaded n R₁
  loaded-first = eliminated-loaded n l L E₁

  kept-below : (t : ℕ) → n ≤ t → bit kept t ≡ false
  kept-below = first_done.ahead

  bit-all : (q : ℕ) → bit all q ≡ ltb q n
  bit-all q = ap (λ v. bit v q) m ∙ go (lt-or-ge q n)
    where
      go : (q < n) ⊎ (n ≤ q) → bit (2 ^ n - 1) q ≡ ltb q n
      go (inl k) = bit_mask n q k ∙ sym (lt-ltb q n k)
      go (inr k) = bit-above n (2 ^ n - 1) (ones_lt n) q k ∙ sym (le-ltb q n k)

  -- the word names the columns without a pivot
  pub hadamards-are : (q : ℕ) → bit hadamards q ≡ failed n (bit kept) q
  hadamards-are q =
      ap (λ v. bit v q) h ∙ bit-xor all kept q ∙ ap (λ b. b ⊕ bit kept q) (bit-all q) ∙ go (lt-or-ge q n)
    where
      flipped : (b : Bool) → true ⊕ b ≡ (true && not b)
      flipped false = refl
      flipped true = refl

      go : (q < n) ⊎ (n ≤ q) → ltb q n ⊕ bit kept q ≡ (ltb q n && not (bit kept q))
      go (inl k) =
          ap (λ b. b ⊕ bit kept q) (lt-ltb q n k) ∙ flipped (bit kept q)
          ∙ sym (ap (λ b. b && not (bit kept q)) (lt-ltb q n k))
      go (inr k) =
          ap₂ ◌⊕◌ (le-ltb q n k) (kept-below q k) ∙ sym (ap (λ b. b && not (bit kept q)) (le-ltb q n k))

  pub hadamards-lt : hadamards < 2 ^ 64
  hadamards-lt = lt-of-bits 64 hadamards
      (λ q k. hadamards-are q ∙ ap (λ b. b && not (bit kept q)) (le-ltb q n (le_trans l k)))

  module _ (R₂ : ℕ → Pauli) (rot : (j : ℕ) → R₂ j ≡ act 64 (hadamard_where (bit hadamards)) (R₁ j)) where
    rotated-is : (j : ℕ) → R₂ j ≡ act n (hadamard_where (failed n (bit kept))) (R₁ j)
    rotated-is j =
        rot j ∙ act-wide n 64 l (loaded-first.within j) (hadamard_where (bit hadamards))
        ∙ act-cong n (λ q. ap (λ b. cond b (clifford_of 8) identity_clifford) (hadamards-are q)) (R₁ j)

    is-rotated : R₂ ≡ (λ j. act n (hadamard_where (failed n (bit kept))) (R₁ j))
    is-rotated = fun_ext rotated-is

    pub loaded-rotated : Loaded n R₂
    loaded-rotated =
        record {
          commuting = subst (Commuting n n) (sym is-rotated)
              (act-commuting n n R₁ (hadamard_where (failed n (bit kept))) loaded-first.commuting);
          within = λ j. subst (Within n) (sym (rotated-is j)) (act-within n n _ (loaded-first.within j));
          beyond = λ j k. rotated-is j
              ∙ ap (act n (hadamard_where (failed n (bit kept)))) (loaded-first.beyond j k)
              ∙ act-identity n (hadamard_where (failed n (bit kept)));
        }

    module _ (R₃ : ℕ → Pauli) (pivots : ℕ) (E₂ : Eliminated n R₂ (bit kept) R₃ (bit pivots) n) where
      pub loaded-second : Loaded n R₃
      loaded-second = eliminated-loaded n l loaded-rotated E₂

      second : SecondPass n (λ j. act n (hadamard_where (failed n (bit kept))) (R₁ j)) R₃ (bit kept)
          (bit pivots) n
      second =
          subst (λ f. SecondPass n f R₃ (bit kept) (bit pivots) n) is-rotated
          (second-of n (subst (λ f. SecondPass n f f (bit kept) (bit kept) 0) (sym is-rotated)
          (second-start n R₀ R₁ (bit kept) first_done)) E₂)

      every-pivot : pivots ≡ all → (t : ℕ) → t < n → bit pivots t ≡ true
      every-pivot e t k = ap (λ v. bit v t) e ∙ bit-all t ∙ lt-ltb t n k

      -- a column without a pivot: the list is dependent
      pub left_over : (pivots ≡ all → ⊥) → dependent n R₀ ≡ true
      left_over differ = go (first-is n (λ t. not (bit pivots t)))
        where
          not-independent : (v : Bool) → dependent n R₀ ≡ v → (Independent n R₀ → ⊥) → v ≡ true
          not-independent true e H = refl
          not-independent false e H = absurd (H (not-dependent n R₀ e))

          go : IsFirst n (λ t. not (bit pivots t)) (first n (λ t. not (bit pivots t)))
              ⊎ ((t : ℕ) → t < n → not (bit pivots t) ≡ false) → dependent n R₀ ≡ true
          go (inl F) =
              not-independent (dependent n R₀) refl
              (passes-dependent n R₀ R₁ (bit kept) first_done R₃ (bit pivots) second _ F.below
              (not-true _ F.passes))
          go (inr none) =
              absurd (differ (bit-ext∞ pivots all
              (λ t. at t (lt-or-ge t n))))
            where
              at : (t : ℕ) → (t < n) ⊎ (n ≤ t) → bit pivots t ≡ bit all t
              at t (inl k) = not-false (bit pivots t) (none t k) ∙ sym (bit-all t ∙ lt-ltb t n k)
              at t (inr k) = pivots-below n kept-below E₂ t k ∙ sym (bit-all t ∙ le-ltb t n k)

      module _ (e : pivots ≡ all) where
        pub complete : dependent n R₀ ≡ false
        complete =
            (independent-exactly n R₀).1
            (passes-independent n R₀ R₁ (bit kept) first_done R₃ (bit pivots) second (every-pivot e))

        pub the-record : record_of n (bit hadamards) R₃ ≡ reduced n R₀
        the-record =
            ap (λ w. record_of n w R₃) (fun_ext hadamards-are)
            ∙ sym (record-path _ _
            (passes-equation n R₀ R₁ (bit kept) first_done R₃ (bit pivots) second (every-pivot e)))

        -- row j has its x letter at j alone
        pub one-x : (j : ℕ) → j < n → (t : ℕ) → (R₃ j).x t ≡ eqb j t
        one-x j hj t = go (lt-or-ge t n)
          where
            go : (t < n) ⊎ (n ≤ t) → (R₃ j).x t ≡ eqb j t
            go (inl k) = second.pivots t (every-pivot e t k) j
            go (inr k) = (loaded-second.within j).no-x t k
                ∙ sym (other_place {i = j} {j = t} (λ p. lt_irrefl n (omega (arith, hj, k, p))))
