-- Rows that each have a bit which no later row has are independent; a row without letters is not.
use mathlib.Core.Bool.{◌&&◌, Bool, cond, false, true, true≢false}
use mathlib.Core.Logic.{inl, inr}
use mathlib.Core.Path.{ap, sym, ◌∙◌, ◌≡◌}
use Prim.Native.Nat.{◌<◌, suc, zero, ℕ, ◌≤◌}
use native.Mathlib.Decide.{ℕ_discrete}
use native.Mathlib.Nat.{le_refl, not-suc-le-zero}
use native.Mathlib.Omega.{arith}
use lib.Arith.{lt_of_le-ne}
use lib.Dec.{eqb}
use Rattle.pauli.specs.Pauli.{Pauli}
use Rattle.stabilizer.proofs.Products.{Linear, product-bit, product-x, product-z, x-linear, z-linear}
use Rattle.stabilizer.specs.Groups.{Independent, Trivial, product}
use Rattle.words.proofs.Finite.{bits}
use Rattle.words.proofs.Places.{other_place, parity-at, same_place}
use Rattle.words.proofs.Sums.{fold-ext, lt-or-ge}
use Rattle.words.specs.Bits.{Word, parity, ◌⊕◌}

-- a bit of a row: in its x word or in its z word
abbrev pub letter_bit : Bool → ℕ → Pauli → Bool
letter_bit in-x q p = cond in-x (p.x q) (p.z q)

pub letter-linear : (n : ℕ) (in-x : Bool) (q : ℕ) → Linear n (letter_bit in-x q)
letter-linear n false q = z-linear n q
letter-linear n true q = x-linear n q

trivial-bit : (n : ℕ) (in-x : Bool) (q : ℕ) (p : Pauli) → q < n → Trivial n p → letter_bit in-x q p ≡ false
trivial-bit n false q p l t = t.no-z q l
trivial-bit n true q p l t = t.no-x q l

-- row i has a bit that no later row has
pub record Pivot (n : ℕ) (R : ℕ → Pauli) (i : ℕ) : Type 0 where
  pub in-x : Bool
  pub place : ℕ
  pub below : place < n
  pub own : letter_bit in-x place (R i) ≡ true
  pub later : (j : ℕ) → i < j → j < n → letter_bit in-x place (R j) ≡ false

module _ (n : ℕ) (R : ℕ → Pauli) where
  -- the first chosen row would leave its bit in the product
  pub pivots-independent : ((i : ℕ) → i < n → Pivot n R i) → Independent n R
  pivots-independent P w t j l = below n (le_refl n) j l
    where
      at : (k : ℕ) → k < n → ((j : ℕ) → j < k → w j ≡ false) → w k ≡ false
      at k h earlier =
          sym (product-bit n n (letter_bit (P k h).in-x (P k h).place)
          (letter-linear n (P k h).in-x (P k h).place) w R
          ∙ fold-ext false ◌⊕◌ n (λ i m. term i m (ℕ_discrete i k)) ∙ parity-at n w k h)
          ∙ trivial-bit n (P k h).in-x (P k h).place (product n n w R) (P k h).below t
        where
          term : (i : ℕ) → i < n → Dec (i ≡ k)
              → (w i && letter_bit (P k h).in-x (P k h).place (R i)) ≡ (w i && eqb i k)
          term i m (yes e) = ap (λ b. w i && b)
              (ap (λ v. letter_bit (P k h).in-x (P k h).place (R v)) e ∙ (P k h).own
              ∙ sym (ap (λ v. eqb v k) e ∙ same_place k))
          term i m (no d) = elim (lt-or-ge i k) [
            | inl s ↦ ap (λ b. b && letter_bit (P k h).in-x (P k h).place (R i)) (earlier i s)
                ∙ sym (ap (λ b. b && eqb i k) (earlier i s))
            | inr s ↦ ap (λ b. w i && b)
                ((P k h).later i (lt_of_le-ne s (λ e. d (sym e))) m ∙ sym (other_place d))
          ]

      below : (k : ℕ) → k ≤ n → (j : ℕ) → j < k → w j ≡ false
      below zero h j l = absurd (not-suc-le-zero l)
      below (suc k) h j l = elim (lt-or-ge j k) [
        | inl s ↦ below k (omega arith) j s
        | inr s ↦ ap w (omega arith) ∙ at k (omega arith) (below k (omega arith))
      ]

  -- a row without letters, chosen alone
  pub blank-dependent : (k : ℕ) → k < n → Trivial n (R k) → Independent n R → ⊥
  blank-dependent k h t H =
      true≢false (sym (same_place k) ∙ H (λ j. eqb j k) record {
        no-x = λ q l. product-x n n (λ j. eqb j k) R q ∙ alone (λ j. (R j).x q) ∙ t.no-x q l;
        no-z = λ q l. product-z n n (λ j. eqb j k) R q ∙ alone (λ j. (R j).z q) ∙ t.no-z q l;
      } k h)
    where
      alone : (f : Word) → parity n (λ j. eqb j k && f j) ≡ f k
      alone f = fold-ext false ◌⊕◌ n (λ j l. exchange (eqb j k) (f j)) ∙ parity-at n f k h
        where
          exchange : (a b : Bool) → (a && b) ≡ (b && a)
          exchange = bits 2 (λ a b. a && b) (λ a b. b && a) tt
