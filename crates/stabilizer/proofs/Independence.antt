-- Independence modulo 2, signs dropped, through row operations and codes.
use mathlib.Core.Bool.{◌&&◌, Bool, and-false, false, true, true≢false}
use mathlib.Core.Logic.{◌↔◌, ◌≢◌}
use mathlib.Core.Path.{ap, ap₂, fun_ext, refl, subst, sym, ◌∙◌, ◌≡◌}
use Prim.Native.Nat.{◌<◌, ℕ}
use native.Mathlib.Decide.{ℕ_discrete}
use lib.Dec.{eqb}
use Rattle.clifford.proofs.VectorLaws.{act-inverse}
use Rattle.clifford.specs.Clifford.{Clifford, image, inverse}
use Rattle.clifford.specs.Vectors.{act}
use Rattle.pauli.proofs.PauliLaws.{pauli_monoid}
use Rattle.pauli.specs.Pauli.{Pauli, identity, i², i⁰, letter, mul, same_phase, scaled, x_bit, z_bit}
use Rattle.words.proofs.Finite.{bits, ⊕-and, ⊕-zero}
use Rattle.words.proofs.Places.{other_place, parity-at}
use Rattle.words.proofs.Sums.{bit_monoid, fold-ext, fold-hom, fold-unit, parity-add}
use Rattle.words.specs.Bits.{Word, parity, ◌⊕◌}
use Rattle.stabilizer.proofs.Carried.{act-commuting, act-product}
use Rattle.stabilizer.proofs.Products.{Linear, product-bit, product-x, x-linear, z-linear}
use Rattle.stabilizer.proofs.RowOperations.{
  clear_self,
  lend-self,
  shear-bit,
  shear-commuting,
  shear-undo,
}
use Rattle.stabilizer.proofs.Within.{act-within}
use Rattle.stabilizer.specs.internal.Elimination.{clear, lend, pivot_on}
use Rattle.stabilizer.specs.Elimination.{shear}
use Rattle.stabilizer.specs.Groups.{Commuting, InGroup, Independent, Proper, Trivial, chosen, product}

-- rows with the x bits of the unit matrix are independent
pub unit-independent : (n : ℕ) (R : ℕ → Pauli) → ((t : ℕ) → t < n → (i : ℕ) → (R i).x t ≡ eqb i t)
    → Independent n R
unit-independent n R h w t j l =
    sym (product-x n n w R j ∙ fold-ext false ◌⊕◌ n (λ i k. ap (λ b. w i && b) (h j l i)) ∙ parity-at n w j l)
    ∙ t.no-x j l

-- minus the identity is in no group of independent generators
pub no_minus : (n : ℕ) (rows : ℕ → Pauli) → Independent n rows → InGroup n n rows (scaled i² identity) → ⊥
no_minus n rows H a =
    unequal (ap (λ p. p.phase) (a.1 ∙ fold-unit identity (mul n) (pauli_monoid n) n
    (λ j l. ap (λ b. chosen b (rows j)) (H a.0 trivial j l))))
  where
    trivial : Trivial n (product n n a.0 rows)
    trivial = subst (Trivial n) a.1 (record { no-x = λ q l. refl; no-z = λ q l. refl })

    unequal : i² ≡ i⁰ → ⊥
    unequal e = true≢false (ap (λ t. same_phase t i²) e)

-- ---- a row operation
module _ (n : ℕ) (rows : ℕ → Pauli) (a : ℕ) (ha : a < n) (s : Word) (sa : s a ≡ false) where
  -- the word that chooses the same product from the rows before it
  module _ (w : Word) where
    carry : Bool
    carry = parity n (λ j. w j && s j)

    before : Word
    before j = w j ⊕ (carry && eqb j a)

    same_bit : (f : Pauli → Bool) → Linear n f
        → f (product n n before rows) ≡ f (product n n w (shear n rows a s))
    unfolding before carry
    same_bit f L =
        product-bit n n f L before rows
        ∙ fold-ext false ◌⊕◌ n (λ j l. ⊕-and (w j) (carry && eqb j a) (f (rows j))) ∙ parity-add n _ _
        ∙ ap (λ b. parity n (λ j. w j && f (rows j)) ⊕ b)
        (fold-ext false ◌⊕◌ n (λ j l. regroup carry (eqb j a) (f (rows j)))
        ∙ parity-at n (λ j. carry && f (rows j)) a ha ∙ out)
        ∙ sym (parity-add n _ _)
        ∙ sym (product-bit n n f L w (shear n rows a s)
        ∙ fold-ext false ◌⊕◌ n (λ j l. ap (λ b. w j && b) (shear-bit n f L rows a s j)
        ∙ spread (w j) (f (rows j)) (s j) (f (rows a))))
      where
        regroup : (a b c : Bool) → ((a && b) && c) ≡ ((a && c) && b)
        regroup = bits 3 (λ a b c. (a && b) && c) (λ a b c. (a && c) && b) tt

        spread : (a b c d : Bool) → (a && (b ⊕ (c && d))) ≡ (a && b) ⊕ ((a && c) && d)
        spread = bits 4 (λ a b c d. a && (b ⊕ (c && d))) (λ a b c d. (a && b) ⊕ ((a && c) && d)) tt

        out : (carry && f (rows a)) ≡ parity n (λ j. (w j && s j) && f (rows a))
        out = fold-hom false ◌⊕◌ false ◌⊕◌ (λ b. b && f (rows a)) refl (λ u v. ⊕-and u v (f (rows a))) n _

  pub independent-shear : Independent n rows → Independent n (shear n rows a s)
  unfolding before carry
  independent-shear H w t j l =
      elim (ℕ_discrete j a) [ yes e ↦ subst (λ v. w v ≡ false) (sym e) at_a | no d ↦ elsewhere j l d ]
    where
      gone : (j : ℕ) → j < n → before w j ≡ false
      gone = H (before w) (record {
        no-x = λ q k. same_bit w _ (x-linear n q) ∙ t.no-x q k;
        no-z =
            λ q k. same_bit w _ (z-linear n q) ∙ t.no-z q k;
      })

      elsewhere : (j : ℕ) → j < n → j ≢ a → w j ≡ false
      elsewhere j l d = sym (⊕-zero (w j))
          ∙ ap (λ b. w j ⊕ b) (sym (ap (λ b. carry w && b) (other_place d) ∙ and-false (carry w))) ∙ gone j l

      no-carry : carry w ≡ false
      no-carry = fold-unit false ◌⊕◌ bit_monoid n
          (λ j k. elim (ℕ_discrete j a) [
            | yes e ↦ ap (λ b. w j && b) (ap s e ∙ sa)
                ∙ and-false (w j)
            | no d ↦ ap (λ b. b && s j) (elsewhere j k d)
          ])

      at_a : w a ≡ false
      at_a = sym (⊕-zero (w a)) ∙ ap (λ b. w a ⊕ (b && eqb a a)) (sym no-carry) ∙ gone a ha

-- and back
pub independent-unshear : (n : ℕ) (rows : ℕ → Pauli) (a : ℕ) → a < n → (s : Word) → s a ≡ false
    → Commuting n n rows → Independent n (shear n rows a s) → Independent n rows
independent-unshear n rows a ha s sa G H =
    subst (Independent n) (fun_ext (shear-undo n n rows G a ha s sa))
    (independent-shear n (shear n rows a s) a ha s sa H)

-- ---- codes change no letter to I, nor I to a letter
pub trivial-act : (n : ℕ) (c : ℕ → Clifford) (p : Pauli) → Trivial n p → Trivial n (act n c p)
unfolding act
trivial-act n c p t =
    record {
      no-x = λ q l. ap₂ (λ z x. x_bit (image (c q) (letter z x))) (t.no-z q l) (t.no-x q l);
      no-z =
          λ q l. ap₂ (λ z x. z_bit (image (c q) (letter z x))) (t.no-z q l) (t.no-x q l);
    }

pub independent-act : (n : ℕ) (c : ℕ → Clifford) (rows : ℕ → Pauli) → Independent n rows
    → Independent n (λ j. act n c (rows j))
independent-act n c rows H w t =
    H w (subst (Trivial n) (ap (act n (λ q. inverse (c q))) (sym (act-product n n rows c w))
    ∙ act-inverse n c (product n n w rows)) (trivial-act n (λ q. inverse (c q)) _ t))

pub act-proper : (n : ℕ) (c : ℕ → Clifford) (rows : ℕ → Pauli) → Proper n rows
    → Proper n (λ j. act n c (rows j))
act-proper n c rows P =
    record {
      commuting = act-commuting n n rows c P.commuting;
      independent = independent-act n c rows P.independent;
      within = λ j l. act-within n n c (P.within j l);
    }

-- ---- a pivot
module _ (n : ℕ) (R : ℕ → Pauli) (q i : ℕ) (hq : q < n) (hi : i < n) (has-x : (R i).x q ≡ true)
    (G : Commuting n n R) where
  pub independent-pivot : Independent n R ↔ Independent n (pivot_on n R q i)
  independent-pivot = (
    (λ H. independent-shear n lent q hq (clear lent q) clear-q
        (independent-shear n R i hi (lend R q) lend-i H)),
    (λ H. independent-unshear n R i hi (lend R q) lend-i G
        (independent-unshear n lent q hq (clear lent q) clear-q
        (shear-commuting n n R G i hi (lend R q) lend-i) H)),
  )
    where
      lent : ℕ → Pauli
      lent = shear n R i (lend R q)

      lend-i : lend R q i ≡ false
      lend-i = lend-self n R q i hq hi has-x

      clear-q : clear lent q q ≡ false
      clear-q = clear_self n R q i hq hi has-x
