-- The row operations of an elimination keep the group, and a pivot leaves its column with one bit.
use mathlib.Core.Bool.{◌&&◌, Bool, and-false, false, not, true}
use mathlib.Core.Path.{ap, ap₂, refl, subst, sym, ◌∙◌, ◌≡◌}
use Prim.Native.Nat.{◌<◌, ℕ}
use native.Mathlib.Decide.{ℕ_discrete}
use lib.Dec.{eqb}
use Rattle.pauli.proofs.PauliLaws.{mul_assoc, mul-identity}
use Rattle.pauli.specs.Pauli.{Pauli, mul}
use Rattle.words.proofs.Finite.{⊕-cleared, ⊕-self, ⊕-zero}
use Rattle.words.proofs.Places.{other_place, same_place}
use Rattle.words.specs.Bits.{Word, ◌⊕◌}
use Rattle.stabilizer.proofs.GroupLaws.{
  commuting-of,
  in-identity,
  in-mul,
  in_row,
  same-by-generators,
  same-trans,
}
use Rattle.stabilizer.proofs.Products.{Linear, chosen-mul, x-linear}
use Rattle.stabilizer.specs.internal.Elimination.{clear, lend, pivot_on}
use Rattle.stabilizer.specs.Elimination.{shear}
use Rattle.stabilizer.specs.Groups.{Commuting, InGroup, SameGroup, chosen}

-- ---- one row multiplied into others
pub shear-in : (n m : ℕ) (rows : ℕ → Pauli) → Commuting n m rows → (a : ℕ) → a < m → (s : Word)
    (j : ℕ) → j < m → InGroup n m rows (shear n rows a s j)
shear-in n m rows G a ha s j l = in-mul n m rows G (in_row n m rows j l) (in-chosen (s j))
  where
    in-chosen : (b : Bool) → InGroup n m rows (chosen b (rows a))
    in-chosen false = in-identity n m rows
    in-chosen true = in_row n m rows a ha

-- itself not among them
module _ (n m : ℕ) (rows : ℕ → Pauli) (G : Commuting n m rows) (a : ℕ) (ha : a < m) (s : Word)
    (sa : s a ≡ false) where
  -- done twice, it undoes itself
  pub shear-undo : (j : ℕ) → shear n (shear n rows a s) a s j ≡ rows j
  shear-undo j =
      ap (λ r. mul n (shear n rows a s j) (chosen (s j) r)) (ap (λ b. mul n (rows a) (chosen b (rows a))) sa
      ∙ mul-identity n (rows a))
      ∙ mul_assoc n (rows j) _ _
      ∙ ap (mul n (rows j)) (chosen-mul n (s j) (s j) (rows a) (G.signed a ha)
      ∙ ap (λ b. chosen b (rows a)) (⊕-self (s j))) ∙ mul-identity n (rows j)

  pub shear-commuting : Commuting n m (shear n rows a s)
  shear-commuting = commuting-of n m rows G m (shear n rows a s) (shear-in n m rows G a ha s)

  pub shear-same : SameGroup n m rows (shear n rows a s)
  shear-same = same-by-generators n m rows (shear n rows a s) G (shear-in n m rows G a ha s)
      (λ j l. subst (InGroup n m (shear n rows a s)) (shear-undo j)
      (shear-in n m (shear n rows a s) shear-commuting a ha s j l))

-- what a row operation does to a bit
pub shear-bit : (n : ℕ) (f : Pauli → Bool) → Linear n f → (R : ℕ → Pauli) (a : ℕ) (s : Word) (j : ℕ)
    → f (shear n R a s j) ≡ f (R j) ⊕ (s j && f (R a))
shear-bit n f L R a s j = L.adds (R j) (chosen (s j) (R a)) ∙ ap (λ b. f (R j) ⊕ b) (go (s j))
  where
    go : (b : Bool) → f (chosen b (R a)) ≡ (b && f (R a))
    go false = L.at-identity
    go true = refl

-- ---- a pivot on column q with row i, which has the bit
module _ (n : ℕ) (R : ℕ → Pauli) (q i : ℕ) (hq : q < n) (hi : i < n) (has-x : (R i).x q ≡ true) where
  -- the lender does not lend to itself
  pub lend-self : lend R q i ≡ false
  lend-self = go (ℕ_discrete i q)
    where
      go : Dec (i ≡ q) → lend R q i ≡ false
      go (yes e) = ap (λ b. eqb i q && not b) (ap (λ v. (R v).x q) (sym e) ∙ has-x) ∙ and-false (eqb i q)
      go (no d) = ap (λ b. b && not ((R q).x q)) (other_place d)

  abbrev lent : ℕ → Pauli
  lent = shear n R i (lend R q)

  -- nor does row q clear itself
  pub clear_self : clear (shear n R i (lend R q)) q q ≡ false
  clear_self = ap (λ b. not b && (lent q).x q) (same_place q)

  -- row q now has the bit
  lent-has-x : (lent q).x q ≡ true
  lent-has-x = shear-bit n _ (x-linear n q) R i (lend R q) q
      ∙ ap₂ (λ a b. (R q).x q ⊕ ((a && not ((R q).x q)) && b)) (same_place q) has-x ∙ go ((R q).x q)
    where
      go : (b : Bool) → b ⊕ ((true && not b) && true) ≡ true
      go false = refl
      go true = refl

  -- column q has its one bit in row q
  pub pivot-column : (j : ℕ) → (pivot_on n R q i j).x q ≡ eqb j q
  pivot-column j = shear-bit n _ (x-linear n q) lent q (clear lent q) j
      ∙ ap (λ b. (lent j).x q ⊕ (clear lent q j && b)) lent-has-x ∙ go (ℕ_discrete j q)
    where
      go : Dec (j ≡ q) → (lent j).x q ⊕ (clear lent q j && true) ≡ eqb j q
      go (yes e) = subst (λ v. (lent v).x q ⊕ (clear lent q v && true) ≡ eqb v q) (sym e)
          (ap₂ (λ a b. a ⊕ (b && true)) lent-has-x clear_self ∙ sym (same_place q))
      go (no d) = ap (λ b. (lent j).x q ⊕ ((not b && (lent j).x q) && true)) (other_place d)
          ∙ ⊕-cleared ((lent j).x q) ∙ sym (other_place d)

  -- a bit that rows q and i do not have changes nowhere
  pub pivot-keeps : (f : Pauli → Bool) → Linear n f → f (R q) ≡ false → f (R i) ≡ false → (j : ℕ)
      → f (pivot_on n R q i j) ≡ f (R j)
  pivot-keeps f L fq fi j = shear-bit n f L lent q (clear lent q) j
      ∙ ap₂ (λ a b. a ⊕ (clear lent q j && b)) (lent-keeps j) (lent-keeps q ∙ fq)
      ∙ ap (λ b. f (R j) ⊕ b) (and-false (clear lent q j)) ∙ ⊕-zero (f (R j))
    where
      lent-keeps : (j : ℕ) → f (lent j) ≡ f (R j)
      lent-keeps j = shear-bit n f L R i (lend R q) j ∙ ap (λ b. f (R j) ⊕ (lend R q j && b)) fi
          ∙ ap (λ b. f (R j) ⊕ b) (and-false (lend R q j)) ∙ ⊕-zero (f (R j))

  module _ (G : Commuting n n R) where
    pub pivot-commuting : Commuting n n (pivot_on n R q i)
    pivot-commuting = shear-commuting n n lent (shear-commuting n n R G i hi (lend R q) lend-self) q hq
        (clear lent q) clear_self

    pub pivot-same : SameGroup n n R (pivot_on n R q i)
    pivot-same = same-trans (shear-same n n R G i hi (lend R q) lend-self)
        (shear-same n n lent (shear-commuting n n R G i hi (lend R q) lend-self) q hq (clear lent q)
        clear_self)
