-- The product of chosen rows by a loop over them: the rows below i are looked at. The code multiplies rows of 64
-- qubits.
use mathlib.Core.Bool.{false, true}
use mathlib.Core.Path.{ap, ap₂, subst, sym, ◌∙◌, ◌≡◌}
use Prim.Native.Nat.{◌+◌, ◌<◌, zero-le, ℕ, ◌≤◌}
use native.Mathlib.Nat.{lt_trans}
use native.Mathlib.Numerals.{add-one}
use native.Mathlib.Omega.{arith}
use Rattle.pauli.proofs.PauliLaws.{mul-identity}
use Rattle.pauli.specs.Pauli.{Pauli, anticommute, identity, mul}
use Rattle.words.specs.Bits.{Word, fold}
use Rattle.stabilizer.proofs.Products.{anticommute-product}
use Rattle.stabilizer.proofs.Within.{anticommute-wide, mul_wide, product-within}
use Rattle.stabilizer.specs.Groups.{Commuting, Within, chosen, product}

-- the loop's invariant
pub record Multiplied (n : ℕ) (rows : ℕ → Pauli) (w : Word) (i : ℕ) (p : Pauli) : Type 0 where
  pub upto : i ≤ n
  pub is : p ≡ product n i w rows

pub none-multiplied : (n : ℕ) (rows : ℕ → Pauli) (w : Word) (p : Pauli) → p ≡ identity
    → Multiplied n rows w 0 p
unfolding fold
none-multiplied n rows w p e = record { upto = zero-le; is = e }

module _ (n : ℕ) (l : n ≤ 64) (rows : ℕ → Pauli) (W : (j : ℕ) → j < n → Within n (rows j)) (w : Word) (i : ℕ)
    (p : Pauli) (M : Multiplied n rows w i p) (more : i < n) where
  prefix-within : Within n p
  prefix-within = subst (Within n) (sym M.is) (product-within n i w rows (λ j k. W j (lt_trans k more)))

  -- rows that commute: the next one commutes with the product so far
  pub next-commutes : Commuting n n rows → anticommute 64 p (rows i) ≡ false
  next-commutes C =
      anticommute-wide n 64 l prefix-within (W i more)
      ∙ ap (λ r. anticommute n r (rows i)) M.is
      ∙ anticommute-product n i w rows (rows i) (λ j k. C.commute j i (lt_trans k more) more)

  pub multiplied-on : (r : Pauli) → w i ≡ true → r ≡ mul 64 p (rows i) → Multiplied n rows w (i + 1) r
  unfolding fold
  multiplied-on r t e =
      record {
        upto = rw add-one more;
        is = rw add-one (e ∙ mul_wide n 64 l prefix-within (W i more)
            ∙ ap₂ (mul n) M.is (ap (λ b. chosen b (rows i)) (sym t)));
      }

  pub multiplied-off : w i ≡ false → Multiplied n rows w (i + 1) p
  unfolding fold
  multiplied-off t =
      record {
        upto = rw add-one more;
        is = rw add-one (M.is ∙ sym (mul-identity n _)
            ∙ ap (λ b. mul n (product n i w rows) (chosen b (rows i))) (sym t));
      }

pub all-multiplied : (n : ℕ) (rows : ℕ → Pauli) (w : Word) (i : ℕ) (p : Pauli) → n ≤ i → Multiplied n rows w i p
    → p ≡ product n n w rows
all-multiplied n rows w i p k M = subst (λ m. p ≡ product n m w rows) (meet M.upto k) M.is
  where
    meet : {a b : ℕ} → a ≤ b → b ≤ a → a ≡ b
    meet u v = omega (arith, u, v)
