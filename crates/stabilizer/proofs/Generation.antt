-- The two descriptions of a group agree: all products of commuting generators are products of chosen ones.
use mathlib.Core.Bool.{Bool, false, true}
use mathlib.Core.Logic.{◌↔◌}
use mathlib.Core.Path.{subst, sym, ◌∙◌, ◌≡◌}
use Prim.Native.Nat.{suc, zero, ℕ, ◌≤◌}
use native.Mathlib.Nat.{le_refl}
use native.Mathlib.Omega.{arith}
use Rattle.pauli.proofs.PauliLaws.{anticommute-swap, mul_comm, mul-identity}
use Rattle.pauli.specs.Pauli.{Pauli, anticommute, mul}
use Rattle.words.specs.Bits.{Word, fold}
use Rattle.stabilizer.proofs.GroupLaws.{in-identity, in-mul, in_row}
use Rattle.stabilizer.proofs.Products.{anticommute-product}
use Rattle.stabilizer.specs.Groups.{Commuting, Generated, InGroup, chosen, product, times, unit}

module _ (n m : ℕ) (rows : ℕ → Pauli) (G : Commuting n m rows) where
  -- a product of chosen rows is built from its last row down
  product-generated : (w : Word) (k : ℕ) → k ≤ m → Generated n m rows (product n k w rows)
  unfolding fold
  product-generated w zero l = unit
  product-generated w (suc k) l = last (w k) (product-generated w k (omega arith))
    where
      last : (b : Bool) → Generated n m rows (product n k w rows)
          → Generated n m rows (mul n (product n k w rows) (chosen b (rows k)))
      last false g = subst (Generated n m rows) (sym (mul-identity n (product n k w rows))) g
      last true g = subst (Generated n m rows) (mul_comm n (rows k) (product n k w rows) commute)
          (times k l g)
        where
          commute : anticommute n (rows k) (product n k w rows) ≡ false
          commute = anticommute-swap n (rows k) (product n k w rows)
              ∙ anticommute-product n k w rows (rows k) (λ j a. G.commute j k (omega arith) l)

  generated-in : {p : Pauli} → Generated n m rows p → InGroup n m rows p
  generated-in unit = in-identity n m rows
  generated-in (times j l g) = in-mul n m rows G (in_row n m rows j l) (generated-in g)

  pub in-group-generated : (p : Pauli) → InGroup n m rows p ↔ Generated n m rows p
  in-group-generated p = (
    (λ a. subst (Generated n m rows) (sym a.1) (product-generated a.0 m (le_refl m))),
    generated-in,
  )
