-- The demand of products, from the call's contract.
use mathlib.Core.Bool.{Bool, false, true}
use mathlib.Core.Path.{◌≡◌, ◌∙◌, ap, refl, subst, sym}
use Prim.Native.Nat.{◌<◌, ◌^◌, suc, zero, ℕ}
use Rattle.pauli.proofs.PauliLaws.{Pauli-path, mul-identity}
use Rattle.pauli.proofs.PhaseLaws.{exponent_lt, power-exponent}
use Rattle.pauli.specs.Pauli.{Pauli, mul, power, row}
use Rattle.calls.proofs.ProductLines.{accepted-rows}
use Rattle.calls.specs.Products.{chosen_product}
use Rattle.stabilizer.proofs.Accepted.{formed-within}
use Rattle.stabilizer.proofs.ReadBack.{word_back}
use Rattle.stabilizer.proofs.Within.{product-within}
use Rattle.stabilizer.specs.Groups.{Within, chosen, product}
use Rattle.stabilizer.specs.Lists.{rows}
use Rattle.words.proofs.BitLaws.{word_of-lt}
use Rattle.words.specs.Bits.{Word, bit, fold}
use Rattle.claims.specs.ProductDemand.{ProductOf, ProductsAnswer, none, passed, taken}

-- the product of the definitions is the one in words
product-of : (n m : ℕ) (w : Word) (R : ℕ → Pauli) → ProductOf n w R m (product n m w R)
unfolding fold
product-of n zero w R = none
product-of n (suc m) w R = go (w m) refl (product-of n m w R)
  where
    go : (b : Bool) → w m ≡ b → ProductOf n w R m (product n m w R) →
        ProductOf n w R (suc m) (mul n (product n m w R) (chosen b (R m)))
    go false e before = subst (ProductOf n w R (suc m)) (sym (mul-identity n (product n m w R))) (passed e before)
    go true e before = taken e before

pub products-answer : ProductsAnswer
products-answer l c z x phase z' x' phase' C =
    record {
      product = subst (ProductOf l.n (bit c) (rows l) l.n) (sym answer)
          (product-of l.n l.n (bit c) (rows l));
      turns = subst (λ k. k < 4) (sym C.held.1.1.0) (exponent_lt p.phase);
      z-below = subst (λ k. k < 2 ^ l.n) (sym C.held.0) (word_of-lt l.n p.z);
      x_below = subst (λ k. k < 2 ^ l.n) (sym C.held.1.0) (word_of-lt l.n p.x);
    }
  where
    p : Pauli
    p = chosen_product l c

    inside : Within l.n p
    inside = product-within l.n l.n (bit c) (rows l) (formed-within l (accepted-rows l c (sym C.number)))

    answer : row (power phase') z' x' ≡ p
    answer = Pauli-path (ap power C.held.1.1.0 ∙ power-exponent p.phase)
        (λ q. ap (λ v. bit v q) C.held.0 ∙ word_back l.n p.z inside.no-z q)
        (λ q. ap (λ v. bit v q) C.held.1.0 ∙ word_back l.n p.x inside.no-x q)
