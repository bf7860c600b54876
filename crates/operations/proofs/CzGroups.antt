-- CZ on a list: the image is a list, its group is the image of the group, and the answer has that group.
use mathlib.Core.Bool.{◌&&◌, false}
use mathlib.Core.Logic.{◌↔◌, ◌≢◌}
use mathlib.Core.Path.{ap, ap₂, subst, ◌∙◌, ◌≡◌}
use Prim.Native.Nat.{◌<◌, ℕ, ◌≤◌}
use native.Mathlib.Omega.{arith}
use lib.Dec.{eqb}
use Rattle.pauli.specs.Pauli.{Pauli}
use Rattle.stabilizer.specs.Groups.{InGroup, Proper, Trivial, Within}
use Rattle.words.proofs.Places.{other_place}
use Rattle.words.specs.Bits.{◌⊕◌}
use Rattle.operations.proofs.CzLaws.{cz-fixed, cz-signed}
use Rattle.operations.proofs.CzValues.{cz-homomorphism, cz-is}
use Rattle.operations.proofs.Homomorphisms.{Homomorphism, image-group, image-proper}
use Rattle.operations.specs.Cz.{cz, cz_rows}

pub cz-within : (n a b : ℕ) → a < n → b < n → (p : Pauli) → Within n p → Within n (cz a b p)
unfolding cz
cz-within n a b ha hb p W =
    record {
      no-x = W.no-x;
      no-z = λ q l. ap (λ c. c ⊕ ((eqb q a && p.x b) ⊕ (eqb q b && p.x a))) (W.no-z q l)
          ∙ ap₂ (λ u v. (u && p.x b) ⊕ (v && p.x a)) (away q l a ha) (away q l b hb);
    }
  where
    away : (q : ℕ) → n ≤ q → (c : ℕ) → c < n → eqb q c ≡ false
    away q l c h = other_place {i = q} {j = c} (λ e. absurd (omega (arith, e)))

-- no letter goes to I
cz-letters : (n a b : ℕ) → a < n → b < n → (p : Pauli) → Trivial n (cz a b p) → Trivial n p
unfolding cz
cz-letters n a b ha hb p T = subst (Trivial n) (cz-fixed a b p (T.no-x a ha) (T.no-x b hb)) T

module _ (n a b : ℕ) (ha : a < n) (hb : b < n) (ab : a ≢ b) (rows : ℕ → Pauli) where
  homomorphism : Homomorphism n (cz a b)
  homomorphism = cz-homomorphism n a b (cz a b) (cz-is n a b ha hb ab)

  pub cz-proper : Proper n rows → Proper n (cz_rows a b rows)
  cz-proper =
      image-proper n (cz a b) homomorphism (cz-signed a b) (cz-letters n a b ha hb) (cz-within n a b ha hb)
      rows

  -- the new group is exactly the old one sent through CZ
  pub cz-group : (p : Pauli) → InGroup n n (cz_rows a b rows) p
      ↔ ((r : Pauli) × InGroup n n rows r × (p ≡ cz a b r))
  cz-group = image-group n (cz a b) homomorphism n rows
