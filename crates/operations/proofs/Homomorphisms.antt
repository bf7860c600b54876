-- Maps of rows that keep products and powers of i: they keep commutation, and carry the group of a list onto the
-- group of its image.
use mathlib.Core.Bool.{Bool, false, true}
use mathlib.Core.Logic.{◌↔◌}
use mathlib.Core.Path.{ap, refl, subst, sym, ◌∙◌, ◌≡◌}
use Prim.Native.Nat.{ℕ}
use Rattle.pauli.proofs.PauliLaws.{mul-swap}
use Rattle.pauli.proofs.PhaseLaws.{cancel-phase, minus-injective}
use Rattle.pauli.specs.Pauli.{Pauli, Phase, anticommute, identity, imaginary, minus, mul, scaled}
use Rattle.stabilizer.specs.Groups.{InGroup, Proper, Trivial, Within, chosen, product}
use Rattle.words.proofs.Sums.{fold-ext, fold-hom}
use Rattle.words.specs.Bits.{Word}

pub record Homomorphism (n : ℕ) (f : Pauli → Pauli) : Type 0 where
  pub on-identity : f identity ≡ identity
  pub on-products : (p r : Pauli) → f (mul n p r) ≡ mul n (f p) (f r)
  pub on-powers : (t : Phase) (p : Pauli) → f (scaled t p) ≡ scaled t (f p)

module _ (n : ℕ) (f : Pauli → Pauli) (F : Homomorphism n f) where
  pub keeps-anticommute : (p r : Pauli) → anticommute n (f p) (f r) ≡ anticommute n p r
  keeps-anticommute p r =
      minus-injective _ _ (cancel-phase _ _ (mul n (f r) (f p)).phase
      (ap (λ q. q.phase) (sym (mul-swap n (f p) (f r)) ∙ sym (F.on-products p r) ∙ ap f (mul-swap n p r)
      ∙ F.on-powers (minus (anticommute n p r)) (mul n r p)
      ∙ ap (scaled (minus (anticommute n p r))) (F.on-products r p))))

  on-chosen : (b : Bool) (r : Pauli) → f (chosen b r) ≡ chosen b (f r)
  on-chosen false r = F.on-identity
  on-chosen true r = refl

  pub image-product : (m : ℕ) (w : Word) (rows : ℕ → Pauli)
      → f (product n m w rows) ≡ product n m w (λ j. f (rows j))
  image-product m w rows = fold-hom identity (mul n) identity (mul n) f F.on-identity F.on-products m _
      ∙ fold-ext identity (mul n) m (λ j l. on-chosen (w j) (rows j))

  -- the image's group is the image of the group
  pub image-group : (m : ℕ) (rows : ℕ → Pauli) (p : Pauli)
      → InGroup n m (λ j. f (rows j)) p ↔ ((r : Pauli) × InGroup n m rows r × (p ≡ f r))
  image-group m rows p = (
    (λ a. (product n m a.0 rows, (a.0, refl), a.1 ∙ sym (image-product m a.0 rows))),
    (λ a. (a.1.0, a.2 ∙ ap f a.1.1 ∙ image-product m a.1.0 rows)),
  )

  -- the image of a list is a list, where signs, letters and rows of n qubits are kept
  pub image-proper : ((p : Pauli) → imaginary (f p).phase ≡ imaginary p.phase)
      → ((p : Pauli) → Trivial n (f p) → Trivial n p) → ((p : Pauli) → Within n p → Within n (f p))
      → (rows : ℕ → Pauli) → Proper n rows → Proper n (λ j. f (rows j))
  image-proper signs letters inside rows P =
      record {
        commuting = record {
          signed = λ j l. signs (rows j) ∙ P.commuting.signed j l;
          commute = λ i j k l. keeps-anticommute (rows i) (rows j) ∙ P.commuting.commute i j k l;
        };
        independent = λ w t. P.independent w (letters (product n n w rows)
            (subst (Trivial n) (sym (image-product n w rows)) t));
        within = λ j l. inside (rows j) (P.within j l);
      }
