-- Independence is a matter of the letters alone.
use mathlib.Core.Bool.{◌&&◌, Bool, false, true}
use mathlib.Core.Logic.{◌↔◌}
use mathlib.Core.Path.{ap, refl, sym, ◌∙◌, ◌≡◌}
use Prim.Native.Nat.{◌<◌, ℕ}
use Rattle.pauli.specs.Pauli.{Pauli}
use Rattle.stabilizer.proofs.Pairs.{letters_of}
use Rattle.stabilizer.proofs.Products.{product-x, product-z}
use Rattle.stabilizer.proofs.Verdicts.{independent-exactly}
use Rattle.stabilizer.specs.Groups.{Independent}
use Rattle.stabilizer.specs.Lists.{GeneratorList, dependent, rows}
use Rattle.words.proofs.Sums.{fold-ext}
use Rattle.words.specs.Bits.{◌⊕◌}

-- rows with the same letters
pub record SameLetters (n : ℕ) (R S : ℕ → Pauli) : Type 0 where
  pub same-x : (j : ℕ) → j < n → (q : ℕ) → (R j).x q ≡ (S j).x q
  pub same-z : (j : ℕ) → j < n → (q : ℕ) → (R j).z q ≡ (S j).z q

module _ (n : ℕ) (R S : ℕ → Pauli) where
  pub independent-letters : SameLetters n R S → Independent n R → Independent n S
  independent-letters L H w t =
      H w record {
        no-x = λ q l. product-x n n w R q ∙ fold-ext false ◌⊕◌ n (λ j k. ap (λ b. w j && b) (L.same-x j k q))
            ∙ sym (product-x n n w S q) ∙ t.no-x q l;
        no-z = λ q l. product-z n n w R q ∙ fold-ext false ◌⊕◌ n (λ j k. ap (λ b. w j && b) (L.same-z j k q))
            ∙ sym (product-z n n w S q) ∙ t.no-z q l;
      }

  -- so the tests agree where each independence follows from the other
  pub dependent-same : Independent n R ↔ Independent n S → dependent n R ≡ dependent n S
  dependent-same h = go (dependent n R) refl (dependent n S) refl
    where
      go : (a : Bool) → dependent n R ≡ a → (b : Bool) → dependent n S ≡ b → a ≡ b
      go false e false f = refl
      go false e true f = sym ((independent-exactly n S).1 (h.0 ((independent-exactly n R).0 e))) ∙ f
      go true e false f = sym e ∙ (independent-exactly n R).1 (h.1 ((independent-exactly n S).0 f))
      go true e true f = refl

-- a list is as dependent as its letters
pub list-dependent : (l : GeneratorList) → dependent l.n (letters_of l.z l.x) ≡ dependent l.n (rows l)
list-dependent l = dependent-same l.n (letters_of l.z l.x) (rows l) (
  independent-letters l.n (letters_of l.z l.x) (rows l)
      (record { same-x = λ j k q. refl; same-z = λ j k q. refl }),
  independent-letters l.n (rows l) (letters_of l.z l.x)
      (record { same-x = λ j k q. refl; same-z = λ j k q. refl }),
)
