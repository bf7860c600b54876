-- Lists with the same first n rows: each is proper where the other is, and the groups are one.
use mathlib.Core.Bool.{false}
use mathlib.Core.Path.{ap, ap₂, subst, sym, ◌∙◌, ◌≡◌}
use Prim.Native.Nat.{◌<◌, ℕ}
use Rattle.pauli.specs.Pauli.{Pauli, anticommute, identity, imaginary, mul}
use Rattle.words.proofs.Sums.{fold-ext}
use Rattle.words.specs.Bits.{Word}
use Rattle.stabilizer.specs.Groups.{
  Commuting,
  Independent,
  Proper,
  SameGroup,
  Trivial,
  Within,
  chosen,
  product,
}

module _ (n : ℕ) (R S : ℕ → Pauli) (h : (j : ℕ) → j < n → R j ≡ S j) where
  pub commuting-equal : Commuting n n R → Commuting n n S
  commuting-equal G =
      record {
        signed = λ j l. subst (λ p. imaginary p.phase ≡ false) (h j l) (G.signed j l);
        commute = λ i j k l. sym (ap₂ (anticommute n) (h i k) (h j l)) ∙ G.commute i j k l;
      }

  pub within-equal : ((j : ℕ) → j < n → Within n (R j)) → (j : ℕ) → j < n → Within n (S j)
  within-equal W j l = subst (Within n) (h j l) (W j l)

  pub product-equal : (w : Word) → product n n w R ≡ product n n w S
  product-equal w = fold-ext identity (mul n) n (λ j l. ap (chosen (w j)) (h j l))

  pub independent-equal : Independent n R → Independent n S
  independent-equal H w t = H w (subst (Trivial n) (sym (product-equal w)) t)

  pub proper-equal : Proper n R → Proper n S
  proper-equal P =
      record {
        commuting = commuting-equal P.commuting;
        independent = independent-equal P.independent;
        within = within-equal P.within;
      }

  pub same-group-equal : SameGroup n n R S
  same-group-equal =
      record {
        there = λ p a. (a.0, a.1 ∙ product-equal a.0);
        back = λ p a. (a.0, a.1 ∙ sym (product-equal a.0));
      }
