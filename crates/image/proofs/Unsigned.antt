-- Generators with other signs: the group has the same elements up to sign.
use mathlib.Core.Bool.{◌&&◌, Bool, false, true}
use mathlib.Core.Path.{ap, ap₂, refl, sym, ◌∙◌, ◌≡◌}
use Prim.Native.Nat.{suc, zero, ℕ}
use Rattle.pauli.proofs.PauliLaws.{mul-scaled, scaled-mul}
use Rattle.pauli.proofs.PhaseLaws.{+ᵖ-assoc, minus-real, minus-⊕, twice}
use Rattle.pauli.specs.Pauli.{◌+ᵖ◌, Pauli, minus, mul, scaled}
use Rattle.stabilizer.specs.Groups.{InGroup, chosen, product}
use Rattle.words.specs.Bits.{Word, fold, parity, ◌⊕◌}
use Rattle.image.specs.Image.{InUnsigned}

minus-twice : (s : Bool) (p : Pauli) → scaled (minus s) (scaled (minus s) p) ≡ p
minus-twice s p =
    λ i. record {
      phase =
          (sym (+ᵖ-assoc (minus s) (minus s) p.phase)
          ∙ ap (λ t. t +ᵖ p.phase) (twice (minus s) (minus-real s))) i;
      z = p.z;
      x = p.x;
    }

module _ (n : ℕ) (s : Word) (rows : ℕ → Pauli) where
  abbrev pub resigned : ℕ → Pauli
  resigned j = scaled (minus (s j)) (rows j)

  -- a product changes by the product of the signs that take part
  resigned-product : (m : ℕ) (w : Word) →
      product n m w resigned ≡ scaled (minus (parity m (λ j. w j && s j))) (product n m w rows)
  unfolding fold
  resigned-product zero w = refl
  resigned-product (suc m) w =
      ap₂ (mul n) (resigned-product m w) (one (w m) (s m) (rows m))
      ∙ scaled-mul n (minus (parity m (λ j. w j && s j))) (product n m w rows) _
      ∙ ap (scaled (minus (parity m (λ j. w j && s j))))
      (mul-scaled n (minus (w m && s m)) (product n m w rows) (chosen (w m) (rows m)))
      ∙ join (parity m (λ j. w j && s j)) (w m && s m) (mul n (product n m w rows) (chosen (w m) (rows m)))
    where
      one : (b t : Bool) (r : Pauli) → chosen b (scaled (minus t) r) ≡ scaled (minus (b && t)) (chosen b r)
      one false t r = refl
      one true t r = refl

      join : (a b : Bool) (p : Pauli) → scaled (minus a) (scaled (minus b) p) ≡ scaled (minus (a ⊕ b)) p
      join a b p =
          λ i. record {
            phase =
                (sym (+ᵖ-assoc (minus a) (minus b) p.phase) ∙ ap (λ t. t +ᵖ p.phase) (sym (minus-⊕ a b))) i;
            z = p.z;
            x = p.x;
          }

  pub resigned-there : (p : Pauli) → InGroup n n resigned p → InUnsigned n rows p
  resigned-there p a =
      let t = parity n (λ j. a.0 j && s j) in (
        t,
        (
          a.0,
          ap (scaled (minus t)) (a.1 ∙ resigned-product n a.0)
              ∙ minus-twice t (product n n a.0 rows),
        ),
      )

  pub resigned-back : (p : Pauli) → InGroup n n rows p → InUnsigned n resigned p
  resigned-back p a =
      let t = parity n (λ j. a.0 j && s j) in
      (t, (a.0, ap (scaled (minus t)) a.1 ∙ sym (resigned-product n a.0)))
