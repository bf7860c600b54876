-- Z measured at a qubit: the supported words afterwards are those before that have the outcome there.
use mathlib.Core.Bool.{◌&&◌, Bool, and-false, false, true}
use mathlib.Core.Logic.{◌↔◌}
use mathlib.Core.Path.{◌∙◌, ◌≡◌, ap, ap₂, refl, subst, sym}
use Prim.Native.Nat.{◌<◌, ℕ}
use lib.Dec.{eqb}
use Rattle.operations.proofs.Contradicted.{agreed-outcome, contradicts-exactly}
use Rattle.operations.proofs.Determined.{determined-element, determined-kept, measured-group}
use Rattle.operations.proofs.MeasuredRecords.{single-clash}
use Rattle.operations.specs.Measurement.Measured.{joined, kept}
use Rattle.operations.specs.Measurement.{Measured, contradicts, is_determined, measured_rows, single}
use Rattle.pauli.proofs.PauliLaws.{identity-mul, mul-x}
use Rattle.pauli.proofs.PhaseLaws.{minus-injective, minus-⊕}
use Rattle.pauli.specs.Pauli.{◌+ᵖ◌, Pauli, anticommute, clash, i⁰, letter, minus}
use Rattle.pauli.specs.declared.Letter.TheVariants.{Z}
use Rattle.stabilizer.proofs.GroupLaws.{in-identity}
use Rattle.stabilizer.proofs.Products.{anticommute-identity}
use Rattle.stabilizer.specs.Groups.{InGroup, Proper}
use Rattle.words.proofs.Finite.{bits, ⊕-self, ⊕-zero}
use Rattle.words.proofs.Places.{parity-at, ⊕-cancel}
use Rattle.words.proofs.Sums.{fold-ext}
use Rattle.words.specs.Bits.{Word, ◌⊕◌}
use Rattle.amplitude.proofs.FormRows.{diagonal-turns}
use Rattle.amplitude.proofs.Support.{turns-ext}
use Rattle.amplitude.proofs.TurnLaws.{turns-mul}
use Rattle.amplitude.specs.internal.Ratios.{Diagonal, Supported}
use Rattle.amplitude.specs.Turns.{turns_at}

module _ (n q : ℕ) (hq : q < n) where
  -- Z at one qubit, with a sign
  single-diagonal : (s : Bool) → Diagonal n (single Z q s)
  single-diagonal s t l = and-false (eqb t q)

  single-turns : (s : Bool) (y : Word) → turns_at n (single Z q s) y ≡ minus (s ⊕ y q)
  single-turns s y = diagonal-turns n (single Z q s) (single-diagonal s) y
      ∙ ap (λ b. minus s +ᵖ minus b)
      (fold-ext false ◌⊕◌ n (λ t l. swapped (eqb t q) (y t)) ∙ parity-at n y q hq)
      ∙ sym (minus-⊕ s (y q))
    where
      swapped : (e b : Bool) → ((e && true) && b) ≡ (b && e)
      swapped = bits 2 (λ e b. (e && true) && b) (λ e b. b && e) tt

  -- it says what bit a supported word has there
  pub single-bit : (R : ℕ → Pauli) (s : Bool) → InGroup n n R (single Z q s) → (y : Word) → Supported n R y → y q ≡ s
  single-bit R s a y H = sym (⊕-cancel s (y q) (minus-injective (s ⊕ y q) false
      (sym (single-turns s y) ∙ H (single Z q s) a (single-diagonal s))))

  -- a diagonal element commutes with it
  commutes : (d : Pauli) (s : Bool) → Diagonal n d → anticommute n d (single Z q s) ≡ false
  commutes d s h = single-clash n d Z q s hq ∙ ap (λ x. clash (letter (d.z q) x) Z) (h q hq) ∙ plain (d.z q)
    where
      plain : (z : Bool) → clash (letter z false) Z ≡ false
      plain false = refl
      plain true = refl

  module _ (R : ℕ → Pauli) (P : Proper n R) (b : Bool) (c : contradicts n R Z q b ≡ false) where
    abbrev after : ℕ → Pauli
    after = measured_rows n R Z q b

    -- it joins with the outcome's sign, and the diagonal elements stay
    joins : InGroup n n after (single Z q b)
    joins = go (is_determined n R Z q) refl
      where
        go : (d : Bool) → is_determined n R Z q ≡ d → InGroup n n after (single Z q b)
        go true e = subst (λ A. InGroup n n A (single Z q b)) (sym (determined-kept n R P Z q hq e b))
            (subst (λ s. InGroup n n R (single Z q s)) (agreed-outcome n R Z q b c)
            (determined-element n R P Z q hq e b))
        go false e = (measured-group n R P Z q hq e b (single Z q b)).1
            (subst (Measured n R (single Z q b)) (identity-mul n (single Z q b))
            (joined (in-identity n n R) (anticommute-identity n (single Z q b))))

    stay : (d : Pauli) → InGroup n n R d → Diagonal n d → InGroup n n after d
    stay d a h = go (is_determined n R Z q) refl
      where
        go : (v : Bool) → is_determined n R Z q ≡ v → InGroup n n after d
        go true e = subst (λ A. InGroup n n A d) (sym (determined-kept n R P Z q hq e b)) a
        go false e = (measured-group n R P Z q hq e b d).1 (kept a (commutes d b h))

    module _ (y : Word) (H : Supported n R y) (same : y q ≡ b) where
      own : turns_at n (single Z q b) y ≡ i⁰
      own = single-turns b y ∙ ap minus (ap (λ v. b ⊕ v) same ∙ ⊕-self b)

      new-fixes : {p : Pauli} → Measured n R (single Z q b) p → Diagonal n p → turns_at n p y ≡ i⁰
      new-fixes {p} (kept a e) h = H p a h
      new-fixes (joined {p} a e) h =
          turns-mul n p (single Z q b) y
          ∙ ap₂ ◌+ᵖ◌ own
          (turns-ext n p (λ t. y t ⊕ (single Z q b).x t) y
          (λ t l. ap (λ v. y t ⊕ v) (single-diagonal b t l) ∙ ⊕-zero (y t)) ∙ H p a diagonal)
        where
          diagonal : Diagonal n p
          diagonal t l = sym (mul-x n p (single Z q b) t ∙ ap (λ v. p.x t ⊕ v) (single-diagonal b t l)
              ∙ ⊕-zero (p.x t)) ∙ h t l

      back : Supported n (measured_rows n R Z q b) y
      back p a h = go (is_determined n R Z q) refl
        where
          go : (v : Bool) → is_determined n R Z q ≡ v → turns_at n p y ≡ i⁰
          go true e = H p (subst (λ A. InGroup n n A p) (determined-kept n R P Z q hq e b) a) h
          go false e = new-fixes ((measured-group n R P Z q hq e b p).0 a) h

    pub supported-measured : (y : Word)
        → Supported n (measured_rows n R Z q b) y ↔ (Supported n R y × (y q ≡ b))
    supported-measured y = (
      (λ H. ((λ d a h. H d (stay d a h) h), single-bit after b joins y H)),
      (λ H. back y H.0 H.1),
    )

  -- where bit 0 is forbidden, every supported word has bit 1
  pub forbidden-bit : (R : ℕ → Pauli) → Proper n R → contradicts n R Z q false ≡ true → (y : Word) → Supported n R y
      → y q ≡ true
  forbidden-bit R P e y H = single-bit R true ((contradicts-exactly n R Z q false P hq).0 e) y H
