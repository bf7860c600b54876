-- Where a supplied bit is contradicted: exactly if the Pauli with the other sign is in the group. Otherwise the outcome
-- is the bit.
use mathlib.Core.Bool.{◌&&◌, Bool, cond, false, false≢true, not, true}
use mathlib.Core.Logic.{◌↔◌}
use mathlib.Core.Path.{ap₂, refl, subst, ◌∙◌, ◌≡◌}
use Prim.Native.Nat.{◌<◌, ℕ}
use Rattle.pauli.specs.Pauli.{Pauli}
use Rattle.pauli.specs.declared.Letter.{Letter}
use Rattle.stabilizer.specs.Groups.{InGroup, Proper}
use Rattle.stabilizer.specs.Membership.{member}
use Rattle.words.proofs.Finite.{bits}
use Rattle.words.proofs.Flags.{both_true}
use Rattle.words.proofs.Places.{⊕-cancel}
use Rattle.words.specs.Bits.{◌⊕◌}
use Rattle.operations.proofs.Determined.{determined-element, determined-sign}
use Rattle.operations.specs.Measurement.{contradicts, is_determined, outcome, single}

-- bits that differ
other-bit : (a b : Bool) → a ⊕ b ≡ true → a ≡ not b
other-bit false true e = refl
other-bit true false e = refl
other-bit false false e = absurd (false≢true e)
other-bit true true e = absurd (false≢true e)

not-differs : (b : Bool) → not b ⊕ b ≡ true
not-differs = bits 1 (λ b. not b ⊕ b) (λ b. true) tt

module _ (n : ℕ) (rows : ℕ → Pauli) (l : Letter) (q : ℕ) (b : Bool) where
  pub contradicts-exactly : Proper n rows → q < n
      → (contradicts n rows l q b ≡ true) ↔ InGroup n n rows (single l q (not b))
  contradicts-exactly L h = (
    (λ e. let t = both_true (is_determined n rows l q) (outcome n rows l q b ⊕ b) e in
        subst (λ s. InGroup n n rows (single l q s)) (other-bit (outcome n rows l q b) b t.1)
        (determined-element n rows L l q h t.0 b)),
    (λ a. let t = determined-sign n rows L l q h (not b) a in
        ap₂ (λ d o. d && (o ⊕ b)) t.0 (t.1 b) ∙ not-differs b),
  )

  pub agreed-outcome : contradicts n rows l q b ≡ false → outcome n rows l q b ≡ b
  agreed-outcome = go (is_determined n rows l q)
    where
      go : (d : Bool) → (d && (cond d (member n rows (single l q true)) b ⊕ b)) ≡ false
          → cond d (member n rows (single l q true)) b ≡ b
      go true e = ⊕-cancel (member n rows (single l q true)) b e
      go false e = refl
