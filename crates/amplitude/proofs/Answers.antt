-- The answers depend on the group alone.
use mathlib.Core.Bool.{Bool, cond, false, true}
use mathlib.Core.Path.{◌∙◌, ◌≡◌, ap, refl, sym}
use Prim.Native.Nat.{◌^◌, ℕ}
use Rattle.pauli.specs.Pauli.{Pauli, Phase, exponent}
use Rattle.stabilizer.proofs.GroupLaws.{same-sym}
use Rattle.stabilizer.specs.Groups.{Proper, SameGroup}
use Rattle.words.proofs.Flags.{same-by-both}
use Rattle.words.proofs.SearchLaws.{first-unique}
use Rattle.words.specs.Bits.{◌⊕◌, bit}
use Rattle.amplitude.proofs.Existence.{any-element, leading-leads, lowest-is}
use Rattle.amplitude.proofs.Support.{supported-exactly, supported-of-group}
use Rattle.amplitude.specs.Plotting.{turned}
use Rattle.amplitude.specs.Ratios.{Leads, chosen_by, leading, lowest, ratio, is_supported}
use Rattle.amplitude.specs.Turns.{turns_at}
use Rattle.amplitude.specs.internal.Vectors.{OfGroup}
use Rattle.amplitude.specs.Vectors.{none, one, turn_by}
use Rattle.amplitude.specs.declared.Amplitude.TheVariants.{Nothing}

module _ (n : ℕ) (R S : ℕ → Pauli) (P : Proper n R) (Q : Proper n S) (E : SameGroup n n R S) where
  same-support : (y : ℕ) → is_supported n R y ≡ is_supported n S y
  same-support y = same-by-both _ _
      (λ e. (supported-exactly n S y).1 (supported-of-group n R S E (bit y) ((supported-exactly n R y).0 e)))
      (λ e. (supported-exactly n R y).1 (supported-of-group n S R (same-sym E) (bit y) ((supported-exactly n S y).0 e)))

  same-lowest : lowest n R ≡ lowest n S
  same-lowest =
      let L = lowest-is n S Q in
      first-unique (2 ^ n) (is_supported n R) (lowest n S) (record {
        below = L.below;
        passes = same-support (lowest n S) ∙ L.passes;
        least = λ j k. same-support j ∙ L.least j k;
      })

  same-ratio : (y : ℕ) → is_supported n R y ≡ true → ratio n R y ≡ ratio n S y
  same-ratio y H =
      sym (any-element n R P y H p (E.back p (bit v, refl))
      (λ q l. lead q l ∙ ap (λ w. bit w q ⊕ bit y q) (sym same-lowest)))
      ∙ ap (λ w. turns_at n p (bit w)) same-lowest
      ∙ any-element n S Q y (sym (same-support y) ∙ H) p (bit v, refl) lead
    where
      v : ℕ
      v = leading n S (lowest n S) y

      p : Pauli
      p = chosen_by n S (leading n S (lowest n S) y)

      lead : Leads n (chosen_by n S (leading n S (lowest n S) y)) (bit (lowest n S)) (bit y)
      lead = leading-leads n S Q (lowest n S) y (lowest-is n S Q).passes (sym (same-support y) ∙ H)

  -- a value chosen by the support and the ratio
  same-value : {A : Type 0} (f : Phase → A) (a : A) (y : ℕ)
      → cond (is_supported n R y) (f (ratio n R y)) a ≡ cond (is_supported n S y) (f (ratio n S y)) a
  same-value f a y = go (is_supported n R y) refl ∙ ap (λ b. cond b (f (ratio n S y)) a) (same-support y)
    where
      go : (b : Bool) → is_supported n R y ≡ b → cond b (f (ratio n R y)) a ≡ cond b (f (ratio n S y)) a
      go true e = ap f (same-ratio y e)
      go false e = refl

  pub of-group : OfGroup n R S
  of-group =
      record {
        support = same-support;
        smallest = same-lowest;
        vector = same-value (λ t. turn_by t one) none;
        answer = same-value (λ t. turned (exponent t)) Nothing;
      }
