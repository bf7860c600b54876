-- When a measurement is determined: exactly if the Pauli commutes with every generator; and then its sign.
use mathlib.Core.Bool.{◌&&◌, Bool, cond, false, or-true, true, true≢false, ◌||◌}
use mathlib.Core.Logic.{inl, inr, ◌↔◌, ◌⊎◌}
use mathlib.Core.Path.{ap, refl, subst, sym, ◌∙◌, ◌≡◌}
use Prim.Native.Nat.{◌<◌, ℕ}
use native.Mathlib.Omega.{arith}
use Rattle.pauli.proofs.PhaseLaws.{minus-real}
use Rattle.stabilizer.specs.Membership.{member}
use Rattle.pauli.proofs.PauliLaws.{mul-scaled, square}
use Rattle.pauli.specs.Pauli.{Pauli, anticommute, i², scaled, x_bit, z_bit}
use Rattle.pauli.specs.declared.Letter.{Letter}
use Rattle.record.proofs.Maximality.{maximal-list}
use Rattle.stabilizer.proofs.GroupLaws.{elements-commute, in-mul, in_row}
use Rattle.stabilizer.proofs.Independence.{no_minus}
use Rattle.stabilizer.specs.Groups.{InGroup, Proper, Within}
use Rattle.words.proofs.Flags.{either}
use Rattle.words.proofs.Places.{other_place}
use Rattle.words.proofs.SearchLaws.{first-is}
use Rattle.words.specs.Search.{IsFirst}
use Rattle.stabilizer.proofs.MembershipLaws.{member-exactly}
use Rattle.operations.proofs.Projection.{projected-group, projected-proper}
use Rattle.operations.specs.Measurement.{
  Measured,
  first_against,
  is_determined,
  measured_rows,
  outcome,
  projected,
  single,
}

pub single-within : (n : ℕ) (l : Letter) (q : ℕ) (s : Bool) → q < n → Within n (single l q s)
single-within n l q s h =
    record {
      no-x = λ t k. ap (λ b. b && x_bit l) (other_place {i = t} {j = q} (λ e. absurd (omega (arith, e))));
      no-z = λ t k. ap (λ b. b && z_bit l) (other_place {i = t} {j = q} (λ e. absurd (omega (arith, e))));
    }

-- its sign has no part in commutation
pub single-anticommute : (n : ℕ) (l : Letter) (q : ℕ) (s : Bool) (p : Pauli)
    → anticommute n p (single l q s) ≡ anticommute n p (single l q false)
unfolding anticommute
single-anticommute n l q s p = refl

module _ (n : ℕ) (rows : ℕ → Pauli) (L : Proper n rows) (l : Letter) (q : ℕ) (hq : q < n) where
  member-single : (s : Bool) → (member n rows (single l q s) ≡ true) ↔ InGroup n n rows (single l q s)
  member-single s = member-exactly n rows L.within (single l q s) (single-within n l q s hq)

  -- "If the Pauli or its negative is in the group"
  pub determined-exactly : (is_determined n rows l q ≡ true)
      ↔ (InGroup n n rows (single l q false) ⊎ InGroup n n rows (single l q true))
  determined-exactly = (
    (λ e. elim (either (member n rows (single l q false)) (member n rows (single l q true)) e) [
      | inl a ↦ inl ((member-single false).0 a)
      | inr a ↦ inr ((member-single true).0 a)
    ]),
    (λ k. elim k [
      | inl a ↦ ap (λ b. b || member n rows (single l q true)) ((member-single false).1 a)
      | inr a ↦ ap (λ b. member n rows (single l q false) || b) ((member-single true).1 a)
          ∙ or-true (member n rows (single l q false))
    ]),
  )

  -- and so exactly if it commutes with every generator
  pub determined-commutes : (is_determined n rows l q ≡ true)
      ↔ ((j : ℕ) → j < n → anticommute n (rows j) (single l q false) ≡ false)
  determined-commutes = (
    (λ e j k. elim (determined-exactly.0 e) [
      | inl a ↦ elements-commute n n rows L.commuting (in_row n n rows j k) a
      | inr a ↦ sym (single-anticommute n l q true (rows j))
          ∙ elements-commute n n rows L.commuting (in_row n n rows j k) a
    ]),
    (λ h. determined-exactly.1
        (maximal-list n rows L (single l q false) refl (single-within n l q false hq) h)),
  )

  -- not both signs
  one-sign : InGroup n n rows (single l q false) → InGroup n n rows (single l q true) → ⊥
  one-sign a b = no_minus n rows L.independent (subst (InGroup n n rows)
      (mul-scaled n i² (single l q false) (single l q false)
      ∙ ap (scaled i²) (square n (single l q false) refl)) (in-mul n n rows L.commuting a b))

  -- the sign of the element is the outcome, whatever the bit
  pub determined-sign : (s : Bool) → InGroup n n rows (single l q s)
      → (is_determined n rows l q ≡ true) × ((b : Bool) → outcome n rows l q b ≡ s)
  determined-sign s a = (
    known s a,
    (λ b. ap (λ d. cond d (member n rows (single l q true)) b) (known s a) ∙ reading s a),
  )
    where
      known : (s : Bool) → InGroup n n rows (single l q s) → is_determined n rows l q ≡ true
      known false a = determined-exactly.1 (inl a)
      known true a = determined-exactly.1 (inr a)

      absent : (b : Bool) → member n rows (single l q true) ≡ b → InGroup n n rows (single l q false)
          → b ≡ false
      absent false e a = refl
      absent true e a = absurd (one-sign a ((member-single true).0 e))

      reading : (s : Bool) → InGroup n n rows (single l q s) → member n rows (single l q true) ≡ s
      reading false a = absent (member n rows (single l q true)) refl a
      reading true a = (member-single true).1 a

  -- the element is in the group with the sign of the outcome
  pub determined-element : is_determined n rows l q ≡ true → (b : Bool)
      → InGroup n n rows (single l q (outcome n rows l q b))
  determined-element e b = elim (determined-exactly.0 e) [
    | inl a ↦ subst (λ s. InGroup n n rows (single l q s)) (sym ((determined-sign false a).1 b)) a
    | inr a ↦ subst (λ s. InGroup n n rows (single l q s)) (sym ((determined-sign true a).1 b)) a
  ]

  -- ---- the group afterwards
  pub determined-kept : is_determined n rows l q ≡ true → (b : Bool) → measured_rows n rows l q b ≡ rows
  determined-kept e b =
      ap (λ d. cond d rows (projected n rows (single l q b) (first_against n rows (single l q b)))) e

  module _ (open-yet : is_determined n rows l q ≡ false) (b : Bool) where
    abbrev P : Pauli
    P = single l q b

    abbrev g : ℕ
    g = first_against n rows P

    -- some generator does not commute; the first one
    pub first-against : IsFirst n (λ i. anticommute n (rows i) (single l q b))
        (first_against n rows (single l q b))
    first-against = elim (first-is n (λ i. anticommute n (rows i) P)) [
      | inl F ↦ F
      | inr none ↦ absurd (true≢false (sym (determined-commutes.1
          (λ j k. sym (single-anticommute n l q b (rows j)) ∙ none j k)) ∙ open-yet))
    ]

    measured-is : measured_rows n rows l q b ≡ projected n rows P g
    measured-is = ap (λ d. cond d rows (projected n rows P g)) open-yet

    pub measured-group : (p : Pauli) → InGroup n n (measured_rows n rows l q b) p
        ↔ Measured n rows (single l q b) p
    measured-group p = subst (λ R. InGroup n n R p ↔ Measured n rows P p) (sym measured-is)
        (projected-group n rows L P (minus-real b) (single-within n l q b hq) g first-against.below
        first-against.passes p)

    open-proper : Proper n (measured_rows n rows l q b)
    open-proper = subst (Proper n) (sym measured-is)
        (projected-proper n rows L P (minus-real b) (single-within n l q b hq) g first-against.below
        first-against.passes)

  -- in either case the rows afterwards are a list
  pub measured-proper : (b : Bool) → Proper n (measured_rows n rows l q b)
  measured-proper b = go (is_determined n rows l q) refl
    where
      go : (d : Bool) → is_determined n rows l q ≡ d → Proper n (measured_rows n rows l q b)
      go true e = subst (Proper n) (sym (determined-kept e b)) L
      go false e = open-proper e b
