-- The value of a row: 0, 1 or 2 by membership, and 2 exactly if some element of the group does not commute with it.
use mathlib.Core.Bool.{Bool, cond, false, true, true≢false}
use mathlib.Core.Logic.{inl, inr, ◌↔◌}
use mathlib.Core.Path.{ap, ap₂, refl, subst, sym, ◌∙◌, ◌≡◌}
use Prim.Native.Nat.{ℕ, ◌≤◌}
use native.Mathlib.Omega.{arith}
use Rattle.pauli.proofs.PauliLaws.{anticommute-letters, mul-scaled, square}
use Rattle.pauli.specs.Pauli.{Pauli, anticommute, imaginary, i², scaled}
use Rattle.record.proofs.Maximality.{maximal-list}
use Rattle.stabilizer.proofs.GroupLaws.{elements-commute, in-mul, in_row}
use Rattle.stabilizer.proofs.Independence.{no_minus}
use Rattle.stabilizer.proofs.MembershipLaws.{member-exactly}
use Rattle.stabilizer.specs.Groups.{InGroup, Proper, Within}
use Rattle.stabilizer.specs.Membership.{member}
use Rattle.words.proofs.Flags.{never_true}
use Rattle.words.proofs.SearchLaws.{first-is}
use Rattle.expectation.specs.Values.{negated, stabilizer_value}

-- the value of two tests
abbrev value_of : Bool → Bool → ℕ
value_of plus minus = cond plus 0 (cond minus 1 2)

is-plus : (a b : Bool) → value_of a b ≡ 0 → a ≡ true
is-plus true b e = refl
is-plus false true e = absurd (omega (arith, e))
is-plus false false e = absurd (omega (arith, e))

is-minus : (a b : Bool) → value_of a b ≡ 1 → b ≡ true
is-minus true b e = absurd (omega (arith, e))
is-minus false true e = refl
is-minus false false e = absurd (omega (arith, e))

is-neither : (a b : Bool) → value_of a b ≡ 2 → (a ≡ false) × (b ≡ false)
is-neither true b e = absurd (omega (arith, e))
is-neither false true e = absurd (omega (arith, e))
is-neither false false e = (refl, refl)

at_most_two : (a b : Bool) → value_of a b ≤ 2
at_most_two true b = omega arith
at_most_two false true = omega arith
at_most_two false false = omega arith

pub value-upto : (n : ℕ) (rows : ℕ → Pauli) (p : Pauli) → stabilizer_value n rows p ≤ 2
unfolding stabilizer_value
value-upto n rows p = at_most_two (member n rows p) (member n rows (negated p))

module _ (n : ℕ) (rows : ℕ → Pauli) (L : Proper n rows) (p : Pauli) (signed : imaginary p.phase ≡ false)
    (W : Within n p) where
  plus-exactly : (member n rows p ≡ true) ↔ InGroup n n rows p
  plus-exactly = member-exactly n rows L.within p W

  minus-exactly : (member n rows (negated p) ≡ true) ↔ InGroup n n rows (negated p)
  minus-exactly = member-exactly n rows L.within (negated p) (record { no-x = W.no-x; no-z = W.no-z })

  -- a row and its negative are not both in the group
  pub one-sign : InGroup n n rows p → InGroup n n rows (negated p) → ⊥
  one-sign a b = no_minus n rows L.independent (subst (InGroup n n rows)
      (mul-scaled n i² p p ∙ ap (scaled i²) (square n p signed)) (in-mul n n rows L.commuting a b))

  pub value-plus : (stabilizer_value n rows p ≡ 0) ↔ InGroup n n rows p
  unfolding stabilizer_value
  value-plus = (
    (λ e. plus-exactly.0 (is-plus (member n rows p) (member n rows (negated p)) e)),
    (λ a. ap (λ b. value_of b (member n rows (negated p))) (plus-exactly.1 a)),
  )

  pub value-minus : (stabilizer_value n rows p ≡ 1) ↔ InGroup n n rows (negated p)
  unfolding stabilizer_value
  value-minus = (
    (λ e. minus-exactly.0 (is-minus (member n rows p) (member n rows (negated p)) e)),
    (λ a. ap₂ value_of (never_true (member n rows p) (λ t. one-sign (plus-exactly.0 t) a)) (minus-exactly.1 a)),
  )

  pub value-neither : (stabilizer_value n rows p ≡ 2)
      ↔ ((InGroup n n rows p → ⊥) × (InGroup n n rows (negated p) → ⊥))
  unfolding stabilizer_value
  value-neither = (
    (λ e. let f = is-neither (member n rows p) (member n rows (negated p)) e in (
      (λ a. true≢false (sym (plus-exactly.1 a) ∙ f.0)),
      (λ a. true≢false (sym (minus-exactly.1 a) ∙ f.1)),
    )),
    (λ h. ap₂ value_of (never_true (member n rows p) (λ t. h.0 (plus-exactly.0 t)))
        (never_true (member n rows (negated p)) (λ t. h.1 (minus-exactly.0 t)))),
  )

  pub value-anticommutes : (stabilizer_value n rows p ≡ 2)
      ↔ ((r : Pauli) × (InGroup n n rows r × (anticommute n r p ≡ true)))
  value-anticommutes = (
    (λ e. let h = value-neither.0 e in elim (first-is n (λ i. anticommute n (rows i) p)) [
      | inl F ↦ (rows _, (in_row n n rows _ F.below, F.passes))
      | inr none ↦ absurd (elim (maximal-list n rows L p signed W none) [ inl a ↦ h.0 a | inr a ↦ h.1 a ])
    ]),
    (λ s. value-neither.1 (
      (λ a. true≢false (sym s.1.1 ∙ elements-commute n n rows L.commuting s.1.0 a)),
      (λ a. true≢false (sym s.1.1 ∙ sym (anticommute-letters n s.0 p s.0.phase (negated p).phase)
          ∙ elements-commute n n rows L.commuting s.1.0 a)),
    )),
  )
