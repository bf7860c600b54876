-- The membership test is true of the elements of the group and of nothing else.
use mathlib.Core.Bool.{◌&&◌, Bool, true}
use mathlib.Core.Logic.{inl, inr, ◌↔◌, ◌⊎◌}
use mathlib.Core.Path.{ap, ap₂, refl, subst, sym, ◌∙◌, ◌≡◌}
use Prim.Native.Nat.{◌<◌, ◌^◌, ℕ, ◌≤◌}
use lib.Dec.{T}
use Rattle.pauli.proofs.PauliLaws.{Pauli-path}
use Rattle.pauli.proofs.PhaseLaws.{same_phase→≡}
use Rattle.pauli.specs.Pauli.{Pauli, Phase, identity, i², i³, i¹, i⁰, mul, same_phase}
use Rattle.words.proofs.BitLaws.{bit-word_of, word_of-lt}
use Rattle.words.proofs.Flags.{both_true, same_bit-refl, true-same_bit}
use Rattle.words.proofs.SearchLaws.{every-at, every_in, some_in, some-true}
use Rattle.words.proofs.Sums.{fold-ext, lt-or-ge}
use Rattle.words.specs.Bits.{bit, same_bit, word_of}
use Rattle.words.specs.Search.{every, first}
use Rattle.stabilizer.proofs.Within.{product-within}
use Rattle.stabilizer.specs.Groups.{InGroup, Within, chosen, product}
use Rattle.stabilizer.specs.Membership.{equal_below, member}

phase-same : (t : Phase) → same_phase t t ≡ true
phase-same i⁰ = refl
phase-same i¹ = refl
phase-same i² = refl
phase-same i³ = refl

equal-self : (n : ℕ) (p : Pauli) → equal_below n p p ≡ true
equal-self n p =
    ap₂ ◌&&◌ (phase-same p.phase) (every_in n _ (λ q l. ap₂ ◌&&◌ (same_bit-refl (p.z q)) (same_bit-refl (p.x q))))

equal_is : (n : ℕ) (p r : Pauli) → Within n p → Within n r → equal_below n p r ≡ true → p ≡ r
equal_is n p r P R e =
    Pauli-path (same_phase→≡ p.phase r.phase (subst T {x = true} (sym b.0) tt))
    (λ q. at-z q (lt-or-ge q n)) (λ q. at_x q (lt-or-ge q n))
  where
    agree : ℕ → Bool
    agree q = same_bit (p.z q) (r.z q) && same_bit (p.x q) (r.x q)

    b : (same_phase p.phase r.phase ≡ true) × (every n agree ≡ true)
    b = both_true (same_phase p.phase r.phase) (every n agree) e

    place : (q : ℕ) → q < n → (same_bit (p.z q) (r.z q) ≡ true) × (same_bit (p.x q) (r.x q) ≡ true)
    place q l = both_true (same_bit (p.z q) (r.z q)) (same_bit (p.x q) (r.x q))
        (every-at n agree b.1 q l)

    at-z : (q : ℕ) → (q < n) ⊎ (n ≤ q) → p.z q ≡ r.z q
    at-z q (inl l) = true-same_bit (p.z q) (r.z q) (place q l).0
    at-z q (inr l) = P.no-z q l ∙ sym (R.no-z q l)

    at_x : (q : ℕ) → (q < n) ⊎ (n ≤ q) → p.x q ≡ r.x q
    at_x q (inl l) = true-same_bit (p.x q) (r.x q) (place q l).1
    at_x q (inr l) = P.no-x q l ∙ sym (R.no-x q l)

module _ (n : ℕ) (rows : ℕ → Pauli) where
  pub in-member : (p : Pauli) → InGroup n n rows p → member n rows p ≡ true
  unfolding member
  in-member p a =
      some_in (2 ^ n) _ (word_of n a.0) (word_of-lt n a.0)
      (ap (equal_below n p)
      (fold-ext identity (mul n) n (λ j l. ap (λ b. chosen b (rows j)) (bit-word_of n a.0 j l))
      ∙ sym a.1)
      ∙ equal-self n p)

  pub member-in : ((j : ℕ) → j < n → Within n (rows j)) → (p : Pauli) → Within n p → member n rows p ≡ true →
      InGroup n n rows p
  unfolding member
  member-in W p P e =
      let f : ℕ → Bool = λ v. equal_below n p (product n n (bit v) rows) in
      let v = first (2 ^ n) f in (
        bit v,
        equal_is n p (product n n (bit v) rows) P (product-within n n (bit v) rows W)
            (some-true (2 ^ n) f e).passes,
      )

  pub member-exactly : ((j : ℕ) → j < n → Within n (rows j)) → (p : Pauli) → Within n p →
      (member n rows p ≡ true) ↔ InGroup n n rows p
  member-exactly W p P = (member-in W p P, in-member p)
