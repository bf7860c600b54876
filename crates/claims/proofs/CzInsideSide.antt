-- CZ on two qubits of one side of a cut: it undoes itself, keeps the rows that avoid a side, and so the rank across.
use mathlib.Core.Bool.{◌&&◌, Bool, and-false, false, true}
use mathlib.Core.Logic.{◌↔◌}
use mathlib.Core.Path.{ap, ap₂, refl, sym, ◌∙◌, ◌≡◌}
use Prim.Native.Nat.{◌<◌, ℕ}
use native.Mathlib.Decide.{ℕ_discrete}
use lib.Dec.{eqb}
use Rattle.cut.proofs.CutOfGroups.{mapped-cut}
use Rattle.cut.specs.Cut.{cut_rank}
use Rattle.cut.specs.OneSided.{Avoids}
use Rattle.record.specs.Graph.{Simple}
use Rattle.operations.specs.Cz.{cz, cz_sign}
use Rattle.pauli.proofs.PauliLaws.{Pauli-path}
use Rattle.pauli.proofs.PhaseLaws.{+ᵖ-assoc, +ᵖ-zero, phases}
use Rattle.pauli.specs.Pauli.{◌+ᵖ◌, Pauli, Phase, i⁰, minus}
use Rattle.record.specs.Records.{GraphRecord, rows_of}
use Rattle.stabilizer.specs.Groups.{InGroup}
use Rattle.words.proofs.Finite.{⊕-twice}
use Rattle.words.proofs.Places.{other_place, place-comm, same_place}
use Rattle.words.specs.Bits.{Word, ◌⊕◌}

pub cz-twice : (a b : ℕ) (p : Pauli) → cz a b (cz a b p) ≡ p
unfolding cz
cz-twice a b p =
    Pauli-path
    (+ᵖ-assoc p.phase _ _
    ∙ ap (λ t. p.phase +ᵖ t)
    (ap₂ (λ A D. signs A (eqb a b) (eqb b a) D (p.z a) (p.x a) (p.z b) (p.x b)) (same_place a) (same_place b)
    ∙ ap (λ C. signs true (eqb a b) C true (p.z a) (p.x a) (p.z b) (p.x b)) (place-comm b a)
    ∙ no_sign (eqb a b) (p.z a) (p.x a) (p.z b) (p.x b))
    ∙ +ᵖ-zero p.phase)
    (λ q. ⊕-twice (p.z q) ((eqb q a && p.x b) ⊕ (eqb q b && p.x a))) (λ q. refl)
  where
    -- the signs of the two rounds; A, B, C, D: a is a, a is b, b is a, b is b
    signs : Bool → Bool → Bool → Bool → Bool → Bool → Bool → Bool → Phase
    signs A B C D za xa zb xb =
        minus (cz_sign za xa zb xb)
        +ᵖ minus (cz_sign (za ⊕ ((A && xb) ⊕ (B && xa))) xa (zb ⊕ ((C && xb) ⊕ (D && xa))) xb)

    no_sign : (e za xa zb xb : Bool) → signs true e e true za xa zb xb ≡ i⁰
    no_sign = phases 5 (λ e. signs true e e true) (λ e za xa zb xb. i⁰) tt

module _ (n : ℕ) (side : Word) (a b : ℕ) (ha : a < n) (hb : b < n) (inside : side a ≡ side b) where
  pub cz-avoids : (p : Pauli) → Avoids n side p → Avoids n side (cz a b p)
  unfolding cz
  cz-avoids p A =
      record {
        no-x = A.no-x;
        no-z = λ q l h. ap₂ ◌⊕◌ (A.no-z q l h) (ap₂ ◌⊕◌
            (unmoved q a b h (λ e. A.no-x b hb (sym inside ∙ e)))
            (unmoved q b a h (λ e. A.no-x a ha (inside ∙ e))));
      }
    where
      -- at a marked qubit nothing comes from its partner
      unmoved : (q c d : ℕ) → side q ≡ true → (side c ≡ true → p.x d ≡ false) → (eqb q c && p.x d) ≡ false
      unmoved q c d h k = elim (ℕ_discrete q c) [
        | yes e ↦ ap (λ v. eqb q c && v) (k (ap side (sym e) ∙ h)) ∙ and-false (eqb q c)
        | no o ↦ ap (λ v. v && p.x d) (other_place o)
      ]

  -- groups related by CZ inside a side
  pub entangled-cut : (r s : GraphRecord) → Simple n r.graph → Simple n s.graph
      → ((p : Pauli) → InGroup n n (rows_of n s) p ↔ ((t : Pauli) × InGroup n n (rows_of n r) t × (p ≡ cz a b t)))
      → cut_rank n side r.graph ≡ cut_rank n side s.graph
  entangled-cut r s R S G = mapped-cut n side r s R S (cz a b) (cz a b) (cz-twice a b) cz-avoids cz-avoids
      (λ p h. (G (cz a b p)).1 (p, h, refl)) (λ p. (G p).0)
