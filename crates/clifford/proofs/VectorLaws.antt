-- One code for each qubit: the action respects products, commutation, signs, composition and inverses.
use mathlib.Core.Bool.{false}
use mathlib.Core.Logic.{inl, inr, ◌⊎◌}
use mathlib.Core.Path.{ap, fun_ext, refl, sym, ◌∙◌, ◌≡◌}
use Prim.Native.Nat.{ℕ}
use Rattle.pauli.proofs.PauliLaws.{Pauli-path}
use Rattle.pauli.proofs.PhaseLaws.{+ᵖ-assoc, +ᵖ-left, +ᵖ-zero, imaginary-+ᵖ, phase_monoid, sum_phase-add}
use Rattle.pauli.specs.Pauli.{
  ◌+ᵖ◌,
  Pauli,
  Phase,
  anticommute,
  identity,
  imaginary,
  i⁰,
  letter_at,
  letter_phase,
  mul,
  scaled,
  sum_phase,
  x_bit,
  z_bit,
}
use Rattle.pauli.specs.declared.Letter.{Letter}
use Rattle.pauli.specs.declared.Letter.TheVariants.{I}
use Rattle.words.proofs.Finite.{⊕-zero}
use Rattle.words.proofs.Sums.{bit_monoid, fold-ext, fold-hom, fold-unit}
use Rattle.words.specs.Bits.{◌⊕◌}
use Rattle.clifford.proofs.CliffordLaws.{
  clash-after,
  inverse-then,
  phase_after-id,
  phase_after-signed,
  phase_after-sum,
  phase_after-then,
  then-inverse,
  x_after-id,
  x_after-sum,
  x_after-then,
  z_after-id,
  z_after-sum,
  z_after-then,
}
use Rattle.clifford.specs.Clifford.{Clifford, identity_clifford, image, image_phase, inverse, then}
use Rattle.clifford.specs.Vectors.{act}

-- ---- the action of one code for each qubit
module _ (n : ℕ) where
  pub act-mul : (c : ℕ → Clifford) (p r : Pauli) → act n c (mul n p r) ≡ mul n (act n c p) (act n c r)
  unfolding act mul
  act-mul c p r =
      Pauli-path
      (+ᵖ-assoc (p.phase +ᵖ r.phase) _ _
      ∙ ap (λ w. (p.phase +ᵖ r.phase) +ᵖ w)
      (sym (sum_phase-add n (λ q. letter_phase (letter_at p q) (letter_at r q))
      (λ q. image_phase (c q) (letter_at (mul n p r) q)))
      ∙ fold-ext i⁰ ◌+ᵖ◌ n (λ q l. phase_after-sum (c q) (p.z q) (p.x q) (r.z q) (r.x q))
      ∙ sum_phase-add n (λ q. image_phase (c q) (letter_at p q)
      +ᵖ image_phase (c q) (letter_at r q))
      (λ q. letter_phase (letter_at (act n c p) q) (letter_at (act n c r) q))
      ∙ ap (λ w. w +ᵖ sum_phase n (λ q. letter_phase (letter_at (act n c p) q) (letter_at (act n c r) q)))
      (sum_phase-add n (λ q. image_phase (c q) (letter_at p q)) (λ q. image_phase (c q) (letter_at r q))))
      ∙ regroup p.phase r.phase _ _ _)
      (λ q. z_after-sum (c q) (p.z q) (p.x q) (r.z q) (r.x q))
      (λ q. x_after-sum (c q) (p.z q) (p.x q) (r.z q) (r.x q))
    where
      regroup : (a b u v s : Phase) → (a +ᵖ b) +ᵖ ((u +ᵖ v) +ᵖ s) ≡ ((a +ᵖ u) +ᵖ (b +ᵖ v)) +ᵖ s
      regroup a b u v s = simp (+ᵖ-assoc, +ᵖ-left)

  pub act-identity : (c : ℕ → Clifford) → act n c identity ≡ identity
  unfolding act mul
  act-identity c =
      Pauli-path (fold-unit i⁰ ◌+ᵖ◌ phase_monoid n (λ q l. refl)) (λ q. refl) (λ q. refl)

  pub act-scaled : (c : ℕ → Clifford) (t : Phase) (p : Pauli) → act n c (scaled t p) ≡ scaled t (act n c p)
  unfolding act mul
  act-scaled c t p = Pauli-path (+ᵖ-assoc t p.phase _) (λ q. refl) (λ q. refl)

  pub act-then : (c d : ℕ → Clifford) (p : Pauli) → act n (λ q. then (c q) (d q)) p ≡ act n d (act n c p)
  unfolding act mul
  act-then c d p =
      Pauli-path
      (ap (λ w. p.phase +ᵖ w) (fold-ext i⁰ ◌+ᵖ◌ n (λ q l. phase_after-then (c q) (d q) (p.z q) (p.x q))
      ∙ sum_phase-add n (λ q. image_phase (c q) (letter_at p q))
      (λ q. image_phase (d q) (letter_at (act n c p) q))) ∙ sym (+ᵖ-assoc p.phase _ _))
      (λ q. z_after-then (c q) (d q) (p.z q) (p.x q)) (λ q. x_after-then (c q) (d q) (p.z q) (p.x q))

  pub act-id : (p : Pauli) → act n (λ q. identity_clifford) p ≡ p
  unfolding act mul
  act-id p =
      Pauli-path (ap (λ w. p.phase
      +ᵖ w) (fold-unit i⁰ ◌+ᵖ◌ phase_monoid n (λ q l. phase_after-id (p.z q) (p.x q)))
      ∙ +ᵖ-zero p.phase) (λ q. z_after-id (p.z q) (p.x q)) (λ q. x_after-id (p.z q) (p.x q))

  -- codes that agree act alike
  pub act-cong : {c d : ℕ → Clifford} → ((q : ℕ) → c q ≡ d q) → (p : Pauli) → act n c p ≡ act n d p
  act-cong h p = ap (λ f. act n f p) (fun_ext h)

  -- .. and so do codes that differ only where the row has no letter
  pub act-agree : (c d : ℕ → Clifford) (p : Pauli) → ((q : ℕ) → (c q ≡ d q) ⊎ (letter_at p q ≡ I))
      → act n c p ≡ act n d p
  unfolding act
  act-agree c d p same =
      Pauli-path
      (ap (λ t. p.phase +ᵖ t) (fold-ext i⁰ ◌+ᵖ◌ n (λ q l. at image_phase (λ k. refl) q (same q))))
      (λ q. at (λ k m. z_bit (image k m)) (λ k. refl) q (same q))
      (λ q. at (λ k m. x_bit (image k m)) (λ k. refl) q (same q))
    where
      at : {T : Type 0} (f : Clifford → Letter → T) {e : T} → ((k : Clifford) → f k I ≡ e) → (q : ℕ)
          → (c q ≡ d q) ⊎ (letter_at p q ≡ I) → f (c q) (letter_at p q) ≡ f (d q) (letter_at p q)
      at f none q (inl h) = ap (λ k. f k (letter_at p q)) h
      at f none q (inr h) = ap (f (c q)) h ∙ none (c q) ∙ sym (none (d q)) ∙ ap (f (d q)) (sym h)

  pub act-inverse : (c : ℕ → Clifford) (p : Pauli) → act n (λ q. inverse (c q)) (act n c p) ≡ p
  act-inverse c p = sym (act-then c (λ q. inverse (c q)) p)
      ∙ act-cong (λ q. then-inverse (c q)) p ∙ act-id p

  pub act-after-inverse : (c : ℕ → Clifford) (p : Pauli) → act n c (act n (λ q. inverse (c q)) p) ≡ p
  act-after-inverse c p = sym (act-then (λ q. inverse (c q)) c p)
      ∙ act-cong (λ q. inverse-then (c q)) p ∙ act-id p

module _ (n : ℕ) (c : ℕ → Clifford) where
  pub act-imaginary : (p : Pauli) → imaginary (act n c p).phase ≡ imaginary p.phase
  unfolding act
  act-imaginary p = imaginary-+ᵖ p.phase _
      ∙ ap (λ b. imaginary p.phase ⊕ b) (fold-hom i⁰ ◌+ᵖ◌ false ◌⊕◌ imaginary refl imaginary-+ᵖ n _
      ∙ fold-unit false ◌⊕◌ bit_monoid n (λ q l. phase_after-signed (c q) (p.z q) (p.x q)))
      ∙ ⊕-zero (imaginary p.phase)

  pub act-anticommute : (p r : Pauli) → anticommute n (act n c p) (act n c r) ≡ anticommute n p r
  unfolding act anticommute
  act-anticommute p r = fold-ext false ◌⊕◌ n (λ q l. clash-after (c q) (p.z q) (p.x q) (r.z q) (r.x q))
