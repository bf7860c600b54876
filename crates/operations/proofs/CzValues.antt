-- The formula of CZ has the values that define it, and no other map of the rows of n qubits has them.
use mathlib.Core.Bool.{◌&&◌, Bool, and-false, false, true}
use mathlib.Core.Logic.{inl, inr, ◌≢◌}
use mathlib.Core.Path.{ap, ap₂, refl, subst, sym, ◌∙◌, ◌≡◌}
use Prim.Native.Nat.{◌<◌, ℕ, ◌≤◌}
use native.Mathlib.Decide.{ℕ_discrete}
use native.Mathlib.Omega.{arith}
use lib.Dec.{eqb}
use Rattle.pauli.proofs.PauliLaws.{Pauli-path, mul-x, mul-z}
use Rattle.pauli.proofs.PhaseLaws.{+ᵖ-assoc, +ᵖ-zero, phase_monoid, phases}
use Rattle.pauli.specs.Pauli.{
  ◌+ᵖ◌,
  Pauli,
  Phase,
  identity,
  i²,
  i³,
  i¹,
  i⁰,
  letter,
  letter_phase,
  minus,
  mul,
  scaled,
}
use Rattle.stabilizer.proofs.Products.{product-x, product-z}
use Rattle.stabilizer.specs.Groups.{Within, chosen, product}
use Rattle.words.proofs.Finite.{bits, ⊕-comm, ⊕-zero}
use Rattle.words.proofs.Places.{other_place, parity-at, place-comm, same_place}
use Rattle.words.proofs.Sums.{bit_monoid, fold-ext, fold-unit, lt-or-ge}
use Rattle.words.specs.Bits.{Word, parity, ◌⊕◌}
use Rattle.operations.proofs.CzLaws.{cz-fixed, cz-identity, cz-powers, cz-products}
use Rattle.operations.proofs.Homomorphisms.{Homomorphism, image-product}
use Rattle.operations.specs.Cz.{IsCz, cz, cz_sign, x_at, z_at}

-- ---- the values
pub cz-swap : (a b : ℕ) (p : Pauli) → cz a b p ≡ cz b a p
unfolding cz
cz-swap a b p =
    Pauli-path (ap (λ s. p.phase +ᵖ minus s) (sign (p.z a) (p.x a) (p.z b) (p.x b)))
    (λ q. ap (λ c. p.z q ⊕ c) (⊕-comm (eqb q a && p.x b) (eqb q b && p.x a))) (λ q. refl)
  where
    sign : (za xa zb xb : Bool) → cz_sign za xa zb xb ≡ cz_sign zb xb za xa
    sign = bits 4 cz_sign (λ za xa zb xb. cz_sign zb xb za xa) tt

-- X at two qubits at most, and no Z: no sign
no_sign : (u v : Bool) → minus (cz_sign false u false v) ≡ i⁰
no_sign = phases 2 (λ u v. minus (cz_sign false u false v)) (λ u v. i⁰) tt

x-value : (n a b : ℕ) → a ≢ b → cz a b (x_at a) ≡ mul n (x_at a) (z_at b)
unfolding cz mul
x-value n a b ab =
    Pauli-path (no_sign (eqb a a) (eqb b a) ∙ sym (fold-unit i⁰ ◌+ᵖ◌ phase_monoid n (λ q l. apart q)))
    (λ q. ap₂ (λ u v. (eqb q a && u) ⊕ (eqb q b && v)) (other_place (λ e. ab (sym e))) (same_place a)
    ∙ tidy (eqb q a) (eqb q b))
    (λ q. sym (⊕-zero (eqb q a)))
  where
    tidy : (A B : Bool) → (A && false) ⊕ (B && true) ≡ B
    tidy = bits 2 (λ A B. (A && false) ⊕ (B && true)) (λ A B. B) tt

    apart : (q : ℕ) → letter_phase (letter false (eqb q a)) (letter (eqb q b) false) ≡ i⁰
    apart q = elim (ℕ_discrete q a) [
      | yes e ↦ ap (λ v. letter_phase (letter false (eqb q a)) (letter v false))
          (other_place (λ d. ab (sym e ∙ d)))
          ∙ phases 1 (λ u. letter_phase (letter false u) (letter false false)) (λ u. i⁰) tt (eqb q a)
      | no d ↦ ap (λ v. letter_phase (letter false v) (letter (eqb q b) false)) (other_place d)
    ]

pub cz-is : (n a b : ℕ) → a < n → b < n → a ≢ b → IsCz n a b (cz a b)
unfolding cz
cz-is n a b ha hb ab =
    record {
      on-identity = cz-identity a b;
      on-products = cz-products n a b ha hb ab;
      on-powers = cz-powers a b;
      x-first = x-value n a b ab;
      x-second = cz-swap a b (x_at b) ∙ x-value n b a (λ e. ab (sym e));
      x-other = λ q qa qb. cz-fixed a b (x_at q) (other_place (λ e. qa (sym e))) (other_place (λ e. qb (sym e)));
      z-fixed = λ q. cz-fixed a b (z_at q) refl refl;
    }

-- ---- a row is a power of i times X at its x bits and Z at its z bits
module _ (n : ℕ) (p : Pauli) (W : Within n p) where
  spelled : Pauli
  spelled = mul n (product n n p.x x_at) (product n n p.z z_at)

  -- of the products, one has the x bits and no z bit, the other the z bits and no x bit
  own_bits : (w : Word) → ((q : ℕ) → n ≤ q → w q ≡ false) → (q : ℕ) → parity n (λ j. w j && eqb q j) ≡ w q
  own_bits w above q = elim (lt-or-ge q n) [
    | inl l ↦ fold-ext false ◌⊕◌ n (λ j k. ap (λ b. w j && b) (place-comm q j)) ∙ parity-at n w q l
    | inr l ↦ fold-unit false ◌⊕◌ bit_monoid n
        (λ j k. ap (λ b. w j && b) (other_place {i = q} {j = j} (λ e. absurd (omega (arith, e))))
        ∙ and-false (w j)) ∙ sym (above q l)
  ]

  no_bits : (w : Word) → parity n (λ j. w j && false) ≡ false
  no_bits w = fold-unit false ◌⊕◌ bit_monoid n (λ j k. and-false (w j))

  opposite : Phase → Phase
  opposite u = u +ᵖ (u +ᵖ u)

  spelled_out : (t : Phase) × (p ≡ scaled t spelled)
  unfolding spelled opposite
  spelled_out = (
    p.phase +ᵖ opposite spelled.phase,
    Pauli-path (sym (undo p.phase spelled.phase))
        (λ q. sym (mul-z n _ _ q ∙ ap₂ ◌⊕◌ (product-z n n p.x x_at q ∙ no_bits p.x)
        (product-z n n p.z z_at q ∙ own_bits p.z W.no-z q)))
        (λ q. sym (mul-x n _ _ q ∙ ap₂ ◌⊕◌ (product-x n n p.x x_at q ∙ own_bits p.x W.no-x q)
        (product-x n n p.z z_at q ∙ no_bits p.z) ∙ ⊕-zero (p.x q))),
  )
    where
      undo : (s u : Phase) → (s +ᵖ opposite u) +ᵖ u ≡ s
      undo s i⁰ = +ᵖ-assoc s i⁰ i⁰ ∙ +ᵖ-zero s
      undo s i¹ = +ᵖ-assoc s i³ i¹ ∙ +ᵖ-zero s
      undo s i² = +ᵖ-assoc s i² i² ∙ +ᵖ-zero s
      undo s i³ = +ᵖ-assoc s i¹ i³ ∙ +ᵖ-zero s

  -- so homomorphisms that agree on these agree on the row
  pub agree : (f g : Pauli → Pauli) → Homomorphism n f → Homomorphism n g
      → ((j : ℕ) → j < n → f (x_at j) ≡ g (x_at j)) → ((j : ℕ) → j < n → f (z_at j) ≡ g (z_at j)) → f p ≡ g p
  unfolding spelled
  agree f g F G hx hz =
      through f F ∙ ap₂ (λ u v. scaled spelled_out.0 (mul n u v))
      (fold-ext identity (mul n) n (λ j l. ap (chosen (p.x j)) (hx j l)))
      (fold-ext identity (mul n) n (λ j l. ap (chosen (p.z j)) (hz j l)))
      ∙ sym (through g G)
    where
      through : (h : Pauli → Pauli) → Homomorphism n h → h p ≡ scaled spelled_out.0
          (mul n (product n n p.x (λ j. h (x_at j))) (product n n p.z (λ j. h (z_at j))))
      through h H = ap h spelled_out.1 ∙ H.on-powers spelled_out.0 spelled
          ∙ ap (scaled spelled_out.0)
          (H.on-products (product n n p.x x_at) (product n n p.z z_at)
          ∙ ap₂ (mul n) (image-product n h H n p.x x_at) (image-product n h H n p.z z_at))

pub cz-homomorphism : (n a b : ℕ) (f : Pauli → Pauli) → IsCz n a b f → Homomorphism n f
cz-homomorphism n a b f C =
    record { on-identity = C.on-identity; on-products = C.on-products; on-powers = C.on-powers }

-- the values determine the map
pub cz-only : (n a b : ℕ) → a < n → b < n → a ≢ b → (f : Pauli → Pauli) → IsCz n a b f → (p : Pauli)
    → Within n p
    → f p ≡ cz a b p
cz-only n a b ha hb ab f C p W =
    agree n p W f (cz a b) (cz-homomorphism n a b f C) (cz-homomorphism n a b (cz a b) D)
    (λ j l. x-agrees j (ℕ_discrete j a) (ℕ_discrete j b)) (λ j l. C.z-fixed j ∙ sym (D.z-fixed j))
  where
    D : IsCz n a b (cz a b)
    D = cz-is n a b ha hb ab

    x-agrees : (j : ℕ) → Dec (j ≡ a) → Dec (j ≡ b) → f (x_at j) ≡ cz a b (x_at j)
    x-agrees j (yes e) d = subst (λ v. f (x_at v) ≡ cz a b (x_at v)) (sym e) (C.x-first ∙ sym D.x-first)
    x-agrees j (no d) (yes e) =
        subst (λ v. f (x_at v) ≡ cz a b (x_at v)) (sym e) (C.x-second ∙ sym D.x-second)
    x-agrees j (no d) (no e) = C.x-other j d e ∙ sym (D.x-other j d e)
