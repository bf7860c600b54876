-- Rows of n qubits: products, codes and row operations keep them, and a larger number of qubits changes
-- none of these.
use mathlib.Core.Bool.{Bool, false, true}
use mathlib.Core.Path.{ap, ap₂, refl, subst, sym, ◌∙◌, ◌≡◌}
use Prim.Native.Nat.{◌<◌, suc, zero, ℕ, ◌≤◌}
use native.Mathlib.Omega.{arith}
use Rattle.clifford.specs.Clifford.{Clifford, identity_clifford, image, image_phase}
use Rattle.clifford.specs.Vectors.{act}
use Rattle.pauli.proofs.PauliLaws.{Pauli-path}
use Rattle.pauli.proofs.PhaseLaws.{phase_monoid, phases}
use Rattle.pauli.specs.Pauli.{
  ◌+ᵖ◌,
  Pauli,
  anticommute,
  clash,
  identity,
  i⁰,
  letter,
  letter_at,
  letter_phase,
  mul,
  x_bit,
  z_bit,
}
use Rattle.words.proofs.Sums.{bit_monoid, fold_more}
use Rattle.words.specs.Bits.{Word, fold, ◌⊕◌}
use Rattle.stabilizer.specs.internal.Elimination.{clear, lend, pivot_on}
use Rattle.stabilizer.specs.Elimination.{shear}
use Rattle.stabilizer.specs.Groups.{InGroup, Within, chosen, product}

-- ---- what is kept
pub identity-within : (n : ℕ) → Within n identity
identity-within n = record { no-x = λ q l. refl; no-z = λ q l. refl }

pub mul-within : (n m : ℕ) {p r : Pauli} → Within n p → Within n r → Within n (mul m p r)
unfolding mul
mul-within n m P R =
    record {
      no-x = λ q l. ap₂ ◌⊕◌ (P.no-x q l) (R.no-x q l);
      no-z =
          λ q l. ap₂ ◌⊕◌ (P.no-z q l) (R.no-z q l);
    }

pub act-within : (n m : ℕ) (c : ℕ → Clifford) {p : Pauli} → Within n p → Within n (act m c p)
unfolding act
act-within n m c P =
    record {
      no-x = λ q l. ap₂ (λ z x. x_bit (image (c q) (letter z x))) (P.no-z q l) (P.no-x q l);
      no-z = λ q l. ap₂ (λ z x. z_bit (image (c q) (letter z x))) (P.no-z q l) (P.no-x q l);
    }

pub chosen-within : (n : ℕ) (b : Bool) {p : Pauli} → Within n p → Within n (chosen b p)
chosen-within n false P = identity-within n
chosen-within n true P = P

pub product-within : (n k : ℕ) (w : Word) (rows : ℕ → Pauli) → ((j : ℕ) → j < k → Within n (rows j))
    → Within n (product n k w rows)
unfolding fold
product-within n zero w rows h = identity-within n
product-within n (suc k) w rows h =
    mul-within n n (product-within n k w rows (λ j l. h j (omega arith)))
    (chosen-within n (w k) (h k (omega arith)))

pub element-within : (n m : ℕ) (rows : ℕ → Pauli) → ((j : ℕ) → j < m → Within n (rows j)) → {p : Pauli}
    → InGroup n m rows p → Within n p
element-within n m rows h a = subst (Within n) (sym a.1) (product-within n m a.0 rows h)

pub shear-within : (n : ℕ) (rows : ℕ → Pauli) → ((j : ℕ) → j < n → Within n (rows j)) → (a : ℕ) → a < n
    → (s : Word) (j : ℕ) → j < n → Within n (shear n rows a s j)
shear-within n rows h a ha s j l = mul-within n n (h j l) (chosen-within n (s j) (h a ha))

pub pivot-within : (n : ℕ) (rows : ℕ → Pauli) → ((j : ℕ) → j < n → Within n (rows j)) → (q i : ℕ) → q < n
    → i < n → (j : ℕ) → j < n → Within n (pivot_on n rows q i j)
pivot-within n rows h q i hq hi =
    shear-within n (shear n rows i (lend rows q)) (shear-within n rows h i hi (lend rows q)) q hq
    (clear (shear n rows i (lend rows q)) q)

-- ---- a larger number of qubits: places that hold I add nothing
module _ (n m : ℕ) (l : n ≤ m) {p : Pauli} (P : Within n p) where
  pub mul_wide : {r : Pauli} → Within n r → mul m p r ≡ mul n p r
  unfolding mul
  mul_wide {r} R =
      Pauli-path (ap (λ t. (p.phase +ᵖ r.phase) +ᵖ t) (fold_more i⁰ ◌+ᵖ◌ phase_monoid n m l
      (λ q k. ap₂ (λ z x. letter_phase (letter z x) (letter_at r q)) (P.no-z q k) (P.no-x q k)))) (λ q. refl)
      (λ q. refl)

  pub anticommute-wide : {r : Pauli} → Within n r → anticommute m p r ≡ anticommute n p r
  unfolding anticommute
  anticommute-wide {r} R = fold_more false ◌⊕◌ bit_monoid n m l
      (λ q k. ap₂ (λ z x. clash (letter z x) (letter_at r q)) (P.no-z q k) (P.no-x q k))

  pub act-wide : (c : ℕ → Clifford) → act m c p ≡ act n c p
  unfolding act
  act-wide c =
      Pauli-path (ap (λ t. p.phase +ᵖ t) (fold_more i⁰ ◌+ᵖ◌ phase_monoid n m l
      (λ q k. ap₂ (λ z x. image_phase (c q) (letter z x)) (P.no-z q k) (P.no-x q k)))) (λ q. refl)
      (λ q. refl)

-- so do places where the code is the identity
pub act-wide-codes : (n m : ℕ) → n ≤ m → (c : ℕ → Clifford) → ((q : ℕ) → n ≤ q → c q ≡ identity_clifford)
    → (p : Pauli) → act m c p ≡ act n c p
unfolding act
act-wide-codes n m l c h p =
    Pauli-path (ap (λ t. p.phase +ᵖ t) (fold_more i⁰ ◌+ᵖ◌ phase_monoid n m l
    (λ q k. ap (λ d. image_phase d (letter_at p q)) (h q k) ∙ same-phase (p.z q) (p.x q)))) (λ q. refl)
    (λ q. refl)
  where
    same-phase : (z x : Bool) → image_phase identity_clifford (letter z x) ≡ i⁰
    same-phase = phases 2 (λ z x. image_phase identity_clifford (letter z x)) (λ z x. i⁰) tt
