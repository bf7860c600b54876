-- The controlled Z of two qubits: what it is to be, and a formula for it.
use Rattle.std.specs.Prelude.{◌&&◌, Bool, false, ◌≢◌, ◌≡◌, ℕ, eqb}
use Rattle.pauli.specs.Pauli.{◌+ᵖ◌, Pauli, Phase, identity, i⁰, minus, mul, scaled}
use Rattle.words.specs.Bits.{◌⊕◌}

-- X alone at a qubit
abbrev pub x_at : ℕ → Pauli
x_at c = record { phase = i⁰; z = λ q. false; x = λ q. eqb q c }

-- Z alone at a qubit
abbrev pub z_at : ℕ → Pauli
z_at c = record { phase = i⁰; z = λ q. eqb q c; x = λ q. false }

-- "CZ on a and b sends X at a to X at a times Z at b, likewise with a and b exchanged, and fixes Z"; it keeps
-- products and powers of i, and X at other qubits. On n qubits these values leave one map
pub record IsCz (n a b : ℕ) (f : Pauli → Pauli) : Type 0 where
  pub on-identity : f identity ≡ identity
  pub on-products : (p r : Pauli) → f (mul n p r) ≡ mul n (f p) (f r)
  pub on-powers : (t : Phase) (p : Pauli) → f (scaled t p) ≡ scaled t (f p)
  pub x-first : f (x_at a) ≡ mul n (x_at a) (z_at b)
  pub x-second : f (x_at b) ≡ mul n (x_at b) (z_at a)
  pub x-other : (q : ℕ) → q ≢ a → q ≢ b → f (x_at q) ≡ x_at q
  pub z-fixed : (q : ℕ) → f (z_at q) ≡ z_at q

-- that map: a z bit at one of the two qubits flips where the other has an x bit, and the sign where both have X or
-- Y and exactly one has Y
abbrev pub cz_sign : Bool → Bool → Bool → Bool → Bool
cz_sign za xa zb xb = (xa && xb) && (za ⊕ zb)

-- CZ on a and b, of a row
unfoldable pub cz : ℕ → ℕ → Pauli → Pauli
cz a b p =
    record {
      phase = p.phase +ᵖ minus (cz_sign (p.z a) (p.x a) (p.z b) (p.x b));
      z = λ q. p.z q ⊕ ((eqb q a && p.x b) ⊕ (eqb q b && p.x a));
      x = p.x;
    }

-- every generator sent through it
abbrev pub cz_rows : ℕ → ℕ → (ℕ → Pauli) → ℕ → Pauli
cz_rows a b rows j = cz a b (rows j)
