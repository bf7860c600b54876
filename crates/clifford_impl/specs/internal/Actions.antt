-- The words that send all letters of a row through one code for each qubit.
use Rattle.std.specs.Prelude.{◌≡◌, ◌<◌, ℕ}
use Rattle.clifford.specs.Clifford.{Clifford, bit_c, bit_d, image, image_phase}
use Rattle.pauli.specs.Pauli.{letter, minus, sign_bit, z_bit}
use Rattle.pauli.specs.declared.Letter.TheVariants.{X, Y, Z}
use Rattle.words.specs.Bits.{bit}
use Rattle.clifford_impl.specs.declared.rows.Action.{Action}

-- the diagonals of the blocks A, B, C, D of the codes' binary matrix, which are the z bits (A, B) and the x bits (C, D)
-- of the images of Z (A, C) and of X (B, D), and the signs of the images of X, Y and Z
pub record ActsAs (k : ℕ → Clifford) (w : Action) : Type 0 where
  pub A : (q : ℕ) → q < 64 → bit w.a q ≡ z_bit (image (k q) Z)
  pub B : (q : ℕ) → q < 64 → bit w.b q ≡ z_bit (image (k q) X)
  pub C : (q : ℕ) → q < 64 → bit w.c q ≡ bit_c (k q)
  pub D : (q : ℕ) → q < 64 → bit w.d q ≡ bit_d (k q)
  pub SX : (q : ℕ) → q < 64 → bit w.sx q ≡ (k q).sx
  pub SY : (q : ℕ) → q < 64 → bit w.sy q ≡ sign_bit (image_phase (k q) Y)
  pub SZ : (q : ℕ) → q < 64 → bit w.sz q ≡ (k q).sz

-- the places where the images of the letters of two words are negative
abbrev pub SignsOf : (ℕ → Clifford) → ℕ → ℕ → ℕ → Type 0
SignsOf k z x signs = (q : ℕ) → q < 64 → minus (bit signs q) ≡ image_phase (k q) (letter (bit z q) (bit x q))
