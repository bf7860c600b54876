-- Signed Pauli operators, here called rows: a power of i and a letter for each qubit, kept as a z word and an x
-- word. The number of qubits, n, goes to the product and to the commutation rule, which sum over the places below
-- n.
use Rattle.std.specs.Prelude.{Bool, false, true, suc, zero, ℕ, eqb}
use Rattle.pauli.specs.declared.Letter.{Letter}
use Rattle.pauli.specs.declared.Letter.TheVariants.{I, X, Y, Z}
use Rattle.words.specs.Bits.{Word, bit, fold, parity, ◌⊕◌}

-- ---- powers of i
pub data Phase : Type 0 where
  i⁰ i¹ i² i³ : Phase

-- i times a power of i
abbrev pub times_i : Phase → Phase
times_i i⁰ = i¹
times_i i¹ = i²
times_i i² = i³
times_i i³ = i⁰

-- the product of two powers of i: their exponents add modulo 4
infixl 65 ◌+ᵖ◌
abbrev pub ◌+ᵖ◌ : Phase → Phase → Phase
i⁰ +ᵖ b = b
i¹ +ᵖ b = times_i b
i² +ᵖ b = times_i (times_i b)
i³ +ᵖ b = times_i (times_i (times_i b))

-- the product of the powers of i at the places below n
abbrev pub sum_phase : ℕ → (ℕ → Phase) → Phase
sum_phase = fold i⁰ ◌+ᵖ◌

-- i to the k
unfoldable pub power : ℕ → Phase
power zero = i⁰
power (suc k) = times_i (power k)

-- the exponent of a power of i, 0 to 3
abbrev pub exponent : Phase → ℕ
exponent i⁰ = 0
exponent i¹ = 1
exponent i² = 2
exponent i³ = 3

-- whether two powers of i are equal
abbrev pub same_phase : Phase → Phase → Bool
same_phase a b = eqb (exponent a) (exponent b)

-- "a sign bit (1 means minus)"
abbrev pub minus : Bool → Phase
minus false = i⁰
minus true = i²

-- the sign bit of a phase that is 1 or -1
abbrev pub sign_bit : Phase → Bool
sign_bit i⁰ = false
sign_bit i¹ = false
sign_bit i² = true
sign_bit i³ = false

-- i or -i: no sign
abbrev pub imaginary : Phase → Bool
imaginary i⁰ = false
imaginary i¹ = true
imaginary i² = false
imaginary i³ = true

-- ---- letters: the code's enum
-- "The pair (z,x) is 00 for I, 01 for X, 10 for Z, 11 for Y"
abbrev pub letter : Bool → Bool → Letter
letter false false = I
letter false true = X
letter true false = Z
letter true true = Y

-- the z bit of a letter
abbrev pub z_bit : Letter → Bool
z_bit I = false
z_bit X = false
z_bit Y = true
z_bit Z = true

-- the x bit of a letter
abbrev pub x_bit : Letter → Bool
x_bit I = false
x_bit X = true
x_bit Y = true
x_bit Z = false

-- the product of two letters, its phase dropped
abbrev pub letter_product : Letter → Letter → Letter
letter_product a b = letter (z_bit a ⊕ z_bit b) (x_bit a ⊕ x_bit b)

-- "XY = iZ, YZ = iX, ZX = iY; reversed order gives -i"
abbrev pub letter_phase : Letter → Letter → Phase
letter_phase I b = i⁰
letter_phase X I = i⁰
letter_phase X X = i⁰
letter_phase X Y = i¹
letter_phase X Z = i³
letter_phase Y I = i⁰
letter_phase Y X = i³
letter_phase Y Y = i⁰
letter_phase Y Z = i¹
letter_phase Z I = i⁰
letter_phase Z X = i¹
letter_phase Z Y = i³
letter_phase Z Z = i⁰

-- both act and differ
abbrev pub clash : Letter → Letter → Bool
clash I b = false
clash X I = false
clash X X = false
clash X Y = true
clash X Z = true
clash Y I = false
clash Y X = true
clash Y Y = false
clash Y Z = true
clash Z I = false
clash Z X = true
clash Z Y = true
clash Z Z = false

-- ---- rows
pub record Pauli : Type 0 where
  pub phase : Phase
  pub z : Word
  pub x : Word

-- the letter at qubit q
abbrev pub letter_at : Pauli → ℕ → Letter
letter_at p q = letter (p.z q) (p.x q)

-- I at every qubit, sign plus
abbrev pub identity : Pauli
identity = record { phase = i⁰; z = λ q. false; x = λ q. false }

-- a power of i times a row
abbrev pub scaled : Phase → Pauli → Pauli
scaled t p = record { phase = t +ᵖ p.phase; z = p.z; x = p.x }

-- the product of two rows, letter by letter
unfoldable pub mul : ℕ → Pauli → Pauli → Pauli
mul n p r =
    record {
      phase = (p.phase +ᵖ r.phase) +ᵖ sum_phase n (λ q. letter_phase (letter_at p q) (letter_at r q));
      z = λ q. p.z q ⊕ r.z q;
      x = λ q. p.x q ⊕ r.x q;
    }

-- "Two generators commute if the places where both act and differ are even in number": here they are odd
unfoldable pub anticommute : ℕ → Pauli → Pauli → Bool
anticommute n p r = parity n (λ q. clash (letter_at p q) (letter_at r q))

-- ---- rows of the code: a power of i, a z word and an x word
abbrev pub row : Phase → ℕ → ℕ → Pauli
row t z x = record { phase = t; z = bit z; x = bit x }

-- a generator: "a sign bit (1 means minus), a z word and an x word"
abbrev pub signed_row : Bool → ℕ → ℕ → Pauli
signed_row s z x = row (minus s) z x
