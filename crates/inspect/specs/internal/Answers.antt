-- What the exported functions answer, for all arguments.
use Rattle.std.specs.Prelude.{Bool, cond, false, ◌+◌, ◌*◌, ℕ, ltb}
use Rattle.clifford.specs.Clifford.{bit_c, bit_d, clifford_of, code_of, image, image_phase, inverse, then}
use Rattle.pauli.specs.Pauli.{letter, sign_bit, x_bit, z_bit}
use Rattle.words.specs.Bits.{digit}

-- what is answered where a is a code, and what otherwise
abbrev pub of_code : ℕ → ℕ → ℕ → ℕ
of_code a answer otherwise = cond (ltb a 24) answer otherwise

-- 'first a, then b'; 24 where one of them is not a code
abbrev pub then_answer : ℕ → ℕ → ℕ
then_answer a b = of_code a (of_code b (code_of (then (clifford_of a) (clifford_of b))) 24) 24

-- the inverse; 24 where a is not a code
abbrev pub inverse_answer : ℕ → ℕ
inverse_answer a = of_code a (code_of (inverse (clifford_of a))) 24

-- three digits as one number: 4 × sign + 2 z + x
abbrev pub number : Bool → Bool → Bool → ℕ
number s z x = 4 * digit s + 2 * digit z + digit x

-- the image of the letter (z, x); 8 where a is not a code
abbrev pub image_answer : ℕ → Bool → Bool → ℕ
image_answer a z x =
    of_code a
    (number (sign_bit (image_phase (clifford_of a) (letter z x))) (z_bit (image (clifford_of a) (letter z x)))
    (x_bit (image (clifford_of a) (letter z x)))) 8

-- the bits C and D as 2 C + D; 8 where a is not a code
abbrev pub bits_answer : ℕ → ℕ
bits_answer a = of_code a (number false (bit_c (clifford_of a)) (bit_d (clifford_of a))) 8
