-- One code for each qubit, acting on a row.
use Rattle.std.specs.Prelude.{List, ℕ, get_or}
use Rattle.pauli.specs.Pauli.{◌+ᵖ◌, Pauli, letter_at, sum_phase, x_bit, z_bit}
use Rattle.words.specs.Bits.{put}
use Rattle.clifford.specs.Clifford.{Clifford, clifford_of, identity_clifford, image, image_phase}

-- each place goes through its own code
unfoldable pub act : ℕ → (ℕ → Clifford) → Pauli → Pauli
act n k p =
    record {
      phase = p.phase +ᵖ sum_phase n (λ q. image_phase (k q) (letter_at p q));
      z = λ q. z_bit (image (k q) (letter_at p q));
      x = λ q. x_bit (image (k q) (letter_at p q));
    }

-- the codes of a lent buffer; at and above its length code 0, the identity
abbrev pub codes_of : List ℕ → ℕ → Clifford
codes_of cs q = clifford_of (get_or cs q 0)

-- a code at place q alone
abbrev pub only : ℕ → Clifford → ℕ → Clifford
only q k = put (λ _. identity_clifford) q k
