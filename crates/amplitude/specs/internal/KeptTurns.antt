-- Support and turns of a word, read off a record of reduced form: an equation for each vertex with a Hadamard, and a
-- sum over the vertices without one.
use Rattle.std.specs.Prelude.{◌&&◌, Bool, cond, false, not, ◌||◌, ℕ}
use Rattle.clifford.specs.Clifford.{Clifford, bit_c, image}
use Rattle.pauli.specs.Pauli.{◌+ᵖ◌, Phase, i⁰, minus, sum_phase}
use Rattle.pauli.specs.declared.Letter.TheVariants.{X}
use Rattle.record.specs.Records.{GraphRecord}
use Rattle.words.specs.Bits.{Word, ◌⊕◌, bit, parity, same_bit}
use Rattle.amplitude.specs.Turns.{letter_turns}

-- the bits of a word at the vertices without a Hadamard
abbrev pub kept_bits : GraphRecord → Word → Word
kept_bits r y j = not (bit_c (r.codes j)) && y j

-- what the generator of such a vertex gives the word 0: exponents 0, 1, 2, 3 for the codes 0, 4, 2, 6
abbrev pub unit_of : Clifford → Phase
unit_of k = minus k.sx +ᵖ letter_turns (image k X) false

-- each such vertex of the word: its unit, and a minus for each smaller neighbour in it
unfoldable pub kept_turns : ℕ → GraphRecord → Word → Phase
kept_turns n r y = sum_phase n (λ j. cond (kept_bits r y j)
    (unit_of (r.codes j) +ᵖ minus (parity j (λ q. r.graph j q && kept_bits r y q))) i⁰)

-- the equation of a vertex with a Hadamard: its bit is the sign of its code and the bits of its neighbours, all smaller
abbrev pub fits_at : GraphRecord → ℕ → ℕ → Bool
fits_at r y j = not (bit_c (r.codes j))
    || same_bit (bit y j) ((r.codes j).sx ⊕ parity j (λ q. r.graph j q && bit y q))
