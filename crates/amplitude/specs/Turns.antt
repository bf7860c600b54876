-- What a row does to a basis state: a power of i, and the x bits flipped.
use Rattle.std.specs.Prelude.{Bool, false, true, ℕ}
use Rattle.pauli.specs.Pauli.{◌+ᵖ◌, Pauli, Phase, i¹, i², i³, i⁰, letter_at, sum_phase}
use Rattle.pauli.specs.declared.Letter.{Letter}
use Rattle.pauli.specs.declared.Letter.TheVariants.{I, X, Y, Z}
use Rattle.words.specs.Bits.{Word}

-- a letter on a basis bit: X|b⟩ = |b + 1⟩, Z|1⟩ = -|1⟩, Y|0⟩ = i|1⟩, Y|1⟩ = -i|0⟩
abbrev pub letter_turns : Letter → Bool → Phase
letter_turns I b = i⁰
letter_turns X b = i⁰
letter_turns Y false = i¹
letter_turns Y true = i³
letter_turns Z false = i⁰
letter_turns Z true = i²

-- p sends the basis state of y to this power of i times that of y with the x bits of p flipped
unfoldable pub turns_at : ℕ → Pauli → Word → Phase
turns_at n p y = p.phase +ᵖ sum_phase n (λ q. letter_turns (letter_at p q) (y q))
