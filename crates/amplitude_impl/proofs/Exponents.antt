-- Exponents of powers of i, from 0 to 3, as the code adds them.
use mathlib.Core.Path.{refl, ◌≡◌}
use Prim.Native.Nat.{◌%◌, ◌*◌, ◌+◌}
use Rattle.pauli.specs.Pauli.{◌+ᵖ◌, Phase, exponent, i¹, i², i³, i⁰}

pub exponent-add : (s t : Phase) → (exponent s + exponent t) % 4 ≡ exponent (s +ᵖ t)
exponent-add i⁰ i⁰ = refl
exponent-add i⁰ i¹ = refl
exponent-add i⁰ i² = refl
exponent-add i⁰ i³ = refl
exponent-add i¹ i⁰ = refl
exponent-add i¹ i¹ = refl
exponent-add i¹ i² = refl
exponent-add i¹ i³ = refl
exponent-add i² i⁰ = refl
exponent-add i² i¹ = refl
exponent-add i² i² = refl
exponent-add i² i³ = refl
exponent-add i³ i⁰ = refl
exponent-add i³ i¹ = refl
exponent-add i³ i² = refl
exponent-add i³ i³ = refl

-- a power undone
pub exponent-undone : (t : Phase) → 3 * exponent t % 4 ≡ exponent (t +ᵖ (t +ᵖ t))
exponent-undone i⁰ = refl
exponent-undone i¹ = refl
exponent-undone i² = refl
exponent-undone i³ = refl
