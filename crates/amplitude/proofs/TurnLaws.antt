-- A product acts as its second factor, then its first.
use mathlib.Core.Bool.{Bool}
use mathlib.Core.Path.{◌∙◌, ◌≡◌, ap, sym}
use Prim.Native.Nat.{ℕ}
use Rattle.pauli.proofs.PhaseLaws.{+ᵖ-assoc, +ᵖ-comm, +ᵖ-left, phases, sum_phase-pair}
use Rattle.pauli.specs.Pauli.{◌+ᵖ◌, Pauli, Phase, letter, letter_phase, mul}
use Rattle.words.specs.Bits.{Word, ◌⊕◌}
use Rattle.amplitude.specs.Turns.{letter_turns, turns_at}

place : (z x w v b : Bool) →
    letter_phase (letter z x) (letter w v) +ᵖ letter_turns (letter (z ⊕ w) (x ⊕ v)) b
    ≡ letter_turns (letter w v) b +ᵖ letter_turns (letter z x) (b ⊕ v)
place = phases 5 (λ z x w v b. letter_phase (letter z x) (letter w v) +ᵖ letter_turns (letter (z ⊕ w) (x ⊕ v)) b)
    (λ z x w v b. letter_turns (letter w v) b +ᵖ letter_turns (letter z x) (b ⊕ v)) tt

rearranged : (a b c d e f : Phase) → c +ᵖ d ≡ e +ᵖ f → ((a +ᵖ b) +ᵖ c) +ᵖ d ≡ (b +ᵖ e) +ᵖ (a +ᵖ f)
rearranged a b c d e f h =
    +ᵖ-assoc (a +ᵖ b) c d ∙ ap (λ t. (a +ᵖ b) +ᵖ t) h ∙ ap (λ t. t +ᵖ (e +ᵖ f)) (+ᵖ-comm a b)
    ∙ +ᵖ-assoc b a (e +ᵖ f) ∙ ap (λ t. b +ᵖ t) (+ᵖ-left a e f) ∙ sym (+ᵖ-assoc b e (a +ᵖ f))

pub turns-mul : (n : ℕ) (p r : Pauli) (y : Word) →
    turns_at n (mul n p r) y ≡ turns_at n r y +ᵖ turns_at n p (λ q. y q ⊕ r.x q)
unfolding turns_at mul
turns-mul n p r y =
    rearranged p.phase r.phase _ _ _ _
    (sum_phase-pair n _ _ _ _ (λ q. place (p.z q) (p.x q) (r.z q) (r.x q) (y q)))
