-- The sign of a product of commuting rows, relative to their numbers of Y: one parity, and one more where both are odd.
use mathlib.Core.Bool.{◌&&◌, Bool, and-false, and-true, cond, false, true}
use mathlib.Core.Path.{ap, ap₂, refl, sym, ◌∙◌, ◌≡◌}
use Prim.Native.Nat.{◌%◌, ◌*◌, ◌+◌, ◌/◌, ◌<◌, ◌^◌, suc, zero, ℕ}
use native.Mathlib.Nat.{add-zero, div-add-mod', suc-mul}
use native.Mathlib.Numerals.{add-one}
use lib.Bits.{and_comm, and_lt, and_self, and_zero_l, bit_and, bit_xor, xor_lt, xor_self, xor_zero_l}
use lib.Count.{ones}
use lib.Dec.{eqb}
use lib.Pow.{pow_pos}
use Rattle.pauli.proofs.PhaseLaws.{cancel-phase, minus-⊕, phases, sum_phase-add}
use Rattle.pauli.proofs.WordRows.{anticommute-count, back_word, clash_word, count_phase, power-add, row-mul}
use Rattle.pauli.specs.Pauli.{Phase, ◌+ᵖ◌, anticommute, i¹, i⁰, letter, letter_phase, minus, mul, power, row, sum_phase}
use Rattle.words.proofs.BitLaws.{bit-and, bit-xor, low_digit, odd-add, zero_bit}
use Rattle.words.proofs.Finite.{bits, ⊕-zero}
use Rattle.words.proofs.OnesLaws.{dot-bits, dot-xor, dot-xor-r, parity-xor}
use Rattle.words.proofs.Sums.{fold-ext, fold-hom}
use Rattle.words.specs.Bits.{Word, bit, is_odd, parity, ◌⊕◌}
use Rattle.words.specs.internal.Bits.{dot}
use Rattle.record_reduction.specs.internal.Relative.{half_y}

-- i where the bit is set
abbrev turn : Bool → Phase
turn b = cond b i¹ i⁰

-- ---- i to the number of ones
power-two : (j : ℕ) → power (j * 2) ≡ minus (is_odd j)
unfolding power
power-two zero = refl
power-two (suc j) =
    ap power (suc-mul j 2) ∙ power-add (j * 2) 2
    ∙ ap₂ ◌+ᵖ◌ (power-two j) refl ∙ sym (minus-⊕ (is_odd j) true) ∙ ap minus (sym (odd-add j 1) ∙ ap is_odd (add-one j))

power-halves : (k : ℕ) → power k ≡ minus (is_odd (k / 2)) +ᵖ turn (is_odd k)
unfolding power
power-halves k =
    ap power (sym (div-add-mod' k 2)) ∙ power-add (k / 2 * 2) (k % 2)
    ∙ ap₂ ◌+ᵖ◌ (power-two (k / 2)) (low k)
  where
    low : (k : ℕ) → power (k % 2) ≡ turn (is_odd k)
    low = low_digit (λ u. power u ≡ turn (eqb u 1)) refl refl

-- i for each set bit: the letters X and Y multiplied there
power-bits : (w : ℕ) → w < 2 ^ 64 → sum_phase 64 (λ q. turn (bit w q)) ≡ power (ones w)
unfolding mul ones
power-bits w h =
    fold-ext i⁰ ◌+ᵖ◌ 64 (λ q l. at (bit w q)
    ∙ sym (ap (λ b. letter_phase (letter b (bit w q)) (letter (bit w q) (bit w q))) (zero_bit q)))
    ∙ ap (λ p. p.phase) (row-mul 64 0 w w w (pow_pos 64) h h h i⁰ i⁰)
    ∙ ap power counted
  where
    at : (b : Bool) → turn b ≡ letter_phase (letter false b) (letter b b)
    at = phases 1 turn (λ b. letter_phase (letter false b) (letter b b)) tt

    clash : clash_word 0 w w w ≡ w
    clash = ap₂ bit_xor (and_zero_l w) (and_self w) ∙ xor_zero_l w

    back : back_word 0 w w w ≡ 0
    back = ap (λ u. bit_and u (clash_word 0 w w w))
        (ap₂ bit_xor (ap₂ bit_xor (xor_self w) (xor_zero_l w) ∙ xor_zero_l w) (and_self w) ∙ xor_self w)
        ∙ and_zero_l (clash_word 0 w w w)

    counted : count_phase 0 w w w ≡ ones w
    counted = ap₂ (λ u v. ones u + 2 * ones v) clash back ∙ add-zero (ones w)

-- ---- the rows' product
place : (z x z' x' : Bool) → letter_phase (letter z x) (letter z' x') +ᵖ turn ((z ⊕ z') && (x ⊕ x'))
    ≡ (turn (z && x) +ᵖ turn (z' && x')) +ᵖ minus (z && x')
place = phases 4 (λ z x z' x'. letter_phase (letter z x) (letter z' x') +ᵖ turn ((z ⊕ z') && (x ⊕ x')))
    (λ z x z' x'. (turn (z && x) +ᵖ turn (z' && x')) +ᵖ minus (z && x')) tt

module _ (z x z' x' : ℕ) (hz : z < 2 ^ 64) (hx : x < 2 ^ 64) (hz' : z' < 2 ^ 64) (hx' : x' < 2 ^ 64)
    (commute : anticommute 64 (row i⁰ z x) (row i⁰ z' x') ≡ false) where
  -- the number of Y of two words, as a power of i
  turns : (z x : ℕ) → z < 2 ^ 64 → x < 2 ^ 64
      → sum_phase 64 (λ q. turn (bit z q && bit x q)) ≡ minus (half_y z x) +ᵖ turn (dot z x)
  unfolding half_y dot
  turns z x hz hx =
      fold-ext i⁰ ◌+ᵖ◌ 64 (λ q l. ap turn (sym (bit-and z x q)))
      ∙ power-bits (bit_and z x) (and_lt 64 z x hz hx) ∙ power-halves (ones (bit_and z x))

  minuses : (f : Word) → sum_phase 64 (λ q. minus (f q)) ≡ minus (parity 64 f)
  minuses f = sym (fold-hom false ◌⊕◌ i⁰ ◌+ᵖ◌ minus refl minus-⊕ 64 f)

  -- the numbers of Y are even or odd together
  even : dot z x' ⊕ dot z' x ≡ false
  unfolding dot
  even = ap (λ w. is_odd (ones (bit_and z x')) ⊕ is_odd (ones w)) (and_comm z' x)
      ∙ sym (parity-xor (bit_and z x') (bit_and x z'))
      ∙ sym (anticommute-count 64 z x z' x' hz hx hz' hx' i⁰ i⁰) ∙ commute

  y-parity : dot (bit_xor z z') (bit_xor x x') ≡ dot z x ⊕ dot z' x'
  y-parity =
      dot-xor z z' (bit_xor x x') ∙ ap₂ ◌⊕◌ (dot-xor-r z x x') (dot-xor-r z' x x')
      ∙ regroup (dot z x) (dot z x') (dot z' x) (dot z' x')
      ∙ ap (λ b. (dot z x ⊕ dot z' x') ⊕ b) even ∙ ⊕-zero (dot z x ⊕ dot z' x')
    where
      regroup : (a b c d : Bool) → (a ⊕ b) ⊕ (c ⊕ d) ≡ (a ⊕ d) ⊕ (b ⊕ c)
      regroup = bits 4 (λ a b c d. (a ⊕ b) ⊕ (c ⊕ d)) (λ a b c d. (a ⊕ d) ⊕ (b ⊕ c)) tt

  abbrev letters : Phase
  letters = sum_phase 64 (λ q. letter_phase (letter (bit z q) (bit x q)) (letter (bit z' q) (bit x' q)))

  added : letters +ᵖ (minus (half_y (bit_xor z z') (bit_xor x x')) +ᵖ turn (dot (bit_xor z z') (bit_xor x x')))
      ≡ ((minus (half_y z x) +ᵖ turn (dot z x)) +ᵖ (minus (half_y z' x') +ᵖ turn (dot z' x'))) +ᵖ minus (dot z x')
  added =
      ap (λ t. letters +ᵖ t) (sym (turns (bit_xor z z') (bit_xor x x') (xor_lt 64 z z' hz hz') (xor_lt 64 x x' hx hx')))
      ∙ sym (sum_phase-add 64 _ _)
      ∙ fold-ext i⁰ ◌+ᵖ◌ 64 (λ q l.
      ap₂ (λ u v. letter_phase (letter (bit z q) (bit x q)) (letter (bit z' q) (bit x' q)) +ᵖ turn (u && v))
      (bit-xor z z' q) (bit-xor x x' q) ∙ place (bit z q) (bit x q) (bit z' q) (bit x' q))
      ∙ sum_phase-add 64 _ _
      ∙ ap₂ ◌+ᵖ◌ (sum_phase-add 64 _ _ ∙ ap₂ ◌+ᵖ◌ (turns z x hz hx) (turns z' x' hz' hx'))
      (minuses (λ q. bit z q && bit x' q) ∙ ap minus (sym (dot-bits 64 z x' hz hx')))

  as-dot : (w : ℕ) → is_odd (ones (bit_and z w)) ≡ dot z w
  unfolding dot
  as-dot w = refl

  pub relative-phase : (mul 64 (row i⁰ z x) (row i⁰ z' x')).phase
      ≡ minus ((((dot z x' ⊕ (dot z x && dot z' x')) ⊕ half_y z x) ⊕ half_y z' x') ⊕ half_y (bit_xor z z') (bit_xor x x'))
  unfolding mul
  relative-phase =
      cancel-phase _ _ _ (added ∙ sym (ap (λ b. minus ((((dot z x' ⊕ (dot z x && dot z' x')) ⊕ half_y z x) ⊕ half_y z' x')
      ⊕ half_y (bit_xor z z') (bit_xor x x')) +ᵖ (minus (half_y (bit_xor z z') (bit_xor x x')) +ᵖ turn b)) y-parity
      ∙ sums (dot z x') (dot z x) (dot z' x') (half_y z x) (half_y z' x') (half_y (bit_xor z z') (bit_xor x x'))))
    where
      sums : (p y y' h h' k : Bool)
          → minus ((((p ⊕ (y && y')) ⊕ h) ⊕ h') ⊕ k) +ᵖ (minus k +ᵖ turn (y ⊕ y'))
          ≡ ((minus h +ᵖ turn y) +ᵖ (minus h' +ᵖ turn y')) +ᵖ minus p
      sums = phases 6 (λ p y y' h h' k. minus ((((p ⊕ (y && y')) ⊕ h) ⊕ h') ⊕ k) +ᵖ (minus k +ᵖ turn (y ⊕ y')))
          (λ p y y' h h' k. ((minus h +ᵖ turn y) +ᵖ (minus h' +ᵖ turn y')) +ᵖ minus p) tt

  -- as the code has it: where the other row has an odd number of Y, the first row's own are counted too
  pub relative-sign : (r : ℕ) (b : Bool) → dot z' x' ≡ b → r ≡ bit_and z (cond b (bit_xor x' x) x')
      → (mul 64 (row i⁰ z x) (row i⁰ z' x')).phase
      ≡ minus (((is_odd (ones r) ⊕ half_y z x) ⊕ half_y z' x') ⊕ half_y (bit_xor z z') (bit_xor x x'))
  relative-sign r b e d =
      relative-phase ∙ ap (λ b. minus (((b ⊕ half_y z x) ⊕ half_y z' x') ⊕ half_y (bit_xor z z') (bit_xor x x')))
      (sym (ap (λ w. is_odd (ones w)) d ∙ as-dot (cond b (bit_xor x' x) x') ∙ go b
      ∙ ap (λ c. dot z x' ⊕ (dot z x && c)) (sym e)))
    where
      go : (b : Bool) → dot z (cond b (bit_xor x' x) x') ≡ dot z x' ⊕ (dot z x && b)
      go false = sym (ap (λ b. dot z x' ⊕ b) (and-false (dot z x)) ∙ ⊕-zero (dot z x'))
      go true = dot-xor-r z x' x ∙ ap (λ b. dot z x' ⊕ b) (sym (and-true (dot z x)))
