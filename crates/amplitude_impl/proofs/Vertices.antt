-- One vertex: its smaller neighbours in a word, its equation, and its turns, as the code works them out.
use mathlib.Core.Bool.{◌&&◌, Bool, beq, and-true, cond, false, not, true, ◌||◌}
use mathlib.Core.Path.{ap, ap₂, refl, sym, ◌∙◌, ◌≡◌}
use Prim.Native.Nat.{◌%◌, ◌*◌, ◌+◌, ◌-◌, ◌/◌, ◌<◌, ◌^◌, ℕ}
use native.Mathlib.Nat.{lt_of_le_of_lt}
use lib.Bits.{and_le_l, and_le_r, bit_and}
use lib.Dec.{eqb}
use lib.Pow.{ones_lt}
use mir.Val.{bool_byte}
use borrow.Author.Tests.{eqb-true}
use Rattle.amplitude.specs.internal.KeptTurns.{unit_of}
use Rattle.clifford.specs.Clifford.{bit_c, clifford_of}
use Rattle.pauli.specs.Pauli.{◌+ᵖ◌, exponent, i⁰, minus}
use Rattle.words.proofs.BitLaws.{bit-and, bit_mask}
use Rattle.words.proofs.Finite.{bits}
use Rattle.words.proofs.OnesLaws.{parity-ones}
use Rattle.words.proofs.SearchLaws.{every-at}
use Rattle.words.proofs.Sums.{fold-ext}
use Rattle.words.specs.Bits.{◌⊕◌, bit, is_odd, parity, same_bit}
use Rattle.words.specs.internal.Bits.{dot}
use Rattle.words.specs.Search.{every}

-- ---- the places below j where both words have a 1
pub dot-below : (a b j one : ℕ) (r : Bool) → one ≡ 2 ^ j → r ≡ dot (bit_and a (one - 1)) b
    → r ≡ parity j (λ q. bit a q && bit b q)
unfolding dot
dot-below a b j one r e h =
    h ∙ ap (λ m. dot (bit_and a (m - 1)) b) e
    ∙ parity-ones j (bit_and low b) (lt_of_le_of_lt (and_le_l low b)
    (lt_of_le_of_lt (and_le_r a (2 ^ j - 1)) (ones_lt j)))
    ∙ fold-ext false ◌⊕◌ j (λ q l. bit-and low b q ∙ ap (λ v. v && bit b q)
    (bit-and a (2 ^ j - 1) q ∙ ap (λ v. bit a q && v) (bit_mask j q l) ∙ and-true (bit a q)))
  where
    low : ℕ
    low = bit_and a (2 ^ j - 1)

-- ---- the equation of a vertex
pub fits-is : (code : ℕ) (marked here around : Bool) {b p : Bool} → marked ≡ bit_c (clifford_of code) → here ≡ b
    → around ≡ p → (not marked || beq here (not (beq (is_odd (code / 2)) around)))
    ≡ (not (bit_c (clifford_of code)) || same_bit b (is_odd (code / 2) ⊕ p))
fits-is code marked here around m e f =
    ap₂ (λ u v. not u || v) m (same here (is_odd (code / 2)) around
    ∙ ap₂ (λ u v. same_bit u (is_odd (code / 2) ⊕ v)) e f)
  where
    same : (a s d : Bool) → beq a (not (beq s d)) ≡ same_bit a (s ⊕ d)
    same = bits 3 (λ a s d. beq a (not (beq s d))) (λ a s d. same_bit a (s ⊕ d)) tt

-- ---- turns
abbrev sum : ℕ → Bool → ℕ
sum code d = (code / 4 + 2 * (code / 2 % 2) + 2 * bool_byte d) % 4

abbrev right : Bool → ℕ → Bool
right d code = eqb (sum code d) (exponent (unit_of (clifford_of code) +ᵖ minus d))

-- by a test over the codes 0 to 7 for each sign
sum_is : (code : ℕ) → code < 8 → (d : Bool) → sum code d ≡ exponent (unit_of (clifford_of code) +ᵖ minus d)
unfolding every
sum_is code l false = eqb-true _ _ (every-at 8 (right false) refl code l)
sum_is code l true = eqb-true _ _ (every-at 8 (right true) refl code l)

module _ (code : ℕ) {here b : Bool} (e : here ≡ b) (p : Bool) where
  pub turns-none : here ≡ false → 0 ≡ exponent (cond b (unit_of (clifford_of code) +ᵖ minus p) i⁰)
  turns-none z = ap (λ v. exponent (cond v (unit_of (clifford_of code) +ᵖ minus p) i⁰)) (sym z ∙ e)

  pub turns-some : here ≡ true → (b ≡ true → code < 8) → (around : Bool) → around ≡ p
      → sum code around ≡ exponent (cond b (unit_of (clifford_of code) +ᵖ minus p) i⁰)
  turns-some z l around f =
      sum_is code (l (sym e ∙ z)) around
      ∙ ap₂ (λ v u. exponent (cond v (unit_of (clifford_of code) +ᵖ minus u) i⁰)) (sym z ∙ e) f
