-- One bit of each byte of a word, and the eight bits brought side by side: a computed test over their values.
use mathlib.Core.Bool.{◌&&◌, Bool, and-false, and-true, false, ◌||◌}
use mathlib.Core.Path.{ap, ap₂, fun_ext, refl, subst, sym, ◌∙◌, ◌≡◌}
use Prim.Native.Nat.{◌%◌, ◌*◌, ◌+◌, ◌/◌, ◌<◌, ◌^◌, suc, zero, ℕ}
use native.Mathlib.Nat.{add_comm, div-add-mod', mod-lt}
use native.Mathlib.Omega.{arith}
use lib.Arith.{lt-one}
use lib.Bits.{bit_and, bit_or}
use lib.Dec.{eqb, eqb→eq, lit<}
use lib.Pow.{shr_lt}
use borrow.Author.Tests.{ne_eqb}
use Rattle.words.proofs.PairWords.{bit-mod}
use Rattle.words.proofs.BitLaws.{
  and-lt-right,
  bit-above,
  bit-and,
  bit-ext,
  bit-or,
  bit-shr,
  bit-word_of,
  bit-zero,
  digit_lt,
  is_odd-digit,
}
use Rattle.words.proofs.Finite.{law}
use Rattle.words.proofs.Flags.{true-same_bit}
use Rattle.words.proofs.SearchLaws.{every-at}
use Rattle.words.specs.Bits.{Word, bit, digit, same_bit, word_of}
use Rattle.words.specs.Search.{every}

-- k bits, each the lowest of a byte
unfoldable apart : ℕ → Word → ℕ
apart zero f = 0
apart (suc k) f = apart k (λ q. f (suc q)) * 256 + digit (f 0)

-- a word with no other bits
is-apart : (k w : ℕ) → w < 2 ^ (8 * k) → ((j : ℕ) → j < 8 * k → eqb (j % 8) 0 ≡ false → bit w j ≡ false)
    → w ≡ apart k (λ q. bit w (8 * q))
unfolding apart
is-apart zero w l none = lt-one l
is-apart (suc k) w l none =
    sym (div-add-mod' w 256) ∙ ap₂ (λ u v. u * 256 + v)
    (is-apart k (w / 256) upper (λ j h e. bit-shr w 8 j ∙ none (8 + j) (omega (arith, h)) (other j e))
    ∙ ap (apart k) (fun_ext (λ q. bit-shr w 8 (8 * q) ∙ ap (bit w) (next q))))
    (bit-ext 8 (w % 256) (digit (bit w 0)) (mod-lt w (lit< tt)) (omega (arith, digit_lt (bit w 0))) lowest)
  where
    next : (q : ℕ) → 8 + 8 * q ≡ 8 * suc q
    next q = omega arith

    upper : w / 256 < 2 ^ (8 * k)
    upper = shr_lt (8 * k) 8 (subst (λ m. w < 2 ^ m) (omega arith) l)

    other : (j : ℕ) → eqb (j % 8) 0 ≡ false → eqb ((8 + j) % 8) 0 ≡ false
    other j e = ap (λ v. eqb v 0) {x = (8 + j) % 8} {y = j % 8} (omega arith) ∙ e

    lowest : (q : ℕ) → q < 8 → bit (w % 256) q ≡ bit (digit (bit w 0)) q
    lowest zero h = bit-mod w 8 0 h ∙ sym (bit-zero (digit (bit w 0)) ∙ is_odd-digit (bit w 0))
    lowest (suc q) h = bit-mod w 8 (suc q) h
        ∙ none (suc q) (omega (arith, h)) (ne_eqb (suc q % 8) 0 (λ e. omega (arith, e, h)))
        ∙ sym (bit-above 1 (digit (bit w 0)) (digit_lt (bit w 0)) (suc q) (omega arith))

-- ---- what the code makes of such a word
abbrev laid : ℕ → ℕ
laid z = bit_and (bit_or z (z / 2 ^ 28)) 4294967295

abbrev gathered : ℕ → ℕ
gathered z = bit_and (laid z * 2113665 / 2 ^ 21) 255

-- the number with these digits to base m
abbrev number : ℕ → Bool → Bool → Bool → Bool → Bool → Bool → Bool → Bool → ℕ
number m a b c d e f g h =
    (((((((0 * m + digit h) * m + digit g) * m + digit f) * m + digit e) * m + digit d) * m + digit c) * m + digit b) *
    m
    + digit a

gathers : (f : Word) → gathered (apart 8 f) ≡ word_of 8 f
unfolding apart word_of
gathers f = law eqb eqb→eq 8 (λ a b c d e f g h. gathered (number 256 a b c d e f g h)) (number 2) tt
    (f 0) (f 1) (f 2) (f 3) (f 4) (f 5) (f 6) (f 7)

-- the lowest bit of each byte
mask-bit : (j : ℕ) → j < 64 → bit 72340172838076673 j ≡ eqb (j % 8) 0
unfolding every bit
mask-bit j l = true-same_bit _ _ (every-at 64 (λ j. same_bit (bit 72340172838076673 j) (eqb (j % 8) 0)) refl j l)

module _ (x : ℕ) where
  abbrev any : ℕ
  any = bit_or x (bit_or (x / 2 ^ 3) (x / 2 ^ 4))

  abbrev marks : ℕ
  marks = bit_and any 72340172838076673

  -- so that the product fits into a word
  pub laid-short : laid marks < 2 ^ 32
  laid-short = and-lt-right 32 (bit_or marks (marks / 2 ^ 28)) 4294967295 (lit< tt)

  marks-bit : (j : ℕ) → j < 64 → bit marks j ≡ (bit any j && eqb (j % 8) 0)
  marks-bit j l = bit-and any 72340172838076673 j ∙ ap (λ b. bit any j && b) (mask-bit j l)

  gathered-marks : gathered marks ≡ word_of 8 (λ q. bit marks (8 * q))
  gathered-marks = ap gathered (is-apart 8 marks (and-lt-right 64 any 72340172838076673 (lit< tt))
      (λ j l e. marks-bit j l ∙ ap (λ b. bit any j && b) e ∙ and-false (bit any j)))
      ∙ gathers (λ q. bit marks (8 * q))

  -- what is asked of byte k
  asked : (k : ℕ) → k < 8 → bit marks (8 * k) ≡ (bit x (8 * k) || (bit x (8 * k + 3) || bit x (8 * k + 4)))
  asked k l =
      let lowest : 8 * k % 8 ≡ 0 = omega arith in
      marks-bit (8 * k) (omega (arith, l)) ∙ ap (λ v. bit any (8 * k) && eqb v 0) lowest ∙ and-true (bit any (8 * k))
      ∙ bit-or x (bit_or (x / 2 ^ 3) (x / 2 ^ 4)) (8 * k)
      ∙ ap (λ b. bit x (8 * k) || b) (bit-or (x / 2 ^ 3) (x / 2 ^ 4) (8 * k)
      ∙ ap₂ ◌||◌ (bit-shr x 3 (8 * k) ∙ ap (bit x) (add_comm 3 (8 * k)))
      (bit-shr x 4 (8 * k) ∙ ap (bit x) (add_comm 4 (8 * k))))

  pub marked-bytes : (gathered marks < 256)
      × ((k : ℕ) → k < 8 → bit (gathered marks) k ≡ (bit x (8 * k) || (bit x (8 * k + 3) || bit x (8 * k + 4))))
  marked-bytes = (
    and-lt-right 8 (laid marks * 2113665 / 2 ^ 21) 255 (lit< tt),
    λ k l. ap (λ v. bit v k) gathered-marks ∙ bit-word_of 8 (λ q. bit marks (8 * q)) k l ∙ asked k l,
  )
