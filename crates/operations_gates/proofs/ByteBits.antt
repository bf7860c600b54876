-- What the code makes of the bytes of a word: bits that tell a number of 24 or more, and one mark for each byte.
use mathlib.Core.Bool.{◌&&◌, and-false, and-true, ◌||◌}
use mathlib.Core.Path.{ap, ap₂, refl, sym, ◌∙◌, ◌≡◌}
use Prim.Native.Nat.{◌%◌, ◌*◌, ◌+◌, ◌/◌, ◌<◌, ◌^◌, suc, zero, ℕ}
use native.Mathlib.Omega.{arith}
use lib.Bits.{bit_and, bit_or}
use lib.Dec.{eqb, eqb-suc-zero, leb}
use Rattle.words.proofs.PairWords.{bit-mod, bit-shl}
use Rattle.words.proofs.BitLaws.{bit-and, bit-or, bit-shr}
use Rattle.words.proofs.Flags.{true-same_bit}
use Rattle.words.proofs.SearchLaws.{every-at}
use Rattle.words.specs.Bits.{bit, same_bit}
use Rattle.words.specs.Search.{every}

-- the lowest bit of each byte
lowest : (j : ℕ) → j < 64 → bit 72340172838076673 j ≡ eqb (j % 8) 0
unfolding every bit
lowest j l = true-same_bit _ _ (every-at 64 (λ j. same_bit (bit 72340172838076673 j) (eqb (j % 8) 0)) refl j l)

-- and its three highest
pub highest : (j : ℕ) → j < 64 → bit 16204198715729174752 j ≡ leb 5 (j % 8)
unfolding every bit
highest j l = true-same_bit _ _ (every-at 64 (λ j. same_bit (bit 16204198715729174752 j) (leb 5 (j % 8))) refl j l)

-- a word moved up by one place
pub up_one : (w j : ℕ) → 1 + j < 64 → bit (w * 2 ^ 1 % 2 ^ 64) (1 + j) ≡ bit w j
up_one w j l = bit-mod (w * 2 ^ 1) 64 (1 + j) l ∙ bit-shl w 1 j

module _ (x : ℕ) where
  pub high_bits : (k t : ℕ) → k < 8 → t < 3
      → bit (bit_or x (bit_and x (x * 2 ^ 1 % 2 ^ 64) * 2 ^ 1 % 2 ^ 64)) (8 * k + (5 + t))
      ≡ (bit x (8 * k + (5 + t)) || (bit x (8 * k + (4 + t)) && bit x (8 * k + (3 + t))))
  high_bits k t hk ht =
      let both : ℕ = bit_and x (x * 2 ^ 1 % 2 ^ 64) in
      let five : 8 * k + (5 + t) ≡ 1 + (8 * k + (4 + t)) = omega arith in
      let four : 8 * k + (4 + t) ≡ 1 + (8 * k + (3 + t)) = omega arith in
      bit-or x (both * 2 ^ 1 % 2 ^ 64) (8 * k + (5 + t))
      ∙ ap (λ v. bit x (8 * k + (5 + t)) || v) (ap (bit (both * 2 ^ 1 % 2 ^ 64)) five
      ∙ up_one both (8 * k + (4 + t)) (omega (arith, hk, ht)) ∙ bit-and x (x * 2 ^ 1 % 2 ^ 64) (8 * k + (4 + t))
      ∙ ap (λ v. bit x (8 * k + (4 + t)) && v) (ap (bit (x * 2 ^ 1 % 2 ^ 64)) four
      ∙ up_one x (8 * k + (3 + t)) (omega (arith, hk, ht))))

  pub marks : (k t : ℕ) → k < 8 → t < 8
      → bit (bit_and (bit_or x (bit_or (x / 2 ^ 3) (x / 2 ^ 4))) 72340172838076673) (8 * k + t)
      ≡ (eqb t 0 && (bit x (8 * k) || (bit x (8 * k + 3) || bit x (8 * k + 4))))
  marks k t hk ht =
      bit-and (bit_or x (bit_or (x / 2 ^ 3) (x / 2 ^ 4))) 72340172838076673 (8 * k + t)
      ∙ ap₂ ◌&&◌ (any (8 * k + t)) (lowest (8 * k + t) (omega (arith, hk, ht)) ∙ ap (λ v. eqb v 0) place)
      ∙ at t
    where
      place : (8 * k + t) % 8 ≡ t
      place = omega (arith, ht)

      any : (j : ℕ) → bit (bit_or x (bit_or (x / 2 ^ 3) (x / 2 ^ 4))) j
          ≡ (bit x j || (bit x (3 + j) || bit x (4 + j)))
      any j = bit-or x (bit_or (x / 2 ^ 3) (x / 2 ^ 4)) j
          ∙ ap (λ v. bit x j || v) (bit-or (x / 2 ^ 3) (x / 2 ^ 4) j ∙ ap₂ ◌||◌ (bit-shr x 3 j) (bit-shr x 4 j))

      at : (t : ℕ) → ((bit x (8 * k + t) || (bit x (3 + (8 * k + t)) || bit x (4 + (8 * k + t)))) && eqb t 0)
          ≡ (eqb t 0 && (bit x (8 * k) || (bit x (8 * k + 3) || bit x (8 * k + 4))))
      at zero =
          let here : 8 * k + 0 ≡ 8 * k = omega arith in
          let three : 3 + (8 * k + 0) ≡ 8 * k + 3 = omega arith in
          let four : 4 + (8 * k + 0) ≡ 8 * k + 4 = omega arith in
          and-true _ ∙ ap₂ ◌||◌ (ap (bit x) here) (ap₂ ◌||◌ (ap (bit x) three) (ap (bit x) four))
      at (suc t) = ap (λ v. (bit x (8 * k + suc t) || (bit x (3 + (8 * k + suc t)) || bit x (4 + (8 * k + suc t)))) &&
          v)
          (eqb-suc-zero t)
          ∙ and-false (bit x (8 * k + suc t) || (bit x (3 + (8 * k + suc t)) || bit x (4 + (8 * k + suc t))))
          ∙ sym (ap (λ v. v && (bit x (8 * k) || (bit x (8 * k + 3) || bit x (8 * k + 4)))) (eqb-suc-zero t))
