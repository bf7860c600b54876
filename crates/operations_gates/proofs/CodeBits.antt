-- Codes by their bits: those with which a vertex may be out of place, and the numbers that are no codes.
use mathlib.Core.Bool.{◌&&◌, Bool, false, not, ◌||◌}
use mathlib.Core.Path.{refl, ◌≡◌}
use Prim.Native.Nat.{◌+◌, ◌<◌, ℕ}
use lib.Bits.{bit_and}
use lib.Dec.{eqb, leb}
use borrow.Author.Tests.{eqb-true}
use Rattle.words.proofs.Flags.{true-same_bit}
use Rattle.words.proofs.SearchLaws.{every-at}
use Rattle.words.specs.Bits.{bit, digit, same_bit}
use Rattle.words.specs.Search.{every}
use Rattle.operations_gates.specs.internal.Suspects.{suspect}

-- the bits that are looked at
abbrev pub marked : ℕ → Bool
marked code = bit code 0 || (bit code 3 || bit code 4)

pub by_bits : (code : ℕ) → code < 24 → marked code ≡ suspect code
unfolding every bit
by_bits code l = true-same_bit (marked code) (suspect code)
    (every-at 24 (λ c. same_bit (marked c) (suspect c)) refl code l)

pub by_mask : (code : ℕ) → code < 24 → digit (not (eqb (bit_and code 25) 0)) ≡ digit (suspect code)
unfolding every
by_mask code l = eqb-true (digit (not (eqb (bit_and code 25) 0))) (digit (suspect code))
    (every-at 24 (λ c. eqb (digit (not (eqb (bit_and c 25) 0))) (digit (suspect c))) refl code l)

-- a number below 256 that is 24 or more, by its bits 5 to 7 and those below them
abbrev pub above : ℕ → ℕ → Bool
above code t = bit code (5 + t) || (bit code (4 + t) && bit code (3 + t))

abbrev pub high : ℕ → Bool
high code = above code 0 || (above code 1 || above code 2)

pub high_is : (code : ℕ) → code < 256 → high code ≡ leb 24 code
unfolding every bit
high_is code l = true-same_bit (high code) (leb 24 code) (every-at 256 (λ c. same_bit (high c) (leb 24 c)) refl code l)

pub low-none : (code t : ℕ) → code < 24 → t < 3 → above code t ≡ false
unfolding every bit
low-none code t l s = true-same_bit (above code t) false
    (every-at 3 (λ t. same_bit (above code t) false)
    (every-at 24 (λ c. every 3 (λ t. same_bit (above c t) false)) refl code l) t s)
