-- The words that meet a given word in an even number of places: half of all words, or every word where it is zero.
use mathlib.Core.Bool.{◌&&◌, Bool, and_comm, and-false, false, not, true, true≢false}
use mathlib.Core.Path.{ap, refl, sym, ◌∙◌, ◌≡◌}
use Prim.Native.Nat.{◌*◌, ◌+◌, ◌<◌, ◌^◌, ℕ}
use native.Mathlib.Omega.{arith}
use lib.Bits.{bit_xor}
use lib.Pow.{pow-lt}
use borrow.Author.Tests.{not-true}
use Rattle.words.proofs.BitLaws.{bit-single}
use Rattle.words.proofs.Flags.{never_true}
use Rattle.words.proofs.Places.{parity-at}
use Rattle.words.proofs.SearchLaws.{every-at, every_in, some-false, some-true}
use Rattle.words.proofs.Sums.{bit_monoid, fold-ext, fold-unit}
use Rattle.words.specs.Bits.{Word, bit, digit, parity, ◌⊕◌}
use Rattle.words.specs.Search.{every, some}
use Rattle.cut.proofs.Counting.{count-both, count-exchange, count_none}
use Rattle.cut.proofs.KernelLaws.{xor-sum}
use Rattle.cut.specs.Kernel.{count}

module _ (m : ℕ) (y : Word) where
  abbrev meets : ℕ → Bool
  meets u = parity m (λ j. bit u j && y j)

  -- how many meet it evenly
  abbrev pub evens : ℕ
  evens = count (2 ^ m) (λ u. not (meets u))

  -- flipping a place of y exchanges even and odd
  halves : (q : ℕ) → q < m → y q ≡ true → evens + evens ≡ 2 ^ m
  halves q l e = omega (arith, count-both (2 ^ m) meets, equal)
    where
      flipped : (u : ℕ) → meets (bit_xor u (2 ^ q)) ≡ meets u ⊕ true
      flipped u = xor-sum m (λ _. y) u (2 ^ q) 0 ∙ ap (λ b. meets u ⊕ b)
          (fold-ext false ◌⊕◌ m (λ t k. ap (λ b. b && y t) (bit-single q t) ∙ and_comm _ (y t))
          ∙ parity-at m y q l ∙ e)

      no_more : (b : Bool) → not b ≡ true → b ⊕ true ≡ true
      no_more false h = refl
      no_more true h = absurd (true≢false (sym h))

      equal : evens ≡ count (2 ^ m) meets
      equal = count-exchange m (2 ^ q) (pow-lt l) (λ u. not (meets u)) meets
          (λ u h. flipped u ∙ no_more (meets u) h) (λ u h. ap not (flipped u) ∙ ap (λ b. not (b ⊕ true)) h)

  pub evens-twice : evens + evens ≡ 2 ^ m + digit (every m (λ j. not (y j))) * 2 ^ m
  evens-twice = go (some m y) refl
    where
      tally : (b : Bool) → every m (λ j. not (y j)) ≡ b → evens + evens ≡ 2 ^ m + digit b * 2 ^ m
          → evens + evens ≡ 2 ^ m + digit (every m (λ j. not (y j))) * 2 ^ m
      tally b z h = h ∙ ap (λ d. 2 ^ m + digit d * 2 ^ m) (sym z)

      go : (b : Bool) → some m y ≡ b → evens + evens ≡ 2 ^ m + digit (every m (λ j. not (y j))) * 2 ^ m
      go true e =
          let F = some-true m y e in
          tally false (never_true _ (λ h. true≢false (sym F.passes ∙ not-true _ (every-at m _ h _ F.below))))
          (omega (arith, halves _ F.below F.passes))
      go false e = tally true (every_in m _ (λ j l. ap not (some-false m y e j l)))
          (omega (
            arith,
            count-both (2 ^ m) meets,
            count_none (2 ^ m) meets (λ u k. fold-unit false ◌⊕◌ bit_monoid m
                (λ j l. ap (λ b. bit u j && b) (some-false m y e j l) ∙ and-false (bit u j))),
          ))
