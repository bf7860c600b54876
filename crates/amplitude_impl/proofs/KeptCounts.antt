-- The ones of a word counted: as many as its places that pass.
use mathlib.Core.Bool.{Bool}
use mathlib.Core.Path.{◌∙◌, ◌≡◌}
use Prim.Native.Nat.{ℕ}
use lib.Count.{ones}
use Rattle.cut.proofs.Counting.{count-ext, ones-count}
use Rattle.cut.specs.Kernel.{count}
use Rattle.words.proofs.BitLaws.{bit-word_of, word_of-lt}
use Rattle.words.specs.Bits.{word_of}

pub word_count : (n : ℕ) (f : ℕ → Bool) → ones (word_of n f) ≡ count n f
word_count n f = ones-count n (word_of n f) (word_of-lt n f) ∙ count-ext n _ f (λ q l. bit-word_of n f q l)
