-- The text read so far, block after block.
use mathlib.Core.List.{◌++◌, List, []}
use mathlib.Core.Path.{ap, sym, ◌∙◌, ◌≡◌}
use Prim.Native.Nat.{ℕ}
use Rattle.text.proofs.Feeding.{fed-append}
use Rattle.text.specs.internal.Feeding.{fed_bytes}
use Rattle.text.specs.internal.Scan.{begin, fed, feed, as_reading, verdict}
use Rattle.text.specs.declared.scan.Scan.{Scan}
use Rattle.std.specs.Prelude.{Result}
use Rattle.text_replies.specs.internal.Scanned.{Scanned}

-- the scan has been fed with some text
abbrev pub Fed : List ℕ → List ℕ → List ℕ → Scan → List ℕ → List ℕ → List ℕ → Type 0
Fed signs₀ z₀ x₀ scan signs z x = (t : List ℕ) × (as_reading scan signs z x ≡ fed (as_reading begin signs₀ z₀ x₀) t)

-- nothing is read
pub no_block : (signs z x : List ℕ) (scan : Scan) → scan ≡ begin → Fed signs z x scan signs z x
unfolding fed_bytes
no_block signs z x scan e = ([], ap (λ s. as_reading s signs z x) e)

-- a block more
pub one_block : (signs₀ z₀ x₀ signs z x signs' z' x' : List ℕ) (scan scan' : Scan) (block : List ℕ) →
    Fed signs₀ z₀ x₀ scan signs z x → as_reading scan' signs' z' x' ≡ fed (as_reading scan signs z x) block →
    Fed signs₀ z₀ x₀ scan' signs' z' x'
one_block signs₀ z₀ x₀ signs z x signs' z' x' scan scan' block F e = (
  F.0 ++ block,
  e ∙ ap (λ w. fed w block) F.1 ∙ sym (fed-append feed (as_reading begin signs₀ z₀ x₀) F.0 block),
)

-- the text ends
pub scanned : (signs₀ z₀ x₀ signs z x : List ℕ) (scan : Scan) (r : Result ℕ ℕ) →
    Fed signs₀ z₀ x₀ scan signs z x → r ≡ verdict scan → Scanned signs₀ z₀ x₀ signs z x r
scanned signs₀ z₀ x₀ signs z x scan r F e =
    record { text = F.0; scan = scan; lines = F.1; judged = e }
