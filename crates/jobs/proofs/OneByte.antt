-- The reading after one more byte, by whether it ends one of the first 4,096 steps, and after bytes that end no step.
use mathlib.Core.Path.{◌≡◌, refl, sym, ap, ◌∙◌}
use mathlib.Core.Bool.{Bool, true, false, ◌&&◌, cond}
use mathlib.Core.List.{List, [], ◌∷◌}
use Prim.Native.Nat.{ℕ}
use native.Mathlib.Nat.{le_of_eq}
use lib.Dec.{ltb}
use borrow.Author.Tests.{le-ltb}
use Rattle.jobs.specs.declared.Step.{Step}
use Rattle.text.specs.internal.Feeding.{fed_bytes}
use Rattle.jobs.specs.internal.Scan.{as_reading, fed, feed, feed_next, Reading, scan_byte, stored}
use Rattle.jobs.specs.declared.scan.Scan.{Scan}

-- one more byte
module _ (w : Reading) (b : ℕ) (next : Scan) (stepped : next ≡ scan_byte w.scan b) where
  by_flag : (t : Bool) → (ltb w.scan.count next.count && ltb w.scan.count 4096) ≡ t
      → cond t (stored w next) (as_reading next w.steps) ≡ feed w b
  unfolding feed
  by_flag t e = ap (λ f. cond f (stored w next) (as_reading next w.steps)) (sym e) ∙ ap (feed_next w) stepped

  pub feed-stored : (ltb w.scan.count next.count && ltb w.scan.count 4096) ≡ true → stored w next ≡ feed w b
  feed-stored e = by_flag true e

  pub feed-kept : (ltb w.scan.count next.count && ltb w.scan.count 4096) ≡ false
      → as_reading next w.steps ≡ feed w b
  feed-kept e = by_flag false e

-- a byte that ends no step leaves the array
pub feed-keeps : (w : Reading) (b : ℕ) (next : Scan) → scan_byte w.scan b ≡ next → next.count ≡ w.scan.count
    → feed w b ≡ as_reading next w.steps
unfolding feed
feed-keeps w b next e same =
    ap (feed_next w) e
    ∙ ap (λ t. cond (t && ltb w.scan.count 4096) (stored w next) (as_reading next w.steps))
    (le-ltb w.scan.count next.count (le_of_eq same))

-- the scan after these bytes
abbrev pub ran : Scan → List ℕ → Scan
ran s bs = fed_bytes scan_byte s bs

-- none of them ends a step
abbrev pub Quiet : Scan → List ℕ → Type 0
Quiet s [] = Unit
Quiet s (b ∷ bs) = ((scan_byte s b).count ≡ s.count) × Quiet (scan_byte s b) bs

pub quiet-fed : (bs : List ℕ) (s : Scan) (steps : List Step) → Quiet s bs
    → fed (as_reading s steps) bs ≡ as_reading (ran s bs) steps
unfolding fed_bytes
quiet-fed [] s steps quiet = refl
quiet-fed (b ∷ bs) s steps quiet =
    ap (λ w. fed w bs) (feed-keeps (as_reading s steps) b (scan_byte s b) refl quiet.0)
    ∙ quiet-fed bs (scan_byte s b) steps quiet.1
