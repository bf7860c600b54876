-- The reading after one more byte, by whether it ends one of the first 64 lines.
use mathlib.Core.Path.{◌≡◌, sym, ap, ◌∙◌}
use mathlib.Core.Bool.{Bool, true, false, ◌&&◌, cond}
use Prim.Native.Nat.{ℕ}
use lib.Dec.{ltb}
use Rattle.text.specs.internal.Scan.{Reading, as_reading, stored, feed_next, feed, scan_byte}
use Rattle.text.specs.declared.scan.Scan.{Scan}

module _ (w : Reading) (b : ℕ) (next : Scan) (stepped : next ≡ scan_byte w.scan b) where
  by_flag : (t : Bool) → (ltb w.scan.count next.count && ltb w.scan.count 64) ≡ t
      → cond t (stored w next) (as_reading next w.signs w.zs w.xs) ≡ feed w b
  unfolding feed
  by_flag t e =
      ap (λ f. cond f (stored w next) (as_reading next w.signs w.zs w.xs)) (sym e) ∙ ap (feed_next w) stepped

  pub feed-stored : (ltb w.scan.count next.count && ltb w.scan.count 64) ≡ true → stored w next ≡ feed w b
  feed-stored e = by_flag true e

  pub feed-kept : (ltb w.scan.count next.count && ltb w.scan.count 64) ≡ false
      → as_reading next w.signs w.zs w.xs ≡ feed w b
  feed-kept e = by_flag false e
