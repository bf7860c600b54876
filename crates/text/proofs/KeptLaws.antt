-- What is kept of a list of at most 64 lines is the list; a longer list has the count 65.
use mathlib.Core.Path.{◌≡◌, ◌∙◌}
use mathlib.Core.List.{List, map}
use Prim.Native.Nat.{ℕ, ◌≤◌, ◌<◌}
use native.Mathlib.Nat.{min-eq_left, min-eq_right}
use native.Mathlib.Omega.{arith}
use lib.ListN.{length, take, length-map}
use lib.Seq.{take_all}
use Rattle.text.specs.Text.{ListLine}
use Rattle.text.specs.internal.Scan.{Reading, LinesKept}

module _ (ls : List ListLine) (w : Reading) (kept : LinesKept ls w) where
  pub count-many : 64 < length ls → w.scan.count ≡ 65
  count-many many = kept.count ∙ min-eq_right {n = 65} {m = length ls} (omega arith)

  module _ (few : length ls ≤ 64) where
    pub count-few : w.scan.count ≡ length ls
    count-few = kept.count ∙ min-eq_left {n = length ls} {m = 65} (omega arith)

    whole : (f : ListLine → ℕ) → take 64 (map f ls) ≡ map f ls
    whole f = take_all 64 (map f ls) (omega (arith, length-map ls f))

    pub signs-few : take (length ls) w.signs ≡ map (λ l. l.sign) ls
    signs-few = kept.signs ∙ whole (λ l. l.sign)

    pub zs-few : take (length ls) w.zs ≡ map (λ l. l.z) ls
    zs-few = kept.zs ∙ whole (λ l. l.z)

    pub xs-few : take (length ls) w.xs ≡ map (λ l. l.x) ls
    xs-few = kept.xs ∙ whole (λ l. l.x)
