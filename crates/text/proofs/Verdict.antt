-- The verdict on a text, fed in blocks of any size: it says whether the text has the form, and then the lines
-- of its list are counted and kept.
use mathlib.Core.Path.{◌≡◌, ◌∙◌, refl, sym, ap, subst}
use mathlib.Core.Bool.{Bool, true, false, ◌&&◌, cond, false≢true}
use mathlib.Core.List.{List, [], ◌∷◌, ◌++◌, flatten}
use Prim.Native.Nat.{ℕ}
use lib.Dec.{ltb, lit<}
use lib.ListN.{length}
use Rattle.std.specs.Prelude.{Err, Ok}
use Rattle.std.specs.Result.{is_ok}
use Rattle.text.specs.Text.{HasForm}
use Rattle.text.specs.internal.Feeding.{fed_blocks}
use Rattle.text.specs.internal.Scan.{
  scan_byte,
  begin,
  Reading,
  as_reading,
  stored,
  feed_next,
  feed,
  fed,
  at_sign,
}
use Rattle.text.specs.internal.Scan.{verdict, Judged}
use Rattle.text.specs.declared.scan.Scan.{Scan}
use Rattle.text.specs.declared.scan.Place.{Place}
use Rattle.text.specs.declared.scan.Place.TheVariants.{Names, Sign, Space, Z, X, Broken}
use Rattle.text.proofs.Feeding.{blocks-fed, fed-keeps}
use Rattle.text.proofs.ScanList.{text-read}
use Rattle.text.proofs.ScanSound.{Sofar, step-sound}

-- the buffers do not change the scan
scan-next : (w : Reading) (next : Scan) → (feed_next w next).scan ≡ next
scan-next w next = go (ltb w.scan.count next.count && ltb w.scan.count 64)
  where
    go : (t : Bool) → (cond t (stored w next) (as_reading next w.signs w.zs w.xs)).scan ≡ next
    go true = refl
    go false = refl

byte-sound : (w : Reading) (t : List ℕ) (b : ℕ) → Sofar w.scan.place w.scan t
    → Sofar (feed w b).scan.place (feed w b).scan (t ++ b ∷ [])
unfolding feed scan_byte
byte-sound w t b sofar =
    subst (λ s. Sofar s.place s (t ++ b ∷ [])) (sym (scan-next w (scan_byte w.scan b)))
    (step-sound w.scan t b w.scan.place refl sofar)

fed-sound : (u t : List ℕ) (w : Reading) → Sofar w.scan.place w.scan t
    → Sofar (fed w u).scan.place (fed w u).scan (t ++ u)
fed-sound = fed-keeps feed (λ w t. Sofar w.scan.place w.scan t) byte-sound

ends-sound : (p : Place) (s : Scan) (t : List ℕ) → Sofar p s t → at_sign p ≡ true → HasForm t
ends-sound (Names k) s t sofar e = absurd (false≢true e)
ends-sound Sign s t sofar e = sofar
ends-sound Space s t sofar e = absurd (false≢true e)
ends-sound (Z k) s t sofar e = absurd (false≢true e)
ends-sound (X k) s t sofar e = absurd (false≢true e)
ends-sound Broken s t sofar e = absurd (false≢true e)

ok-where : (t : Bool) (n : ℕ) → is_ok (cond t (Ok n) (Err n)) ≡ t
ok-where true n = refl
ok-where false n = refl

module _ (A B C : List ℕ) (a : length A ≡ 64) (b : length B ≡ 64) (c : length C ≡ 64) where
  pub text-judged : (t : List ℕ) → Judged t (fed (as_reading begin A B C) t)
  unfolding verdict begin
  text-judged t =
      let w = fed (as_reading begin A B C) t in
      record {
        form = (
          λ ok. ends-sound w.scan.place w.scan t (fed-sound t [] (as_reading begin A B C) (lit< tt, refl))
              (sym (ok-where (at_sign w.scan.place) w.scan.count) ∙ ok),
          λ has. ok-where (at_sign w.scan.place) w.scan.count
              ∙ ap at_sign (text-read A B C a b c has.0 t has.1).place,
        );
        lines = λ ls text. (text-read A B C a b c ls t text).kept;
      }

  -- the text in blocks of any size, as `scan_block` is fed with them
  pub blocks-judged : (blocks : List (List ℕ))
      → Judged (flatten blocks) (fed_blocks feed (as_reading begin A B C) blocks)
  blocks-judged blocks =
      subst (Judged (flatten blocks)) (sym (blocks-fed feed (as_reading begin A B C) blocks))
      (text-judged (flatten blocks))
