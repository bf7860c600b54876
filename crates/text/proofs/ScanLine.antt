-- What the scanner does with the bytes of a line, field by field.
use mathlib.Core.Path.{◌≡◌, refl, ap, ap₂, ◌∙◌}
use mathlib.Core.Bool.{◌&&◌, cond}
use mathlib.Core.List.{List, [], ◌∷◌, ◌++◌}
use Prim.Native.Nat.{ℕ, zero, suc, ◌+◌, ◌*◌, ◌/◌, ◌%◌, ◌^◌, ◌≤◌, ◌<◌}
use native.Mathlib.Nat.{le_of_eq}
use native.Mathlib.Numerals.{add-one}
use native.Mathlib.Omega.{arith}
use lib.Dec.{ltb}
use borrow.Author.Tests.{lt-ltb, le-ltb}
use Rattle.text.specs.Text.{hex_digit, hex_text, space, ListLine, Fits, line_text}
use Rattle.text.specs.internal.Feeding.{fed_bytes}
use Rattle.text.specs.internal.Scan.{
  sign_step,
  z_step,
  x_step,
  scan_byte,
  one_more,
  Reading,
  as_reading,
  stored,
  feed_next,
}
use Rattle.text.specs.internal.Scan.{feed, fed}
use Rattle.text.specs.declared.scan.Scan.{Scan}
use Rattle.text.specs.declared.scan.Place.{Place}
use Rattle.text.specs.declared.scan.Place.TheVariants.{Sign, Space, Z, X}
use Rattle.text.proofs.DigitLaws.{value-digit, push-exact, fewer_digits}
use Rattle.text.proofs.Feeding.{fed-append, fed-one}

-- a byte that ends no line leaves the buffers
feed-keeps : (w : Reading) (b : ℕ) (next : Scan) → scan_byte w.scan b ≡ next → next.count ≡ w.scan.count
    → feed w b ≡ as_reading next w.signs w.zs w.xs
unfolding feed
feed-keeps w b next e same =
    ap (feed_next w) e
    ∙ ap (λ t. cond (t && ltb w.scan.count 64) (stored w next) (as_reading next w.signs w.zs w.xs))
    (le-ltb w.scan.count next.count (le_of_eq same))

-- a word is read digit by digit: S k v is the reading after k digits, of value v
module _ (S : ℕ → ℕ → Reading)
    (digit : (k v d : ℕ) → k < 16 → v < 2 ^ 60 → d < 16
    → feed (S k v) (hex_digit d) ≡ S (k + 1) (v * 16 + d)) where
  pub word_read : (k v : ℕ) → k ≤ 16 → v < 16 ^ k → v < 2 ^ 64 → fed (S 0 0) (hex_text k v) ≡ S k v
  unfolding hex_text fed_bytes
  word_read zero v upto few small = ap (S 0) (omega arith)
  word_read (suc k) v upto few small =
      fed-one feed (S 0 0) (hex_text k (v / 16)) (hex_digit (v % 16))
      ∙ ap (λ w. feed w (hex_digit (v % 16)))
      (word_read k (v / 16) (omega arith) (fewer_digits k v few) (omega arith))
      ∙ digit k (v / 16) (v % 16) (omega arith) (omega arith) (omega arith)
      ∙ ap₂ S (add-one k) (omega arith)

-- a scan at the place p that holds a line, with n lines counted
abbrev pub scan_at : ℕ → Place → ℕ → ℕ → ℕ → Scan
scan_at n p s z x = record { place = p; sign = s; z = z; x = x; count = n }

module _ (A B C : List ℕ) (n : ℕ) where
  abbrev pub reading_at : Place → ℕ → ℕ → ℕ → Reading
  reading_at p s z x = as_reading (scan_at n p s z x) A B C

  sign_read : (s z x d : ℕ) → d < 10 → feed (reading_at Sign s z x) (48 + d) ≡ reading_at Space d 0 0
  unfolding scan_byte sign_step
  sign_read s z x d small =
      feed-keeps (reading_at Sign s z x) (48 + d) (scan_at n Space d 0 0)
      (simp (le-ltb (48 + d) 48 (omega arith), lt-ltb (48 + d) 58 (omega arith))
      (ap (λ e. scan_at n Space e 0 0) (omega arith)))
      refl

  space-read : (s z x : ℕ) → feed (reading_at Space s z x) 32 ≡ reading_at (Z 0) s z x
  unfolding scan_byte
  space-read s z x = feed-keeps (reading_at Space s z x) 32 (scan_at n (Z 0) s z x) refl refl

  z-read : (s x k v d : ℕ) → k < 16 → v < 2 ^ 60 → d < 16
      → feed (reading_at (Z k) s v x) (hex_digit d) ≡ reading_at (Z (k + 1)) s (v * 16 + d) x
  unfolding scan_byte z_step
  z-read s x k v d inside small one =
      feed-keeps (reading_at (Z k) s v x) (hex_digit d) (scan_at n (Z (k + 1)) s (v * 16 + d) x)
      (simp (lt-ltb k 16 inside, value-digit d one, lt-ltb d 16 one, push-exact v d small)) refl

  z-ends : (s z x : ℕ) → feed (reading_at (Z 16) s z x) 32 ≡ reading_at (X 0) s z x
  unfolding scan_byte z_step
  z-ends s z x = feed-keeps (reading_at (Z 16) s z x) 32 (scan_at n (X 0) s z x) refl refl

  x-read : (s z k v d : ℕ) → k < 16 → v < 2 ^ 60 → d < 16
      → feed (reading_at (X k) s z v) (hex_digit d) ≡ reading_at (X (k + 1)) s z (v * 16 + d)
  unfolding scan_byte x_step
  x-read s z k v d inside small one =
      feed-keeps (reading_at (X k) s z v) (hex_digit d) (scan_at n (X (k + 1)) s z (v * 16 + d))
      (simp (lt-ltb k 16 inside, value-digit d one, lt-ltb d 16 one, push-exact v d small)) refl

  x-ends : (s z x : ℕ)
      → feed (reading_at (X 16) s z x) 10 ≡ feed_next (reading_at (X 16) s z x) (scan_at (one_more n) Sign s z x)
  unfolding feed scan_byte x_step
  x-ends s z x = refl

  -- the reading after a whole line
  pub line_read : (s z x : ℕ) (l : ListLine) → Fits l
      → fed (reading_at Sign s z x) (line_text l)
      ≡ feed_next (reading_at (X 16) l.sign l.z l.x)
      (scan_at (one_more n) Sign l.sign l.z l.x)
  unfolding line_text fed_bytes
  line_read s z x l fit =
      let w = reading_at Sign s z x in
      let upto-z = (48 + l.sign) ∷ [] ++ space ++ hex_text 16 l.z in
      let to_space : fed w ((48 + l.sign) ∷ [] ++ space) ≡ reading_at (Z 0) l.sign 0 0 =
      ap (λ v. feed v 32) (sign_read s z x l.sign fit.sign) ∙ space-read l.sign 0 0
      in
      let to-z : fed w upto-z ≡ reading_at (Z 16) l.sign l.z 0 =
      fed-append feed w ((48 + l.sign) ∷ [] ++ space) (hex_text 16 l.z)
      ∙ ap (λ v. fed v (hex_text 16 l.z)) to_space
      ∙ word_read (λ k v. reading_at (Z k) l.sign v 0) (z-read l.sign 0) 16 l.z (omega arith)
      fit.z fit.z
      in
      let to-x : fed w (upto-z ++ space ++ hex_text 16 l.x) ≡ reading_at (X 16) l.sign l.z l.x =
      fed-append feed w (upto-z ++ space) (hex_text 16 l.x)
      ∙ ap (λ v. fed v (hex_text 16 l.x))
      (fed-one feed w upto-z 32 ∙ ap (λ v. feed v 32) to-z ∙ z-ends l.sign l.z 0)
      ∙ word_read (λ k v. reading_at (X k) l.sign l.z v) (x-read l.sign l.z) 16 l.x
      (omega arith) fit.x fit.x
      in
      fed-one feed w (upto-z ++ space ++ hex_text 16 l.x) 10 ∙ ap (λ v. feed v 10) to-x
      ∙ x-ends l.sign l.z l.x
