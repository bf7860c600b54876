-- The scan of the text of a list ends at the start of a line, with the lines counted and kept.
use mathlib.Core.Path.{◌≡◌, refl, sym, ap, ◌∙◌, subst}
use mathlib.Core.Logic.{⊎_elim}
use mathlib.Core.Bool.{true, false, and-false}
use mathlib.Core.List.{List, [], ◌∷◌, ◌++◌, map, map-append, append_assoc, append-nil}
use Prim.Native.Nat.{ℕ, ◌+◌, ◌≤◌, ◌<◌, min}
use native.Mathlib.Nat.{min-eq_left, min-eq_right, le-min}
use native.Mathlib.Numerals.{add-one}
use native.Mathlib.Omega.{arith}
use lib.Dec.{ltb, lit≤}
use lib.ListN.{length, take, set, length-append, length-set, length-map}
use lib.Seq.{take_all, take-suc-set, take-append-le}
use borrow.Author.Tests.{lt-ltb, le-ltb}
use Rattle.words.proofs.Sums.{lt-or-ge}
use Rattle.text.specs.Text.{ListLine, Fits, AllFit, line_text, lines_text, list_names, list_text, TextOf}
use Rattle.text.specs.internal.Feeding.{fed_bytes}
use Rattle.text.specs.internal.Scan.{
  names_step,
  scan_byte,
  one_more,
  begin,
  Reading,
  as_reading,
  stored,
  feed_next,
  feed,
}
use Rattle.text.specs.internal.Scan.{fed, LinesKept}
use Rattle.text.specs.declared.scan.Scan.{Scan}
use Rattle.text.specs.declared.scan.Place.TheVariants.{Sign, X}
use Rattle.text.proofs.Feeding.{fed-append}
use Rattle.text.proofs.ScanLine.{scan_at, reading_at, line_read}

-- a column of the list in its buffer: i lines are there, and one more comes
module _ (buf col : List ℕ) (i v : ℕ) (whole : length buf ≡ 64) (long : length col ≡ i)
    (kept : take i buf ≡ take 64 col) where
  column-stored : i < 64 → take (i + 1) (set buf i v) ≡ take 64 (col ++ v ∷ [])
  column-stored inside =
      ap (λ k. take k (set buf i v)) (add-one i) ∙ take-suc-set buf i v (omega arith)
      ∙ ap (λ l. l ++ v ∷ []) (kept ∙ take_all 64 col (omega arith))
      ∙ sym (take_all 64 (col ++ v ∷ []) (omega (arith, length-append col (v ∷ []))))

  column-full : 64 ≤ i → take (i + 1) buf ≡ take 64 (col ++ v ∷ [])
  column-full outside =
      take_all (i + 1) buf (omega arith) ∙ sym (take_all i buf (omega arith)) ∙ kept
      ∙ sym (take-append-le 64 col (v ∷ []) (omega arith))

-- the count, up to 65
count-more : (i : ℕ) → one_more (min i 65) ≡ min (i + 1) 65
unfolding one_more
count-more i = ⊎_elim
    (λ few.
    ap one_more (min-eq_left {n = i} {m = 65} (omega arith))
    ∙ simp (lt-ltb i 65 (omega arith)) (sym (min-eq_left {n = i + 1} {m = 65} (omega arith))))
    (λ many.
    ap one_more (min-eq_right {n = 65} {m = i} (omega arith))
    ∙ sym (min-eq_right {n = 65} {m = i + 1} (omega arith)))
    (lt-or-ge i 65)

-- the list ls has been read: a line starts, and the lines are kept
pub record Read (ls : List ListLine) (w : Reading) : Type 0 where
  pub place : w.scan.place ≡ Sign
  pub kept : LinesKept ls w
  pub signs-whole : length w.signs ≡ 64
  pub zs-whole : length w.zs ≡ 64
  pub xs-whole : length w.xs ≡ 64

-- a line more is stored, or is beyond the buffers
module _ (ls : List ListLine) (l : ListLine) (w : Reading) (read : Read ls w) where
  abbrev n : ℕ
  n = w.scan.count

  abbrev before : Reading
  before = reading_at w.signs w.zs w.xs n (X 16) l.sign l.z l.x

  abbrev next : Scan
  next = scan_at (one_more n) Sign l.sign l.z l.x

  long : length (ls ++ l ∷ []) ≡ length ls + 1
  long = length-append ls (l ∷ [])

  column : (f : ListLine → ℕ) (buf : List ℕ) → take (length ls + 1) buf ≡ take 64 (map f ls ++ f l ∷ [])
      → take (length (ls ++ l ∷ [])) buf ≡ take 64 (map f (ls ++ l ∷ []))
  column f buf e = ap (λ k. take k buf) long ∙ e ∙ ap (take 64) (sym (map-append f ls (l ∷ [])))

  counted : one_more n ≡ min (length (ls ++ l ∷ [])) 65
  counted = ap one_more read.kept.count ∙ count-more (length ls) ∙ ap (λ k. min k 65) (sym long)

  line-stored : length ls < 64 → Read (ls ++ l ∷ []) (stored before next)
  line-stored inside =
      let here : n ≡ length ls = read.kept.count ∙ min-eq_left (omega arith) in
      let put : (f : ListLine → ℕ) (buf : List ℕ) → length buf ≡ 64 → take (length ls) buf ≡ take 64 (map f ls)
      → take (length (ls ++ l ∷ [])) (set buf n (f l)) ≡ take 64 (map f (ls ++ l ∷ [])) =
      λ f buf whole e. column f (set buf n (f l))
      (ap (λ k. take (length ls + 1) (set buf k (f l))) here
      ∙ column-stored buf (map f ls) (length ls) (f l) whole (length-map ls f) e inside)
      in
      record {
        place = refl;
        kept = record {
          count = counted;
          signs = put (λ k. k.sign) w.signs read.signs-whole read.kept.signs;
          zs = put (λ k. k.z) w.zs read.zs-whole read.kept.zs;
          xs = put (λ k. k.x) w.xs read.xs-whole read.kept.xs;
        };
        signs-whole = length-set w.signs n l.sign ∙ read.signs-whole;
        zs-whole = length-set w.zs n l.z ∙ read.zs-whole;
        xs-whole = length-set w.xs n l.x ∙ read.xs-whole;
      }

  line-beyond : 64 ≤ length ls → Read (ls ++ l ∷ []) (as_reading next w.signs w.zs w.xs)
  line-beyond outside =
      let stay : (f : ListLine → ℕ) (buf : List ℕ) → length buf ≡ 64 → take (length ls) buf ≡ take 64 (map f ls)
      → take (length (ls ++ l ∷ [])) buf ≡ take 64 (map f (ls ++ l ∷ [])) =
      λ f buf whole e. column f buf
      (column-full buf (map f ls) (length ls) (f l) whole (length-map ls f) e outside)
      in
      record {
        place = refl;
        kept = record {
          count = counted;
          signs = stay (λ k. k.sign) w.signs read.signs-whole read.kept.signs;
          zs = stay (λ k. k.z) w.zs read.zs-whole read.kept.zs;
          xs = stay (λ k. k.x) w.xs read.xs-whole read.kept.xs;
        };
        signs-whole = read.signs-whole;
        zs-whole = read.zs-whole;
        xs-whole = read.xs-whole;
      }

  -- a line more
  pub line-more : Fits l → Read (ls ++ l ∷ []) (fed w (line_text l))
  unfolding one_more
  line-more fit =
      let A = w.signs in
      let start : w ≡ reading_at A w.zs w.xs n Sign w.scan.sign w.scan.z w.scan.x =
      λ i. as_reading (scan_at n (read.place i) w.scan.sign w.scan.z w.scan.x) A w.zs w.xs
      in
      let whole : fed w (line_text l) ≡ feed_next before next =
      ap (λ v. fed v (line_text l)) start
      ∙ line_read A w.zs w.xs n w.scan.sign w.scan.z w.scan.x l fit
      in
      subst (Read (ls ++ l ∷ [])) (sym whole)
      (⊎_elim
      (λ inside.
      let here : n ≡ length ls = read.kept.count ∙ min-eq_left (omega arith) in
      let rises : ltb n (one_more n) ≡ true =
      simp (lt-ltb n 65 (omega arith)) (lt-ltb n (n + 1) (omega arith)) in
      simp (rises, lt-ltb n 64 (omega arith)) (line-stored inside))
      (λ outside.
      let here : n ≡ min (length ls) 65 = read.kept.count in
      let full : ltb n 64 ≡ false =
      le-ltb n 64 (omega (arith, le-min {k = 64} outside (lit≤ {m = 64} {n = 65} tt))) in
      simp (full, and-false) (line-beyond outside))
      (lt-or-ge (length ls) 64))

-- more lines
lines_more : (ls ms : List ListLine) (w : Reading) → Read ls w → AllFit ms
    → Read (ls ++ ms) (fed w (lines_text ms))
unfolding lines_text fed_bytes
lines_more ls [] w read fit = subst (λ l. Read l w) (sym (append-nil ls)) read
lines_more ls (m ∷ ms) w read fit =
    subst (Read (ls ++ m ∷ ms)) (sym (fed-append feed w (line_text m) (lines_text ms)))
    (subst (λ l. Read l (fed (fed w (line_text m)) (lines_text ms))) (append_assoc ls (m ∷ []) ms)
    (lines_more (ls ++ m ∷ []) ms (fed w (line_text m)) (line-more ls m w read fit.0) fit.1))

-- the names line
names-read : (A B C : List ℕ) → fed (as_reading begin A B C) list_names ≡ as_reading (scan_at 0 Sign 0 0 0) A B C
unfolding fed_bytes feed scan_byte names_step begin
names-read A B C = refl

-- a whole text
pub text-read : (A B C : List ℕ) → length A ≡ 64 → length B ≡ 64 → length C ≡ 64
    → (ls : List ListLine) (t : List ℕ) → TextOf ls t → Read ls (fed (as_reading begin A B C) t)
unfolding list_text
text-read A B C a b c ls t text =
    let w = as_reading (scan_at 0 Sign 0 0 0) A B C in
    let none : Read [] w = record {
      place = refl;
      kept = record { count = refl; signs = refl; zs = refl; xs = refl };
      signs-whole = a;
      zs-whole = b;
      xs-whole = c;
    } in
    let whole : fed (as_reading begin A B C) t ≡ fed w (lines_text ls) =
    ap (fed (as_reading begin A B C)) text.text ∙ fed-append feed (as_reading begin A B C) list_names (lines_text ls)
    ∙ ap (λ v. fed v (lines_text ls)) (names-read A B C)
    in
    subst (Read ls) (sym whole) (lines_more [] ls w none text.fit)
