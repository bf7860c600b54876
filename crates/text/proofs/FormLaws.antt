-- A text is the text of one list only: printing a list is injective.
use mathlib.Core.Path.{◌≡◌, refl, sym, ap, ◌∙◌}
use mathlib.Core.List.{List, [], ◌∷◌, ◌++◌, append_assoc, append-nil}
use Prim.Native.Nat.{ℕ, ◌+◌, ◌^◌, ◌<◌}
use native.Mathlib.Omega.{arith}
use lib.ListN.{length, take, drop, length-append}
use lib.Seq.{take_at, drop_at}
use Rattle.text.specs.Text.{hex_text, space, newline, ListLine, Fits, AllFit, line_text, lines_text, list_names}
use Rattle.text.specs.Text.{list_text, TextOf}
use Rattle.text.proofs.HexLaws.{length-hex}
use Rattle.text.proofs.DigitLaws.{read_hex, hex-back}

-- two lists in two parts, whose first parts, or whose second parts, are equally long
parts-left : (a b c d : List ℕ) → length a ≡ length c → a ++ b ≡ c ++ d → (a ≡ c) × (b ≡ d)
parts-left a b c d long e = (
  sym (take_at a b (length a) refl) ∙ ap (take (length a)) e ∙ take_at c d (length a) (sym long),
  sym (drop_at a b (length a) refl) ∙ ap (drop (length a)) e ∙ drop_at c d (length a) (sym long),
)

parts-right : (a b c d : List ℕ) → length b ≡ length d → a ++ b ≡ c ++ d → (a ≡ c) × (b ≡ d)
parts-right a b c d long e =
    parts-left a b c d (omega (arith, length-append a b, length-append c d, ap length e)) e

words_long : (v w : ℕ) → length (hex_text 16 v) ≡ length (hex_text 16 w)
words_long v w = length-hex 16 v ∙ sym (length-hex 16 w)

hex-injective : (v w : ℕ) → v < 2 ^ 64 → w < 2 ^ 64 → hex_text 16 v ≡ hex_text 16 w → v ≡ w
hex-injective v w hv hw e = sym (hex-back 16 v hv) ∙ ap (read_hex 0) e ∙ hex-back 16 w hw

pub line-injective : (l m : ListLine) → Fits l → Fits m → line_text l ≡ line_text m → l ≡ m
unfolding line_text
line-injective l m fl fm e =
    let digit : ListLine → List ℕ = λ k. (48 + k.sign) ∷ [] in
    let upto-z : ListLine → List ℕ = λ k. digit k ++ space ++ hex_text 16 k.z in
    let e₁ = (parts-right (upto-z l ++ space ++ hex_text 16 l.x) newline (upto-z m ++ space
    ++ hex_text 16 m.x) newline refl e).0 in
    let e₂ = parts-right (upto-z l ++ space) (hex_text 16 l.x) (upto-z m
    ++ space) (hex_text 16 m.x) (words_long l.x m.x) e₁ in
    let e₃ = (parts-right (upto-z l) space (upto-z m) space refl e₂.0).0 in
    let e₄ = parts-right (digit l ++ space) (hex_text 16 l.z) (digit m
    ++ space) (hex_text 16 m.z) (words_long l.z m.z) e₃ in
    let digits : digit l ≡ digit m = (parts-right (digit l) space (digit m) space refl e₄.0).0 in
    let byte : 48 + l.sign ≡ 48 + m.sign = cc in
    let signs : l.sign ≡ m.sign = omega arith in
    let zs : l.z ≡ m.z = hex-injective l.z m.z fl.z fm.z e₄.1 in
    let xs : l.x ≡ m.x = hex-injective l.x m.x fl.x fm.x e₂.1 in
    λ i. record { sign = signs i; z = zs i; x = xs i }

pub length-line : (l : ListLine) → length (line_text l) ≡ 36
unfolding line_text
length-line l =
    let upto-z = (48 + l.sign) ∷ [] ++ space ++ hex_text 16 l.z in
    omega (
      arith,
      length-append (upto-z ++ space ++ hex_text 16 l.x) newline,
      length-append (upto-z ++ space) (hex_text 16 l.x),
      length-append upto-z space,
      length-hex 16 l.z,
      length-hex 16 l.x,
    )

lines-injective : (ls ms : List ListLine) → AllFit ls → AllFit ms → lines_text ls ≡ lines_text ms → ls ≡ ms
unfolding lines_text
lines-injective [] [] f g e = refl
lines-injective [] (m ∷ ms) f g e =
    absurd (omega (arith, length-append (line_text m) (lines_text ms), length-line m, ap length e))
lines-injective (l ∷ ls) [] f g e =
    absurd (omega (arith, length-append (line_text l) (lines_text ls), length-line l, ap length e))
lines-injective (l ∷ ls) (m ∷ ms) f g e =
    let p = parts-left (line_text l) (lines_text ls) (line_text m) (lines_text ms) (length-line l
    ∙ sym (length-line m)) e in
    let rest = lines-injective ls ms f.1 g.1 p.1 in
    λ i. line-injective l m f.0 g.0 p.0 i ∷ rest i

-- a text is the text of at most one list
pub list-unique : (ls ms : List ListLine) (t : List ℕ) → TextOf ls t → TextOf ms t → ls ≡ ms
unfolding list_text
list-unique ls ms t p q =
    lines-injective ls ms p.fit q.fit
    (parts-left list_names (lines_text ls) list_names (lines_text ms) refl (sym p.text ∙ q.text)).1

-- the lines of two lists, one behind the other
pub lines-append : (ls ms : List ListLine) → lines_text (ls ++ ms) ≡ lines_text ls ++ lines_text ms
unfolding lines_text
lines-append [] ms = refl
lines-append (l ∷ ls) ms =
    ap (λ t. line_text l ++ t) (lines-append ls ms)
    ∙ sym (append_assoc (line_text l) (lines_text ls) (lines_text ms))

-- the text with one line more
pub list-more : (ls : List ListLine) (l : ListLine) → list_text (ls ++ l ∷ []) ≡ list_text ls ++ line_text l
unfolding list_text lines_text
list-more ls l =
    ap (λ t. list_names ++ t) (lines-append ls (l ∷ [])
    ∙ ap (λ t. lines_text ls ++ t) (append-nil (line_text l)))

pub fit-more : (ls : List ListLine) (l : ListLine) → AllFit ls → Fits l → AllFit (ls ++ l ∷ [])
fit-more [] l f g = (g, tt)
fit-more (k ∷ ls) l f g = (f.0, fit-more ls l f.1 g)
