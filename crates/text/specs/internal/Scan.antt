-- What the scanner of a text does with each byte. Its scan says what the next byte must be and holds the line
-- being read; a line that is read to its newline goes to three buffers of 64 places.
use Rattle.std.specs.Prelude.{◌≡◌, ◌↔◌, Bool, true, false, ◌&&◌, cond, List, map, Result, Ok, Err, ℕ, ◌+◌, ◌-◌, ◌*◌, ◌%◌, ◌^◌, min, eqb, ltb, length, get_or, set, take}
use Rattle.std.specs.Result.{is_ok}
use Rattle.text.specs.Text.{hex_value, list_names, ListLine, TextOf, HasForm}
use Rattle.text.specs.internal.Feeding.{fed_bytes}
use Rattle.text.specs.declared.scan.Scan.{Scan}
use Rattle.text.specs.declared.scan.Place.{Place}
use Rattle.text.specs.declared.scan.Place.TheVariants.{Names, Sign, Space, Z, X, Broken}

-- a word of 64 bits with one more digit at its low end
unfoldable pub push : ℕ → ℕ → ℕ
push w d = w * 16 % 2 ^ 64 + d

-- the scan at another place
abbrev pub moved : Scan → Place → Scan
moved s p = record { place = p; sign = s.sign; z = s.z; x = s.x; count = s.count }

-- at byte k of the names line
unfoldable pub names_step : ℕ → ℕ → Place
names_step k b =
    cond (ltb k 9 && eqb b (get_or list_names k 0))
    (cond (eqb k 8) Sign (Names (k + 1)))
    Broken

-- at the start of a line
unfoldable pub sign_step : Scan → ℕ → Scan
sign_step s b =
    cond (ltb b 48) (moved s Broken)
    (cond (ltb b 58)
    (record { place = Space; sign = b - 48; z = 0; x = 0; count = s.count })
    (moved s Broken))

-- after k digits of the z word
unfoldable pub z_step : ℕ → Scan → ℕ → Scan
z_step k s b =
    cond (ltb k 16)
    (cond (ltb (hex_value b) 16)
    (record { place = Z (k + 1); sign = s.sign; z = push s.z (hex_value b); x = s.x; count = s.count })
    (moved s Broken))
    (moved s (cond (eqb b 32) (X 0) Broken))

-- one line more, of which no more than 65 are counted: n above 64 is refusal 2
unfoldable pub one_more : ℕ → ℕ
one_more n = cond (ltb n 65) (n + 1) n

-- after k digits of the x word
unfoldable pub x_step : ℕ → Scan → ℕ → Scan
x_step k s b =
    cond (ltb k 16)
    (cond (ltb (hex_value b) 16)
    (record { place = X (k + 1); sign = s.sign; z = s.z; x = push s.x (hex_value b); count = s.count })
    (moved s Broken))
    (cond (eqb b 10)
    (record { place = Sign; sign = s.sign; z = s.z; x = s.x; count = one_more s.count })
    (moved s Broken))

-- at each place
abbrev pub step_at : Place → Scan → ℕ → Scan
step_at (Names k) s b = moved s (names_step k b)
step_at Sign s b = sign_step s b
step_at Space s b = moved s (cond (eqb b 32) (Z 0) Broken)
step_at (Z k) s b = z_step k s b
step_at (X k) s b = x_step k s b
step_at Broken s b = s

-- the scan after one more byte
unfoldable pub scan_byte : Scan → ℕ → Scan
scan_byte s b = step_at s.place s b

-- the scan of the empty text
unfoldable pub begin : Scan
begin = record { place = Names 0; sign = 0; z = 0; x = 0; count = 0 }

-- a scan with the buffers
pub record Reading : Type 0 where
  pub scan : Scan
  pub signs : List ℕ
  pub zs : List ℕ
  pub xs : List ℕ

abbrev pub as_reading : Scan → List ℕ → List ℕ → List ℕ → Reading
as_reading s signs zs xs = record { scan = s; signs = signs; zs = zs; xs = xs }

-- the line that the scan holds, stored behind the lines before it
abbrev pub stored : Reading → Scan → Reading
stored w next =
    as_reading next (set w.signs w.scan.count w.scan.sign)
    (set w.zs w.scan.count w.scan.z)
    (set w.xs w.scan.count w.scan.x)

-- one more byte: where it ends one of the first 64 lines, that line is stored
abbrev pub feed_next : Reading → Scan → Reading
feed_next w next =
    cond (ltb w.scan.count next.count && ltb w.scan.count 64)
    (stored w next)
    (as_reading next w.signs w.zs w.xs)

unfoldable pub feed : Reading → ℕ → Reading
feed w b = feed_next w (scan_byte w.scan b)

-- one more byte after the other
abbrev pub fed : Reading → List ℕ → Reading
fed w t = fed_bytes feed w t

-- whether the next byte would start a line
abbrev pub at_sign : Place → Bool
at_sign (Names k) = false
at_sign Sign = true
at_sign Space = false
at_sign (Z k) = false
at_sign (X k) = false
at_sign Broken = false

-- the text ends: it has the form where the next byte would start a line (refusal 1 is that it has not); this many lines
-- are counted, `Ok` where it has the form and `Err` where it has not
unfoldable pub verdict : Scan → Result ℕ ℕ
verdict s = cond (at_sign s.place) (Ok s.count) (Err s.count)

-- the lines of the list ls are counted, up to 65, and the first 64 of them stand at the start of the buffers
pub record LinesKept (ls : List ListLine) (w : Reading) : Type 0 where
  pub count : w.scan.count ≡ min (length ls) 65
  pub signs : take (length ls) w.signs ≡ take 64 (map (λ l. l.sign) ls)
  pub zs : take (length ls) w.zs ≡ take 64 (map (λ l. l.z) ls)
  pub xs : take (length ls) w.xs ≡ take 64 (map (λ l. l.x) ls)

-- the verdict on the text t is right: it says whether t has the form, and then the lines of t are kept
pub record Judged (t : List ℕ) (w : Reading) : Type 0 where
  pub form : (is_ok (verdict w.scan) ≡ true) ↔ HasForm t
  pub lines : (ls : List ListLine) → TextOf ls t → LinesKept ls w
