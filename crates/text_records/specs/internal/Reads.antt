-- What the functions that read a record's text tell: a line, and the whole text.
use Rattle.std.specs.Prelude.{Err, List, IfSome, Ok, Option, Result, ◌≡◌, ℕ, ◌≤◌, length, take}
use Rattle.std.specs.Option.{is_some}
use Rattle.buffers.specs.Buffers.{tabulate}
use Rattle.text.specs.RecordTexts.{line_at, line_read, numbered_line, qubit_count, record_form}
use Rattle.words.specs.Bits.{word_of}
use Rattle.text_records.specs.declared.lines.ReadLine.{ReadLine}
use Rattle.text_records.specs.declared.reading.ReadRecord.{ReadRecord}

-- the print of the line that a text starts with
abbrev pub print_at : ℕ → List ℕ → List ℕ
print_at q t = numbered_line q (line_at q t)

-- a line that stands at the start of t
pub record LineThere (q : ℕ) (t : List ℕ) (r : ReadLine) : Type 0 where
  pub line : r.line ≡ line_at q t
  pub size : r.size ≡ length (print_at q t)
  pub there : take r.size t ≡ print_at q t

-- a line at whose print t does not start
pub record LineOther (q : ℕ) (t : List ℕ) (r : ReadLine) : Type 0 where
  pub line : r.line ≡ line_at q t
  pub size : r.size ≡ length (print_at q t)
  pub other : take r.size t ≡ print_at q t → ⊥

-- what the line of qubit q at the start of t says, and whether t starts with its print
abbrev pub LineTold : ℕ → List ℕ → Result ReadLine ReadLine → Type 0
LineTold q t (Ok r) = LineThere q t r
LineTold q t (Err r) = LineOther q t r

-- the lines of t, of which the first 64 are kept
pub record LinesTold (t : List ℕ) (r : ReadRecord) : Type 0 where
  pub count : r.count ≡ qubit_count t
  pub neighbours : r.count ≤ 64 → take r.count r.neighbours ≡ tabulate r.count (λ q. (line_read t q).word)
  pub codes : r.count ≤ 64 → take r.count r.codes ≡ tabulate r.count (λ q. (line_read t q).code)
  pub used : r.count ≤ 64 → r.used ≡ word_of r.count (λ q. (line_read t q).used)

-- whether t has the form, and then its lines
pub record TextTold (t : List ℕ) (r : Option ReadRecord) : Type 0 where
  pub form : is_some r ≡ record_form t
  pub lines : IfSome r (LinesTold t)
