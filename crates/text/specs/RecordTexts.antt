-- Records as texts: the print of `reduce`, the names and a line a qubit, and the record that a text stands for. Bytes
-- are numbers: 10 ends a line, 32 is the space, 48 the digit 0, 49 the digit 1.
use Rattle.std.specs.Prelude.{◌&&◌, Bool, cond, ◌++◌, List, [], ◌≡◌, ◌%◌, ◌*◌, ◌+◌, ◌-◌, ◌<◌, ◌^◌, suc, zero, ℕ, eqb, drop, get_or, length}
use Rattle.words.specs.Search.{every}
use Rattle.text.specs.Reading.{line_count}
use Rattle.text.specs.Text.{decimal, digits, hex_text, hex_value, record_names, space, used_column}
use Rattle.text.specs.declared.records.RecordLine.{RecordLine}

-- ---- writing
-- a number of any size in decimal, with no leading zero
abbrev pub numeral : ℕ → List ℕ
numeral v = digits (suc v) v

-- "a code has one or two decimal digits without a leading zero", "16 lower-case hexadecimal digits", "the last column
-- is 0 or 1"
unfoldable pub columns : RecordLine → List ℕ
columns l = decimal l.code ++ space ++ hex_text 16 l.word ++ used_column l.used

-- a line of the text: "qubit numbers rise from 0 in decimal, however many there are"
unfoldable pub numbered_line : ℕ → RecordLine → List ℕ
numbered_line q l = (numeral q ++ space) ++ columns l

-- the lines of the qubits below n
unfoldable pub numbered_lines : ℕ → (ℕ → RecordLine) → List ℕ
numbered_lines zero L = []
numbered_lines (suc q) L = numbered_lines q L ++ numbered_line q (L q)

-- the text of these lines
unfoldable pub record_lines_text : ℕ → (ℕ → RecordLine) → List ℕ
record_lines_text n L = record_names ++ numbered_lines n L

-- two decimal digits and a word of 64 bits
pub record LineFits (l : RecordLine) : Type 0 where
  pub code : l.code < 100
  pub word : l.word < 2 ^ 64

-- "the form is exactly what is printed": it is the text of some lines. Refusal 1 is that a text does not have it
abbrev pub HasRecordForm : List ℕ → Type 0
HasRecordForm t = (n : ℕ) × (L : ℕ → RecordLine) × ((q : ℕ) → q < n → LineFits (L q)) × (t ≡ record_lines_text n L)

-- ---- reading
-- the value of a decimal digit, and a digit for any other byte
abbrev pub decimal_value : ℕ → ℕ
decimal_value b = hex_value b % 10

-- the number that the first k bytes stand for as hexadecimal digits
unfoldable pub hex_of : ℕ → (ℕ → ℕ) → ℕ
hex_of zero byte = 0
hex_of (suc k) byte = hex_of k byte * 16 + hex_value (byte k) % 16

-- the columns behind a code: 16 digits, a space and the digit of `used`
abbrev pub line_behind : ℕ → (ℕ → ℕ) → RecordLine
line_behind code byte = record { code = code; word = hex_of 16 byte; used = eqb (byte 17) 49 }

-- what the bytes behind a line's number say: a code ends at its first space
unfoldable pub line_of : (ℕ → ℕ) → RecordLine
line_of byte =
    cond (eqb (byte 1) 32) (line_behind (decimal_value (byte 0)) (λ c. byte (suc (suc c))))
    (line_behind (10 * decimal_value (byte 0) + decimal_value (byte 1)) (λ c. byte (suc (suc (suc c)))))

-- the line at the start of a text, behind the number q and a space
abbrev pub line_at : ℕ → List ℕ → RecordLine
line_at q t = line_of (λ c. get_or t (length (numeral q ++ space) + c) 0)

-- the text from the line of qubit q on: each line before it is as long as its print
unfoldable pub from_line : List ℕ → ℕ → List ℕ
from_line t zero = drop (length record_names) t
from_line t (suc q) = drop (length (numbered_line q (line_at q (from_line t q)))) (from_line t q)

-- the line of qubit q
abbrev pub line_read : List ℕ → ℕ → RecordLine
line_read t q = line_at q (from_line t q)

-- how many qubits a text speaks of: the names have a line too
abbrev pub qubit_count : List ℕ → ℕ
qubit_count t = line_count t - 1

-- equal texts
unfoldable pub same_text : List ℕ → List ℕ → Bool
same_text s t = eqb (length s) (length t) && every (length t) (λ i. eqb (get_or s i 0) (get_or t i 0))

-- "the form is exactly what is printed": the text is the print of what it says
unfoldable pub record_form : List ℕ → Bool
record_form t = same_text t (record_lines_text (qubit_count t) (line_read t))
