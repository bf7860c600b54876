-- The text of a generator list and the texts that answer it, as lists of bytes: 10 ends a line, 32 is the
-- space, 48 the digit 0, 97 the letter a.
use Rattle.std.specs.Prelude.{◌≡◌, Bool, cond, List, [], ◌∷◌, ◌++◌, ℕ, zero, suc, ◌+◌, ◌-◌, ◌/◌, ◌%◌, ◌^◌, ◌<◌, ltb, get_or}
use Rattle.words.specs.Bits.{bit, digit}

-- a lower-case hexadecimal digit
unfoldable pub hex_digit : ℕ → ℕ
hex_digit d = cond (ltb d 10) (48 + d) (87 + d)

-- the value of a lower-case hexadecimal digit; 16 for any other byte
unfoldable pub hex_value : ℕ → ℕ
hex_value b =
    cond (ltb b 48) 16
    (cond (ltb b 58) (b - 48)
    (cond (ltb b 97) 16
    (cond (ltb b 103) (b - 87) 16)))

-- the last k hexadecimal digits of w, the highest first
unfoldable pub hex_text : ℕ → ℕ → List ℕ
hex_text zero w = []
hex_text (suc k) w = hex_text k (w / 16) ++ hex_digit (w % 16) ∷ []

-- a decimal number below 100, with no leading zero
unfoldable pub decimal : ℕ → List ℕ
decimal k = cond (ltb k 10) ((48 + k) ∷ []) ((48 + k / 10) ∷ (48 + k % 10) ∷ [])

-- a number's decimal digits, at most k of them, with no leading zero
unfoldable pub digits : ℕ → ℕ → List ℕ
digits zero v = []
digits (suc k) v = cond (ltb v 10) ((48 + v) ∷ []) (digits k (v / 10) ++ (48 + v % 10) ∷ [])

-- "fields parted by one space"
abbrev pub space : List ℕ
space = 32 ∷ []

-- "every line ended by a newline"
abbrev pub newline : List ℕ
newline = 10 ∷ []

-- "a sign bit (1 means minus), a z word and an x word"; the text's form allows every sign digit
pub record ListLine : Type 0 where
  pub sign : ℕ
  pub z : ℕ
  pub x : ℕ

-- one decimal digit and two words of 64 bits
pub record Fits (l : ListLine) : Type 0 where
  pub sign : l.sign < 10
  pub z : l.z < 2 ^ 64
  pub x : l.x < 2 ^ 64

-- each line is a digit and two words
abbrev pub AllFit : List ListLine → Type 0
AllFit [] = Unit
AllFit (l ∷ ls) = Fits l × AllFit ls

-- "one line per generator, .. with a decimal sign digit and two words of 16 lower-case hexadecimal digits, fields
-- parted by one space, every line ended by a newline"
unfoldable pub line_text : ListLine → List ℕ
line_text l = (48 + l.sign) ∷ [] ++ space ++ hex_text 16 l.z ++ space ++ hex_text 16 l.x ++ newline

-- one line after the other
unfoldable pub lines_text : List ListLine → List ℕ
lines_text [] = []
lines_text (l ∷ ls) = line_text l ++ lines_text ls

-- "the line of names `sign z x`"
abbrev pub list_names : List ℕ
list_names = 115 ∷ 105 ∷ 103 ∷ 110 ∷ 32 ∷ 122 ∷ 32 ∷ 120 ∷ 10 ∷ []

-- the text of a generator list
unfoldable pub list_text : List ListLine → List ℕ
list_text ls = list_names ++ lines_text ls

-- t is the text of the list ls
pub record TextOf (ls : List ListLine) (t : List ℕ) : Type 0 where
  pub fit : AllFit ls
  pub text : t ≡ list_text ls

-- the text has the form; refusal 1 is that it has not
abbrev pub HasForm : List ℕ → Type 0
HasForm t = (ls : List ListLine) × TextOf ls t

-- "a final column `used`, 0 or 1", and the end of the line
abbrev pub used_column : Bool → List ℕ
used_column used = 32 ∷ (48 + digit used) ∷ 10 ∷ []

-- "one line per qubit, rising from 0, with decimal qubit and code and the neighbour word in 16 hexadecimal digits"
unfoldable pub qubit_line : ℕ → ℕ → ℕ → Bool → List ℕ
qubit_line q code w used = decimal q ++ space ++ decimal code ++ space ++ hex_text 16 w ++ used_column used

-- the lines of the qubits below n, rising from 0
unfoldable pub qubit_lines : ℕ → List ℕ → List ℕ → ℕ → List ℕ
qubit_lines zero neighbours codes used = []
qubit_lines (suc q) neighbours codes used =
    qubit_lines q neighbours codes used ++ qubit_line q (get_or codes q 0) (get_or neighbours q 0) (bit used q)

-- "the names `qubit code neighbours`", and `used`
abbrev pub record_names : List ℕ
record_names =
    113 ∷ 117 ∷ 98 ∷ 105 ∷ 116 ∷ 32 ∷ 99 ∷ 111 ∷ 100 ∷ 101 ∷ 32
    ∷ 110 ∷ 101 ∷ 105 ∷ 103 ∷ 104 ∷ 98 ∷ 111 ∷ 117 ∷ 114 ∷ 115 ∷ 32 ∷ 117 ∷ 115 ∷ 101 ∷ 100 ∷ 10 ∷ []

-- the print of a record
unfoldable pub record_text : ℕ → List ℕ → List ℕ → ℕ → List ℕ
record_text n neighbours codes used = record_names ++ qubit_lines n neighbours codes used

-- "the one line `refused` and the number"
abbrev pub refused_word : List ℕ
refused_word = 114 ∷ 101 ∷ 102 ∷ 117 ∷ 115 ∷ 101 ∷ 100 ∷ 32 ∷ []

-- the print of refusal k
unfoldable pub refused_text : ℕ → List ℕ
refused_text k = refused_word ++ decimal k ++ newline
