-- Generator lists as texts of Pauli strings: "a plus or an ASCII hyphen for minus and n letters of I, X, Y, Z, leftmost
-- letter qubit 0, one per line" (02, §10). Bytes are numbers: 43 is the plus, 45 the hyphen, 10 ends a line.
use Rattle.std.specs.Prelude.{Bool, false, true, ◌++◌, List, [], ◌∷◌, ◌≡◌, ◌*◌, ◌+◌, suc, zero, ℕ}
use Rattle.buffers.specs.Buffers.{tabulate}
use Rattle.pauli.specs.Pauli.{Pauli, letter_at, sign_bit}
use Rattle.pauli.specs.declared.Letter.{Letter}
use Rattle.pauli.specs.declared.Letter.TheVariants.{I, X, Y, Z}
use Rattle.text.specs.Text.{newline}

-- "letters of I, X, Y, Z"
abbrev pub letter_byte : Letter → ℕ
letter_byte I = 73
letter_byte X = 88
letter_byte Y = 89
letter_byte Z = 90

-- "a plus or an ASCII hyphen for minus"
abbrev pub sign_byte : Bool → ℕ
sign_byte false = 43
sign_byte true = 45

-- the line of a row on n qubits: its sign and "n letters .., leftmost letter qubit 0"
unfoldable pub string_line : ℕ → Pauli → List ℕ
string_line n p = sign_byte (sign_bit p.phase) ∷ (tabulate n (λ q. letter_byte (letter_at p q)) ++ newline)

-- the lines of the first m rows, "one per line"
unfoldable pub string_lines : ℕ → ℕ → (ℕ → Pauli) → List ℕ
string_lines n zero R = []
string_lines n (suc m) R = string_lines n m R ++ string_line n (R m)

-- the text of a list of n rows: "writing a list gives one text only"
abbrev pub strings_text : ℕ → (ℕ → Pauli) → List ℕ
strings_text n R = string_lines n n R

-- the bytes of a text: n lines with a sign, n letters and a newline
abbrev pub text_size : ℕ → ℕ
text_size n = n * (n + 2)

-- the form: it is the text of some list. Refusal 1 is that a text does not have it
abbrev pub HasStringForm : List ℕ → Type 0
HasStringForm t = (n : ℕ) × (R : ℕ → Pauli) × (t ≡ strings_text n R)
