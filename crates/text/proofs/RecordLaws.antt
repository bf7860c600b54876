-- The lines of a record's print: their parts and their lengths.
use mathlib.Core.Path.{◌≡◌, ◌∙◌, sym, ap, subst}
use mathlib.Core.Bool.{Bool}
use mathlib.Core.List.{List, ◌++◌, append_assoc}
use Prim.Native.Nat.{ℕ, zero, suc, ◌*◌, ◌≤◌}
use native.Mathlib.Omega.{arith}
use lib.ListN.{length, get_or, length-append}
use Rattle.words.specs.Bits.{bit}
use Rattle.text.specs.RecordTexts.{columns}
use Rattle.text.specs.Text.{hex_text, decimal, space, qubit_line, qubit_lines, used_column}
use Rattle.text.specs.declared.records.RecordLine.{RecordLine}
use Rattle.text.proofs.HexLaws.{length-hex, length-field}

-- a line is the qubit's number and the columns behind it
pub line-columns : (q : ℕ) (l : RecordLine)
    → (decimal q ++ space) ++ columns l ≡ qubit_line q l.code l.word l.used
unfolding columns qubit_line
line-columns q l =
    let code = decimal l.code in
    let word = hex_text 16 l.word in
    sym (ap (λ t. t ++ used_column l.used)
    (ap (λ t. t ++ word) (append_assoc (decimal q ++ space) code space)
    ∙ append_assoc (decimal q ++ space) (code ++ space) word)
    ∙ append_assoc (decimal q ++ space) (code ++ space ++ word) (used_column l.used))

pub length-columns : (l : RecordLine) → length (columns l) ≤ 22
unfolding columns
length-columns l =
    omega (
      arith,
      length-append (decimal l.code ++ space ++ hex_text 16 l.word) (used_column l.used),
      length-append (decimal l.code ++ space) (hex_text 16 l.word),
      length-hex 16 l.word,
      length-field l.code,
    )

pub length-line : (q code w : ℕ) (used : Bool) → length (qubit_line q code w used) ≤ 25
length-line q code w used =
    let l : RecordLine = record { code = code; word = w; used = used } in
    subst (λ t. length t ≤ 25) (line-columns q l)
    (omega (arith, length-append (decimal q ++ space) (columns l), length-field q, length-columns l))

pub length-lines : (n : ℕ) (neighbours codes : List ℕ) (used : ℕ)
    → length (qubit_lines n neighbours codes used) ≤ n * 25
unfolding qubit_lines
length-lines zero neighbours codes used = omega arith
length-lines (suc q) neighbours codes used =
    simp length-append
    (omega (
      arith,
      length-lines q neighbours codes used,
      length-line q (get_or codes q 0) (get_or neighbours q 0) (bit used q),
    ))
