-- What the calls on texts of Pauli strings promise, for all arguments. A name with a prime is what the buffer holds at
-- exit.
use Rattle.std.specs.Prelude.{List, [], ◌∷◌, ℕ}
use Rattle.buffers.specs.Calls.{Contract, buffer, contract_of}
use Rattle.stabilizer.specs.Lists.{GeneratorList, rows}
use Rattle.text.specs.Reading.{read_lines, string_list, write_lines}
use Rattle.text.specs.Strings.{strings_text}

-- ---- sukhlent_read_strings: "Reading such a text gives the generator list"
abbrev pub read_strings_call : List ℕ → List ℕ → List ℕ → List ℕ → List ℕ → List ℕ → List ℕ → Contract
read_strings_call t signs z x signs' z' x' =
    contract_of (read_lines t signs z x)
    (buffer signs (string_list t).signs signs' ∷ buffer z (string_list t).z z' ∷ buffer x (string_list t).x x'
    ∷ [])

-- ---- sukhlent_write_strings: "writing a list gives one text only"
abbrev pub write_strings_call : GeneratorList → List ℕ → List ℕ → Contract
write_strings_call l text text' = contract_of (write_lines l text) (buffer text (strings_text l.n (rows l)) text' ∷ [])
