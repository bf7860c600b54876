-- What the call on a product of rows promises, for all arguments. A name with a prime is what the lent number holds at
-- exit.
use Rattle.std.specs.Prelude.{◌||◌, List, [], ◌∷◌, ◌^◌, ℕ, leb}
use Rattle.buffers.specs.Refusals.{Refusal, bad_count, line}
use Rattle.buffers.specs.Calls.{Contract, contract_of, number}
use Rattle.pauli.specs.Pauli.{Pauli, exponent}
use Rattle.stabilizer.specs.Groups.{product}
use Rattle.stabilizer.specs.Lists.{GeneratorList, list_lengths, list_signs, list_stray, rows}
use Rattle.words.specs.Bits.{bit, word_of}

-- "These rows need neither commute nor be independent, so only 2, 4, 5 and 6 are checked". 5: also a word of chosen
-- rows with a bit at or above n
abbrev pub product_lines : GeneratorList → ℕ → List Refusal
product_lines l chosen =
    line 2 (bad_count l.n) ∷ line 4 (list_lengths l) ∷ line 5 (list_stray l || leb (2 ^ l.n) chosen)
    ∷ line 6 (list_signs l) ∷ []

-- "a word chooses the rows, which are taken in index order"
abbrev pub chosen_product : GeneratorList → ℕ → Pauli
chosen_product l chosen = product l.n l.n (bit chosen) (rows l)

-- ---- sukhlent_product: "the answer is the product and its phase", "a power of i from 0 to 3"
abbrev pub product_call : (l : GeneratorList) (chosen z x phase z' x' phase' : ℕ) → Contract
product_call l chosen z x phase z' x' phase' =
    contract_of (product_lines l chosen)
    (number z (word_of l.n (chosen_product l chosen).z) z'
    ∷ number x (word_of l.n (chosen_product l chosen).x) x'
    ∷ number phase (exponent (chosen_product l chosen).phase) phase' ∷ [])
