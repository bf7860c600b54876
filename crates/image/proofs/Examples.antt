-- Worked examples of the image rule: the definitions compute to what document 01 says.
use mathlib.Core.List.{◌++◌, List, [], ◌∷◌}
use mathlib.Core.Path.{refl, ◌≡◌}
use Prim.Native.Nat.{ℕ}
use lib.ListN.{replicate}
use Rattle.buffers.specs.Buffers.{accepted, tabulate}
use Rattle.buffers.specs.Refusals.{first_fitting, reaching}
use Rattle.clifford.specs.Vectors.{act}
use Rattle.pauli.specs.Pauli.{mul}
use Rattle.record.specs.Lent.{held_record, LentRecord, lent_record, neighbour_words, not_simple}
use Rattle.stabilizer.specs.Membership.{member}
use Rattle.words.specs.Bits.{bit, digit, fold, put, word_of}
use Rattle.words.specs.Search.{every, first, some}
use Rattle.image.specs.Image.{image_lines, image_minus, image_record, looped, stuck}
use Rattle.image.specs.Rule.{image_list, moves, moves_upto, complemented_at}

-- the number; where it is 0 also the neighbour words, the minus signs and the list
abbrev answer : ℕ → List ℕ → List ℕ → List ℕ
answer n neighbours codes =
    let l : LentRecord = lent_record n neighbours codes in
    let number = first_fitting (image_lines l (replicate n 0) (replicate n 0) (replicate 96 0)) in
    number ∷ accepted number
    (neighbour_words n (image_record n (held_record l))
    ++ (tabulate n (λ j. digit (image_minus n (held_record l) j)) ++ image_list n (held_record l))) []

abbrev given : List (List ℕ)
given =
    -- star with centre 0 and leaves 1, 2
    answer 3 (6 ∷ 1 ∷ 1 ∷ []) (12 ∷ 4 ∷ 4 ∷ [])
    -- one edge
    ∷ answer 2 (2 ∷ 1 ∷ []) (8 ∷ 8 ∷ [])
    -- one qubit: the loop stops with C = 1; Y at its own place
    ∷ answer 1 (0 ∷ []) (8 ∷ [])
    ∷ answer 1 (0 ∷ []) (4 ∷ [])
    -- the smallest vertex is looked for anew after every step, and single vertices come before pairs
    ∷ answer 3 (2 ∷ 1 ∷ 0 ∷ []) (20 ∷ 16 ∷ 12 ∷ [])
    ∷ answer 3 (2 ∷ 1 ∷ 0 ∷ []) (8 ∷ 8 ∷ 12 ∷ [])
    -- stuck after one complementation
    ∷ answer 3 (6 ∷ 1 ∷ 1 ∷ []) (12 ∷ 8 ∷ 8 ∷ [])
    -- a minus sign at vertex 0
    ∷ answer 2 (2 ∷ 1 ∷ []) (0 ∷ 1 ∷ [])
    ∷ []

abbrev expected : List (List ℕ)
expected =
    -- the triangle, no minus signs, list 0
    (0 ∷ 6 ∷ 5 ∷ 3 ∷ 0 ∷ 0 ∷ 0 ∷ 0 ∷ [])
    -- the same edge, list 0, 1, 0
    ∷ (0 ∷ 2 ∷ 1 ∷ 0 ∷ 0 ∷ 0 ∷ 1 ∷ 0 ∷ [])
    ∷ (11 ∷ [])
    ∷ (12 ∷ [])
    -- lists 1, 0, 2 and 2, 0, 1, 0
    ∷ (0 ∷ 2 ∷ 1 ∷ 0 ∷ 0 ∷ 0 ∷ 0 ∷ 1 ∷ 0 ∷ 2 ∷ [])
    ∷ (0 ∷ 2 ∷ 1 ∷ 0 ∷ 0 ∷ 0 ∷ 0 ∷ 2 ∷ 0 ∷ 1 ∷ 0 ∷ [])
    ∷ (11 ∷ [])
    ∷ (0 ∷ 2 ∷ 1 ∷ 1 ∷ 0 ∷ [])
    ∷ []

pub image-examples : given ≡ expected
unfolding first_fitting reaching not_simple stuck looped member complemented_at moves moves_upto act mul fold put bit word_of
    tabulate some every first
image-examples = refl
