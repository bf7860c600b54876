-- What the call on the image of a graph promises, for all arguments. A name with a prime is what the buffer, or the
-- lent number, holds at exit.
use Rattle.std.specs.Prelude.{List, [], ◌∷◌, ℕ, length}
use Rattle.buffers.specs.Buffers.{tabulate, written}
use Rattle.buffers.specs.Calls.{Contract, buffer, contract_of, number}
use Rattle.image.specs.Image.{image_lines, image_minus, image_record}
use Rattle.image.specs.Rule.{image_list}
use Rattle.record.specs.Lent.{LentRecord, held_record, neighbour_words}
use Rattle.words.specs.Bits.{digit}

-- ---- sukhlent_image: "the image graph, one minus sign bit per vertex, and the list. Its count is the number of
-- complementations done; the list's lent bytes past it keep their values"
abbrev pub image_call : (l : LentRecord) (image signs list : List ℕ) (count : ℕ) (image' signs' list' : List ℕ)
    (count' : ℕ) → Contract
image_call l image signs list count image' signs' list' count' =
    contract_of (image_lines l image signs list)
    (buffer image (neighbour_words l.n (image_record l.n (held_record l))) image'
    ∷ buffer signs (tabulate l.n (λ j. digit (image_minus l.n (held_record l) j))) signs'
    ∷ buffer list (written (image_list l.n (held_record l)) list) list'
    ∷ number count (length (image_list l.n (held_record l))) count' ∷ [])
