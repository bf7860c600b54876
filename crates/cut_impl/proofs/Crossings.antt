-- The columns of the edges between the sides, from the neighbour words.
use mathlib.Core.Bool.{◌&&◌, Bool, and-false, false, not, true}
use mathlib.Core.List.{List}
use mathlib.Core.Path.{ap, ap₂, sym, ◌∙◌, ◌≡◌}
use Prim.Native.Nat.{◌<◌, ◌^◌, ℕ}
use lib.Bits.{bit_and}
use lib.ListN.{get_or}
use Rattle.cut.specs.Cut.{crossing}
use Rattle.record.specs.Graph.{Graph}
use Rattle.record.specs.NeighbourWords.{graph_in}
use Rattle.words.proofs.BitLaws.{bit-above, bit-and, lt-of-bits, zero_bit}
use Rattle.words.proofs.Finite.{bits}
use Rattle.words.specs.Bits.{bit}

-- a vertex of the marked side has no column
pub no-crossing : (neighbours : List ℕ) (side k : ℕ) → bit side k ≡ true → (j : ℕ)
    → bit 0 j ≡ crossing (bit side) (graph_in neighbours) j k
no-crossing neighbours side k e j =
    zero_bit j ∙ sym (ap (λ b. (bit side j && not b) && graph_in neighbours j k) e
    ∙ ap (λ b. b && graph_in neighbours j k) (and-false (bit side j)))

-- the column of a vertex of the other side: its neighbours on the marked one
pub crossing-word : (neighbours : List ℕ) (side k : ℕ)
    → ((j : ℕ) → graph_in neighbours j k ≡ graph_in neighbours k j) → bit side k ≡ false → (j : ℕ)
    → bit (bit_and (get_or neighbours k 0) side) j ≡ crossing (bit side) (graph_in neighbours) j k
crossing-word neighbours side k symmetric e j =
    bit-and (get_or neighbours k 0) side j ∙ exchange (graph_in neighbours k j) (bit side j)
    ∙ ap₂ (λ a b. (bit side j && not a) && b) (sym e) (sym (symmetric j))
  where
    exchange : (a b : Bool) → (a && b) ≡ ((b && true) && a)
    exchange = bits 2 (λ a b. a && b) (λ a b. (b && true) && a) tt

-- such a column ends where the marked side does
pub crossing-below : (n side : ℕ) (θ : Graph) (k w : ℕ) → side < 2 ^ n
    → ((j : ℕ) → bit w j ≡ crossing (bit side) θ j k) → w < 2 ^ n
crossing-below n side θ k w h e =
    lt-of-bits n w (λ j l. e j ∙ ap (λ b. (b && not (bit side k)) && θ j k) (bit-above n side h j l))
