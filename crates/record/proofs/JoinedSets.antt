-- The loop that flips the edges between two sets.
use mathlib.Core.Bool.{◌&&◌, ◌||◌}
use mathlib.Core.List.{List}
use mathlib.Core.Path.{ap, ap₂, sym, ◌∙◌, ◌≡◌}
use Prim.Native.Nat.{◌<◌, ◌^◌, ℕ, ◌≤◌}
use lib.Bits.{bit_or, bit_xor}
use lib.Count.{count_trailing_zeros}
use lib.ListN.{get_or, length, set}
use Rattle.buffers.proofs.OverSets.{Over, next-named, over-end, over-start, over-step}
use Rattle.words.proofs.BitLaws.{bit-above, bit-or, lt-of-bits}
use Rattle.words.proofs.Finite.{⊕-zero}
use Rattle.words.proofs.Flags.{neither}
use Rattle.words.specs.Bits.{bit, ◌⊕◌}
use Rattle.record.specs.internal.Joined.{joined_by}
use Rattle.record.specs.internal.NeighbourWords.{SameGraph}
use Rattle.record.specs.NeighbourWords.{graph_in}

abbrev pub JoinedAt : List ℕ → ℕ → ℕ → ℕ → ℕ → Type 0
JoinedAt old a b i v = (l : ℕ) → bit v l ≡ joined_by (graph_in old) (bit a) (bit b) i l

abbrev pub Joining : List ℕ → ℕ → ℕ → List ℕ → ℕ → Type 0
Joining old a b new rest = Over (JoinedAt old a b) (bit_or a b) old new rest

pub join-start : (old : List ℕ) (a b : ℕ) → a < 2 ^ (length old) → b < 2 ^ (length old)
    → Joining old a b old (bit_or a b)
join-start old a b ha hb =
    over-start (JoinedAt old a b) old (bit_or a b)
    (lt-of-bits (length old) (bit_or a b) (λ q l. bit-or a b q
    ∙ ap₂ ◌||◌ (bit-above (length old) a ha q l) (bit-above (length old) b hb q l)))
    (λ i e l. let h = neither (bit a i) (bit b i) (sym (bit-or a b i) ∙ e) in
    sym (ap₂ (λ u v. bit (get_or old i 0) l ⊕ ((u && bit b l) ⊕ (v && bit a l))) h.0 h.1
    ∙ ⊕-zero (bit (get_or old i 0) l)))

pub join_more : (old : List ℕ) (a b : ℕ) (new : List ℕ) (rest : ℕ) → Joining old a b new rest → length old ≤ 64
    → (rest ≡ 0 → ⊥) → (i : ℕ) → i ≡ count_trailing_zeros 64 rest → (v rest' : ℕ)
    → ((l : ℕ) → bit v l ≡ bit (get_or new i 0) l ⊕ ((bit a i && bit b l) ⊕ (bit b i && bit a l)))
    → rest' ≡ bit_xor rest (2 ^ i) → Joining old a b (set new i v) rest'
join_more old a b new rest J s z i e v rest' h f =
    over-step (JoinedAt old a b) (bit_or a b) old new rest J s z i e v rest'
    (λ l. h l ∙ ap (λ w. bit w l ⊕ ((bit a i && bit b l) ⊕ (bit b i && bit a l)))
    (J.left i (next-named (JoinedAt old a b) (bit_or a b) old new rest J s z i e))) f

pub join-end : (old : List ℕ) (a b : ℕ) (new : List ℕ) (rest : ℕ) → Joining old a b new rest → rest ≡ 0
    → SameGraph (graph_in new) (joined_by (graph_in old) (bit a) (bit b))
join-end old a b new rest J e = over-end (JoinedAt old a b) (bit_or a b) old new rest J e
