-- The tests of a record decide the sentences of its lines.
use mathlib.Core.Bool.{Bool, ◌||◌}
use mathlib.Core.Path.{refl}
use Prim.Native.Nat.{ℕ}
use Rattle.buffers.proofs.SentenceLaws.{
  Decides,
  Matches,
  bad-count,
  itself,
  not-decides,
  or-decides,
  other_length,
  some-above,
  some-decides,
  some-stray,
}
use Rattle.record.specs.Graph.{Graph}
use Rattle.record.specs.NeighbourWords.{graph_in}
use Rattle.words.proofs.Flags.{same_bit-true, true-same_bit}
use Rattle.record.specs.Lent.{LentRecord, not_simple, record_codes, record_lengths, record_lines, record_stray}
use Rattle.record.specs.RecordSentences.{CodeAbove23, NoSimpleGraph, RecordMisfits, StrayNeighbour, five_sentences}

pub misfits : (l : LentRecord) → Decides (record_lengths l) (RecordMisfits l)
misfits l = or-decides (other_length l.n l.neighbours) (other_length l.n l.codes)

pub stray-neighbour : (l : LentRecord) → Decides (record_stray l) (StrayNeighbour l)
stray-neighbour l = some-stray l.n l.neighbours

pub code-above-23 : (l : LentRecord) → Decides (record_codes l) (CodeAbove23 l)
code-above-23 l = some-above 23 l.codes

pub not-simple : (n : ℕ) (θ : Graph) → Decides (not_simple n θ) (NoSimpleGraph n θ)
unfolding not_simple
not-simple n θ = some-decides n _ _ (λ i. or-decides itself (some-decides n _ _ (λ j. not-decides
    (true-same_bit (θ i j) (θ j i), same_bit-true))))

pub record-in-words : (l : LentRecord) (others six : Bool) (Four Six : Type 0) → Decides (record_lengths l || others)
    Four
    → Decides (record_codes l || six) Six
    → Matches (record_lines l others six)
    (five_sentences l.n Four (StrayNeighbour l) Six (NoSimpleGraph l.n (graph_in l.neighbours)))
record-in-words l others six Four Six D E = (
  refl,
  (
    bad-count l.n,
    λ e. (
      refl,
      (
        D,
        λ e. (
          refl,
          (
            stray-neighbour l,
            λ e. (
              refl,
              (E, λ e. (refl, (not-simple l.n (graph_in l.neighbours), λ e. tt))),
            ),
          ),
        ),
      ),
    ),
  ),
)
