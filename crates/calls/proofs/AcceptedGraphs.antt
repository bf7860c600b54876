-- What it means that no line of the call holds.
use mathlib.Core.Bool.{false, ◌||◌}
use mathlib.Core.List.{List}
use mathlib.Core.Path.{refl, subst, sym, ◌≡◌}
use Prim.Native.Nat.{◌<◌, ◌^◌, zero-le, ℕ, ◌≤◌}
use native.Mathlib.Nat.{le_trans}
use lib.Arith.{lt_of_le-ne}
use lib.Dec.{eqb, lit<, lit≤, ltb}
use lib.ListN.{length, length-replicate, replicate}
use borrow.Author.Tests.{eqb-false, ltb-false}
use Rattle.buffers.proofs.Mapping.{zeros, zeros-at}
use Rattle.buffers.specs.Refusals.{first_fitting, other_than, reaching}
use Rattle.buffers.proofs.Fitting.{none-holds}
use Rattle.record.specs.Graph.{Simple}
use Rattle.record.specs.NeighbourWords.{graph_in}
use Rattle.record.proofs.AcceptedRecords.{accepted-record, none-refuses}
use Rattle.record.proofs.SimpleVerdict.{simple-exactly}
use Rattle.record.specs.Accepted.{AcceptedRecord}
use Rattle.record.specs.Lent.{lent_record, not_simple}
use Rattle.stabilizer.proofs.SharedTests.{below-passes, has-length}
use Rattle.words.proofs.Flags.{neither}
use Rattle.calls.specs.Orbits.{orbit_lines}

-- line 2 does not hold
pub few-vertices : (n : ℕ) → (eqb n 0 || ltb 6 n) ≡ false → (1 ≤ n) × (n ≤ 6)
few-vertices n e =
    let h = neither (eqb n 0) (ltb 6 n) e in
    (lt_of_le-ne zero-le (λ z. eqb-false n 0 h.0 (sym z)), ltb-false 6 n h.1)

-- line 4 does not hold
pub both-lengths : (n : ℕ) (neighbours list : List ℕ) → (other_than n neighbours || other_than 32768 list) ≡ false
    → (length neighbours ≡ n) × (length list ≡ 32768)
both-lengths n neighbours list e =
    let h = neither (other_than n neighbours) (other_than 32768 list) e in
    (has-length n neighbours h.0, has-length 32768 list h.1)

pub record AcceptedGraph (n : ℕ) (neighbours list : List ℕ) : Type 0 where
  pub positive : 1 ≤ n
  pub few : n ≤ 6
  pub words : length neighbours ≡ n
  pub places : length list ≡ 32768
  pub below : reaching (2 ^ n) neighbours ≡ false
  pub simple : not_simple n (graph_in neighbours) ≡ false

pub accepted-graph : (n : ℕ) (neighbours list : List ℕ) → first_fitting (orbit_lines n neighbours list) ≡ 0
    → AcceptedGraph n neighbours list
accepted-graph n neighbours list e =
    let h = none-holds (orbit_lines n neighbours list) refl e in
    let vertices = few-vertices n h.0 in
    let lengths = both-lengths n neighbours list h.1.0 in
    record {
      positive = vertices.0;
      few = vertices.1;
      words = lengths.0;
      places = lengths.1;
      below = h.1.1.0;
      simple = h.1.1.1.0;
    }

-- with a code 0 for each vertex, no line of a record holds
pub plain-record : {n : ℕ} {neighbours list : List ℕ} → AcceptedGraph n neighbours list
    → AcceptedRecord (lent_record n neighbours (replicate n 0))
unfolding zeros
plain-record {n} {neighbours} A =
    accepted-record (lent_record n neighbours (replicate n 0)) false false
    (none-refuses (lent_record n neighbours (replicate n 0)) A.positive
    (le_trans A.few (lit≤ tt)) A.words (length-replicate {A = ℕ} n 0) A.below
    (below-passes 24 (replicate n 0) (λ j l. subst (λ v. v < 24) (sym (zeros-at n j)) (lit< tt)))
    ((simple-exactly n (graph_in neighbours)).0 A.simple))

pub simple-graph : {n : ℕ} {neighbours list : List ℕ} → AcceptedGraph n neighbours list → Simple n (graph_in neighbours)
simple-graph A = (plain-record A).simple
