-- `pivot_parted` meets its contract: pivots on q and its neighbour k without the edges at q.
use mathlib.Core.Path.{subst, sym, ◌∙◌}
use Prim.Native.Nat.{◌<◌}
use native.Mathlib.Nat.{lt_of_lt_of_le}
use lib.Dec.{lit<}
use lib.ListN.{length, length-set}
use Rattle.record.proofs.PivotWords.{closed-below}
use Rattle.operations.proofs.UnrefusedRecords.{unrefused-codes, unrefused-place, unrefused-short, unrefused-simple}
use Rattle.words.proofs.BitLaws.{lt-of-bits}
use Rattle.operations_measurement.proofs.PartedPivots.{parted-codes, parted-edges, parted-near}
use Rattle.operations_measurement.proofs.parting.pivot_parted.Goals as goal

pub bounds-codes-q : goal.bounds-codes-q
bounds-codes-q c =
    unrefused-place _ _ c.requires.unrefused _ c.requires.q_in_bounds.0

pub compose-at_q-requires : goal.compose-at_q-requires
compose-at_q-requires c =
    (lit< tt, (unrefused-codes _ _ c.requires.unrefused).1 _)

pub bounds-codes-k : goal.bounds-codes-k
bounds-codes-k c =
    unrefused-place _ _ c.requires.unrefused _ c.requires.q_in_bounds.1

pub compose-at_k-requires : goal.compose-at_k-requires
compose-at_k-requires c =
    (lit< tt, (unrefused-codes _ _ c.requires.unrefused).1 _)

pub single-requires : goal.single-requires
single-requires c =
    lt_of_lt_of_le c.requires.q_in_bounds.1 (unrefused-short _ _ c.requires.unrefused)

pub join_turning-requires : goal.join_turning-requires
join_turning-requires c =
    let words = c.args.neighbours.now in
    let S = unrefused-simple _ _ c.requires.unrefused in record {
      unrefused = c.requires.unrefused;
      to_a_bound = (
        lt-of-bits (length words) _ (S.below c.args.q),
        closed-below words S _ _ c.requires.q_in_bounds.1 c.single.ensures,
      );
    }

pub bounds-codes-q-2 : goal.bounds-codes-q-2
bounds-codes-q-2 c =
    subst (λ m. c.args.q < m) (sym c.join_turning.auto.codes)
    (unrefused-place _ _ c.requires.unrefused _ c.requires.q_in_bounds.0)

pub bounds-codes-k-2 : goal.bounds-codes-k-2
bounds-codes-k-2 c =
    subst (λ m. c.args.k < m)
    (sym (length-set c.join_turning.new.codes c.args.q c.compose-at_q.result
    ∙ c.join_turning.auto.codes))
    (unrefused-place _ _ c.requires.unrefused _ c.requires.q_in_bounds.1)

pub flip-requires : goal.flip-requires
flip-requires c =
    lt_of_lt_of_le c.requires.q_in_bounds.0 (unrefused-short _ _ c.requires.unrefused)

pub returns : goal.returns
returns c =
    let known = c.join_turning in
    let q = c.args.q in
    let k = c.args.k in
    let es = c.single.ensures in record {
      same_graph = parted-edges _ _ c.requires.unrefused q k c.requires.q_in_bounds.0 c.requires.q_in_bounds.1 c.requires.k_value _ es c.join_turning.new.neighbours
          c.join_turning.ensures.same_graph;
      codes_after = parted-codes _ _ c.requires.unrefused q k c.requires.q_in_bounds.0 c.requires.q_in_bounds.1 c.requires.k_value _ es _ _ _
          c.compose-at_q.ensures.0 c.compose-at_k.ensures.0 c.join_turning.ensures.codes_after;
      by_index = parted-near _ _ c.requires.unrefused q k c.requires.q_in_bounds.0 c.requires.q_in_bounds.1 c.requires.k_value _ es _ c.flip.ensures;
    }
