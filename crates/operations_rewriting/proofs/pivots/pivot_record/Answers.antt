-- `pivot_record` meets its contract: pivots the record on the edge j, k, which complements j, k, j.
use mathlib.Core.Path.{subst, sym, ◌∙◌}
use Prim.Native.Nat.{◌<◌}
use native.Mathlib.Nat.{lt_of_lt_of_le}
use lib.Dec.{lit<}
use lib.ListN.{length-set}
use Rattle.record.proofs.PivotWords.{closed-below, pivot-by-sets}
use Rattle.operations.proofs.UnrefusedRecords.{unrefused-codes, unrefused-place, unrefused-short, unrefused-simple}
use Rattle.operations_rewriting.proofs.PivotedRecords.{both-recoded, pivoted}
use Rattle.operations_rewriting.proofs.pivots.pivot_record.Goals as goal

pub bounds-codes-j : goal.bounds-codes-j
bounds-codes-j c =
    unrefused-place _ _ c.requires.unrefused _ c.requires.j_in_bounds.0

pub compose-at_j-requires : goal.compose-at_j-requires
compose-at_j-requires c =
    (lit< tt, (unrefused-codes _ _ c.requires.unrefused).1 _)

pub bounds-codes-k : goal.bounds-codes-k
bounds-codes-k c =
    unrefused-place _ _ c.requires.unrefused _ c.requires.j_in_bounds.1

pub compose-at_k-requires : goal.compose-at_k-requires
compose-at_k-requires c =
    (lit< tt, (unrefused-codes _ _ c.requires.unrefused).1 _)

pub single-requires : goal.single-requires
single-requires c =
    lt_of_lt_of_le c.requires.j_in_bounds.0 (unrefused-short _ _ c.requires.unrefused)

pub single-requires-2 : goal.single-requires-2
single-requires-2 c =
    lt_of_lt_of_le c.requires.j_in_bounds.1 (unrefused-short _ _ c.requires.unrefused)

pub join_turning-requires : goal.join_turning-requires
join_turning-requires c =
    let words = c.args.neighbours.now in
    let S = unrefused-simple _ _ c.requires.unrefused in record {
      unrefused = c.requires.unrefused;
      to_a_bound = (
        closed-below words S _ _ c.requires.j_in_bounds.0 c.single.ensures,
        closed-below words S _ _ c.requires.j_in_bounds.1 c.single-2.ensures,
      );
    }

pub bounds-codes-j-2 : goal.bounds-codes-j-2
bounds-codes-j-2 c =
    subst (λ m. c.args.j < m) (sym c.join_turning.auto.codes)
    (unrefused-place _ _ c.requires.unrefused _ c.requires.j_in_bounds.0)

pub bounds-codes-k-2 : goal.bounds-codes-k-2
bounds-codes-k-2 c =
    subst (λ m. c.args.k < m)
    (sym (length-set c.join_turning.new.codes c.args.j c.compose-at_j.result
    ∙ c.join_turning.auto.codes))
    (unrefused-place _ _ c.requires.unrefused _ c.requires.j_in_bounds.1)

pub returns : goal.returns
returns c =
    let words = c.args.neighbours.now in
    let known = c.join_turning in
    pivoted _ _ c.requires.unrefused c.args.j c.args.k c.requires.j_in_bounds.0 c.requires.j_in_bounds.1 c.requires.k_value _ _
    (both-recoded _ _ c.requires.unrefused c.args.j c.args.k c.requires.j_in_bounds.0 c.requires.j_in_bounds.1 _ _
    c.single.ensures c.single-2.ensures _ _ _
    c.compose-at_j.ensures.0 c.compose-at_k.ensures.0 c.join_turning.ensures.codes_after)
    c.join_turning.auto.neighbours
    (pivot-by-sets words (unrefused-simple _ _ c.requires.unrefused) c.args.j c.args.k _ _ c.requires.k_value
    c.single.ensures c.single-2.ensures c.join_turning.new.neighbours c.join_turning.ensures.same_graph)
