-- `remove_turning` meets its contract: the edges at q removed, and 2, which is Z, before the codes of its neighbours.
use mathlib.Core.Path.{subst, sym}
use Prim.Native.Nat.{◌<◌, ◌^◌}
use native.Mathlib.Nat.{lt_of_lt_of_le}
use native.Mathlib.Omega.{arith}
use lib.ListN.{get_or}
use borrow.Author.Rules.{rules}
use Rattle.operations.proofs.UnrefusedRecords.{unrefused-codes, unrefused-long, unrefused-short, unrefused-simple}
use Rattle.operations_rewriting.proofs.Recoding.{around-below}
use Rattle.operations_measurement.proofs.RemovedEdges.{all-left}
use Rattle.operations_measurement.proofs.isolation.remove_turning.Goals as goal

pub single-away-requires : goal.single-away-requires
single-away-requires c = lt_of_lt_of_le c.requires.1 (unrefused-short _ _ c.requires.0)

pub turn_each-requires-clause-neighbours_len_bound : goal.turn_each-requires-clause-neighbours_len_bound
turn_each-requires-clause-neighbours_len_bound c =
    let U = c.requires.0 in
    (unrefused-short _ _ U, unrefused-long _ _ U)

pub turn_each-requires-clause-by_index : goal.turn_each-requires-clause-by_index
turn_each-requires-clause-by_index c = (unrefused-codes _ _ c.requires.0).1

pub turn_each-requires-clause-vertices_bound : goal.turn_each-requires-clause-vertices_bound
turn_each-requires-clause-vertices_bound c =
    let U = c.requires.0 in (
      subst (λ m. get_or c.args.neighbours.now c.args.q 0 < 2 ^ m) (unrefused-long _ _ U)
          (around-below _ _ U _ c.requires.1),
      omega arith,
    )

pub returns-clause-same_graph : goal.returns-clause-same_graph
returns-clause-same_graph c =
    all-left _ c.args.q (unrefused-simple _ _ c.requires.0) _ _ c.single-away.ensures
    (c.turn_each.ensures.words_after (λ _. c.single-away.result) (search rules))
    (subst (λ m. c.args.q < m) (sym c.turn_each.auto.neighbours) c.requires.1)
