-- `complement_away` meets its contract: every edge between two neighbours of q is flipped and each loses q, and 6
-- comes before its code.
use mathlib.Core.Path.{subst, sym}
use Prim.Native.Nat.{◌<◌, ◌^◌}
use native.Mathlib.Nat.{lt_of_lt_of_le}
use native.Mathlib.Omega.{arith}
use lib.Bits.{bit_or, bit_xor}
use lib.ListN.{get_or}
use borrow.Author.Rules.{rules}
use Rattle.operations.proofs.UnrefusedRecords.{unrefused-codes, unrefused-long, unrefused-short, unrefused-simple}
use Rattle.operations_rewriting.proofs.Recoding.{around-below}
use Rattle.operations_measurement.proofs.PartedComplements.{all-away}
use Rattle.operations_measurement.proofs.parting.complement_away.Goals as goal

pub single-requires : goal.single-requires
single-requires c = lt_of_lt_of_le c.requires.1 (unrefused-short _ _ c.requires.0)

pub turn_each-requires-clause-neighbours_len_bound : goal.turn_each-requires-clause-neighbours_len_bound
turn_each-requires-clause-neighbours_len_bound c =
    let U = c.requires.0 in
    (unrefused-short _ _ U, unrefused-long _ _ U)

pub turn_each-requires-clause-by_index : goal.turn_each-requires-clause-by_index
turn_each-requires-clause-by_index c = (unrefused-codes _ _ c.requires.0).1

pub turn_each-requires-clause-vertices_bound : goal.turn_each-requires-clause-vertices_bound
turn_each-requires-clause-vertices_bound c =
    let U = c.requires.0 in (
      subst (λ m. get_or c.args.neighbours.now c.args.q 0 < 2 ^ m) (unrefused-long _ _ U)
          (around-below _ _ U _ c.requires.1),
      omega arith,
    )

pub returns-clause-same_graph : goal.returns-clause-same_graph
returns-clause-same_graph c =
    all-away _ c.args.q (unrefused-simple _ _ c.requires.0) _ _ c.single.ensures
    (c.turn_each.ensures.words_after (λ i. bit_xor (bit_or (get_or c.args.neighbours.now c.args.q 0) c.single.result)
    (2 ^ i)) (search rules))
    (subst (λ m. c.args.q < m) (sym c.turn_each.auto.neighbours) c.requires.1)
