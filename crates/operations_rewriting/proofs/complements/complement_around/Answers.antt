-- `complement_around` meets its contract: every edge between two neighbours of a is flipped, by one xor for each of
-- them, and 6 comes before its code.
use mathlib.Core.Path.{subst}
use Prim.Native.Nat.{◌<◌, ◌^◌}
use native.Mathlib.Omega.{arith}
use lib.Bits.{bit_xor}
use lib.ListN.{get_or}
use borrow.Author.Rules.{rules}
use Rattle.operations.proofs.UnrefusedRecords.{unrefused-codes, unrefused-long, unrefused-short}
use Rattle.operations_rewriting.proofs.FlippedRows.{around-flipped}
use Rattle.operations_rewriting.proofs.Recoding.{around-below}
use Rattle.operations_rewriting.proofs.complements.complement_around.Goals as goal

pub turn_each-requires-clause-neighbours_len_bound : goal.turn_each-requires-clause-neighbours_len_bound
turn_each-requires-clause-neighbours_len_bound c =
    let U = c.requires.0 in
    (unrefused-short _ _ U, unrefused-long _ _ U)

pub turn_each-requires-clause-by_index : goal.turn_each-requires-clause-by_index
turn_each-requires-clause-by_index c = (unrefused-codes _ _ c.requires.0).1

pub turn_each-requires-clause-vertices_bound : goal.turn_each-requires-clause-vertices_bound
turn_each-requires-clause-vertices_bound c =
    let U = c.requires.0 in (
      subst (λ m. get_or c.args.neighbours.now c.args.a 0 < 2 ^ m) (unrefused-long _ _ U)
          (around-below _ _ U _ c.requires.1),
      omega arith,
    )

pub returns-clause-same_graph : goal.returns-clause-same_graph
returns-clause-same_graph c =
    around-flipped _ _ c.args.a
    (c.turn_each.ensures.words_after (λ i. bit_xor (get_or c.args.neighbours.now c.args.a 0) (2 ^ i)) (search rules))
