-- `complement_record` meets its contract: complements the record at vertex a: 13 before its code, and 6 before those of
-- its neighbours.
use mathlib.Core.Path.{subst, sym}
use Prim.Native.Nat.{◌<◌}
use lib.Dec.{lit<}
use Rattle.operations.proofs.UnrefusedRecords.{unrefused-codes, unrefused-place}
use Rattle.operations_rewriting.proofs.Recoding.{complemented, recoded-all}
use Rattle.operations_rewriting.proofs.complements.complement_record.Goals as goal

pub bounds-codes-a : goal.bounds-codes-a
bounds-codes-a c =
    let start = c.requires in
    unrefused-place _ _ start.0 _ start.1

pub compose-first-requires : goal.compose-first-requires
compose-first-requires c =
    let start = c.requires in
    (lit< tt, (unrefused-codes _ _ start.0).1 _)

pub bounds-codes-a-2 : goal.bounds-codes-a-2
bounds-codes-a-2 c =
    subst (λ m. c.args.a < m) (sym c.complement_around.auto.codes)
    (unrefused-place _ _ c.requires.0 _ c.requires.1)

pub returns : goal.returns
returns c =
    let known = c.complement_around in
    complemented _ _ c.requires.0 c.args.a c.requires.1 _ _
    (recoded-all _ _ c.requires.0 c.args.a c.requires.1 13 6 _ _ c.compose-first.ensures.0
    c.complement_around.ensures.codes_after) c.complement_around.auto.neighbours c.complement_around.ensures.same_graph
