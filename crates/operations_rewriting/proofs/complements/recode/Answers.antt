-- `recode` meets its contract: a code before that of vertex a, and another before those of its neighbours.
use mathlib.Core.Path.{subst, sym}
use Prim.Native.Nat.{◌<◌}
use Rattle.operations.proofs.UnrefusedRecords.{unrefused-codes, unrefused-place}
use Rattle.operations_rewriting.proofs.Recoding.{around-below, recoded-all}
use Rattle.operations_rewriting.proofs.complements.recode.Goals as goal

pub bounds-codes-a : goal.bounds-codes-a
bounds-codes-a c =
    unrefused-place _ _ c.requires.unrefused.0 _ c.requires.unrefused.1

pub compose-first-requires : goal.compose-first-requires
compose-first-requires c =
    (c.requires.own_bound.0, (unrefused-codes _ _ c.requires.unrefused.0).1 _)

pub put_before-requires : goal.put_before-requires
put_before-requires c = record { codes_len_bound = unrefused-codes _ _ c.requires.unrefused.0; word_bound = (around-below _ _ c.requires.unrefused.0 _ c.requires.unrefused.1, c.requires.own_bound.1) }

pub bounds-codes-a-2 : goal.bounds-codes-a-2
bounds-codes-a-2 c =
    subst (λ m. c.args.a < m) (sym c.put_before.auto.codes)
    (unrefused-place _ _ c.requires.unrefused.0 _ c.requires.unrefused.1)

pub returns : goal.returns
returns c =
    recoded-all _ _ c.requires.unrefused.0 c.args.a c.requires.unrefused.1 c.args.own c.args.near _ _
    c.compose-first.ensures.0 c.put_before.ensures
