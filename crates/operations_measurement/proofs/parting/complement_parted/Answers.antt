-- `complement_parted` meets its contract: complements at q without the edges at q.
use mathlib.Core.Path.{refl, subst, sym}
use Prim.Native.Nat.{◌<◌}
use lib.Dec.{lit<}
use Rattle.operations.proofs.UnrefusedRecords.{unrefused-codes, unrefused-place}
use Rattle.operations_rewriting.proofs.Recoding.{recoded-all}
use Rattle.operations_measurement.proofs.parting.complement_parted.Goals as goal

pub bounds-codes-q : goal.bounds-codes-q
bounds-codes-q c =
    let start = c.requires in
    unrefused-place _ _ start.0 _ start.1

pub compose-first-requires : goal.compose-first-requires
compose-first-requires c =
    let start = c.requires in
    (lit< tt, (unrefused-codes _ _ start.0).1 _)

pub bounds-codes-q-2 : goal.bounds-codes-q-2
bounds-codes-q-2 c =
    subst (λ m. c.args.q < m) (sym c.complement_away.auto.codes)
    (unrefused-place _ _ c.requires.0 _ c.requires.1)

pub returns : goal.returns
returns c =
    record {
      same_graph = c.complement_away.ensures.same_graph;
      codes_after = recoded-all _ _ c.requires.0 c.args.q c.requires.1 13 6 _ _ c.compose-first.ensures.0
          c.complement_away.ensures.codes_after;
      value = refl;
    }
