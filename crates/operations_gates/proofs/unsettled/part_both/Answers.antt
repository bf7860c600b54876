-- `part_both` meets its contract: the two parted where they are not ready.
use Rattle.operations.proofs.Keeping.{kept_refl, kept_trans}
use Rattle.operations_gates.proofs.UnsettledGroups.{normalised-ready}
use borrow.Author.Rules.{rules}
use Rattle.operations_gates.proofs.unsettled.part_both.Goals as goal

pub is_ready-requires : goal.is_ready-requires
is_ready-requires c = search rules

pub shape_of-neighbours-then-is_ready : goal.shape_of-neighbours-then-is_ready
shape_of-neighbours-then-is_ready c = search rules

pub shape_of-codes-then-is_ready : goal.shape_of-codes-then-is_ready
shape_of-codes-then-is_ready c = search rules

pub returns-then-is_ready : goal.returns-then-is_ready
returns-then-is_ready c =
    record {
      group_kept = kept_refl _ _ c.requires.unrefused;
      ready = c.is_ready.ensures
          c.if-is_ready.true;
    }

pub part-requires : goal.part-requires
part-requires c = search rules

pub is_ready-requires-2 : goal.is_ready-requires-2
is_ready-requires-2 c = search rules

pub shape_of-neighbours-then-is_ready-2 : goal.shape_of-neighbours-then-is_ready-2
shape_of-neighbours-then-is_ready-2 c = search rules

pub shape_of-codes-then-is_ready-2 : goal.shape_of-codes-then-is_ready-2
shape_of-codes-then-is_ready-2 c = search rules

pub returns-then-is_ready-2 : goal.returns-then-is_ready-2
returns-then-is_ready-2 c = record { group_kept = c.part.ensures; ready = c.is_ready-2.ensures c.if-is_ready-2.true }

pub normalise-requires : goal.normalise-requires
normalise-requires c = search rules

pub shape_of-neighbours : goal.shape_of-neighbours
shape_of-neighbours c = search rules

pub shape_of-codes : goal.shape_of-codes
shape_of-codes c = search rules

pub returns : goal.returns
returns c =
    let N = c.normalise.ensures in
    let K = c.part.ensures in record { group_kept = kept_trans _ _ _ _ _ _ K N.kept; ready = normalised-ready _ _ _ _ _ _ K N _ _ c.requires.a_in_bounds.0 c.requires.a_in_bounds.1 }
