-- `make_ready` meets its contract: the two made ready for CZ.
use Rattle.operations.proofs.Keeping.{kept_refl, kept_trans}
use borrow.Author.Rules.{rules}
use Rattle.operations_gates.proofs.unsettled.make_ready.Goals as goal

pub is_ready-requires : goal.is_ready-requires
is_ready-requires c = search rules

pub shape_of-neighbours-then-is_ready : goal.shape_of-neighbours-then-is_ready
shape_of-neighbours-then-is_ready c = search rules

pub shape_of-codes-then-is_ready : goal.shape_of-codes-then-is_ready
shape_of-codes-then-is_ready c = search rules

pub returns-then-is_ready : goal.returns-then-is_ready
returns-then-is_ready c =
    record {
      group_kept = kept_refl _ _ c.requires.unrefused;
      ready = c.is_ready.ensures
          c.if-is_ready.true;
    }

pub uncross_both-requires : goal.uncross_both-requires
uncross_both-requires c = search rules

pub part_both-requires : goal.part_both-requires
part_both-requires c = search rules

pub shape_of-neighbours : goal.shape_of-neighbours
shape_of-neighbours c = search rules

pub shape_of-codes : goal.shape_of-codes
shape_of-codes c = search rules

pub returns : goal.returns
returns c =
    record {
      group_kept = kept_trans _ _ _ _ _ _
          c.uncross_both.ensures c.part_both.ensures.group_kept;
      ready = c.part_both.ensures.ready;
    }
