-- `cz_unsettled` meets its contract: CZ on a and b, and the group after it.
use Rattle.operations_gates.proofs.UnsettledGroups.{cz-held, kept-place}
use borrow.Author.Rules.{rules}
use Rattle.operations_gates.proofs.unsettled.cz_unsettled.Goals as goal

pub make_ready-requires : goal.make_ready-requires
make_ready-requires c = search rules

pub cz_ready-requires : goal.cz_ready-requires
cz_ready-requires c =
    record {
      unrefused = c.make_ready.ensures.group_kept.unrefused;
      ready = c.make_ready.ensures.ready;
      a_in_bounds = (
        kept-place _ _ _ _ c.make_ready.ensures.group_kept _ c.requires.a_in_bounds.0,
        kept-place _ _ _ _ c.make_ready.ensures.group_kept _ c.requires.a_in_bounds.1,
        c.requires.a_in_bounds.2,
      );
    }

pub shape_of-neighbours : goal.shape_of-neighbours
shape_of-neighbours c = search rules

pub shape_of-codes : goal.shape_of-codes
shape_of-codes c = search rules

pub returns : goal.returns
returns c =
    cz-held _ _ _ _ _ _ c.make_ready.ensures.group_kept _ _ c.requires.a_in_bounds.0 c.requires.a_in_bounds.1 c.requires.a_in_bounds.2 c.make_ready.ensures.ready
    c.cz_ready.ensures
