-- `cz_record` meets its contract: CZ on a and b, and the reduced record.
use Rattle.operations_gates.proofs.GatedBuffers.{cz-answered, reduced-place, reduced-ready}
use Rattle.operations_gates.proofs.cz_record.Goals as goal

pub cz_ready-requires : goal.cz_ready-requires
cz_ready-requires c =
    let done = c.settle_all.ensures in record {
      unrefused = done.kept.unrefused;
      ready = reduced-ready _ _ _ _ c.requires.unrefused done _ _ c.requires.a_in_bounds.0 c.requires.a_in_bounds.1;
      a_in_bounds = (
        reduced-place _ _ _ _ c.requires.unrefused done _ c.requires.a_in_bounds.0,
        reduced-place _ _ _ _ c.requires.unrefused done _ c.requires.a_in_bounds.1,
        c.requires.a_in_bounds.2,
      );
    }

pub returns : goal.returns
returns c =
    cz-answered _ _ _ _ c.requires.unrefused c.settle_all.ensures _ _ c.requires.a_in_bounds.0 c.requires.a_in_bounds.1
    c.requires.a_in_bounds.2 _ _ c.cz_ready.ensures
