-- `put_record` meets its contract: the record of a place.
use mathlib.Core.Path.{refl}
use Rattle.store_impl.proofs.Parts.{placed}
use Rattle.store_impl.proofs.copies.put_record.Goals as goal

pub returns : goal.returns
returns c = (
  placed c.args.i _ c.args.neighbours.now _ c.args.held_neighbours.now refl
      c.copy_record.ensures.0,
  placed c.args.i _ c.args.codes.now _ c.args.held_codes.now c.requires.i_bound.1
      c.copy_record.ensures.1,
)
