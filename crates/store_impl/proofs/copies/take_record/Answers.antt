-- `take_record` meets its contract: the record of a place into the first places of two buffers.
use mathlib.Core.Path.{◌∙◌, sym}
use lib.Seq.{length-take-le}
use Rattle.store_impl.proofs.Parts.{part_count, taken_out}
use Rattle.store_impl.proofs.copies.take_record.Goals as goal

pub slice_bounds-copy_record-end-4 : goal.slice_bounds-copy_record-end-4
slice_bounds-copy_record-end-4 c =
    sym (length-take-le c.args.n c.args.neighbours.now c.requires.i_bound.1)

pub slice_bounds-copy_record-end-6 : goal.slice_bounds-copy_record-end-6
slice_bounds-copy_record-end-6 c =
    sym (length-take-le c.args.n c.args.codes.now c.requires.i_bound.2)

pub copy_record-requires : goal.copy_record-requires
copy_record-requires c =
    let words = part_count c.args.i c.args.n c.args.held_neighbours.now c.requires.n_in_bounds.0 in record {
      codes_len = part_count c.args.i c.args.n c.args.held_codes.now c.requires.n_in_bounds.1 ∙ sym words;
      words_len = (
        length-take-le c.args.n c.args.neighbours.now c.requires.i_bound.1 ∙ sym words,
        length-take-le c.args.n c.args.codes.now c.requires.i_bound.2 ∙ sym words,
      );
    }

pub returns : goal.returns
returns c = (
  taken_out _ _ c.args.held_neighbours.now _ c.args.neighbours.now c.requires.n_in_bounds.0
      c.copy_record.ensures.0,
  taken_out _ _ c.args.held_codes.now _ c.args.codes.now c.requires.n_in_bounds.1 c.copy_record.ensures.1,
)
