-- `plot_at` meets its contract: the line at y of the plot of a record.
use mathlib.Core.Path.{refl, sym}
use Rattle.buffers.proofs.Parts.{part-long}
use Rattle.operations.proofs.UnrefusedRecords.{unrefused-short}
use Rattle.amplitude_impl.proofs.answer.plot_at.Goals as goal

pub slice_bounds-words-end : goal.slice_bounds-words-end
slice_bounds-words-end c =
    unrefused-short _ _ c.requires

pub slice_bounds-line_by_copies-end : goal.slice_bounds-line_by_copies-end
slice_bounds-line_by_copies-end c =
    sym (part-long _ _ (unrefused-short _ _ c.requires) refl)

pub slice_bounds-bytes-end : goal.slice_bounds-bytes-end
slice_bounds-bytes-end c =
    unrefused-short _ _ c.requires

pub slice_bounds-line_by_copies-end-2 : goal.slice_bounds-line_by_copies-end-2
slice_bounds-line_by_copies-end-2 c =
    sym (part-long _ _ (unrefused-short _ _ c.requires) refl)

pub slice_bounds-measured-end : goal.slice_bounds-measured-end
slice_bounds-measured-end c =
    unrefused-short _ _ c.requires

pub slice_bounds-line_by_copies-end-3 : goal.slice_bounds-line_by_copies-end-3
slice_bounds-line_by_copies-end-3 c =
    sym (part-long _ _ (unrefused-short _ _ c.requires) refl)

pub slice_bounds-numbers-end : goal.slice_bounds-numbers-end
slice_bounds-numbers-end c =
    unrefused-short _ _ c.requires

pub slice_bounds-line_by_copies-end-4 : goal.slice_bounds-line_by_copies-end-4
slice_bounds-line_by_copies-end-4 c =
    sym (part-long _ _ (unrefused-short _ _ c.requires) refl)

pub line_by_copies-requires : goal.line_by_copies-requires
line_by_copies-requires c =
    let U = c.requires in
    let short = unrefused-short _ _ U in
    record {
      unrefused = U;
      words_len = (part-long _ _ short refl, part-long _ _ short refl);
      measured_len = (part-long _ _ short refl, part-long _ _ short refl);
    }
