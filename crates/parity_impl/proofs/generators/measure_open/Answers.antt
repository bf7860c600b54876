-- `measure_open` meets its contract: a row measured that is not determined.
use mathlib.Core.Path.{refl, sym}
use Rattle.buffers.proofs.Parts.{part-long}
use Rattle.operations.proofs.UnrefusedRecords.{unrefused-short}
use Rattle.parity_impl.proofs.generators.measure_open.Goals as goal

pub slice_bounds-signs-end : goal.slice_bounds-signs-end
slice_bounds-signs-end c =
    unrefused-short _ _ c.requires.unrefused

pub slice_bounds-measure_in-end : goal.slice_bounds-measure_in-end
slice_bounds-measure_in-end c =
    sym (part-long _ _ (unrefused-short _ _ c.requires.unrefused) refl)

pub slice_bounds-zs-end : goal.slice_bounds-zs-end
slice_bounds-zs-end c =
    unrefused-short _ _ c.requires.unrefused

pub slice_bounds-measure_in-end-2 : goal.slice_bounds-measure_in-end-2
slice_bounds-measure_in-end-2 c =
    sym (part-long _ _ (unrefused-short _ _ c.requires.unrefused) refl)

pub slice_bounds-xs-end : goal.slice_bounds-xs-end
slice_bounds-xs-end c =
    unrefused-short _ _ c.requires.unrefused

pub slice_bounds-measure_in-end-3 : goal.slice_bounds-measure_in-end-3
slice_bounds-measure_in-end-3 c =
    sym (part-long _ _ (unrefused-short _ _ c.requires.unrefused) refl)

pub measure_in-requires : goal.measure_in-requires
measure_in-requires c =
    let short = unrefused-short _ _ c.requires.unrefused in
    record {
      unrefused = c.requires.unrefused;
      z_bound = c.requires.z_bound;
      x_value = c.requires.x_value;
      signs_len = (part-long _ _ short refl, part-long _ _ short refl, part-long _ _ short refl);
    }
