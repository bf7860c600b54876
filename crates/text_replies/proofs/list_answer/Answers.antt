-- `list_answer` meets its contract: prints the answer to the list of n generators at the start of the buffers.
use mathlib.Core.Path.{refl, sym}
use Rattle.text_replies.proofs.ListPlaces.{lent-places, places-long, places-printed}
use Rattle.buffers.proofs.Writing.{same-print}
use Rattle.text_replies.proofs.list_answer.Goals as goal

pub slice_bounds-print_reduced-end-4 : goal.slice_bounds-print_reduced-end-4
slice_bounds-print_reduced-end-4 c = sym (places-long _ _ c.min-m.ensures _ refl)

pub slice_bounds-print_reduced-end-5 : goal.slice_bounds-print_reduced-end-5
slice_bounds-print_reduced-end-5 c = sym (places-long _ _ c.min-m.ensures _ refl)

pub print_reduced-requires : goal.print_reduced-requires
print_reduced-requires c =
    lent-places _ _ c.min-m.ensures _ _ _ refl refl
    c.requires

pub returns : goal.returns
returns c =
    same-print
    (places-printed _ _
    c.min-m.ensures
    _ _ _) c.print_reduced.ensures
