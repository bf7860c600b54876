-- `image` meets its contract: the image graph, its signs, and the list of the vertices complemented.
use mathlib.Core.Bool.{◌||◌}
use mathlib.Core.List.{[]}
use mathlib.Core.Path.{ap, ap₂, refl, sym, ◌∙◌}
use Rattle.buffers.proofs.CopiedItems.{first-copied}
use Rattle.buffers.proofs.Parts.{part-long}
use Rattle.buffers.proofs.RefusalLaws.{passed_on}
use Rattle.buffers.specs.internal.Numbers.{number_of}
use Rattle.image_impl.proofs.Answering.{answered-longer}
use Rattle.operations.proofs.UnrefusedRecords.{accepted-unrefused}
use Rattle.record.specs.Lent.{LentRecord, lent_record}
use Rattle.call_readings.proofs.ImageCalls.{accepted-held, front-room, graph-upto, image-accepted, image-looped, image-refused, put-back, signs-upto}
use Rattle.call_readings.proofs.images.image.Goals as goal

pub returns-in_err-record_refusal : goal.returns-in_err-record_refusal
returns-in_err-record_refusal c =
    let a = c.args in
    let l : LentRecord = lent_record a.n a.neighbours.now a.codes.now in
    let o = ap₂ ◌||◌ c.other_than.ensures
    (ap₂ ◌||◌ c.other_than-2.ensures c.other_than-3.ensures) in
    let R = passed_on _ _ c.from_residual.ensures.1 c.in_err-record_refusal.ensures in
    image-refused l a.image.now a.signs.now a.list.now a.count.now _ o _ R.0 R.1

pub slice_bounds-graph-end : goal.slice_bounds-graph-end
slice_bounds-graph-end c =
    let a = c.args in
    let l : LentRecord = lent_record a.n a.neighbours.now a.codes.now in
    let o = ap₂ ◌||◌ c.other_than.ensures
    (ap₂ ◌||◌ c.other_than-2.ensures c.other_than-3.ensures) in
    let A = accepted-held l a.image.now a.signs.now a.list.now a.count.now _ o _
    c.in_ok-record_refusal.ensures refl in
    A.upto

pub slice_bounds-image_in-end : goal.slice_bounds-image_in-end
slice_bounds-image_in-end c =
    let a = c.args in
    let l : LentRecord = lent_record a.n a.neighbours.now a.codes.now in
    let o = ap₂ ◌||◌ c.other_than.ensures
    (ap₂ ◌||◌ c.other_than-2.ensures c.other_than-3.ensures) in
    let A = accepted-held l a.image.now a.signs.now a.list.now a.count.now _ o _
    c.in_ok-record_refusal.ensures refl in
    sym (part-long _ _ A.upto refl)

pub slice_bounds-minus-end : goal.slice_bounds-minus-end
slice_bounds-minus-end c =
    let a = c.args in
    let l : LentRecord = lent_record a.n a.neighbours.now a.codes.now in
    let o = ap₂ ◌||◌ c.other_than.ensures
    (ap₂ ◌||◌ c.other_than-2.ensures c.other_than-3.ensures) in
    let A = accepted-held l a.image.now a.signs.now a.list.now a.count.now _ o _
    c.in_ok-record_refusal.ensures refl in
    A.upto

pub slice_bounds-image_in-end-2 : goal.slice_bounds-image_in-end-2
slice_bounds-image_in-end-2 c =
    let a = c.args in
    let l : LentRecord = lent_record a.n a.neighbours.now a.codes.now in
    let o = ap₂ ◌||◌ c.other_than.ensures
    (ap₂ ◌||◌ c.other_than-2.ensures c.other_than-3.ensures) in
    let A = accepted-held l a.image.now a.signs.now a.list.now a.count.now _ o _
    c.in_ok-record_refusal.ensures refl in
    sym (part-long _ _ A.upto refl)

pub image_in-told-requires-clause-unrefused : goal.image_in-told-requires-clause-unrefused
image_in-told-requires-clause-unrefused c =
    let a = c.args in
    let l : LentRecord = lent_record a.n a.neighbours.now a.codes.now in
    let o = ap₂ ◌||◌ c.other_than.ensures
    (ap₂ ◌||◌ c.other_than-2.ensures c.other_than-3.ensures) in
    let A = accepted-held l a.image.now a.signs.now a.list.now a.count.now _ o _
    c.in_ok-record_refusal.ensures refl in
    accepted-unrefused _ _ _ A

pub image_in-told-requires-clause-words_len : goal.image_in-told-requires-clause-words_len
image_in-told-requires-clause-words_len c =
    let a = c.args in
    let l : LentRecord = lent_record a.n a.neighbours.now a.codes.now in
    let o = ap₂ ◌||◌ c.other_than.ensures
    (ap₂ ◌||◌ c.other_than-2.ensures c.other_than-3.ensures) in
    let A = accepted-held l a.image.now a.signs.now a.list.now a.count.now _ o _
    c.in_ok-record_refusal.ensures refl in (
      part-long _ _ A.upto refl ∙ sym A.neighbours-length,
      part-long _ _ A.upto refl ∙ sym A.neighbours-length,
      refl,
    )

pub returns-in_err-told : goal.returns-in_err-told
returns-in_err-told c =
    let a = c.args in
    let l : LentRecord = lent_record a.n a.neighbours.now a.codes.now in
    let o = ap₂ ◌||◌ c.other_than.ensures
    (ap₂ ◌||◌ c.other_than-2.ensures c.other_than-3.ensures) in
    let A = accepted-held l a.image.now a.signs.now a.list.now a.count.now _ o _
    c.in_ok-record_refusal.ensures refl in
    let I = answered-longer _ _ _ A _ _ _ _ c.image_in-told.ensures [] []
    (c.image_in-told.auto.words ∙ part-long _ _ A.upto refl)
    (c.image_in-told.auto.bytes ∙ part-long _ _ A.upto refl) in
    let R = passed_on _ _ c.from_residual-in_err-told.ensures.1 (sym (ap number_of c.in_err-told.was) ∙ I.number) in
    image-looped l a.image.now a.signs.now a.list.now a.count.now _ o _
    c.in_ok-record_refusal.ensures refl _ R.0 R.1

pub copy_first-requires : goal.copy_first-requires
copy_first-requires c =
    let a = c.args in
    let l : LentRecord = lent_record a.n a.neighbours.now a.codes.now in
    let o = ap₂ ◌||◌ c.other_than.ensures
    (ap₂ ◌||◌ c.other_than-2.ensures c.other_than-3.ensures) in
    let A = accepted-held l a.image.now a.signs.now a.list.now a.count.now _ o _
    c.in_ok-record_refusal.ensures refl in
    put-back _ _ _ _ (c.image_in-told.auto.words ∙ part-long _ _ A.upto refl) A.upto refl
    (graph-upto l a.image.now a.signs.now a.list.now a.count.now _ o _ c.in_ok-record_refusal.ensures refl)

pub copy_first-requires-2 : goal.copy_first-requires-2
copy_first-requires-2 c =
    let a = c.args in
    let l : LentRecord = lent_record a.n a.neighbours.now a.codes.now in
    let o = ap₂ ◌||◌ c.other_than.ensures
    (ap₂ ◌||◌ c.other_than-2.ensures c.other_than-3.ensures) in
    let A = accepted-held l a.image.now a.signs.now a.list.now a.count.now _ o _
    c.in_ok-record_refusal.ensures refl in
    put-back _ _ _ _ (c.image_in-told.auto.bytes ∙ part-long _ _ A.upto refl) A.upto refl
    (signs-upto l a.image.now a.signs.now a.list.now a.count.now _ o _ c.in_ok-record_refusal.ensures refl)

pub copy_front-requires : goal.copy_front-requires
copy_front-requires c =
    let a = c.args in
    let l : LentRecord = lent_record a.n a.neighbours.now a.codes.now in
    let o = ap₂ ◌||◌ c.other_than.ensures
    (ap₂ ◌||◌ c.other_than-2.ensures c.other_than-3.ensures) in
    let A = accepted-held l a.image.now a.signs.now a.list.now a.count.now _ o _
    c.in_ok-record_refusal.ensures refl in
    let I = answered-longer _ _ _ A _ _ _ _ c.image_in-told.ensures [] []
    (c.image_in-told.auto.words ∙ part-long _ _ A.upto refl)
    (c.image_in-told.auto.bytes ∙ part-long _ _ A.upto refl) in
    front-room l a.image.now a.signs.now a.list.now a.count.now _ o _
    c.in_ok-record_refusal.ensures refl _ _ _ _ I

pub returns : goal.returns
returns c =
    let a = c.args in
    let l : LentRecord = lent_record a.n a.neighbours.now a.codes.now in
    let o = ap₂ ◌||◌ c.other_than.ensures
    (ap₂ ◌||◌ c.other_than-2.ensures c.other_than-3.ensures) in
    let A = accepted-held l a.image.now a.signs.now a.list.now a.count.now _ o _
    c.in_ok-record_refusal.ensures refl in
    let I = answered-longer _ _ _ A _ _ _ _ c.image_in-told.ensures _ _
    (c.image_in-told.auto.words ∙ part-long _ _ A.upto refl)
    (c.image_in-told.auto.bytes ∙ part-long _ _ A.upto refl) in
    let image = graph-upto l a.image.now a.signs.now a.list.now a.count.now _ o _ c.in_ok-record_refusal.ensures refl in
    let signs = signs-upto l a.image.now a.signs.now a.list.now a.count.now _ o _ c.in_ok-record_refusal.ensures refl in
    image-accepted l a.image.now a.signs.now a.list.now a.count.now _ o _
    c.in_ok-record_refusal.ensures refl _ _ _ _ I (ap number_of c.in_ok-told.was) _ _ _
    (first-copied _ _ _ c.copy_first.ensures
    (put-back _ _ _ _ (c.image_in-told.auto.words ∙ part-long _ _ A.upto refl) A.upto refl image))
    (first-copied _ _ _ c.copy_first-2.ensures
    (put-back _ _ _ _ (c.image_in-told.auto.bytes ∙ part-long _ _ A.upto refl) A.upto refl signs))
    c.copy_front.ensures
