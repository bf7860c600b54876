-- `own_place_for` meets its contract: the place, of the party's four, that a save takes.
use mathlib.Core.Path.{◌∙◌, ap, sym}
use Prim.Native.Nat.{◌*◌}
use Rattle.parties.proofs.OwnHeads.{own-heads-of}
use Rattle.store.specs.Kept.{save_place}
use Rattle.store_impl.proofs.Parts.{from_place}
use Rattle.parties_impl.proofs.places.own_place_for.Goals as goal

pub returns-clause-place : goal.returns-clause-place
returns-clause-place c =
    let a = c.args in
    c.place_for.ensures.place ∙ ap (λ h. save_place 4 h a.name)
    (from_place (12 * a.party) 12 a.heads.now ∙ sym (own-heads-of a.party a.heads.now c.requires.1))
