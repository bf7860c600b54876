-- `load_list` meets its contract: the rows of a lent list, with a word for their signs.
use mathlib.Core.Path.{refl}
use Rattle.record_reduction.proofs.Loading.{load-end, load-start}
use Rattle.record_reduction.proofs.load_list.Goals as goal

pub loop-j-init : goal.loop-j-init
loop-j-init c =
    load-start _ _ _ refl c.requires.minuses_value

pub returns : goal.returns
returns c =
    let L = c.loop-j in
    load-end _ L.loaded L.minuses L.j L.invariant c.loop-j-test.false c.requires.n_bound.1 c.requires.n_bound.2
    c.requires.n_bound.3
