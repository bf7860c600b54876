-- `write_orbit` meets its contract: the numbers of the orbit of graph g, rising, at the start of the list.
use Rattle.orbits_impl.proofs.WrittenNumbers.{orbit-written}
use Rattle.orbits_impl.proofs.marks.write_orbit.Goals as goal

pub returns : goal.returns
returns c =
    orbit-written c.spread.ensures c.write_marked.ensures
