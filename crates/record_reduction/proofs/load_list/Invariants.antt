-- What the loops of `load_list` keep.
use Rattle.record_reduction.proofs.Loading.{LoadedBelow}
use Rattle.record_reduction.proofs.load_list.Given as goal

abbrev pub invariant-loop-j : goal.invariant-loop-j
invariant-loop-j l = LoadedBelow (record { n = l.n; signs = l.signs; z = l.z; x = l.x }) l.loaded l.minuses l.j
