-- `class_bits` meets its contract: the matrix of a class, four bits.
use mathlib.Core.Path.{refl}
use Rattle.words.specs.Bits.{bit}
use Rattle.words.specs.Search.{every}
use Rattle.comparison_search.proofs.CodeBits.{class-four}
use Rattle.comparison_search.proofs.assignments.class_bits.Goals as goal

pub returns : goal.returns
unfolding every bit
returns c = class-four _ refl c.args.v c.requires
