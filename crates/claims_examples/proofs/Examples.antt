-- The examples hold of the definitions: one theorem over the table.
use mathlib.Core.Path.{refl}
use Rattle.buffers.specs.Buffers.{tabulate}
use Rattle.buffers.specs.Refusals.{first_fitting, reaching}
use Rattle.clifford.specs.Clifford.{inverse}
use Rattle.clifford.specs.Vectors.{act}
use Rattle.comparison.specs.Choices.{is_carrying, choice, least_number}
use Rattle.image.specs.Image.{looped, stuck}
use Rattle.comparison.specs.Parts.{is_closed, part_above, part_of}
use Rattle.image.specs.Rule.{moves, moves_upto, complemented_at}
use Rattle.pauli.specs.Pauli.{anticommute, mul}
use Rattle.record.specs.Columns.{is_column_dependent}
use Rattle.record.specs.Lent.{not_simple}
use Rattle.record.specs.Reduced.{graph_of, minuses_of, reduced_row, ys_of}
use Rattle.stabilizer.specs.Lists.{clashing, dependent}
use Rattle.stabilizer.specs.Membership.{member}
use Rattle.words.specs.Bits.{bit, fold, put, word_of}
use Rattle.words.specs.Search.{every, first, some}
use Rattle.claims_examples.specs.internal.Examples.{AllHold}
use Rattle.claims_examples.specs.internal.Table.{table}

pub examples : AllHold table
unfolding inverse first some every fold put bit word_of mul anticommute act clashing dependent is_column_dependent
    reduced_row graph_of ys_of minuses_of tabulate first_fitting reaching not_simple complemented_at moves moves_upto member
    stuck
    looped is_carrying choice least_number is_closed part_of part_above
examples = refl
