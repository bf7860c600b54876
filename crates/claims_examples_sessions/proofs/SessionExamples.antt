-- The examples of the request on faster sessions hold of the definitions: one theorem over the table.
use mathlib.Core.Path.{refl}
use Rattle.buffers.specs.Buffers.{tabulate}
use Rattle.buffers.specs.Refusals.{first_fitting, reaching}
use Rattle.clifford.specs.Clifford.{inverse}
use Rattle.clifford.specs.Vectors.{act}
use Rattle.operations.specs.Cz.{cz}
use Rattle.pauli.specs.Pauli.{anticommute, mul, power}
use Rattle.record.specs.Columns.{is_column_dependent}
use Rattle.record.specs.Lent.{not_simple}
use Rattle.record.specs.Reduced.{graph_of, minuses_of, reduced_row, ys_of}
use Rattle.stabilizer.specs.Lists.{clashing, dependent}
use Rattle.stabilizer.specs.Membership.{member}
use Rattle.words.specs.Bits.{bit, fold, put, word_of}
use Rattle.words.specs.Search.{every, first, some}
use Rattle.claims_examples.specs.internal.Examples.{AllHold}
use Rattle.claims_examples_sessions.specs.internal.SessionTable.{table}

pub both_ways : AllHold table
unfolding fold put bit word_of some every first power mul anticommute inverse act tabulate first_fitting
    reaching clashing dependent not_simple is_column_dependent reduced_row graph_of ys_of minuses_of cz member
both_ways = refl
