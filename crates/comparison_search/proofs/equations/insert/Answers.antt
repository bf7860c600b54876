-- `insert` meets its contract: adds an equation on n qubits to the table.
use mathlib.Core.Path.{◌∙◌}
use native.Mathlib.Omega.{arith}
use Rattle.comparison.specs.internal.Equations.{equation_of, equations_in}
use Rattle.comparison_search.proofs.EquationsRows.{nothing_left, stored-and-cleared}
use Rattle.comparison_search.proofs.equations.insert.Goals as goal

pub store-requires : goal.store-requires
store-requires c = c.requires.1

pub returns-then-n-lt8 : goal.returns-then-n-lt8
returns-then-n-lt8 c = c.store.ensures

pub returns-then-i-eq0 : goal.returns-then-i-eq0
returns-then-i-eq0 c =
    nothing_left (equations_in c.args.table.now) (equation_of c.args.e)
    (equation_of c.add_rows-left.result)
    c.requires.1
    (λ w s. c.add_rows-left.ensures w s ∙ c.add_rows-c.ensures w s
    ∙ c.add_rows-b.ensures w s ∙
    c.add_rows-a.ensures w s)
    (λ j. c.bound-i.ensures.1.above j (omega (arith, c.if-i-eq0.true)))

pub store-requires-2 : goal.store-requires-2
store-requires-2 c = c.requires.1

pub clear-requires : goal.clear-requires
clear-requires c =
    let i = c.bound-i.ensures.0 in
    let more = c.if-i-eq0.false in
    (c.store-2.ensures.triangular, omega (arith, i, more), omega (arith, c.requires.0))

pub returns : goal.returns
returns c =
    stored-and-cleared (equations_in c.args.table.now) (equation_of c.args.e)
    (equation_of c.add_rows-left.result) _ _
    (λ w s. c.add_rows-left.ensures w s ∙
    c.add_rows-c.ensures w s
    ∙ c.add_rows-b.ensures w s ∙
    c.add_rows-a.ensures w s)
    c.store-2.ensures c.clear.ensures
