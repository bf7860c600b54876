-- `held_number` meets its contract: the number of the record in the first n of 64 places.
use mathlib.Core.Path.{sym}
use lib.ListN.{take}
use mathlib.Core.List.{List}
use Prim.Native.Nat.{ℕ}
use Rattle.buffers.proofs.Parts.{part-long}
use Rattle.operations.specs.Used.{UsedRecord}
use Rattle.operations_checks.proofs.UsedNumbers.{no-further}
use Rattle.store.proofs.StoreNumbers.{free-number, held-place-number}
use Rattle.store_impl.proofs.checks.held_number.Goals as goal

-- the record in the first n places
abbrev lent : (n used : ℕ) (neighbours codes : List ℕ) → UsedRecord
lent n used neighbours codes =
    record { held = record { n = n; neighbours = take n neighbours; codes = take n codes }; used = used }

pub returns-then-n-eq0 : goal.returns-then-n-eq0
returns-then-n-eq0 c =
    free-number (lent c.args.n c.args.used c.args.neighbours.now c.args.codes.now) c.if-n-eq0.true

pub slice_bounds-used_refusal-end : goal.slice_bounds-used_refusal-end
slice_bounds-used_refusal-end c =
    sym (part-long c.args.n c.args.neighbours.now c.requires.0 c.requires.1)

pub slice_bounds-used_refusal-end-2 : goal.slice_bounds-used_refusal-end-2
slice_bounds-used_refusal-end-2 c =
    sym (part-long c.args.n c.args.codes.now c.requires.0 c.requires.2)

pub returns : goal.returns
returns c =
    let u = lent c.args.n c.args.used c.args.neighbours.now c.args.codes.now in
    held-place-number u c.if-n-eq0.false (no-further u _ _ c.used_refusal.ensures)
