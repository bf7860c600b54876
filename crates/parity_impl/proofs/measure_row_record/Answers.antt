-- `measure_row_record` meets its contract: the row measured, and the reduced record of the group afterwards.
use mathlib.Core.Path.{◌≡◌, sym}
use mathlib.Core.Bool.{Bool, false, true}
use mathlib.Core.List.{List}
use Prim.Native.Nat.{ℕ}
use native.Mathlib.Omega.{arith}
use lib.Dec.{eqb}
use Rattle.operations.specs.declared.Outcome.TheVariants.{Determined}
use Rattle.operations.specs.internal.InPlace.{record_in}
use Rattle.parity.proofs.RowAnswers.{left-chosen, left-determined}
use Rattle.parity.specs.internal.InPlace.{RowInPlace}
use Rattle.record.proofs.AcceptedRecords.{accepted-record}
use Rattle.words.specs.Bits.{digit}
use Rattle.parity_impl.proofs.measure_row_record.Goals as goal

-- the digit of a sign is 0 or 1
determined : (minus : Bool) → digit minus ≡ 2 → ⊥
determined false e = omega arith
determined true e = omega arith

-- the outcome, by the digit of its sign
of-digit : (words codes : List ℕ) (z x : ℕ) (bit minus : Bool) (words' codes' : List ℕ)
    → RowInPlace words codes z x bit (Determined (eqb (digit minus) 1)) words' codes'
    → RowInPlace words codes z x bit (Determined minus) words' codes'
of-digit words codes z x bit false words' codes' P = P
of-digit words codes z x bit true words' codes' P = P

pub row_value-requires-clause-accepted_record : goal.row_value-requires-clause-accepted_record
row_value-requires-clause-accepted_record c =
    accepted-record (record_in c.args.neighbours.now c.args.codes.now) false false c.requires.unrefused.no_line

pub returns-in-None : goal.returns-in-None
returns-in-None c = left-chosen _ _ _ _ _ _ _ (sym c.in-None.ensures) c.measure_open.ensures

pub returns-in-Some : goal.returns-in-Some
returns-in-Some c =
    of-digit _ _ _ _ _ c.in-Some.minus _ _
    (left-determined _ _ _ _ _ _ _ _ c.in-Some.ensures (determined c.in-Some.minus) c.normalise.ensures)
