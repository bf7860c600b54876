-- The number of each refusal in the published list, and what a call answers in numbers.
use Rattle.std.specs.Prelude.{Result, Ok, Err, ℕ}
use Rattle.buffers.specs.declared.refusals.Refusal.{Refusal}
use Rattle.buffers.specs.declared.refusals.Refusal.TheVariants.{Anticommute, Contradicted, Count, Dependent, Form, Full}
use Rattle.buffers.specs.declared.refusals.Refusal.TheVariants.{Graph, ImageC, ImageY, Inequivalent, Large, Length}
use Rattle.buffers.specs.declared.refusals.Refusal.TheVariants.{NotHeld, NotUsed, OtherGroup, Qubit, Steps, Stray, Used, Value}

-- the published list
abbrev pub refusal_number : Refusal → ℕ
refusal_number Form = 1
refusal_number Count = 2
refusal_number Large = 3
refusal_number Length = 4
refusal_number Stray = 5
refusal_number Value = 6
refusal_number Graph = 7
refusal_number Qubit = 8
refusal_number Anticommute = 9
refusal_number Dependent = 10
refusal_number ImageC = 11
refusal_number ImageY = 12
refusal_number Inequivalent = 13
refusal_number Contradicted = 14
refusal_number Steps = 15
refusal_number Used = 16
refusal_number NotHeld = 17
refusal_number Full = 18
refusal_number OtherGroup = 19
refusal_number NotUsed = 20

-- what a call answers: 0 where it accepts, else the refusal's number
abbrev pub number_of : {A : Type 0} → Result A Refusal → ℕ
number_of (Ok _) = 0
number_of (Err refusal) = refusal_number refusal
