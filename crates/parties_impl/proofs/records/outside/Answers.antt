-- `outside` meets its contract: whether a qubit of the record is in the other party.
use mathlib.Core.Bool.{◌&&◌, Bool, beq, not}
use mathlib.Core.Path.{◌≡◌, ◌∙◌, ap}
use lib.Dec.{eqb, ltb}
use Rattle.words.proofs.Finite.{bits}
use Rattle.words.specs.Bits.{bit, same_bit}
use Rattle.parties_impl.proofs.records.outside.Goals as goal

unlike : (a b : Bool) → not (beq a b) ≡ not (same_bit a b)
unlike = bits 2 (λ a b. not (beq a b)) (λ a b. not (same_bit a b)) tt

pub returns : goal.returns
returns c =
    let a = c.args in
    ap (λ b. ltb a.qubit a.n && b) (ap (λ b. not (beq b (eqb a.party 1))) c.bit_at.ensures
    ∙ unlike (bit a.word a.qubit) (eqb a.party 1))
