-- `letters_phase` meets its contract: the power of i in the product of the letters of two rows, from 0 to 3.
use mathlib.Core.Path.{◌∙◌, ap₂, sym}
use Prim.Native.Nat.{◌%◌, ◌*◌, ◌+◌}
use native.Mathlib.Nat.{mod-lt}
use lib.Dec.{lit<}
use borrow.Author.Rules.{rules}
use Rattle.pauli.specs.Pauli.{i⁰}
use Rattle.pauli.proofs.WordRows.{letters-exponent}
use Rattle.pauli.proofs.letters_phase.Goals as goal

pub returns : goal.returns
returns c =
    let a = c.args in (
      ap₂ (λ u v. (u + 2 * v) % 4) c.count.ensures.0 c.count-2.ensures.0
          ∙ sym (letters-exponent 64 a.z a.x a.z2 a.x2 (search rules) (search rules)
          (search rules) (search rules) i⁰ i⁰),
      mod-lt _ (lit< tt),
    )
