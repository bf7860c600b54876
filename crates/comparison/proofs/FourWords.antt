-- Four words that stand for an equation, or for the values of its unknowns, as the code computes with them.
use mathlib.Core.List.{List}
use mathlib.Core.Path.{ap₂, ◌∙◌, ◌≡◌}
use Prim.Native.Nat.{ℕ}
use lib.Bits.{bit_and, bit_xor}
use lib.Count.{ones}
use lib.ListN.{get_or}
use Rattle.words.proofs.OnesLaws.{parity-xor}
use Rattle.words.specs.Bits.{is_odd, ◌⊕◌}
use Rattle.words.specs.internal.Bits.{dot}
use Rattle.comparison.specs.internal.Equations.{assignment_of, equation_of, fails}

-- the products of the four words, added up
pub fails-is : (e w : List ℕ)
    → is_odd (ones (bit_xor (bit_xor (bit_and (get_or e 0 0) (get_or w 0 0)) (bit_and (get_or e 1 0) (get_or w 1 0)))
    (bit_xor (bit_and (get_or e 2 0) (get_or w 2 0)) (bit_and (get_or e 3 0) (get_or w 3 0)))))
    ≡ fails (equation_of e) (assignment_of w)
unfolding fails dot
fails-is e w = parity-xor _ _ ∙ ap₂ ◌⊕◌ (parity-xor _ _) (parity-xor _ _)
