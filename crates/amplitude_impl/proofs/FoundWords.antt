-- The word of the vertices that pass a test, by a loop over the vertices.
use mathlib.Core.Bool.{◌&&◌, Bool}
use mathlib.Core.Path.{ap, ap₂, sym, ◌∙◌, ◌≡◌}
use Prim.Native.Nat.{◌+◌, ◌<◌, ℕ, ◌≤◌}
use native.Mathlib.Omega.{arith}
use lib.Dec.{eqb, ltb}
use borrow.Author.Tests.{le-ltb}
use Rattle.words.proofs.BitLaws.{zero_bit}
use Rattle.words.proofs.Places.{upto-with}
use Rattle.words.specs.Bits.{bit, ◌⊕◌}

-- those below i
pub record Found (f : ℕ → Bool) (n all i : ℕ) : Type 0 where
  pub upto : i ≤ n
  pub held : (q : ℕ) → bit all q ≡ (ltb q i && f q)

pub found_none : (f : ℕ → Bool) (n : ℕ) → Found f n 0 0
found_none f n =
    record { upto = omega arith; held = λ q. zero_bit q ∙ ap (λ b. b && f q) (sym (le-ltb q 0 (omega arith))) }

pub found-one : (f : ℕ → Bool) (n all i all' : ℕ) (here : Bool) → i < n → Found f n all i → here ≡ f i
    → ((q : ℕ) → bit all' q ≡ bit all q ⊕ (eqb q i && here)) → Found f n all' (i + 1)
found-one f n all i all' here l S h e =
    record {
      upto = omega arith;
      held = λ q. e q ∙ ap₂ (λ u v. u ⊕ (eqb q i && v)) (S.held q) h ∙ upto-with f i q;
    }
