-- Complementations of the working state, one list after another.
use mathlib.Core.List.{◌++◌, List, [], append_assoc, append-nil}
use mathlib.Core.Path.{ap, refl, sym, ◌∙◌, ◌≡◌}
use Prim.Native.Nat.{ℕ}
use native.Mathlib.Nat.{add-zero}
use native.Mathlib.Omega.{arith}
use lib.ListN.{length-append}
use Rattle.record.specs.Records.{complement_all}
use Rattle.image.proofs.TrackedBits.{all_append, all-bits}
use Rattle.image.specs.Rule.{follow, state_of}
use Rattle.image_impl.proofs.TrackedRecords.{tracked-simple}
use Rattle.image_impl.specs.internal.Working.{Complemented, Tracking, Working, listed, working_record}

pub complemented-none : (n : ℕ) (w : Working) → Tracking n w → Complemented n w [] w
complemented-none n w T =
    record {
      held = refl;
      list = sym (append-nil (listed w));
      count = sym (add-zero w.count);
      tracking =
          T;
    }

pub complemented-append : {n : ℕ} {w u r : Working} {a b : List ℕ} → Complemented n w a u
    → Complemented n u b r →
    Complemented n w (a ++ b) r
complemented-append {n} {w} {u} {r} {a} {b} A B =
    record {
      held = B.held ∙ ap (λ R. complement_all R b) A.held ∙ sym (all_append (working_record w) a b);
      list = B.list ∙ ap (λ vs. vs ++ b) A.list ∙ append_assoc (listed w) a b;
      count = B.count ∙ omega (arith, A.count, length-append a b);
      tracking = B.tracking;
    }

-- the state of the rule after a list
pub complemented-state : (n : ℕ) (w r : Working) (vs : List ℕ) → Tracking n w → Complemented n w vs r →
    state_of (working_record r) ≡ follow (state_of (working_record w)) vs
complemented-state n w r vs T A = ap state_of A.held ∙ all-bits n (working_record w) vs (tracked-simple n w T)
