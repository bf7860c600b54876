-- What the proofs about the families of calls share: answers that fill their buffers, accepted calls, lengths.
use mathlib.Core.Bool.{Bool, not, ◌||◌}
use mathlib.Core.List.{List}
use mathlib.Core.Logic.{◌↔◌}
use mathlib.Core.Path.{ap, ap₂, subst, sym, ◌∙◌, ◌≡◌}
use Prim.Native.Nat.{ℕ, ◌≤◌}
use native.Mathlib.Omega.{arith}
use lib.Dec.{eqb}
use lib.ListN.{drop, length, length-append, length-drop}
use Rattle.buffers.proofs.Tabulate.{tabulate-length}
use Rattle.buffers.specs.Buffers.{tabulate, written}
use Rattle.buffers.specs.Refusals.{first_fitting, Refusal}
use Rattle.buffers.proofs.Calling.{every-call-answers}
use Rattle.buffers.specs.Calls.{Call, Contract}
use Rattle.claims.specs.Conforming.{Answered, Conforms}

-- an answer with a place for each of n
pub table-fills : (n : ℕ) (f : ℕ → ℕ) (old : List ℕ) → length old ≡ n → length (tabulate n f) ≡ length old
table-fills n f old e = tabulate-length n f ∙ sym e

-- a list at the start of a buffer
pub written-fills : (new old : List ℕ) → length new ≤ length old → length (written new old) ≡ length old
written-fills new old h =
    length-append new (drop (length new) old) ∙ omega (arith, length-drop (length new) old, h)

-- a call answers 0 exactly if no line holds
pub by_lines : {c : Contract} {r : ℕ} → Call c r → (r ≡ 0) ↔ (first_fitting c.lines ≡ 0)
by_lines C = ((λ z. sym C.number ∙ z), λ e. C.number ∙ e)

-- three answer buffers of equal lengths leave the lines that read their lengths
pub of_three : (n : ℕ) (lines : Bool → List Refusal) (k : ℕ) {a a₂ b b₂ c c₂ : ℕ} → a ≡ a₂ → b ≡ b₂ → c ≡ c₂ →
    first_fitting (lines (not (eqb a n) || (not (eqb b n) || not (eqb c k))))
    ≡ first_fitting (lines (not (eqb a₂ n) || (not (eqb b₂ n) || not (eqb c₂ k))))
of_three n lines k {a} {a₂} {b} {b₂} {c} {c₂} e f g =
    ap₂ (λ a b. first_fitting (lines (not (eqb a n) || (not (eqb b n) || not (eqb c k))))) e f
    ∙ ap (λ c. first_fitting (lines (not (eqb a₂ n) || (not (eqb b₂ n) || not (eqb c k))))) g

-- demand 1 of a call
pub answered : {c : Contract} {r : ℕ} → Conforms c → Call c r → Answered c r
answered {c} {r} K C = record { answers = every-call-answers c r C; conforms = K }

-- an accepted call
pub at_zero : {c : Contract} {r : ℕ} → Call c r → r ≡ 0 → Call c 0
at_zero {c} C z = subst (Call c) z C
