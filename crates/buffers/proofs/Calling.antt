-- Calls of any contract: how one is made, and what its caller learns.
use mathlib.Core.Bool.{cond}
use mathlib.Core.List.{List, [], ◌∷◌}
use mathlib.Core.Path.{ap, sym, ◌∙◌, ◌≡◌}
use Prim.Native.Nat.{ℕ}
use borrow.Author.Tests.{eq-eqb, ne_eqb}
use Rattle.buffers.specs.Refusals.{first_fitting}
use Rattle.buffers.proofs.Fitting.{fits-at}
use Rattle.buffers.specs.Answers.{EveryCallAnswers, Unchanged, HoldsAnswer}
use Rattle.buffers.specs.Calls.{Call, Contract, EachOf, Held, Lent, buffer, number}

module _ (r : ℕ) where
  each-held : (h : r ≡ 0 → ⊥) (bs : List Lent) → EachOf Unchanged bs → EachOf (Held r) bs
  each-held h [] U = tt
  each-held h (buffer before answer after ∷ bs) U =
      (U.0 ∙ sym (ap (λ v. cond v answer before) (ne_eqb r 0 h)), each-held h bs U.1)
  each-held h (number before answer after ∷ bs) U =
      (U.0 ∙ sym (ap (λ v. cond v answer before) (ne_eqb r 0 h)), each-held h bs U.1)

  each-unchanged : (h : r ≡ 0 → ⊥) (bs : List Lent) → EachOf (Held r) bs → EachOf Unchanged bs
  each-unchanged h [] H = tt
  each-unchanged h (buffer before answer after ∷ bs) H =
      (H.0 ∙ ap (λ v. cond v answer before) (ne_eqb r 0 h), each-unchanged h bs H.1)
  each-unchanged h (number before answer after ∷ bs) H =
      (H.0 ∙ ap (λ v. cond v answer before) (ne_eqb r 0 h), each-unchanged h bs H.1)

  each-written : (z : r ≡ 0) (bs : List Lent) → EachOf (Held r) bs → EachOf HoldsAnswer bs
  each-written z [] H = tt
  each-written z (buffer before answer after ∷ bs) H =
      (H.0 ∙ ap (λ v. cond v answer before) (eq-eqb r 0 z), each-written z bs H.1)
  each-written z (number before answer after ∷ bs) H =
      (H.0 ∙ ap (λ v. cond v answer before) (eq-eqb r 0 z), each-written z bs H.1)

-- ---- a call is made
-- refused: each buffer is as it was. `refused _ e h (refl, (refl, tt))`
pub refused : (c : Contract) {k : ℕ} → k ≡ first_fitting c.lines → (k ≡ 0 → ⊥) → EachOf Unchanged c.lent → Call c k
refused c {k} e h U = record { number = e; held = each-held k h c.lent U }

-- accepted: each buffer holds its answer
pub done : (c : Contract) {k : ℕ} → k ≡ first_fitting c.lines → k ≡ 0 → EachOf HoldsAnswer c.lent → Call c 0
done c e z W = record { number = sym z ∙ e; held = each-done c.lent W }
  where
    each-done : (bs : List Lent) → EachOf HoldsAnswer bs → EachOf (Held 0) bs
    each-done [] W = tt
    each-done (buffer before answer after ∷ bs) W = (W.0, each-done bs W.1)
    each-done (number before answer after ∷ bs) W = (W.0, each-done bs W.1)

-- ---- what its caller learns
module _ {c : Contract} {r : ℕ} (C : Call c r) where
  pub no_line : r ≡ 0 → first_fitting c.lines ≡ 0
  no_line z = sym C.number ∙ z

  pub kept-all : (r ≡ 0 → ⊥) → EachOf Unchanged c.lent
  kept-all h = each-unchanged r h c.lent C.held

  pub written_all : r ≡ 0 → EachOf HoldsAnswer c.lent
  written_all z = each-written r z c.lent C.held

pub every-call-answers : EveryCallAnswers
every-call-answers c r C =
    record { first = fits-at c.lines C.number; refused = kept-all C; accepted = written_all C }
