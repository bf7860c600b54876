-- After every list of steps, saves, returns and forgets the record stands for the group that the definitions give, and
-- each held name's record for its group.
use mathlib.Core.Bool.{◌&&◌, Bool, cond, false, false≢true, true, true≢false}
use mathlib.Core.List.{[], ◌∷◌}
use mathlib.Core.Path.{◌∙◌, ◌≡◌, ap, refl, subst, sym}
use Prim.Native.Nat.{ℕ}
use native.Mathlib.Decide.{ℕ_discrete}
use native.Mathlib.Omega.{arith}
use lib.Dec.{eqb}
use borrow.Author.Tests.{eq-eqb, eqb-true, ne_eqb}
use Rattle.buffers.specs.Refusals.{first_fitting}
use Rattle.calls.specs.Stores.{held_under}
use Rattle.jobs.proofs.Starting.{started-stands}
use Rattle.jobs.specs.GroupsAfter.{Group}
use Rattle.jobs.specs.Standing.{StandsFor}
use Rattle.store.proofs.ForgottenNames.{forgotten-lookup, forgotten-passing, held-lookup}
use Rattle.store.proofs.Lookups.{saved-lookup, saved-passing}
use Rattle.store.proofs.PassingStores.{store-passes}
use Rattle.store.specs.Kept.{forgotten, saved}
use Rattle.store.specs.Places.{found, lookup, nothing}
use Rattle.store.specs.StoreLines.{named_lines, save_lines, store_lines}
use Rattle.operations.specs.Used.{UsedRecord}
use Rattle.words.specs.Search.{some}
use Rattle.claims.proofs.JobsStand.{step-stands}
use Rattle.claims.proofs.StoreDemandHolds.{name-held, named-passing, place-there, record-passes, save-passing}
use Rattle.claims.specs.StoreDemand.{
  Action,
  Groups,
  Session,
  SessionStands,
  SessionsStand,
  StartedSessionsStand,
  after_action,
  either_group,
  does,
  empty_store,
  forgets,
  groups_after,
  returns,
  saves,
}

same-record : {u v : UsedRecord} → found u ≡ found v → u ≡ v
same-record e = cc

not_found : {A : Type 0} {v : UsedRecord} → nothing ≡ found v → A
not_found e = let z : ◌≡◌ {A = ℕ} 0 1 = cc in absurd (omega (arith, z))

-- by whether the name is the one in question
chosen-same : (b : Bool) (G H : Group) (v : UsedRecord) → b ≡ true → StandsFor v G → StandsFor v (either_group b G H)
chosen-same true G H v e S = S
chosen-same false G H v e S = absurd (false≢true e)

chosen-other : (b : Bool) (G H : Group) (v : UsedRecord) → b ≡ false → StandsFor v H → StandsFor v (either_group b G H)
chosen-other true G H v e S = absurd (true≢false e)
chosen-other false G H v e S = S

module _ (s : Session) (g : Groups) (S : SessionStands s g) (name : ℕ) where
  -- ---- a save
  save-named : first_fitting (save_lines 8 s.current name s.store) ≡ 0 → (m : ℕ) (v : UsedRecord)
      → lookup 8 (saved 8 s.current name s.store) m ≡ found v → Dec (m ≡ name)
      → StandsFor v (either_group (eqb m name) g.current (g.named m))
  save-named z m v e (yes p) = chosen-same (eqb m name) g.current (g.named m) v (eq-eqb m name p)
      (subst (λ w. StandsFor w g.current) (same-record (sym
      (ap (λ b. cond b (found s.current) (lookup 8 s.store m))
      (eq-eqb m name p)) ∙ sym (under z m) ∙ e)) S.current)
    where
      under : (z : first_fitting (save_lines 8 s.current name s.store) ≡ 0) (m : ℕ)
          → lookup 8 (saved 8 s.current name s.store) m
          ≡ cond (eqb m name) (found s.current) (lookup 8 s.store m)
      under z = saved-lookup 8 s.store (save-passing s.current name s.store z) s.current
          (record-passes s.current name s.store z) name (place-there s.current name s.store z)
  save-named z m v e (no h) = chosen-other (eqb m name) g.current (g.named m) v (ne_eqb m name h)
      (S.named m v (sym (ap (λ b. cond b (found s.current) (lookup 8 s.store m)) (ne_eqb m name h))
      ∙ sym (saved-lookup 8 s.store (save-passing s.current name s.store z) s.current
      (record-passes s.current name s.store z) name (place-there s.current name s.store z) m) ∙ e))

  save-stands : (b : Bool) → (b ≡ true → first_fitting (save_lines 8 s.current name s.store) ≡ 0) → SessionStands
      (record { current = s.current; store = cond b (saved 8 s.current name s.store) s.store })
      (record { current = g.current; named = λ m. either_group (b && eqb m name) g.current (g.named m) })
  save-stands false z = record { current = S.current; named = S.named; still = S.still }
  save-stands true z =
      record {
        current = S.current;
        named = λ m v e. save-named (z refl) m v e (ℕ_discrete m name);
        still = store-passes 8 (saved 8 s.current name s.store)
            (saved-passing 8 s.store (save-passing s.current name s.store (z refl)) s.current
            (record-passes s.current name s.store (z refl)) name
            (place-there s.current name s.store (z refl)));
      }

  -- ---- a return
  return-stands : (b : Bool) → (b ≡ true → first_fitting (named_lines 8 name s.store false) ≡ 0) → SessionStands
      (record { current = cond b (held_under name s.store) s.current; store = s.store })
      (record { current = either_group b (g.named name) g.current; named = g.named })
  return-stands false z = record { current = S.current; named = S.named; still = S.still }
  return-stands true z =
      record {
        current = S.named name (held_under name s.store)
            (held-lookup 8 s.store (named-passing name s.store false (z refl)) name
            (name-held name s.store false (z refl)));
        named = S.named;
        still = S.still;
      }

  -- ---- a forget
  forget-named : first_fitting (named_lines 8 name s.store false) ≡ 0 → (m : ℕ) (v : UsedRecord)
      → lookup 8 (forgotten 8 name s.store) m ≡ found v → Dec (m ≡ name) → StandsFor v (g.named m)
  forget-named z m v e d = go d
    where
      under : lookup 8 (forgotten 8 name s.store) m ≡ cond (eqb m name) nothing (lookup 8 s.store m)
      under = forgotten-lookup 8 s.store (named-passing name s.store false z) name
          (name-held name s.store false z) m

      go : Dec (m ≡ name) → StandsFor v (g.named m)
      go (yes p) = not_found (sym (ap (λ b. cond b nothing (lookup 8 s.store m)) (eq-eqb m name p)) ∙ sym under ∙ e)
      go (no h) = S.named m v (sym (ap (λ b. cond b nothing (lookup 8 s.store m)) (ne_eqb m name h)) ∙ sym under ∙
          e)

  forget-stands : (b : Bool) → (b ≡ true → first_fitting (named_lines 8 name s.store false) ≡ 0) → SessionStands
      (record { current = s.current; store = cond b (forgotten 8 name s.store) s.store }) g
  forget-stands false z = record { current = S.current; named = S.named; still = S.still }
  forget-stands true z =
      record {
        current = S.current;
        named = λ m v e. forget-named (z refl) m v e (ℕ_discrete m name);
        still = store-passes 8 (forgotten 8 name s.store)
            (forgotten-passing 8 s.store (named-passing name s.store false (z refl)) name
            (name-held name s.store false (z refl)));
      }

-- ---- one action after the other
action-stands : (s : Session) (g : Groups) → SessionStands s g → (a : Action)
    → SessionStands (after_action s a) (groups_after s g a)
action-stands s g S (does step) =
    record { current = step-stands s.current g.current S.current step; named = S.named; still = S.still }
action-stands s g S (saves name) = save-stands s g S name _ (eqb-true _ 0)
action-stands s g S (returns name) = return-stands s g S name _ (eqb-true _ 0)
action-stands s g S (forgets name) = forget-stands s g S name _ (eqb-true _ 0)

pub sessions-stand : SessionsStand
sessions-stand s g S [] = S
sessions-stand s g S (a ∷ rest) = sessions-stand (after_action s a) (groups_after s g a) (action-stands s g S a) rest

-- ---- "A store starts empty"
empty_holds : (m : ℕ) → lookup 8 empty_store m ≡ nothing
unfolding some
empty_holds m = refl

empty-passes : first_fitting (store_lines 8 empty_store false) ≡ 0
unfolding some first_fitting
empty-passes = refl

pub started-sessions-stand : StartedSessionsStand
started-sessions-stand n positive upto N = sessions-stand _ _ (record {
  current = started-stands n positive upto;
  named = λ m v e. not_found (sym (empty_holds m) ∙ e);
  still = empty-passes;
})
