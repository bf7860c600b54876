-- Named states (02, §12), of the public calls: what is held under each name after an accepted call, which calls are
-- refused by 17 and 18, and sessions of steps, saves, returns and forgets: "The session's history from there is that of
-- the saved moment, so §5's statement continues from the saved group."
use Rattle.std.specs.Prelude.{◌&&◌, Bool, cond, false, true, ◌||◌, [], List, ◌∷◌, ◌↔◌, ◌≡◌, ◌≤◌, ℕ, eqb, drop, replicate, take}
use Rattle.buffers.specs.Refusals.{first_fitting}
use Rattle.calls.specs.Stores.{forget_call, held_under, return_call, save_call}
use Rattle.buffers.specs.Calls.{Call}
use Rattle.jobs.specs.GroupsAfter.{Group, GroupAfterStep, StartGroup}
use Rattle.jobs.specs.Runs.{after_step, started}
use Rattle.jobs.specs.Standing.{StandsFor}
use Rattle.jobs.specs.declared.Step.{Step}
use Rattle.store.specs.Kept.{forgotten, saved}
use Rattle.store.specs.Places.{Store, found, lookup, nothing, others_held}
use Rattle.store.specs.StoreLines.{holds_line, named_lines, of_record, record_tests, save_lines, store_lines}
use Rattle.operations.specs.Used.{UsedRecord, used_record}

-- the store that three buffers hold
abbrev pub store_of : List ℕ → List ℕ → List ℕ → Store
store_of heads nb cs = record { heads = heads; neighbours = nb; codes = cs }

-- ---- "saving under a held name replaces it .. and other names keep their records"
pub record SaveKeeps (u : UsedRecord) (name : ℕ) (st after : Store) : Type 0 where
  pub held : (m : ℕ) → lookup 8 after m ≡ cond (eqb m name) (found u) (lookup 8 st m)
  -- no line refuses the store that is left
  pub still : first_fitting (store_lines 8 after false) ≡ 0

-- of every accepted save
abbrev pub SavesKeep : Type 0
SavesKeep = (u : UsedRecord) (name : ℕ) (st : Store) (heads' nb' cs' : List ℕ) →
    Call (save_call u name st heads' nb' cs') 0 → SaveKeeps u name st (store_of heads' nb' cs')

-- ---- "forgetting a name makes its place free .. and other names keep their records"
pub record ForgetKeeps (name : ℕ) (st after : Store) : Type 0 where
  pub held : (m : ℕ) → lookup 8 after m ≡ cond (eqb m name) nothing (lookup 8 st m)
  pub still : first_fitting (store_lines 8 after false) ≡ 0
  -- so that 18 does not refuse the next save, whatever its name
  pub free : (m : ℕ) → others_held 8 after.heads m ≡ false

-- of every accepted forget
abbrev pub ForgetsKeep : Type 0
ForgetsKeep = (name : ℕ) (st : Store) (heads' : List ℕ) → Call (forget_call name st heads') 0 →
    ForgetKeeps name st (store_of heads' st.neighbours st.codes)

-- ---- "Returning brings back the whole record, its n and used word included": the first n' places; the others keep
-- theirs
pub record ReturnGives (name : ℕ) (st : Store) (nb cs : List ℕ) (n' : ℕ) (nb' cs' : List ℕ) (used' : ℕ) : Type 0 where
  pub held : lookup 8 st name ≡ found (used_record n' (take n' nb') (take n' cs') used')
  pub words-kept : drop n' nb' ≡ drop n' nb
  pub codes-kept : drop n' cs' ≡ drop n' cs

-- of every accepted return
abbrev pub ReturnsGive : Type 0
ReturnsGive =
    (name : ℕ) (st : Store) (n : ℕ) (nb cs : List ℕ) (used n' : ℕ) (nb' cs' : List ℕ) (used' : ℕ) →
    Call (return_call name st n nb cs used n' nb' cs' used') 0 → ReturnGives name st nb cs n' nb' cs' used'

-- ---- refusals
-- 17, "a name to return to or forget is not held": exactly if no earlier line holds and nothing is held under the name
abbrev pub NotHeld : ℕ → Store → Bool → ℕ → Type 0
NotHeld name st others r =
    (r ≡ 17) ↔ ((first_fitting (store_lines 8 st others) ≡ 0) × (lookup 8 st name ≡ nothing))

-- 18, "a save finds eight other names held": exactly if no earlier line holds and each place holds another name
abbrev pub FullStore : UsedRecord → ℕ → Store → ℕ → Type 0
FullStore u name st r =
    (r ≡ 18) ↔ ((first_fitting (record_tests (λ m. of_record u m || holds_line m (store_lines 8 st false))) ≡ 0)
    × (others_held 8 st.heads name ≡ true))

-- ---- sessions
-- a step of §5, or a call on the store
pub data Action : Type 0 where
  does : Step → Action
  saves : ℕ → Action
  returns : ℕ → Action
  forgets : ℕ → Action

-- the record in hand and the store
pub record Session : Type 0 where
  pub current : UsedRecord
  pub store : Store

-- the number that a call on the store answers, and what it leaves: refused, it "changes no lent byte"
abbrev pub after_action : Session → Action → Session
after_action s (does step) = record { current = after_step s.current step; store = s.store }
after_action s (saves name) =
    record {
      current = s.current;
      store = cond (eqb (first_fitting (save_lines 8 s.current name s.store)) 0)
          (saved 8 s.current name s.store) s.store;
    }
after_action s (returns name) =
    record {
      current = cond (eqb (first_fitting (named_lines 8 name s.store false)) 0) (held_under name s.store)
          s.current;
      store = s.store;
    }
after_action s (forgets name) =
    record {
      current = s.current;
      store = cond (eqb (first_fitting (named_lines 8 name s.store false)) 0) (forgotten 8 name s.store) s.store;
    }

-- one after the other
abbrev pub run_actions : Session → List Action → Session
run_actions s [] = s
run_actions s (a ∷ rest) = run_actions (after_action s a) rest

-- the group in hand, and one for each name
pub record Groups : Type 1 where
  pub current : Group
  pub named : ℕ → Group

-- the first where the test is true, else the second
abbrev pub either_group : Bool → Group → Group → Group
either_group true G H = G
either_group false G H = H

-- what each action makes of the groups: a save puts the group in hand under its name, a return takes that group in
-- hand; refused actions count as no change
abbrev pub groups_after : Session → Groups → Action → Groups
groups_after s g (does step) = record { current = GroupAfterStep s.current g.current step; named = g.named }
groups_after s g (saves name) =
    record {
      current = g.current;
      named = λ m. either_group (eqb (first_fitting (save_lines 8 s.current name s.store)) 0 && eqb m name)
          g.current (g.named m);
    }
groups_after s g (returns name) =
    record {
      current = either_group (eqb (first_fitting (named_lines 8 name s.store false)) 0) (g.named name) g.current;
      named = g.named;
    }
groups_after s g (forgets name) = g

-- one after the other
abbrev pub groups_run : Session → Groups → List Action → Groups
groups_run s g [] = g
groups_run s g (a ∷ rest) = groups_run (after_action s a) (groups_after s g a) rest

-- the record stands for the group in hand, and each held name's record for the name's group
pub record SessionStands (s : Session) (g : Groups) : Type 1 where
  pub current : StandsFor s.current g.current
  pub named : (m : ℕ) (v : UsedRecord) → lookup 8 s.store m ≡ found v → StandsFor v (g.named m)
  pub still : first_fitting (store_lines 8 s.store false) ≡ 0

-- of every session: "§5's statement continues from the saved group"
abbrev pub SessionsStand : Type 1
SessionsStand = (s : Session) (g : Groups) → SessionStands s g → (actions : List Action) →
    SessionStands (run_actions s actions) (groups_run s g actions)

-- "A store starts empty"
abbrev pub empty_store : Store
empty_store = store_of (replicate 24 0) (replicate 512 0) (replicate 512 0)

-- from +Z at every qubit and an empty store, after any number of actions
abbrev pub StartedSessionsStand : Type 1
StartedSessionsStand = (n : ℕ) → 1 ≤ n → n ≤ 64 → (N : ℕ → Group) (actions : List Action) →
    SessionStands (run_actions (record { current = started n; store = empty_store }) actions)
    (groups_run (record { current = started n; store = empty_store })
    (record { current = StartGroup n; named = N }) actions)
