-- Named states: what the calls on a store leave under each name, and sessions over them, from the laws of stores.
use mathlib.Core.Bool.{◌&&◌, Bool, false, not, true, true≢false, ◌||◌}
use mathlib.Core.List.{[], List}
use mathlib.Core.Logic.{inl, inr}
use mathlib.Core.Path.{◌∙◌, ◌≡◌, ap, refl, subst, sym}
use Prim.Native.Nat.{◌*◌, ◌<◌, ℕ}
use native.Mathlib.Omega.{arith}
use lib.Dec.{eqb, lit<}
use lib.ListN.{drop, length, take}
use lib.Seq.{drop_at, get_or-set_same, take_at}
use borrow.Author.Tests.{not-false}
use Rattle.buffers.proofs.Lines.{none-of-all, not-held}
use Rattle.buffers.specs.Buffers.{written}
use Rattle.buffers.specs.Refusals.{first_fitting, other_than}
use Rattle.calls.proofs.SaveLines.{no_number}
use Rattle.calls.specs.Stores.{held_under}
use Rattle.store.proofs.ForgottenNames.{forgotten-lookup, forgotten-passing, held-lookup, held-passes}
use Rattle.store.proofs.Lookups.{saved-lookup, saved-passing}
use Rattle.store.proofs.PassingStores.{held-record, store-accepted, store-passes}
use Rattle.store.proofs.SavePlaces.{full}
use Rattle.store.specs.Kept.{forgotten, forgotten_heads, save_place, saved}
use Rattle.store.specs.Places.{Store, found, has_name, holds_name, is_held, name_at, others_held, place_of}
use Rattle.store.specs.StoreLines.{holds_line, named_lines, of_record, record_tests, save_lines, store_lines}
use Rattle.store.specs.internal.Passing.{Passing}
use Rattle.operations.specs.Used.{used_lines, UsedRecord, used_record}
use Rattle.words.proofs.SearchLaws.{every-at, some-true}
use Rattle.words.proofs.Sums.{lt-or-ge}
use Rattle.claims.specs.StoreDemand.{ForgetKeeps, ForgetsKeep, ReturnsGive, SaveKeeps, SavesKeep, store_of}

-- ---- what no line tells of a save
module _ (u : UsedRecord) (name : ℕ) (st : Store) (z : first_fitting (save_lines 8 u name st) ≡ 0) where
  pub parts : (first_fitting (record_tests (λ m. of_record u m || holds_line m (store_lines 8 st false))) ≡ 0)
      × (others_held 8 st.heads name ≡ false)
  parts = let h = none-of-all (record_tests (λ m. of_record u m || holds_line m (store_lines 8 st false))) _
      (lit< tt, (lit< tt, (lit< tt, (lit< tt, (lit< tt, tt))))) z in
      (h.0, (not-held 17 (others_held 8 st.heads name) [] h.1).0)

  both : (first_fitting (used_lines u false false false) ≡ 0) × (first_fitting (store_lines 8 st false) ≡ 0)
  both = no_number u st 0 (sym parts.0) refl

  pub record-passes : first_fitting (used_lines u false false false) ≡ 0
  record-passes = both.0

  pub save-passing : Passing 8 st
  save-passing = store-accepted 8 st false both.1

  pub place-there : save_place 8 st.heads name < 8
  place-there = elim (lt-or-ge (save_place 8 st.heads name) 8) [
    | inl l ↦ l
    | inr l ↦ absurd (true≢false (sym (full 8 st.heads name l) ∙ parts.1))
  ]

-- ---- and of a return or a forget
module _ (name : ℕ) (st : Store) (others : Bool) (z : first_fitting (named_lines 8 name st others) ≡ 0) where
  pub parts-named : (first_fitting (store_lines 8 st others) ≡ 0) × (not (holds_name 8 st.heads name) ≡ false)
  parts-named = let h = none-of-all (store_lines 8 st others) _ (lit< tt, (lit< tt, (lit< tt, (lit< tt, (lit< tt, tt))))) z in
      (h.0, (not-held 16 (not (holds_name 8 st.heads name)) [] h.1).0)

  pub named-passing : Passing 8 st
  named-passing = store-accepted 8 st others parts-named.0

  pub name-held : holds_name 8 st.heads name ≡ true
  name-held = not-false (holds_name 8 st.heads name) parts-named.1

pub saves-keep : SavesKeep
saves-keep u name st heads' nb' cs' C = subst (λ t. SaveKeeps u name st t) (sym same)
    (record {
      held = saved-lookup 8 st P u passes name l;
      still = store-passes 8 (saved 8 u name st) (saved-passing 8 st P u passes name l);
    })
  where
    z : first_fitting (save_lines 8 u name st) ≡ 0
    z = sym C.number

    passes : first_fitting (used_lines u false false false) ≡ 0
    passes = record-passes u name st z

    P : Passing 8 st
    P = save-passing u name st z

    l : save_place 8 st.heads name < 8
    l = place-there u name st z

    same : store_of heads' nb' cs' ≡ saved 8 u name st
    same = λ i. store_of (C.held.0 i) (C.held.1.0 i) (C.held.1.1.0 i)

-- the place that a forget makes free holds nothing, so that not every place holds another name
pub forgotten-free : (k : ℕ) (st : Store) → Passing k st → (name : ℕ) → holds_name k st.heads name ≡ true →
    (m : ℕ) → others_held k (forgotten_heads k name st.heads) m ≡ false
forgotten-free k st P name h m = go (others_held k heads m) refl
  where
    heads : List ℕ
    heads = forgotten_heads k name st.heads

    p : ℕ
    p = place_of k st.heads name

    below : p < k
    below = (some-true k (has_name st.heads name) h).below

    own : (is_held heads p && not (eqb (name_at heads p) m)) ≡ false
    own = ap (λ c. not (eqb c 0) && not (eqb (name_at heads p) m))
        (get_or-set_same st.heads (3 * p) 0 0 (omega (arith, below, P.heads-long)))

    go : (b : Bool) → others_held k heads m ≡ b → b ≡ false
    go true e = absurd (true≢false (sym (every-at k (λ i. is_held heads i && not (eqb (name_at heads i) m)) e p below) ∙
        own))
    go false e = refl

pub forgets-keep : ForgetsKeep
forgets-keep name st heads' C = subst (λ t. ForgetKeeps name st t) (sym same)
    (record {
      held = forgotten-lookup 8 st P name h;
      still = store-passes 8 (forgotten 8 name st) (forgotten-passing 8 st P name h);
      free = forgotten-free 8 st P name h;
    })
  where
    P : Passing 8 st
    P = named-passing name st false (sym C.number)

    h : holds_name 8 st.heads name ≡ true
    h = name-held name st false (sym C.number)

    same : store_of heads' st.neighbours st.codes ≡ forgotten 8 name st
    same = λ i. store_of (C.held.0 i) st.neighbours st.codes

pub returns-give : ReturnsGive
returns-give name st n nb cs used n' nb' cs' used' C =
    record {
      held = held-lookup 8 st P name h ∙ ap found (sym back);
      words-kept = kept nb nb' (held_under name st).held.neighbours C.held.1.0 words;
      codes-kept = kept cs cs' (held_under name st).held.codes C.held.1.1.0 codes;
    }
  where
    P : Passing 8 st
    P = named-passing name st (other_than 64 nb || other_than 64 cs) (sym C.number)

    h : holds_name 8 st.heads name ≡ true
    h = name-held name st (other_than 64 nb || other_than 64 cs) (sym C.number)

    words : length (held_under name st).held.neighbours ≡ n'
    words = (held-record (held_under name st) (held-passes 8 st P name h)).neighbours-length ∙ sym C.held.0

    codes : length (held_under name st).held.codes ≡ n'
    codes = (held-record (held_under name st) (held-passes 8 st P name h)).codes-length ∙ sym C.held.0

    front : (old new part : List ℕ) → new ≡ written part old → length part ≡ n' → take n' new ≡ part
    front old new part e l = ap (take n') e ∙ take_at part (drop (length part) old) n' l

    kept : (old new part : List ℕ) → new ≡ written part old → length part ≡ n' → drop n' new ≡ drop n' old
    kept old new part e l = ap (drop n') e ∙ drop_at part (drop (length part) old) n' l ∙ ap (λ k. drop k old) l

    back : used_record n' (take n' nb') (take n' cs') used' ≡ held_under name st
    back = λ i. record {
      held = record {
        n = C.held.0 i;
        neighbours = front nb nb' (held_under name st).held.neighbours C.held.1.0 words i;
        codes = front cs cs' (held_under name st).held.codes C.held.1.1.0 codes i;
      };
      used = C.held.1.1.1.0 i;
    }
