-- What is held under each name after a save: the new record under its name, and under every other name what was held
-- before. No line refuses the store then.
use mathlib.Core.Bool.{◌&&◌, Bool, cond, false, not, true, true≢false}
use mathlib.Core.Path.{◌∙◌, ◌≡◌, ap, ap₂, refl, subst, sym}
use Prim.Native.Nat.{◌*◌, ◌+◌, ◌<◌, ◌≤◌, ℕ}
use native.Mathlib.Decide.{ℕ_discrete}
use native.Mathlib.Omega.{arith}
use lib.Dec.{eqb}
use lib.ListN.{get_or, length}
use borrow.Author.Tests.{eq-eqb, ne_eqb}
use Rattle.buffers.specs.Refusals.{first_fitting}
use Rattle.record.specs.Accepted.{AcceptedRecord}
use Rattle.operations.specs.Used.{used_lines, UsedRecord}
use Rattle.words.proofs.Flags.{both_true}
use Rattle.words.proofs.SearchLaws.{first-unique, some_in, some-true}
use Rattle.words.specs.Search.{first, some}
use Rattle.store.proofs.Names.{Once, TakenFor, names-once, once-names, taken-for}
use Rattle.store.proofs.PassingStores.{held-record}
use Rattle.store.proofs.PlacedParts.{
  headed-count,
  headed-long,
  headed-name,
  headed-other,
  headed-used,
  placed-long,
  placed-other,
  placed-own,
}
use Rattle.store.specs.Kept.{save_place, saved, with_place}
use Rattle.store.specs.Places.{
  Store,
  count_at,
  found,
  has_name,
  holds_name,
  is_held,
  lookup,
  name_at,
  nothing,
  part_at,
  place_at,
  place_of,
}
use Rattle.store.specs.internal.Passing.{Passing}

-- ---- two stores that hold the same under a name
pub same-lookup : (k : ℕ) (st st' : Store) (m : ℕ) → ((i : ℕ) → has_name st'.heads m i ≡ has_name st.heads m i)
    → ((i : ℕ) → i < k → has_name st.heads m i ≡ true → place_at st' i ≡ place_at st i) → lookup k st' m ≡ lookup k st m
same-lookup k st st' m e f =
    ap (λ g. cond (some k g) (found (place_at st' (first k g))) nothing) (λ j i. e i j) ∙ go (holds_name k st.heads m)
    refl
  where
    go : (b : Bool) → holds_name k st.heads m ≡ b
        → cond (holds_name k st.heads m) (found (place_at st' (place_of k st.heads m))) nothing
        ≡ cond (holds_name k st.heads m) (found (place_at st (place_of k st.heads m))) nothing
    go true h = let F = some-true k (has_name st.heads m) h in
        ap (λ u. cond (holds_name k st.heads m) (found u) nothing)
        (f (place_of k st.heads m) F.below F.passes)
    go false h = ap (λ b. cond b (found (place_at st' (place_of k st.heads m))) nothing) h
        ∙ sym (ap (λ b. cond b (found (place_at st (place_of k st.heads m))) nothing) h)

-- a name held at one place
found_at : (k : ℕ) (st : Store) (m p : ℕ) → p < k → has_name st.heads m p ≡ true
    → ((i : ℕ) → i < k → (i ≡ p → ⊥) → has_name st.heads m i ≡ false) → lookup k st m ≡ found (place_at st p)
found_at k st m p l e alone =
    ap₂ (λ b q. cond b (found (place_at st q)) nothing) (some_in k (has_name st.heads m) p l e)
    (first-unique k (has_name st.heads m) p (record {
      below = l;
      passes = e;
      least = λ j h. alone j (omega (arith, h, l)) (λ s. omega (arith, h, s));
    }))

-- a name held nowhere
pub found_nowhere : (k : ℕ) (st : Store) (m : ℕ) → holds_name k st.heads m ≡ false → lookup k st m ≡ nothing
found_nowhere k st m e = ap (λ b. cond b (found (place_at st (place_of k st.heads m))) nothing) e

pub by_name : {A : Type 0} (m name : ℕ) {x a b : A} → (m ≡ name → x ≡ a) → ((m ≡ name → ⊥) → x ≡ b) → x ≡ cond
    (eqb m name) a b
by_name m name {x} {a} {b} f g = go (ℕ_discrete m name)
  where
    go : Dec (m ≡ name) → x ≡ cond (eqb m name) a b
    go (yes e) = f e ∙ sym (ap (λ t. cond t a b) (eq-eqb m name e))
    go (no h) = g h ∙ sym (ap (λ t. cond t a b) (ne_eqb m name h))

-- ---- a record put at a place that a save may take
module _ (k : ℕ) (st : Store) (P : Passing k st) (u : UsedRecord)
    (passes : first_fitting (used_lines u false false false) ≡ 0)
    (name p : ℕ) (T : TakenFor k st.heads name p) where
  abbrev after : Store
  after = with_place p u name st

  A : AcceptedRecord u.held
  A = held-record u passes

  l : p < k
  l = T.below

  once : Once k st.heads
  once = names-once k st.heads P.once

  head : 3 * p + 3 ≤ length st.heads
  head = omega (arith, l, P.heads-long)

  words : 64 * p + 64 ≤ length st.neighbours
  words = omega (arith, l, P.words_long)

  bytes : 64 * p + 64 ≤ length st.codes
  bytes = omega (arith, l, P.codes-long)

  few_words : length u.held.neighbours ≤ 64
  few_words = subst (λ m. m ≤ 64) (sym A.neighbours-length) A.upto

  few_bytes : length u.held.codes ≤ 64
  few_bytes = subst (λ m. m ≤ 64) (sym A.codes-length) A.upto

  -- its own place
  count-own : count_at after.heads p ≡ u.held.n
  count-own = headed-count p u.held.n name u.used st.heads head

  place-own : place_at after p ≡ u
  place-own = λ j. record {
    held = record {
      n = count-own j;
      neighbours = (ap (λ m. part_at p m after.neighbours) (count-own ∙ sym A.neighbours-length) ∙ placed-own p
          u.held.neighbours st.neighbours few_words words) j;
      codes = (ap (λ m. part_at p m after.codes) (count-own ∙ sym A.codes-length) ∙ placed-own p u.held.codes
          st.codes few_bytes bytes) j;
    };
    used = headed-used p u.held.n name u.used st.heads head j;
  }

  held-own : is_held after.heads p ≡ true
  held-own = ap not (ne_eqb (count_at after.heads p) 0
      (λ e. absurd (omega (arith, A.positive, sym count-own ∙ e))))

  name-own : (m : ℕ) → has_name after.heads m p ≡ eqb name m
  name-own m = ap₂ (λ b n. b && eqb n m) held-own (headed-name p u.held.n name u.used st.heads head)

  -- another place
  word-other : (i d : ℕ) → d < 3 → (i ≡ p → ⊥) → get_or after.heads (3 * i + d) 0 ≡ get_or st.heads (3 * i + d) 0
  word-other i d few h = headed-other p u.held.n name u.used st.heads (3 * i + d)
      (λ e. h (omega (arith, e, few))) (λ e. h (omega (arith, e, few))) (λ e. h (omega (arith, e, few)))

  count-other : (i : ℕ) → (i ≡ p → ⊥) → count_at after.heads i ≡ count_at st.heads i
  count-other i h = headed-other p u.held.n name u.used st.heads (3 * i)
      (λ e. h (omega (arith, e))) (λ e. h (omega (arith, e))) (λ e. h (omega (arith, e)))

  name-other : (m i : ℕ) → (i ≡ p → ⊥) → has_name after.heads m i ≡ has_name st.heads m i
  name-other m i h = ap₂ (λ c n. not (eqb c 0) && eqb n m) (count-other i h) (word-other i 1 (omega arith) h)

  place_other : (i : ℕ) → (i ≡ p → ⊥) → count_at st.heads i ≤ 64 → place_at after i ≡ place_at st i
  place_other i h few = λ j. record {
    held = record {
      n = count-other i h j;
      neighbours = (ap (λ m. part_at i m after.neighbours) (count-other i h) ∙ placed-other p u.held.neighbours
          st.neighbours few_words words i (count_at st.heads i) h few) j;
      codes = (ap (λ m. part_at i m after.codes) (count-other i h) ∙ placed-other p u.held.codes st.codes
          few_bytes bytes i (count_at st.heads i) h few) j;
    };
    used = word-other i 2 (omega arith) h j;
  }

  few-of : (i : ℕ) → i < k → is_held st.heads i ≡ true → count_at st.heads i ≤ 64
  few-of i li h = (held-record (place_at st i) (P.records i li h)).upto

  named_other : (m i : ℕ) → (m ≡ name → ⊥) → has_name after.heads m i ≡ has_name st.heads m i
  named_other m i h = go (ℕ_discrete i p)
    where
      go : Dec (i ≡ p) → has_name after.heads m i ≡ has_name st.heads m i
      go (no s) = name-other m i s
      go (yes s) = subst (λ q. has_name after.heads m q ≡ has_name st.heads m q) (sym s)
          (name-own m ∙ ne_eqb name m (λ e. h (sym e)) ∙ sym (T.no_other m h))

  -- what is held under each name
  placed-lookup : (m : ℕ) → lookup k after m ≡ cond (eqb m name) (found u) (lookup k st m)
  placed-lookup m = by_name m name
      (λ e. subst (λ n. lookup k after n ≡ found u) (sym e)
      (found_at k after name p l (name-own name ∙ eq-eqb name name refl)
      (λ i li h. name-other name i h ∙ T.alone i li h) ∙ ap found place-own))
      (λ h. same-lookup k st after m (λ i. named_other m i h)
      (λ i li e. place_other i (λ s. true≢false (sym e ∙ subst (λ q. has_name st.heads m q ≡ false) (sym s)
      (T.no_other m h))) (few-of i li (both_true (is_held st.heads i) (eqb (name_at st.heads i) m) e).0)))

  placed-passing : Passing k after
  placed-passing =
      record {
        heads-long = headed-long p u.held.n name u.used st.heads head ∙ P.heads-long;
        words_long = placed-long p u.held.neighbours st.neighbours few_words words ∙ P.words_long;
        codes-long = placed-long p u.held.codes st.codes few_bytes bytes ∙ P.codes-long;
        records = λ i li h. by_place i li h (ℕ_discrete i p);
        once = once-names k after.heads (λ m i j li lj a b. one m i j li lj a b (ℕ_discrete m name));
      }
    where
      by_place : (i : ℕ) → i < k → is_held after.heads i ≡ true → Dec (i ≡ p)
          → first_fitting (used_lines (place_at after i) false false false) ≡ 0
      by_place i li h (yes s) =
          ap (λ v. first_fitting (used_lines v false false false)) (ap (place_at after) s ∙ place-own) ∙ passes
      by_place i li h (no s) =
          let e = sym (ap (λ c. not (eqb c 0)) (count-other i s)) ∙ h in
          ap (λ v. first_fitting (used_lines v false false false)) (place_other i s (few-of i li e)) ∙ P.records i li e

      at_own : (i : ℕ) → i < k → has_name after.heads name i ≡ true → i ≡ p
      at_own i li a = go (ℕ_discrete i p)
        where
          go : Dec (i ≡ p) → i ≡ p
          go (yes s) = s
          go (no s) = absurd (true≢false (sym a ∙ name-other name i s ∙ T.alone i li s))

      one : (m i j : ℕ) → i < k → j < k → has_name after.heads m i ≡ true → has_name after.heads m j ≡ true
          → Dec (m ≡ name) → i ≡ j
      one m i j li lj a b (yes e) =
          at_own i li (subst (λ n. has_name after.heads n i ≡ true) e a)
          ∙ sym (at_own j lj (subst (λ n. has_name after.heads n j ≡ true) e b))
      one m i j li lj a b (no h) = once m i j li lj (sym (named_other m i h) ∙ a) (sym (named_other m j h) ∙ b)

-- ---- a save
module _ (k : ℕ) (st : Store) (P : Passing k st) (u : UsedRecord)
    (passes : first_fitting (used_lines u false false false) ≡ 0)
    (name : ℕ) (l : save_place k st.heads name < k) where
  taken : TakenFor k st.heads name (save_place k st.heads name)
  taken = taken-for k st.heads name (names-once k st.heads P.once) l

  pub saved-lookup : (m : ℕ) → lookup k (saved k u name st) m ≡ cond (eqb m name) (found u) (lookup k st m)
  saved-lookup = placed-lookup k st P u passes name (save_place k st.heads name) taken

  pub saved-passing : Passing k (saved k u name st)
  saved-passing = placed-passing k st P u passes name (save_place k st.heads name) taken
