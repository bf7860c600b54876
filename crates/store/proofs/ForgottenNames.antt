-- What is held under each name after a forget: nothing under the name, and under every other name what was held before.
-- No line refuses the store then.
use mathlib.Core.Bool.{◌&&◌, cond, false, not, true, true≢false}
use mathlib.Core.Logic.{◌≢◌}
use mathlib.Core.Path.{◌∙◌, ◌≡◌, ap, ap₂, subst, sym}
use Prim.Native.Nat.{◌*◌, ◌+◌, ◌<◌, ℕ}
use native.Mathlib.Decide.{ℕ_discrete}
use native.Mathlib.Omega.{arith}
use lib.Dec.{eqb}
use lib.ListN.{get_or, length-set, set}
use lib.Seq.{get_or-set_other, get_or-set_same}
use Rattle.buffers.specs.Refusals.{first_fitting}
use Rattle.operations.specs.Used.{used_lines}
use Rattle.words.proofs.Flags.{both_true}
use Rattle.words.proofs.SearchLaws.{some-none, some-true}
use Rattle.words.specs.Search.{IsFirst}
use Rattle.store.proofs.Lookups.{by_name, found_nowhere, same-lookup}
use Rattle.store.proofs.Names.{TakenFor, names-once, once-names, taken-for}
use Rattle.store.proofs.SavePlaces.{named-place}
use Rattle.store.specs.Kept.{forgotten}
use Rattle.store.specs.Places.{
  Store,
  count_at,
  found,
  has_name,
  holds_name,
  is_held,
  lookup,
  name_at,
  nothing,
  part_at,
  place_at,
  place_of,
}
use Rattle.store.specs.internal.Passing.{Passing}

-- ---- a place made free
module _ (k : ℕ) (st : Store) (P : Passing k st) (name p : ℕ) (T : TakenFor k st.heads name p) where
  abbrev freed : Store
  freed = record { heads = set st.heads (3 * p) 0; neighbours = st.neighbours; codes = st.codes }

  free_own : (m : ℕ) → has_name freed.heads m p ≡ false
  free_own m = ap (λ c. not (eqb c 0) && eqb (name_at freed.heads p) m)
      (get_or-set_same st.heads (3 * p) 0 0 (omega (arith, T.below, P.heads-long)))

  kept_word : (j : ℕ) → j ≢ 3 * p → get_or freed.heads j 0 ≡ get_or st.heads j 0
  kept_word j h = get_or-set_other st.heads (3 * p) j 0 0 h

  kept-count : (i : ℕ) → (i ≡ p → ⊥) → count_at freed.heads i ≡ count_at st.heads i
  kept-count i h = kept_word (3 * i) (λ e. h (omega (arith, e)))

  kept-name : (m i : ℕ) → (i ≡ p → ⊥) → has_name freed.heads m i ≡ has_name st.heads m i
  kept-name m i h = ap₂ (λ c n. not (eqb c 0) && eqb n m) (kept-count i h)
      (kept_word (3 * i + 1) (λ e. omega (arith, e)))

  kept-place : (i : ℕ) → (i ≡ p → ⊥) → place_at freed i ≡ place_at st i
  kept-place i h = λ j. record {
    held = record {
      n = kept-count i h j;
      neighbours = part_at i (kept-count i h j) st.neighbours;
      codes = part_at i (kept-count i h j) st.codes;
    };
    used = kept_word (3 * i + 2) (λ e. omega (arith, e)) j;
  }

  freed-lookup : (m : ℕ) → lookup k freed m ≡ cond (eqb m name) nothing (lookup k st m)
  freed-lookup m = by_name m name
      (λ e. subst (λ n. lookup k freed n ≡ nothing) (sym e)
      (found_nowhere k freed name (some-none k (has_name freed.heads name) (λ i li. none i li (ℕ_discrete i p)))))
      (λ h. same-lookup k st freed m (λ i. others i h (ℕ_discrete i p))
      (λ i li e. kept-place i (λ s. true≢false (sym e ∙ subst (λ q. has_name st.heads m q ≡ false) (sym s)
      (T.no_other m h)))))
    where
      none : (i : ℕ) → i < k → Dec (i ≡ p) → has_name freed.heads name i ≡ false
      none i li (yes s) = ap (has_name freed.heads name) s ∙ free_own name
      none i li (no s) = kept-name name i s ∙ T.alone i li s

      others : (i : ℕ) → (m ≡ name → ⊥) → Dec (i ≡ p) → has_name freed.heads m i ≡ has_name st.heads m i
      others i h (yes s) = ap (has_name freed.heads m) s ∙ free_own m ∙ sym
          (ap (has_name st.heads m) s ∙ T.no_other m h)
      others i h (no s) = kept-name m i s

  freed-passing : Passing k freed
  freed-passing =
      record {
        heads-long = length-set st.heads (3 * p) 0 ∙ P.heads-long;
        words_long = P.words_long;
        codes-long = P.codes-long;
        records = λ i li h. by_place i li h (ℕ_discrete i p);
        once = once-names k freed.heads (λ m i j li lj a b. names-once k st.heads P.once m i j li lj
            (still m i a (ℕ_discrete i p)) (still m j b (ℕ_discrete j p)));
      }
    where
      by_place : (i : ℕ) → i < k → is_held freed.heads i ≡ true → Dec (i ≡ p)
          → first_fitting (used_lines (place_at freed i) false false false) ≡ 0
      by_place i li h (yes s) = absurd (true≢false (sym h ∙ ap (is_held freed.heads) s
          ∙ ap (λ c. not (eqb c 0)) (get_or-set_same st.heads (3 * p) 0 0 (omega (arith, T.below, P.heads-long)))))
      by_place i li h (no s) =
          ap (λ v. first_fitting (used_lines v false false false)) (kept-place i s)
          ∙ P.records i li (sym (ap (λ c. not (eqb c 0)) (kept-count i s)) ∙ h)

      still : (m i : ℕ) → has_name freed.heads m i ≡ true → Dec (i ≡ p) → has_name st.heads m i ≡ true
      still m i a (yes s) = absurd (true≢false (sym a ∙ ap (has_name freed.heads m) s ∙ free_own m))
      still m i a (no s) = sym (kept-name m i s) ∙ a

-- ---- a forget
module _ (k : ℕ) (st : Store) (P : Passing k st) (name : ℕ) (h : holds_name k st.heads name ≡ true) where
  F : IsFirst k (has_name st.heads name) (place_of k st.heads name)
  F = some-true k (has_name st.heads name) h

  T : TakenFor k st.heads name (place_of k st.heads name)
  T = subst (TakenFor k st.heads name) (named-place k st.heads name h)
      (taken-for k st.heads name (names-once k st.heads P.once)
      (subst (λ q. q < k) (sym (named-place k st.heads name h)) F.below))

  pub forgotten-lookup : (m : ℕ) → lookup k (forgotten k name st) m ≡ cond (eqb m name) nothing (lookup k st m)
  forgotten-lookup = freed-lookup k st P name (place_of k st.heads name) T

  pub forgotten-passing : Passing k (forgotten k name st)
  forgotten-passing = freed-passing k st P name (place_of k st.heads name) T

  -- and what a name that is held names
  pub held-lookup : lookup k st name ≡ found (place_at st (place_of k st.heads name))
  held-lookup = ap (λ b. cond b (found (place_at st (place_of k st.heads name))) nothing) h

  pub held-passes : first_fitting (used_lines (place_at st (place_of k st.heads name)) false false false) ≡ 0
  held-passes = P.records (place_of k st.heads name) F.below
      (both_true (is_held st.heads (place_of k st.heads name)) _ F.passes).0
