-- A name held once, and the place that a save takes beside it.
use mathlib.Core.Bool.{◌&&◌, Bool, false, not, true, true≢false}
use mathlib.Core.List.{List}
use mathlib.Core.Logic.{inl, inr}
use mathlib.Core.Path.{ap, refl, subst, sym, ◌∙◌, ◌≡◌}
use Prim.Native.Nat.{◌<◌, ℕ}
use native.Mathlib.Nat.{eq-or-lt_of_le, lt_irrefl, lt_trans}
use lib.Dec.{eqb}
use borrow.Author.Tests.{eqb-true, not-true}
use Rattle.words.proofs.Flags.{both_true, never_true}
use Rattle.words.proofs.Places.{same_place}
use Rattle.words.proofs.SearchLaws.{some-false, some_in, some-true}
use Rattle.words.proofs.Searching.{below-some}
use Rattle.words.proofs.Sums.{lt-or-ge}
use Rattle.words.specs.Search.{IsFirst, first}
use Rattle.store.proofs.SavePlaces.{named-place, new-place}
use Rattle.store.specs.Kept.{save_place}
use Rattle.store.specs.Places.{free_place, has_name, holds_name, is_held, name_at, named_twice, place_of}

module _ (k : ℕ) (heads : List ℕ) where
  -- a name is held at one place only
  abbrev pub Once : Type 0
  Once = (m i j : ℕ) → i < k → j < k → has_name heads m i ≡ true → has_name heads m j ≡ true → i ≡ j

  abbrev twice_at : ℕ → Bool
  twice_at i = is_held heads i && holds_name i heads (name_at heads i)

  -- not before i, where i holds the name
  not-before : named_twice k heads ≡ false → (m i j : ℕ) → i < k → j < i → has_name heads m i ≡ true
      → has_name heads m j ≡ true → ⊥
  not-before e m i j l h a b =
      let p = both_true (is_held heads i) (eqb (name_at heads i) m) a in
      let name = eqb-true (name_at heads i) m p.1 in
      true≢false (sym (some_in k twice_at i l
      (ap (λ v. v && holds_name i heads (name_at heads i)) p.0
      ∙ some_in i (has_name heads (name_at heads i)) j h (subst (λ n. has_name heads n j ≡ true) (sym name) b))) ∙ e)

  pub names-once : named_twice k heads ≡ false → Once
  names-once e m i j l h a b = elim (lt-or-ge i j) [
    | inl s ↦ absurd (not-before e m j i h s b a)
    | inr s ↦ elim (eq-or-lt_of_le s) [
      | inl p ↦ sym p
      | inr t ↦ absurd (not-before e m i j l t a b)
    ]
  ]

  pub once-names : Once → named_twice k heads ≡ false
  once-names O = never_true (named_twice k heads) (λ e. at (first k twice_at) (some-true k twice_at e))
    where
      at : (i : ℕ) → IsFirst k twice_at i → ⊥
      at i F =
          let p = both_true (is_held heads i) (holds_name i heads (name_at heads i)) F.passes in
          let G = some-true i (has_name heads (name_at heads i)) p.1 in
          lt_irrefl i (subst (λ t. t < i) (O (name_at heads i) (first i (has_name heads (name_at heads i))) i
          (lt_trans G.below F.below) F.below G.passes
          (ap (λ b. b && eqb (name_at heads i) (name_at heads i)) p.0 ∙ same_place (name_at heads i))) G.below)

-- a place that holds no other name, where no other place holds the name
pub record TakenFor (k : ℕ) (heads : List ℕ) (name p : ℕ) : Type 0 where
  pub below : p < k
  pub no_other : (m : ℕ) → (m ≡ name → ⊥) → has_name heads m p ≡ false
  pub alone : (i : ℕ) → i < k → (i ≡ p → ⊥) → has_name heads name i ≡ false

-- a save's place is one
module _ (k : ℕ) (heads : List ℕ) (name : ℕ) (O : Once k heads) (l : save_place k heads name < k) where
  named : (p : ℕ) → p < k → has_name heads name p ≡ true → TakenFor k heads name p
  named p lp e =
      record {
        below = lp;
        no_other = λ m h. never_true (has_name heads m p) (λ t.
            h (sym (eqb-true (name_at heads p) m (both_true (is_held heads p) (eqb (name_at heads p) m) t).1)
            ∙ eqb-true (name_at heads p) name (both_true (is_held heads p) (eqb (name_at heads p) name) e).1));
        alone = λ i li h. never_true (has_name heads name i) (λ t. h (O name i p li lp t e));
      }

  free : (p : ℕ) → p < k → not (is_held heads p) ≡ true → holds_name k heads name ≡ false → TakenFor k heads name p
  free p lp e none =
      record {
        below = lp;
        no_other = λ m h. ap (λ b. b && eqb (name_at heads p) m) (not-true (is_held heads p) e);
        alone = λ i li h. some-false k (has_name heads name) none i li;
      }

  pub taken-for : TakenFor k heads name (save_place k heads name)
  taken-for = go (holds_name k heads name) refl
    where
      go : (b : Bool) → holds_name k heads name ≡ b → TakenFor k heads name (save_place k heads name)
      go true e =
          let F = some-true k (has_name heads name) e in
          subst (TakenFor k heads name) (sym (named-place k heads name e))
          (named (place_of k heads name) F.below F.passes)
      go false e =
          let f = subst (λ q. q < k) (new-place k heads name e) l in
          let F = some-true k (λ j. not (is_held heads j)) (below-some k (λ j. not (is_held heads j)) f) in
          subst (TakenFor k heads name) (sym (new-place k heads name e)) (free (free_place k heads) f F.passes e)
