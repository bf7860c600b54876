-- The place that a save takes: it is there exactly if not all places hold other names.
use mathlib.Core.Bool.{◌&&◌, Bool, cond, false, not, true, true≢false}
use mathlib.Core.List.{List}
use mathlib.Core.Path.{ap, refl, subst, sym, ◌∙◌, ◌≡◌}
use Prim.Native.Nat.{◌<◌, ◌≤◌, ℕ}
use native.Mathlib.Nat.{not-le_of_lt}
use lib.Dec.{eqb}
use Rattle.words.proofs.Flags.{never_true}
use Rattle.words.proofs.SearchLaws.{every-at, every_in, some-false, some-true}
use Rattle.words.proofs.Searching.{above-none, below-some}
use Rattle.store.specs.Kept.{save_place}
use Rattle.store.specs.Places.{free_place, has_name, holds_name, is_held, name_at, others_held, place_of}

module _ (k : ℕ) (heads : List ℕ) (name : ℕ) where
  -- the name is held: its place; it is not: the first free one
  pub named-place : holds_name k heads name ≡ true → save_place k heads name ≡ place_of k heads name
  named-place e = ap (λ b. cond b (place_of k heads name) (free_place k heads)) e

  pub new-place : holds_name k heads name ≡ false → save_place k heads name ≡ free_place k heads
  new-place e = ap (λ b. cond b (place_of k heads name) (free_place k heads)) e

  -- no place: all hold other names
  other : (h e : Bool) → (h && e) ≡ false → not h ≡ false → (h && not e) ≡ true
  other true true a b = absurd (true≢false a)
  other true false a b = refl
  other false e a b = absurd (true≢false b)

  module _ (l : k ≤ save_place k heads name) where
    not_named : holds_name k heads name ≡ false
    not_named = never_true _ (λ e. not-le_of_lt (some-true k (has_name heads name) e).below
        (subst (λ p. k ≤ p) (named-place e) l))

    pub full : others_held k heads name ≡ true
    full = every_in k _ (λ i h. other (is_held heads i) (eqb (name_at heads i) name)
        (some-false k (has_name heads name) not_named i h)
        (some-false k (λ j. not (is_held heads j)) (above-none k _ (subst (λ p. k ≤ p) (new-place not_named) l)) i h))

  -- a place: one of them holds the name, or is free
  module _ (l : save_place k heads name < k) where
    not-other : (h e : Bool) → (h && not e) ≡ true → (h && e) ≡ false × (not h ≡ false)
    not-other true true a = absurd (true≢false (sym a))
    not-other true false a = (refl, refl)
    not-other false e a = absurd (true≢false (sym a))

    pub not_full : others_held k heads name ≡ false
    not_full = never_true _ (λ e. none e (holds_name k heads name) refl)
      where
        none : others_held k heads name ≡ true → (b : Bool) → holds_name k heads name ≡ b → ⊥
        none e true h =
            let F = some-true k (has_name heads name) h in
            true≢false (sym F.passes
            ∙ (not-other (is_held heads (place_of k heads name)) (eqb (name_at heads (place_of k heads name)) name)
            (every-at k (λ i. is_held heads i && not (eqb (name_at heads i) name)) e (place_of k heads name)
            F.below)).0)
        none e false h =
            let F = some-true k (λ j. not (is_held heads j))
            (below-some k (λ j. not (is_held heads j)) (subst (λ p. p < k) (new-place h) l)) in
            true≢false (sym F.passes
            ∙ (not-other (is_held heads (free_place k heads)) (eqb (name_at heads (free_place k heads)) name)
            (every-at k (λ i. is_held heads i && not (eqb (name_at heads i) name)) e (free_place k heads) F.below)).1)
