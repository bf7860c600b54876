-- What line 7 means: some vertex is its own neighbour, or some edge has one end only.
use mathlib.Core.Bool.{Bool, false, not, or-true, true, true≢false, ◌||◌}
use mathlib.Core.Logic.{inl, inr, ◌↔◌, ◌⊎◌}
use mathlib.Core.Path.{ap, ap₂, refl, sym, ◌∙◌, ◌≡◌}
use Prim.Native.Nat.{◌<◌, ℕ}
use borrow.Author.Tests.{not-false, not-true}
use Rattle.record.specs.Graph.{Graph}
use Rattle.words.proofs.Flags.{either, neither, same_bit-true, true-same_bit}
use Rattle.words.proofs.SearchLaws.{some-false, some_in, some-none, some-true}
use Rattle.words.specs.Bits.{same_bit}
use Rattle.words.specs.Search.{first, some}
use Rattle.record.specs.Lent.{not_simple}

-- a vertex that spoils the graph
abbrev pub BadVertex : ℕ → Graph → Type 0
BadVertex n θ =
    (i : ℕ) × (i < n) × ((θ i i ≡ true) ⊎ ((j : ℕ) × (j < n) × (θ i j ≡ θ j i → ⊥)))

abbrev bad_at : ℕ → Graph → ℕ → Bool
bad_at n θ i = θ i i || some n (λ j. not (same_bit (θ i j) (θ j i)))

differing : (a b : Bool) → not (same_bit a b) ≡ true → a ≡ b → ⊥
differing a b e h = true≢false (sym (same_bit-true h) ∙ not-true (same_bit a b) e)

differing-back : (a b : Bool) → (a ≡ b → ⊥) → not (same_bit a b) ≡ true
differing-back false false h = absurd (h refl)
differing-back false true h = refl
differing-back true false h = refl
differing-back true true h = absurd (h refl)

pub not-simple-vertex : (n : ℕ) (θ : Graph) → (not_simple n θ ≡ true) ↔ BadVertex n θ
unfolding not_simple
not-simple-vertex n θ = (forth, back)
  where
    forth : some n (bad_at n θ) ≡ true → BadVertex n θ
    forth e =
        let F = some-true n (bad_at n θ) e in
        let i = first n (bad_at n θ) in (
          i,
          F.below,
          elim (either (θ i i) (some n (λ j. not (same_bit (θ i j) (θ j i)))) F.passes) [
            | inl own ↦ inl own
            | inr ends ↦ let G = some-true n (λ j. not (same_bit (θ i j) (θ j i))) ends in
                inr (
                  first n (λ j. not (same_bit (θ i j) (θ j i))),
                  G.below,
                  differing (θ i _) (θ _ i) G.passes,
                )
          ],
        )

    back : BadVertex n θ → some n (bad_at n θ) ≡ true
    back (i, l, inl own) =
        some_in n (bad_at n θ) i l (ap (λ b. b || some n (λ j. not (same_bit (θ i j) (θ j i)))) own)
    back (i, l, inr (j, k, h)) =
        some_in n (bad_at n θ) i l
        (ap (λ b. θ i i || b) (some_in n (λ j. not (same_bit (θ i j) (θ j i))) j k
        (differing-back (θ i j) (θ j i) h)) ∙ or-true (θ i i))

-- symmetric and without own neighbours on the vertices below n
pub record SimpleBelow (n : ℕ) (θ : Graph) : Type 0 where
  pub symmetric : (i j : ℕ) → i < n → j < n → θ i j ≡ θ j i
  pub loopless : (i : ℕ) → i < n → θ i i ≡ false

pub simple-exactly : (n : ℕ) (θ : Graph) → (not_simple n θ ≡ false) ↔ SimpleBelow n θ
unfolding not_simple
simple-exactly n θ = (
  (λ e. let at : (i : ℕ) → i < n → (θ i i ≡ false) × (some n (λ j. not (same_bit (θ i j) (θ j i))) ≡ false) =
      λ i k. neither (θ i i) _ (some-false n (bad_at n θ) e i k) in
      record {
        symmetric = λ i j k l. true-same_bit (θ i j) (θ j i) (not-false (same_bit (θ i j) (θ j i))
            (some-false n (λ j. not (same_bit (θ i j) (θ j i))) (at i k).1 j l));
        loopless = λ i k. (at i k).0;
      }),
  (λ S. some-none n (bad_at n θ) (λ i k. ap₂ ◌||◌ (S.loopless i k)
      (some-none n (λ j. not (same_bit (θ i j) (θ j i)))
      (λ j l. ap not (same_bit-true (S.symmetric i j k l)))))),
)
