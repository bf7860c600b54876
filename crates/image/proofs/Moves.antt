-- What the next complementations of the image rule are, and that there is one answer.
use mathlib.Core.Bool.{Bool, cond, false, true}
use mathlib.Core.List.{List, [], ◌∷◌}
use mathlib.Core.Logic.{inl, inr, ◌⊎◌}
use mathlib.Core.Path.{ap, ap₂, subst, sym, ◌∙◌, ◌≡◌}
use Prim.Native.Nat.{◌<◌, ℕ}
use Rattle.words.proofs.SearchLaws.{first-is, first-unique, some-false, some_in, some-none, some-true}
use Rattle.words.specs.Search.{IsFirst, first, some}
use Rattle.image.specs.Rule.{State, both, has_pair, moves, pivot_move, complement_move, triple}

pub data Move (n : ℕ) (S : State) : List ℕ → Type 0 where
  -- the smallest vertex with both bits 1
  alone : (v : ℕ) → IsFirst n (both S) v → Move n S (v ∷ [])
  -- no such vertex: the smallest j, then the smallest k, of an edge with C = 1 and D = 0 at both ends
  joined : (j k : ℕ) → ((v : ℕ) → v < n → both S v ≡ false) → IsFirst n (has_pair n S) j
      → IsFirst n (pivot_move S j) k →
      Move n S (j ∷ k ∷ j ∷ [])
  -- neither
  stop : ((v : ℕ) → v < n → both S v ≡ false) → ((j k : ℕ) → j < n → k < n → pivot_move S j k ≡ false) → Move n S []

module _ (n : ℕ) (S : State) where
  first_some : (f : ℕ → Bool) (i : ℕ) → IsFirst n f i → some n f ≡ true
  first_some f i F = some_in n f i F.below F.passes

  pub moves-unique : {ms : List ℕ} → Move n S ms → moves n S ≡ ms
  unfolding moves
  moves-unique (alone v F) =
      ap (λ b. cond b (complement_move n S) (cond (some n (has_pair n S)) (triple n S) [])) (first_some (both S) v F)
      ∙ ap (λ v. v ∷ []) (first-unique n (both S) v F)
  moves-unique (joined j k none J K) =
      ap₂ (λ a b. cond a (complement_move n S) (cond b (triple n S) [])) (some-none n (both S) none)
      (first_some (has_pair n S) j J)
      ∙ ap (λ j. j ∷ first n (pivot_move S j) ∷ j ∷ []) (first-unique n (has_pair n S) j J)
      ∙ ap (λ k. j ∷ k ∷ j ∷ []) (first-unique n (pivot_move S j) k K)
  moves-unique (stop none apart) =
      ap₂ (λ a b. cond a (complement_move n S) (cond b (triple n S) [])) (some-none n (both S) none)
      (some-none n (has_pair n S) (λ j l. some-none n (pivot_move S j) (λ k m. apart j k l m)))

  exact : {ms : List ℕ} → Move n S ms → Move n S (moves n S)
  exact M = subst (Move n S) (sym (moves-unique M)) M

  pub moves-are : Move n S (moves n S)
  moves-are = go (first-is n (both S)) (first-is n (has_pair n S))
    where
      go : IsFirst n (both S) (first n (both S)) ⊎ ((i : ℕ) → i < n → both S i ≡ false)
          → IsFirst n (has_pair n S) (first n (has_pair n S)) ⊎ ((i : ℕ) → i < n → has_pair n S i ≡ false)
          → Move n S (moves n S)
      go (inl F) c = exact (alone _ F)
      go (inr none) (inl J) = exact (joined _ _ none J (some-true n (pivot_move S _) J.passes))
      go (inr none) (inr apart) = exact (stop none (λ j k l m. some-false n (pivot_move S j) (apart j l) k m))
