-- The parts of the reduced graphs of two lists.
use mathlib.Core.Bool.{Bool, false, false≢true, true, true≢false, ◌||◌}
use mathlib.Core.List.{[], ◌∷◌}
use mathlib.Core.Logic.{◌↔◌, inl, inr, ◌⊎◌}
use mathlib.Core.Path.{ap, refl, subst, sym, ◌∙◌, ◌≡◌}
use Prim.Native.Nat.{◌<◌, ℕ}
use native.Mathlib.Omega.{arith}
use lib.Dec.{ltb}
use borrow.Author.Tests.{le-ltb, lt-ltb, ltb-false, ltb-true}
use Rattle.buffers.proofs.Lines.{fits, more-accepted, none-fits, passed}
use Rattle.buffers.specs.Refusals.{first_fitting, line}
use Rattle.clifford.specs.Clifford.{Clifford}
use Rattle.comparison.proofs.ChoicesByParts.{on-groups, works-by-parts}
use Rattle.comparison.specs.Choices.{no_choice}
use Rattle.comparison.specs.Compared.{has_large_part, pair_lines}
use Rattle.comparison.specs.PartChoices.{CarriesOn}
use Rattle.comparison.proofs.SameParts.{carried-parts}
use Rattle.comparison.specs.Parts.{part_above, part_of}
use Rattle.pauli.specs.Pauli.{Pauli}
use Rattle.record.proofs.ReducedRecords.{reduced-is, same-group}
use Rattle.record.specs.Records.{rows_of}
use Rattle.record.specs.Reduced.{reduced, reduced_graph}
use Rattle.stabilizer.proofs.Accepted.{accepted-list}
use Rattle.stabilizer.proofs.Carried.{carries-moved}
use Rattle.stabilizer.proofs.GroupLaws.{same-sym}
use Rattle.stabilizer.specs.Carries.{Carries}
use Rattle.stabilizer.specs.Groups.{Proper, SameGroup}
use Rattle.stabilizer.specs.Lists.{GeneratorList, rows}
use Rattle.calls.proofs.PairLines.{pair-numbered}
use Rattle.words.proofs.Flags.{either}
use Rattle.words.proofs.SearchLaws.{some-false, some_in, some-none, some-true}
use Rattle.words.specs.Search.{first}
use Rattle.claims.specs.PartsDemand.{
  AcceptedLists,
  EquivalentHaveSameParts,
  LargePart,
  LargePartsRefused,
  PartsDecide,
  SmallParts,
  part_size,
}

-- ---- groups alone matter
module _ (n : ℕ) (R S : ℕ → Pauli) (P : Proper n R) (Q : Proper n S) where
  first_group : SameGroup n n R (rows_of n (reduced n R))
  first_group = same-group n R P

  second_group : SameGroup n n S (rows_of n (reduced n S))
  second_group = same-group n S Q

  equivalent-parts : (c : ℕ → Clifford) → Carries n c R S → (q t : ℕ)
      → part_of n (reduced_graph n R) q t ≡ part_of n (reduced_graph n S) q t
  equivalent-parts c C =
      carried-parts n (reduced n R) (reduced n S) (reduced-is n R P).simple (reduced-is n S Q).simple c
      (carries-moved n R S (rows_of n (reduced n R)) (rows_of n (reduced n S)) first_group second_group c C)

  works-exactly : ((c : ℕ → Clifford) × Carries n c R S)
      ↔ ((q : ℕ) → q < n → (c : ℕ → Clifford) × CarriesOn n (part_of n (reduced_graph n R) q) c R S)
  works-exactly = (
    (λ w q l. let h = both.0 (
      w.0,
      carries-moved n R S (rows_of n (reduced n R)) (rows_of n (reduced n S))
          first_group second_group w.0 w.1,
    ) q l in (
      h.0,
      on-groups n (part_of n (reduced_graph n R) q) h.0 (rows_of n (reduced n R)) R (rows_of n (reduced n S)) S
          (same-sym first_group) (same-sym second_group) h.1,
    )),
    (λ f. let h = both.1 (λ q l. (
      (f q l).0,
      on-groups n (part_of n (reduced_graph n R) q) (f q l).0 R
          (rows_of n (reduced n R)) S (rows_of n (reduced n S)) first_group second_group (f q l).1,
    )) in (
      h.0,
      carries-moved n (rows_of n (reduced n R)) (rows_of n (reduced n S)) R S (same-sym first_group)
          (same-sym second_group) h.0 h.1,
    )),
  )
    where
      both : ((c : ℕ → Clifford) × Carries n c (rows_of n (reduced n R)) (rows_of n (reduced n S)))
          ↔ ((q : ℕ) → q < n → (c : ℕ → Clifford)
          × CarriesOn n (part_of n (reduced_graph n R) q) c (rows_of n (reduced n R)) (rows_of n (reduced n S)))
      both = works-by-parts n (reduced n R) (reduced n S) (reduced-is n R P).simple (reduced-is n S Q).simple

-- ---- two lists
module _ (l m : GeneratorList) (A : AcceptedLists l m) where
  proper-first : Proper l.n (rows l)
  proper-first = (accepted-list l false A.first).proper

  proper-second : Proper l.n (rows m)
  proper-second = subst (λ k. Proper k (rows m)) (sym A.same_count) (accepted-list m false A.second).proper

pub equivalent-have-same-parts : EquivalentHaveSameParts
equivalent-have-same-parts l m A c C q t =
    equivalent-parts l.n (rows l) (rows m) (proper-first l m A) (proper-second l m A) c C q t
    ∙ ap (λ k. part_of k (reduced_graph k (rows m)) q t) A.same_count

pub parts-decide : PartsDecide
parts-decide l m A agree = works-exactly l.n (rows l) (rows m) (proper-first l m A) (proper-second l m A)

-- ---- sizes
pub no-large : (l : GeneratorList) → SmallParts l → has_large_part l ≡ false
unfolding part_above
no-large l S = some-none l.n (λ q. ltb 20 (part_size l q)) (λ q k. le-ltb 20 (part_size l q) (S q k))

pub small-parts : (l : GeneratorList) → has_large_part l ≡ false → SmallParts l
unfolding part_above
small-parts l e q k = ltb-false 20 (part_size l q) (some-false l.n (λ q. ltb 20 (part_size l q)) e q k)

pub large-exactly : (l : GeneratorList) → (has_large_part l ≡ true) ↔ LargePart l
unfolding part_above
large-exactly l = (
  (λ e. let F = some-true l.n (λ q. ltb 20 (part_size l q)) e in
      (first l.n (λ q. ltb 20 (part_size l q)), F.below, ltb-true 20 _ F.passes)),
  (λ w. some_in l.n (λ q. ltb 20 (part_size l q)) w.0 w.1 (lt-ltb 20 (part_size l w.0) w.2)),
)

pub large-parts-refused : LargePartsRefused
large-parts-refused l m choice list counted r choice' list' counted' C e =
    go (has_large_part l || has_large_part m) refl
  where
    number : r ≡ first_fitting (line 3 (has_large_part l || has_large_part m)
        ∷ line 13 (no_choice l.n (rows l) (rows m)) ∷ [])
    number = C.number ∙ more-accepted (pair_lines l m choice list) _ (pair-numbered l m choice list) e

    one : (has_large_part l ≡ true) ⊎ (has_large_part m ≡ true) → LargePart l ⊎ LargePart m
    one (inl h) = inl ((large-exactly l).0 h)
    one (inr h) = inr ((large-exactly m).0 h)

    none : (has_large_part l || has_large_part m) ≡ false → LargePart l ⊎ LargePart m → ⊥
    none h (inl w) = clash (has_large_part l) (has_large_part m) ((large-exactly l).1 w) h
      where
        clash : (a b : Bool) → a ≡ true → (a || b) ≡ false → ⊥
        clash true b x y = true≢false y
        clash false b x y = false≢true x
    none h (inr w) = clash (has_large_part l) (has_large_part m) ((large-exactly m).1 w) h
      where
        clash : (a b : Bool) → b ≡ true → (a || b) ≡ false → ⊥
        clash true b x y = true≢false y
        clash false b x y = true≢false (sym x ∙ y)

    other : (b : Bool) → no_choice l.n (rows l) (rows m) ≡ b → (has_large_part l || has_large_part m) ≡ false → r ≡ 3 → ⊥
    other true k h x = differ (number ∙ passed 3 _ h ∙ fits 13 _ k) x
      where
        differ : r ≡ 13 → r ≡ 3 → ⊥
        differ x y = omega (arith, x, y)
    other false k h x = differ (number ∙ passed 3 _ h ∙ passed 13 _ k ∙ none-fits) x
      where
        differ : r ≡ 0 → r ≡ 3 → ⊥
        differ x y = omega (arith, x, y)

    go : (b : Bool) → (has_large_part l || has_large_part m) ≡ b → (r ≡ 3) ↔ (LargePart l ⊎ LargePart m)
    go true h = ((λ _. one (either (has_large_part l) (has_large_part m) h)), (λ _. number ∙ fits 3 _ h))
    go false h = (
      (λ x. absurd (other (no_choice l.n (rows l) (rows m)) refl h x)),
      (λ w. absurd (none h w)),
    )
