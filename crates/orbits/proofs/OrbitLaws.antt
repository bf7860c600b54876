-- "The list rises by number and holds each reachable graph exactly once and no other."
use mathlib.Core.Bool.{true}
use mathlib.Core.List.{List}
use mathlib.Core.Logic.{inl, inr, ◌↔◌, ◌⊎◌}
use mathlib.Core.Path.{ap, subst, sym, ◌∙◌, ◌≡◌}
use Prim.Native.Nat.{◌<◌, ◌≤◌, ℕ}
use native.Mathlib.Nat.{le_trans}
use native.Mathlib.Omega.{arith}
use lib.ListN.{get_or, length}
use Rattle.cut.proofs.Counting.{count-upto}
use Rattle.record.proofs.Complement.{complement-simple}
use Rattle.record.specs.Graph.{Graph, Simple}
use Rattle.words.proofs.Sums.{lt-or-ge}
use Rattle.orbits.proofs.Complements.{complement-graph, complement-number}
use Rattle.orbits.proofs.GraphNumbers.{graph-number, number-graph, number_lt}
use Rattle.orbits.proofs.Pairs.{graphs-fit}
use Rattle.orbits.proofs.Reaching.{reached, reached-all, reached-closed, reached-start}
use Rattle.orbits.proofs.Selecting.{on-selected, selected-length, selected-on, selected-rises}
use Rattle.orbits.specs.Numbers.{graph_at, graph_count, graph_number}
use Rattle.orbits.specs.Orbits.{On, Reached, Rising, here, orbit_list, then}

pub orbit-rises : (n g : ℕ) → Rising (orbit_list n g)
unfolding orbit_list
orbit-rises n g = selected-rises (graph_count n) (reached n g)

-- it fits into the lent buffer
pub orbit-length : (n g : ℕ) → n ≤ 6 → length (orbit_list n g) ≤ 32768
unfolding orbit_list
orbit-length n g few =
    subst (λ k. k ≤ 32768) (sym (selected-length (graph_count n) (reached n g)))
    (le_trans (count-upto (graph_count n) (reached n g)) (graphs-fit n few))

-- so a number stands on it once
pub rises-once : (l : List ℕ) → Rising l → (i j : ℕ) → i < length l → j < length l → get_or l i 0 ≡ get_or l j 0 → i ≡ j
rises-once l R i j a b e = go (lt-or-ge i j) (lt-or-ge j i)
  where
    apart : (u v : ℕ) → u ≡ v → u < v → ⊥
    apart u v e l = omega arith

    go : (i < j) ⊎ (j ≤ i) → (j < i) ⊎ (i ≤ j) → i ≡ j
    go (inl m) s = absurd (apart _ _ e (R i j m b))
    go (inr m) (inl k) = absurd (apart _ _ (sym e) (R j i k a))
    go (inr m) (inr k) = omega arith

pub reached-simple : {n : ℕ} {θ φ : Graph} → Simple n θ → Reached n θ φ → Simple n φ
reached-simple S here = S
reached-simple {n} S (then {φ} R a l) = complement-simple n φ (reached-simple S R) a

module _ (n : ℕ) (few : n ≤ 6) (θ : Graph) (S : Simple n θ) where
  abbrev g : ℕ
  g = graph_number n θ

  -- a graph that is reached has a number that is reached
  pub number-reached : {φ : Graph} → Reached n θ φ → reached n g (graph_number n φ) ≡ true
  number-reached here = reached-start n g (number_lt n θ) (graph_count n)
  number-reached (then {φ} R a l) =
      ap (reached n g) (sym (complement-number n few φ (reached-simple S R) a))
      ∙ reached-closed n g (number_lt n θ) few (graph_number n φ) a (number_lt n φ) l (number-reached R)

  -- and back
  graph-reached : (h : ℕ) → h < graph_count n → reached n g h ≡ true → Reached n θ (graph_at n h)
  graph-reached =
      reached-all n g few (λ h. Reached n θ (graph_at n h)) (subst (Reached n θ) (sym (number-graph n few θ S)) here)
      (λ h a l m R. subst (Reached n θ) (sym (complement-graph n few h a)) (then R a m)) (graph_count n)

  -- "holds each reachable graph .. and no other"
  pub orbit-exactly : (h : ℕ) → On (orbit_list n g) h ↔ ((h < graph_count n) × Reached n θ (graph_at n h))
  unfolding orbit_list
  orbit-exactly h = (forth, back)
    where
      forth : On (orbit_list n g) h → (h < graph_count n) × Reached n θ (graph_at n h)
      forth o = let k = selected-on (graph_count n) (reached n g) h o in (k.0, graph-reached h k.0 k.1)

      back : (h < graph_count n) × Reached n θ (graph_at n h) → On (orbit_list n g) h
      back (l, R) =
          on-selected (graph_count n) (reached n g) h l
          (ap (reached n g) (sym (graph-number n few h l)) ∙ number-reached R)

  pub orbit-reached : (φ : Graph) → Simple n φ → On (orbit_list n g) (graph_number n φ) ↔ Reached n θ φ
  orbit-reached φ R = (
    (λ o. subst (Reached n θ) (number-graph n few φ R) ((orbit-exactly (graph_number n φ)).0 o).1),
    (λ r. (orbit-exactly (graph_number n φ)).1
        (number_lt n φ, subst (Reached n θ) (sym (number-graph n few φ R)) r)),
  )
