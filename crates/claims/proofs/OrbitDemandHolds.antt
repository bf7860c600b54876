-- The demand on orbits, from the contract of the call, the laws of orbits and demand 3.
use mathlib.Core.Bool.{false}
use mathlib.Core.List.{List}
use mathlib.Core.Logic.{◌↔◌}
use mathlib.Core.Path.{ap, ap₂, fun_ext, refl, subst, sym, ◌∙◌, ◌≡◌}
use Prim.Native.Nat.{◌<◌, ◌≤◌, ℕ}
use native.Mathlib.Nat.{le_trans}
use native.Mathlib.Omega.{arith}
use lib.Dec.{lit≤}
use lib.ListN.{drop, length, take}
use lib.Seq.{drop_at, get_or-take, take_at}
use Rattle.buffers.specs.Refusals.{first_fitting}
use Rattle.calls.proofs.AcceptedGraphs.{AcceptedGraph, accepted-graph, simple-graph}
use Rattle.calls.specs.Orbits.{orbit_call, orbit_lines, orbit_of}
use Rattle.calls.specs.Comparisons.{compare_call}
use Rattle.buffers.specs.Calls.{Call}
use Rattle.record.specs.Graph.{Simple}
use Rattle.record.specs.NeighbourWords.{graph_in}
use Rattle.orbits.proofs.OrbitLaws.{orbit-exactly, orbit-length, orbit-reached, orbit-rises, rises-once}
use Rattle.orbits.specs.Numbers.{graph_at, graph_count, graph_number}
use Rattle.orbits.specs.Orbits.{On, Reached, Rising}
use Rattle.record.specs.Records.{rows_of}
use Rattle.record.specs.Reduced.{reduced_graph}
use Rattle.stabilizer.proofs.Accepted.{accepted-list}
use Rattle.stabilizer.specs.Groups.{Proper, SameGroup}
use Rattle.stabilizer.specs.Lists.{GeneratorList, rows}
use Rattle.claims.proofs.ReachedStates.{each-reached, plain-reduced, reached-back, reached-carries}
use Rattle.claims.proofs.ThirdDemandHolds.{third-demand-to-20}
use Rattle.claims.specs.OrbitDemand.{Describes, Listed, OrbitsListed, SameListExactly, plain}
use Rattle.claims.specs.ThirdDemand.{AcceptedPair, Decided, complement_each}

-- ---- the list
module _ (n : ℕ) (neighbours list : List ℕ) (count : ℕ) (list' : List ℕ) (count' : ℕ)
    (C : Call (orbit_call n neighbours list count list' count') 0) where
  accepted : AcceptedGraph n neighbours list
  accepted = accepted-graph n neighbours list (sym C.number)

  simple : Simple n (graph_in neighbours)
  simple = simple-graph accepted

  the-list : take count' list' ≡ orbit_of n neighbours
  the-list =
      ap₂ take C.held.1.0 C.held.0
      ∙ take_at (orbit_of n neighbours) (drop (length (orbit_of n neighbours)) list) (length (orbit_of n neighbours)) refl

  pub listed : Listed n neighbours list list' count'
  listed = record {
    rises = rising;
    exactly = λ h. subst (λ l. On l h ↔ ((h < graph_count n) × Reached n (graph_in neighbours) (graph_at n h)))
        (sym the-list)
        (orbit-exactly n accepted.few (graph_in neighbours) simple h);
    once = λ i j k l e. rises-once (take count' list') rising i j (at k) (at l)
        (get_or-take count' list' i 0 k ∙ e ∙ sym (get_or-take count' list' j 0 l));
    fits = subst (λ k. k ≤ 32768) (sym C.held.1.0) (orbit-length n _ accepted.few);
    past = ap₂ drop C.held.1.0 C.held.0
        ∙ drop_at (orbit_of n neighbours) (drop (length (orbit_of n neighbours)) list) (length (orbit_of n neighbours))
        refl
        ∙ ap (λ k. drop k list) (sym C.held.1.0);
  }
    where
      rising : Rising (take count' list')
      rising = subst Rising (sym the-list) (orbit-rises n (graph_number n (graph_in neighbours)))

      at : {i : ℕ} → i < count' → i < length (take count' list')
      at {i} l = subst (λ k. i < k) (C.held.1.0 ∙ ap length (sym the-list)) l

pub orbits-listed : OrbitsListed
orbits-listed = listed

-- ---- and the comparison
module _ (l m : GeneratorList) (first second list : List ℕ) (count : ℕ) (list' : List ℕ) (count' : ℕ)
    (C : Call (orbit_call l.n first list count list' count') 0)
    (second-accepted : first_fitting (orbit_lines l.n second list) ≡ 0)
    (E : Describes l (graph_in first)) (F : Describes m (graph_in second))
    (choice vertices : List ℕ) (size r : ℕ) (choice' vertices' : List ℕ) (size' : ℕ)
    (A : AcceptedPair l m choice vertices)
    (D : Call (compare_call l m choice vertices size choice' vertices' size') r) where
  few : l.n ≤ 6
  few = (accepted l.n first list count list' count' C).few

  one : Simple l.n (graph_in first)
  one = simple l.n first list count list' count' C

  two : Simple l.n (graph_in second)
  two = simple-graph (accepted-graph l.n second list second-accepted)

  -- the second list, on the first's number of qubits
  described : SameGroup l.n l.n (rows m) (rows_of l.n (plain (graph_in second)))
  described = subst (λ k. SameGroup k k (rows m) (rows_of k (plain (graph_in second)))) (sym A.same_count) F

  decided : Decided l m vertices r choice' vertices' size'
  decided =
      third-demand-to-20 l m choice vertices size r choice' vertices' size' D A (le_trans few (lit≤ tt))

  -- the list of the comparison leads from the one graph to the other
  compared : r ≡ 0 → Reached l.n (graph_in first) (graph_in second)
  compared z =
      subst (Reached l.n (graph_in first)) leads (each-reached (graph_in first) one (take size' vertices'))
    where
      from : reduced_graph l.n (rows l) ≡ graph_in first
      from = plain-reduced l.n (graph_in first) one (rows l) (accepted-list l false A.first).proper E

      to : reduced_graph m.n (rows m) ≡ graph_in second
      to = subst (λ k. reduced_graph k (rows m) ≡ graph_in second) A.same_count
          (plain-reduced l.n (graph_in second) two (rows m)
          (subst (λ k. Proper k (rows m)) (sym A.same_count) (accepted-list m false A.second).proper) described)

      leads : complement_each (graph_in first) (take size' vertices') ≡ graph_in second
      leads =
          ap (λ θ. complement_each θ (take size' vertices')) (sym from)
          ∙ fun_ext (λ i. fun_ext (λ j. (decided.otherwise (λ e. absurd (differ z e))).1.leads i j)) ∙ to
        where
          differ : {a : ℕ} → a ≡ 0 → a ≡ 13 → ⊥
          differ x y = omega (arith, x, y)

  -- complementations give a choice
  equivalent : Reached l.n (graph_in first) (graph_in second) → r ≡ 0
  equivalent R =
      let c = reached-carries l.n (graph_in first) (graph_in second) two (reached-back one R) (rows l) (rows m) E
      described
      in
      (decided.otherwise (λ e. decided.exactly.0 e c.0 c.1)).0

  pub same-list : On (take count' list') (graph_number l.n (graph_in second)) ↔ (r ≡ 0)
  same-list =
      let T = orbit-reached l.n few (graph_in first) one (graph_in second) two in
      let e = the-list l.n first list count list' count' C in (
        (λ o. equivalent (T.0 (subst (λ k. On k (graph_number l.n (graph_in second))) e o))),
        (λ z. subst (λ k. On k (graph_number l.n (graph_in second))) (sym e) (T.1 (compared z))),
      )

pub same-list-exactly : SameListExactly
same-list-exactly = same-list
