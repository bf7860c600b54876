-- Graphs that complementations reach from each other have plain states that a choice of codes carries onto each other,
-- and the graphs to which lists of complementations lead are reached.
use mathlib.Core.Bool.{◌&&◌, not, true≢false}
use mathlib.Core.List.{List, [], ◌∷◌}
use mathlib.Core.Logic.{inl, inr, ◌⊎◌}
use mathlib.Core.Path.{ap, fun_ext, refl, subst, sym, ◌∙◌, ◌≡◌}
use Prim.Native.Nat.{◌<◌, ◌≤◌, ℕ}
use lib.Dec.{eqb, lit<}
use Rattle.clifford.proofs.VectorLaws.{act-id}
use Rattle.clifford.specs.Clifford.{Clifford, clifford_of}
use Rattle.record.proofs.Complement.{complement-simple}
use Rattle.record.specs.Graph.{Graph, Simple, complement, graph_generator}
use Rattle.operations.proofs.ReducedForms.{form-reduced}
use Rattle.operations.specs.internal.ReducedForms.{ReducedForm}
use Rattle.operations.proofs.GroupAlone.{reduced-of-group}
use Rattle.orbits.proofs.Complements.{complement-twice}
use Rattle.orbits.proofs.OrbitLaws.{reached-simple}
use Rattle.orbits.specs.Orbits.{Reached, here, then}
use Rattle.record.proofs.Complementing.{complement-same}
use Rattle.record.proofs.ReducedRecords.{record-proper}
use Rattle.record.specs.Records.{recoded, rows_of}
use Rattle.record.specs.Reduced.{reduced_graph}
use Rattle.stabilizer.proofs.Carried.{act-same, carries_same}
use Rattle.stabilizer.proofs.GroupLaws.{same_refl, same-sym, same-trans}
use Rattle.stabilizer.specs.Carries.{Carries}
use Rattle.stabilizer.specs.Groups.{Proper, SameGroup}
use Rattle.words.proofs.Finite.{⊕-zero}
use Rattle.words.proofs.Sums.{lt-or-ge}
use Rattle.words.specs.Bits.{◌⊕◌}
use Rattle.pauli.specs.Pauli.{Pauli}
use Rattle.claims.specs.OrbitDemand.{plain}
use Rattle.claims.specs.ThirdDemand.{complement_each}

-- ---- back, and by lists
-- what is reached from a graph complemented once is reached from the graph
from-complement : {n : ℕ} (θ : Graph) (a : ℕ) → a < n → {φ : Graph} → Reached n (complement θ a) φ → Reached n θ φ
from-complement θ a l here = then here a l
from-complement θ a l (then R b k) = then (from-complement θ a l R) b k

-- complementing at no vertex of the graph changes nothing
no-vertex : {n : ℕ} (θ : Graph) → Simple n θ → (a : ℕ) → n ≤ a → complement θ a ≡ θ
no-vertex θ S a l = fun_ext (λ i. fun_ext (λ j.
    ap (λ b. θ i j ⊕ ((b && θ a j) && not (eqb j i))) (S.symmetric a i ∙ S.below i a l) ∙ ⊕-zero (θ i j)))

pub each-reached : {n : ℕ} (θ : Graph) → Simple n θ → (vs : List ℕ) → Reached n θ (complement_each θ vs)
each-reached θ S [] = here
each-reached {n} θ S (a ∷ vs) = go (each-reached (complement θ a) (complement-simple n θ S a) vs) (lt-or-ge a n)
  where
    go : Reached n (complement θ a) (complement_each (complement θ a) vs) → (a < n) ⊎ (n ≤ a)
        → Reached n θ (complement_each (complement θ a) vs)
    go R (inl l) = from-complement θ a l R
    go R (inr l) = subst (λ ψ. Reached n ψ (complement_each (complement θ a) vs)) (no-vertex θ S a l) R

pub reached-back : {n : ℕ} {θ φ : Graph} → Simple n θ → Reached n θ φ → Reached n φ θ
reached-back S here = here
reached-back {n} {θ} S (then {φ} R a l) =
    from-complement (complement φ a) a l
    (subst (λ ψ. Reached n ψ θ) (sym (complement-twice φ (reached-simple S R) a)) (reached-back S R))

-- ---- states
module _ (n : ℕ) (θ : Graph) (S : Simple n θ) where
  plain_form : ReducedForm n (plain θ)
  plain_form = record {
    low = λ q l. lit< tt;
    even = λ q l. refl;
    smaller = λ q j l e. absurd (true≢false (sym e));
    above = λ q l. refl;
  }

  -- a list that describes the plain state has the graph as its reduced graph
  pub plain-reduced : (R : ℕ → Pauli) → Proper n R → SameGroup n n R (rows_of n (plain θ)) → reduced_graph n R ≡ θ
  plain-reduced R P E =
      ap (λ r. r.graph)
      (reduced-of-group n R (rows_of n (plain θ)) P (record-proper n (plain θ) S) E ∙ form-reduced n (plain θ) S
      plain_form)

  -- codes that carry the graph reached onto the graph
  carried : {φ : Graph} → Reached n θ φ
      → (c : ℕ → Clifford) × SameGroup n n (rows_of n (plain θ)) (rows_of n (record { graph = φ; codes = c }))
  carried here = ((λ q. clifford_of 0), same_refl)
  carried (then {φ} R a l) =
      let C = carried R in (
        recoded φ a C.0,
        same-trans C.1 (complement-same n (record { graph = φ; codes = C.0 }) (reached-simple S R) a l),
      )

-- lists that describe two graphs, one reached from the other
pub reached-carries : (n : ℕ) (θ φ : Graph) → Simple n φ → Reached n φ θ → (R Q : ℕ → Pauli)
    → SameGroup n n R (rows_of n (plain θ)) → SameGroup n n Q (rows_of n (plain φ)) → (c : ℕ → Clifford) × Carries n c R Q
reached-carries n θ φ S reached R Q E F =
    let C = carried n φ S reached in (
      C.0,
      (carries_same n C.0 R Q).1
          (same-trans (act-same n n C.0 R (graph_generator θ) (same-trans E ungated))
          (same-sym (same-trans F C.1))),
    )
  where
    ungated : SameGroup n n (rows_of n (plain θ)) (graph_generator θ)
    ungated = subst (SameGroup n n (rows_of n (plain θ))) (fun_ext (λ j. act-id n (graph_generator θ j))) same_refl
