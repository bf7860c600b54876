-- Demand 3 from the contract of the comparison, and the laws of the least choice and of the image rule.
use mathlib.Core.Bool.{Bool, cond, false, true, true≢false, ◌||◌}
use mathlib.Core.List.{List, [], ◌∷◌}
use mathlib.Core.Logic.{◌↔◌}
use mathlib.Core.Path.{ap, ap₂, fun_ext, refl, subst, sym, ◌∙◌, ◌≡◌}
use Prim.Native.Nat.{◌*◌, ◌/◌, ◌<◌, ℕ, ◌≤◌}
use native.Mathlib.Omega.{arith}
use lib.ListN.{drop, get_or, length, take}
use lib.Seq.{drop-append_seam, take-append_seam}
use Rattle.buffers.proofs.Lines.{fits, more-accepted, none-fits, passed}
use Rattle.buffers.proofs.Tabulate.{tabulate-at, tabulate-length}
use Rattle.buffers.specs.Buffers.{tabulate, written}
use Rattle.buffers.specs.Refusals.{first_fitting, line}
use Rattle.clifford.specs.Clifford.{Clifford, clifford_of}
use Rattle.clifford.specs.Vectors.{codes_of}
use Rattle.comparison.proofs.InducedCodes.{induced-carries}
use Rattle.comparison.proofs.Least.{least-is, none-carries}
use Rattle.comparison.proofs.NumberOrder.{choice-lt}
use Rattle.comparison.specs.Choices.{LeastChoice, least_code, least_number, no_choice}
use Rattle.comparison.specs.Compared.{induced, pair_lines}
use Rattle.cut.proofs.Counting.{count-upto}
use Rattle.record.specs.Graph.{Simple}
use Rattle.image.proofs.Exactly.{same-leads}
use Rattle.image.proofs.TrackedBits.{image-length}
use Rattle.image.specs.Rule.{image_list}
use Rattle.pauli.specs.Pauli.{Pauli}
use Rattle.record.proofs.ReducedRecords.{reduced-is}
use Rattle.record.specs.Records.{GraphRecord, complement_all, complement_record}
use Rattle.record.specs.Reduced.{reduced_graph}
use Rattle.stabilizer.specs.Carries.{Carries}
use Rattle.stabilizer.specs.Groups.{Proper}
use Rattle.stabilizer.specs.Lists.{GeneratorList, rows}
use Rattle.buffers.proofs.Calling.{written_all}
use Rattle.calls.proofs.PairLines.{pair-numbered}
use Rattle.comparison.proofs.LeastCodes.{least-held}
use Rattle.comparison.specs.ComparedPairs.{compare_list, induced_record}
use Rattle.claims.proofs.AcceptedPairs.{accepted-pair, first-proper, no-line-holds, second-proper}
use Rattle.claims.proofs.PartsDemandHolds.{no-large}
use Rattle.claims.specs.PartsDemand.{SmallParts, part}
use Rattle.claims.specs.ThirdDemand.{
  AcceptedPair,
  ComesBack,
  Decided,
  ThirdDemand,
  ThirdDemandTo20,
  complement_each,
  list_under,
}

-- a record complemented along a list has the graph complemented along it
pub graph-each : (r : GraphRecord) (vs : List ℕ) (i j : ℕ) →
    complement_each r.graph vs i j ≡ (complement_all r vs).graph i j
graph-each r [] i j = refl
graph-each r (v ∷ vs) i j = graph-each (complement_record r v) vs i j

-- at most 3n/2, rounded down
pub half : (a b : ℕ) → 2 * a ≤ b → a ≤ b / 2
half a b h = omega (arith, h)

-- ---- some choice works
module _ (l m : GeneratorList) (same_number : l.n ≡ m.n) (P : Proper l.n (rows l))
    (Q : Proper l.n (rows m)) (some-choice : no_choice l.n (rows l) (rows m) ≡ false)
    (list choice' list' : List ℕ) (count' : ℕ)
    (codes : choice' ≡ tabulate l.n (least_code l.n (rows l) (rows m)))
    (vertices : list' ≡ written (compare_list l.n (rows l) (rows m)) list)
    (amount : count' ≡ length (compare_list l.n (rows l) (rows m))) where
  abbrev n : ℕ
  n = l.n

  abbrev R : ℕ → Pauli
  R = rows l

  abbrev S : ℕ → Pauli
  S = rows m

  abbrev the_list : List ℕ
  the_list = compare_list n R S

  held : codes_of choice' ≡ (λ q. clifford_of (least_code n R S q))
  held = fun_ext (least-held n R S choice' codes)

  same-list : list_under l m choice' ≡ the_list
  same-list = ap (λ c. image_list n (record { graph = reduced_graph n R; codes = induced n R S c })) held

  least : LeastChoice n R S (λ q. clifford_of (least_code n R S q))
  least = least-is n R S P.within Q.within some-choice

  first-simple : Simple n (reduced_graph n R)
  first-simple = (reduced-is n R P).simple

  the_places : take count' list' ≡ the_list
  the_places = ap₂ take amount vertices ∙ take-append_seam the_list (drop (length the_list) list)

  leads-to : (i j : ℕ) → (complement_all (induced_record n R S) the_list).graph i j ≡ reduced_graph n S i j
  leads-to =
      same-leads n (induced_record n R S) first-simple (reduced_graph n S) (reduced-is n S Q).simple
      (induced-carries n R S P Q (λ q. clifford_of (least_code n R S q)) least.among)

  pub comes_back : ComesBack l m list choice' list' count'
  comes_back =
      record {
        places = ap length codes ∙ tabulate-length n (least_code n R S);
        codes = λ q k. subst (λ v. v < 24)
            (sym (ap (λ b. get_or b q 0) codes ∙ tabulate-at n (least_code n R S) q k))
            (choice-lt n (least_number n R S) q);
        least = subst (LeastChoice n R S) (sym held) least;
        vertices = the_places ∙ sym same-list;
        past = ap₂ drop amount vertices ∙ drop-append_seam the_list (drop (length the_list) list)
            ∙ ap (λ k. drop k list) (sym amount);
        amount = amount ∙ ap length (sym same-list);
        few = subst (λ k. k ≤ 3 * n / 2) (sym amount)
            (half (length the_list) (3 * n) (image-length n (induced_record n R S) first-simple));
        leads = λ i j. ap (λ vs. complement_each (reduced_graph n R) vs i j) the_places
            ∙ graph-each (induced_record n R S) the_list i j ∙ leads-to i j
            ∙ ap (λ k. reduced_graph k S i j) same_number;
      }

-- ---- the demand, of a call that answers 13 where no choice works, and else 0 with the least choice
pub decided-by : (l m : GeneratorList) (choice list : List ℕ) → AcceptedPair l m choice list → (r : ℕ)
    (choice' list' : List ℕ) (count' : ℕ)
    → ((b : Bool) → no_choice l.n (rows l) (rows m) ≡ b → r ≡ cond b 13 0)
    → (r ≡ 0 → (choice' ≡ tabulate l.n (least_code l.n (rows l) (rows m)))
    × (list' ≡ written (compare_list l.n (rows l) (rows m)) list)
    × (count' ≡ length (compare_list l.n (rows l) (rows m))))
    → Decided l m list r choice' list' count'
decided-by l m choice list A r choice' list' count' number held = go (no_choice l.n (rows l) (rows m)) refl
  where
    P : Proper l.n (rows l)
    P = first-proper A

    Q : Proper l.n (rows m)
    Q = second-proper A

    none : (no_choice l.n (rows l) (rows m) ≡ true)
        ↔ ((c : ℕ → Clifford) → Carries l.n c (rows l) (rows m) → ⊥)
    none = none-carries l.n (rows l) (rows m) P.within Q.within

    differ : (a : ℕ) → a ≡ 0 → a ≡ 13 → ⊥
    differ a x y = omega (arith, x, y)

    go : (b : Bool) → no_choice l.n (rows l) (rows m) ≡ b → Decided l m list r choice' list' count'
    go true h =
        record {
          exactly = ((λ _. none.0 h), (λ _. number true h));
          otherwise = λ not-13. absurd (not-13 (number true h));
        }
    go false h =
        let H = held (number false h) in
        record {
          exactly = (
            (λ x. absurd (differ r (number false h) x)),
            (λ f. absurd (true≢false (sym (none.1 f) ∙ h))),
          );
          otherwise = λ _. (
            number false h,
            comes_back l m A.same_count P Q h list choice' list' count' H.0 H.1 H.2,
          );
        }

-- the last line
pub last_line : (n : ℕ) (R S : ℕ → Pauli) (b : Bool) → no_choice n R S ≡ b
    → first_fitting (line 13 (no_choice n R S) ∷ []) ≡ cond b 13 0
last_line n R S true k = fits 13 _ k
last_line n R S false k = passed 13 _ k ∙ none-fits

pub third-demand : ThirdDemand
third-demand l m choice list count r choice' list' count' C e small small₂ =
    decided-by l m choice list (accepted-pair l m choice list e) r choice' list' count'
    (λ b h. C.number ∙ more-accepted (pair_lines l m choice list) _ (pair-numbered l m choice list) e
    ∙ passed 3 _ (ap₂ ◌||◌ (no-large l small) (no-large m small₂)) ∙ last_line l.n (rows l) (rows m) b h)
    (λ z. ((written_all C z).0, (written_all C z).1.0, (written_all C z).1.1.0))

-- ---- up to 20 qubits: no part of a graph on at most 20 vertices is larger
pub few-small : (l : GeneratorList) → l.n ≤ 20 → SmallParts l
few-small l h q k = omega (arith, count-upto l.n (part l q), h)

pub third-demand-to-20 : ThirdDemandTo20
third-demand-to-20 l m choice list count r choice' list' count' C A h =
    third-demand l m choice list count r choice' list' count' C (no-line-holds l m choice list A)
    (few-small l h) (few-small m (subst (λ k. k ≤ 20) A.same_count h))
