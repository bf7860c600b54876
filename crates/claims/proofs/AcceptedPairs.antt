-- Two lists that are accepted one by one, on one number of qubits, and buffers of the right lengths: then none of
-- lines 2 to 10 holds of the pair, and only then.
use mathlib.Core.Bool.{false}
use mathlib.Core.List.{List}
use mathlib.Core.Path.{ap₂, refl, subst, sym, ◌∙◌, ◌≡◌}
use Prim.Native.Nat.{ℕ}
use Rattle.buffers.specs.Refusals.{bad_count, first_fitting}
use Rattle.calls.proofs.PairCounts.{counts-agree}
use Rattle.calls.proofs.PairLines.{pair-number}
use Rattle.comparison.specs.Compared.{pair_lines}
use Rattle.buffers.specs.internal.Earlier.{earlier_of}
use Rattle.buffers.proofs.Fitting.{none-fits-of, none-holds}
use Rattle.calls.specs.Lists.{check_lines}
use Rattle.stabilizer.proofs.Accepted.{accepted-list}
use Rattle.stabilizer.specs.Groups.{Proper}
use Rattle.stabilizer.specs.Lists.{
  GeneratorList,
  clashing,
  dependent,
  list_lengths,
  list_lines,
  list_signs,
  list_stray,
  rows,
}
use Rattle.words.proofs.Flags.{neither}
use Rattle.claims.proofs.LinesExactly.{both-pass, two-fit}
use Rattle.claims.specs.ThirdDemand.{AcceptedPair, NoLineHolds}

pub no-line-holds : NoLineHolds
no-line-holds l m choice list A =
    subst (λ k. first_fitting (list_lines (second k) false) ≡ 0
    → first_fitting (pair_lines l (second k) choice list) ≡ 0) A.same_count
    (λ e. pair-number l.n l.signs l.z l.x m.signs m.z m.x choice list
    (accepted-list l false A.first).formed.positive (accepted-list l false A.first).formed.upto
    A.choice-places A.list-places false false refl refl ∙ ap₂ earlier_of A.first e)
    A.second
  where
    second : ℕ → GeneratorList
    second k = record { n = k; signs = m.signs; z = m.z; x = m.x }

pub accepted-pair : (l m : GeneratorList) (choice list : List ℕ) → first_fitting (pair_lines l m choice list) ≡ 0 →
    AcceptedPair l m choice list
accepted-pair l m choice list e =
    let h = none-holds (pair_lines l m choice list) refl e in
    let two = neither (bad_count l.n) _ h.0 in
    let four = neither (list_lengths l) _ h.1.0 in
    let four₂ = neither (list_lengths m) _ four.1 in
    let five = neither (list_stray l) (list_stray m) h.1.1.0 in
    let six = neither (list_signs l) (list_signs m) h.1.1.1.0 in
    let nine = neither (clashing l.n (rows l)) (clashing m.n (rows m)) h.1.1.1.1.0 in
    let ten = neither (dependent l.n (rows l)) (dependent m.n (rows m)) h.1.1.1.1.1.0 in
    let places = (two-fit l.n 96 choice list).0 four₂.1 in
    record {
      first = none-fits-of (check_lines l)
          (two.0, (both-pass four.0 refl, (five.0, (six.0, (nine.0, (ten.0, tt))))));
      second = none-fits-of (check_lines m) (
        (neither (bad_count m.n) _ two.1).0,
        (both-pass four₂.0 refl, (five.1, (six.1, (nine.1, (ten.1, tt))))),
      );
      same_count = counts-agree l m h.0;
      choice-places = places.0;
      list-places = places.1;
    }

-- both are lists on n qubits
module _ {l m : GeneratorList} {choice list : List ℕ} (A : AcceptedPair l m choice list) where
  pub first-proper : Proper l.n (rows l)
  first-proper = (accepted-list l false A.first).proper

  pub second-proper : Proper l.n (rows m)
  second-proper = subst (λ k. Proper k (rows m)) (sym A.same_count) (accepted-list m false A.second).proper
