-- The comparison: its lines and answers are as demand 1 has them, and which arguments it accepts.
use mathlib.Core.Bool.{Bool, false, not, ◌||◌}
use mathlib.Core.List.{[], List, ◌∷◌}
use mathlib.Core.Logic.{◌↔◌}
use mathlib.Core.Path.{ap₂, refl, sym, ◌∙◌, ◌≡◌}
use Prim.Native.Nat.{ℕ}
use native.Mathlib.Omega.{arith}
use lib.Dec.{eqb}
use Rattle.buffers.proofs.Lines.{none-of-all, not-held}
use Rattle.buffers.specs.Refusals.{first_fitting, line, Refusal}
use Rattle.calls.proofs.PairLines.{pair-numbered}
use Rattle.calls.specs.Comparisons.{compare_call}
use Rattle.comparison.specs.Choices.{no_choice}
use Rattle.comparison.specs.Compared.{has_large_part, bad_counts, pair_lines}
use Rattle.comparison.specs.ComparedPairs.{compare_list}
use Rattle.buffers.specs.Calls.{Call}
use Rattle.stabilizer.proofs.Accepted.{accepted-list}
use Rattle.stabilizer.specs.Lists.{clashing, dependent, GeneratorList, list_lengths, list_signs, list_stray, rows}
use Rattle.words.proofs.Flags.{neither}
use Rattle.claims.proofs.AcceptedPairs.{accepted-pair, no-line-holds}
use Rattle.claims.proofs.LinesExactly.{list-exactly}
use Rattle.claims.proofs.PartsDemandHolds.{small-parts}
use Rattle.claims.proofs.ThirdDemandHolds.{third-demand}
use Rattle.claims.proofs.families.Shared.{table-fills, written-fills}
use Rattle.claims.specs.Conforming.{Conforms}
use Rattle.claims.specs.families.Comparisons.{
  CompareFits,
  ComparisonBuffersUnread,
  ComparisonsAccepted,
  ComparisonsConform,
}

-- comparisons: an accepted one has few complementations, by demand 3
compare-conforms : (l m : GeneratorList) (choice list : List ℕ) (count : ℕ) (choice' list' : List ℕ) (count' : ℕ) →
    Conforms (compare_call l m choice list count choice' list' count')
compare-conforms l m choice list count choice' list' count' =
    record {
      order = refl;
      complete = λ z. let all = none-of-all (pair_lines l m choice list) _ (pair-numbered l m choice list) z in
          let A = accepted-pair l m choice list all.0 in
          let small = neither (has_large_part l) (has_large_part m) (not-held 2 _ _ all.1).0 in
          let back = ((third-demand l m choice list count 0 _ _ _
          (record { number = sym z; held = (refl, (refl, (refl, tt))) }) all.0 (small-parts l small.0)
          (small-parts m small.1)).otherwise (λ e. absurd (omega (arith, e)))).1 in (
            table-fills l.n _ choice A.choice-places,
            (
              written-fills (compare_list l.n (rows l) (rows m)) list
                  (omega (arith, back.few, (accepted-list l false A.first).formed.upto, A.list-places)),
              (tt, tt),
            ),
          );
    }

-- comparisons
module _ (l m : GeneratorList) (choice list : List ℕ) (count : ℕ) (choice' list' : List ℕ) (count' r : ℕ)
    (C : Call (compare_call l m choice list count choice' list' count') r) where
  compare-exactly : (r ≡ 0) ↔ CompareFits l m choice list
  compare-exactly = (
    (λ z. let p = none-of-all (pair_lines l m choice list) _ (pair-numbered l m choice list) (sym C.number ∙ z) in
        let A = accepted-pair l m choice list p.0 in
        let small = neither (has_large_part l) (has_large_part m) (not-held 2 _ _ p.1).0 in
        let S = small-parts l small.0 in
        let T = small-parts m small.1 in
        let back = ((third-demand l m choice list count r choice' list' count' C p.0 S T).otherwise
        (λ e. differ z e)).1 in
        record {
          first = ((list-exactly l false).0 A.first).0;
          second = ((list-exactly m false).0 A.second).0;
          same_count = A.same_count;
          choice-places = A.choice-places;
          list-places = A.list-places;
          small-first = S;
          small-second = T;
          equivalent = (_, back.least.among);
        }),
    (λ F. let D = third-demand l m choice list count r choice' list' count' C
        (no-line-holds l m choice list (record {
          first = (list-exactly l false).1 (F.first, refl);
          second = (list-exactly m false).1 (F.second, refl);
          same_count = F.same_count;
          choice-places = F.choice-places;
          list-places = F.list-places;
        })) F.small-first F.small-second in
        (D.otherwise (λ e. D.exactly.0 e F.equivalent.0 F.equivalent.1)).0),
  )
    where
      differ : {k : ℕ} → k ≡ 0 → k ≡ 13 → ⊥
      differ e f = omega (arith, e, f)

pub comparisons-conform : ComparisonsConform
comparisons-conform =
    record {
      comparisons = compare-conforms;
    }

pub comparison-buffers-unread : ComparisonBuffersUnread
comparison-buffers-unread =
    record {
      comparisons = λ l m choice list choice₂ list₂ e f.
          ap₂ (λ a b. first_fitting (lines_of l m (not (eqb a l.n) || not (eqb b 96)))) e f;
    }
  where
    -- those of a comparison, by whether an answer buffer has a wrong length
    lines_of : GeneratorList → GeneratorList → Bool → List Refusal
    lines_of l m others =
        line 2 (bad_counts l m) ∷ line 4 (list_lengths l || (list_lengths m || others))
        ∷ line 5 (list_stray l || list_stray m) ∷ line 6 (list_signs l || list_signs m)
        ∷ line 9 (clashing l.n (rows l) || clashing m.n (rows m))
        ∷ line 10 (dependent l.n (rows l) || dependent m.n (rows m))
        ∷ line 3 (has_large_part l || has_large_part m) ∷ line 13 (no_choice l.n (rows l) (rows m)) ∷ []

pub comparisons-accepted : ComparisonsAccepted
comparisons-accepted =
    record {
      compare = compare-exactly;
    }
