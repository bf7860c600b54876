-- What is claimed of the comparison of parts of any size holds, by the contract and what was shown of the comparison.
use mathlib.Core.Bool.{Bool, cond, false, not, true, ◌||◌}
use mathlib.Core.List.{◌++◌, List, [], ◌∷◌}
use mathlib.Core.Logic.{◌↔◌}
use mathlib.Core.Path.{ap, ap₂, refl, sym, ◌∙◌, ◌≡◌}
use Prim.Native.Nat.{ℕ}
use native.Mathlib.Omega.{arith}
use lib.Dec.{eqb}
use Rattle.buffers.proofs.Lines.{more-accepted, none-of-all, passed}
use Rattle.buffers.specs.Refusals.{Refusal, first_fitting, line}
use Rattle.calls.proofs.PairLines.{pair-numbered}
use Rattle.calls.specs.Equivalences.{equivalent_call}
use Rattle.calls.specs.RecordComparisons.{records_count, records_lines, records_not_simple}
use Rattle.claims.proofs.AcceptedPairs.{accepted-pair, no-line-holds}
use Rattle.claims.proofs.LinesExactly.{list-exactly}
use Rattle.claims.proofs.PartsDemandHolds.{no-large}
use Rattle.claims.proofs.ThirdDemandHolds.{decided-by, last_line}
use Rattle.claims.proofs.families.Shared.{answered, table-fills, written-fills}
use Rattle.claims.specs.Conforming.{Conforms}
use Rattle.comparison.specs.Choices.{no_choice}
use Rattle.comparison.specs.Compared.{bad_counts, pair_lines}
use Rattle.comparison.specs.ComparedPairs.{compare_list}
use Rattle.buffers.proofs.Calling.{written_all}
use Rattle.buffers.specs.Calls.{Call}
use Rattle.record.specs.Lent.{held_rows, record_codes, record_lengths, record_stray}
use Rattle.stabilizer.proofs.Accepted.{accepted-list}
use Rattle.stabilizer.specs.Lists.{GeneratorList, clashing, dependent, list_lengths, list_signs, list_stray, rows}
use Rattle.claims.specs.Equivalents.{
  EquivalentBuffersUnread,
  EquivalentFits,
  EquivalentRecordsBuffersUnread,
  EquivalentSays,
  EquivalentsDemand,
  NeverTooLarge,
  SameRecordsWhereSmall,
  SameWhereSmall,
  ThirdDemandTo64,
  equivalent_sentences,
}
use Rattle.buffers.proofs.SentenceLaws.{and-line}
use Rattle.claims.proofs.NumbersHold.{in_words, none-of-choices, pair-words}
use Rattle.claims.specs.Numbers.{pair_sentences}

pub to-64 : ThirdDemandTo64
to-64 l m choice list count r choice' list' count' C A =
    decided-by l m choice list A r choice' list' count'
    (λ b h. C.number ∙ more-accepted (pair_lines l m choice list) _ (pair-numbered l m choice list)
    (no-line-holds l m choice list A) ∙ last_line l.n (rows l) (rows m) b h)
    (λ z. ((written_all C z).0, (written_all C z).1.0, (written_all C z).1.1.0))

-- a line that does not hold may be left out
skipped : (first last : List Refusal) (k : ℕ) (b : Bool) → b ≡ false
    → first_fitting (first ++ (line k b ∷ last)) ≡ first_fitting (first ++ last)
unfolding first_fitting
skipped [] last k b e = passed k last e
skipped (f ∷ first) last k b e = ap (cond f.holds f.number) (skipped first last k b e)

pub same-where-small : SameWhereSmall
same-where-small l m choice list count r choice' list' count' small small₂ =
    let same = skipped (pair_lines l m choice list) (line 13 (no_choice l.n (rows l) (rows m)) ∷ []) 3 _
    (ap₂ ◌||◌ (no-large l small) (no-large m small₂)) in (
      (λ C. record { number = C.number ∙ same; held = C.held }),
      (λ C. record { number = C.number ∙ sym same; held = C.held }),
    )

pub same-records-where-small : SameRecordsWhereSmall
same-records-where-small l m choice list count r choice' list' count' small small₂ =
    let same = skipped (records_lines l m choice list) _ 3 _ (ap₂ ◌||◌ small small₂) in (
      (λ C. record { number = C.number ∙ same; held = C.held }),
      (λ C. record { number = C.number ∙ sym same; held = C.held }),
    )

-- none of its lines is 3
others : (a b c d e f g : Bool)
    → first_fitting (line 2 a ∷ line 4 b ∷ line 5 c ∷ line 6 d ∷ line 9 e ∷ line 10 f ∷ line 13 g ∷ []) ≡ 3 → ⊥
unfolding first_fitting
others true b c d e f g h = omega (arith, h)
others false true c d e f g h = omega (arith, h)
others false false true d e f g h = omega (arith, h)
others false false false true e f g h = omega (arith, h)
others false false false false true f g h = omega (arith, h)
others false false false false false true g h = omega (arith, h)
others false false false false false false true h = omega (arith, h)
others false false false false false false false h = omega (arith, h)

pub never-3 : NeverTooLarge
never-3 l m choice list count r choice' list' count' C h = others _ _ _ _ _ _ _ (sym C.number ∙ h)

-- ---- demand 1: an accepted comparison has few complementations, by demand 3
pub conforms : (l m : GeneratorList) (choice list : List ℕ) (count : ℕ) (choice' list' : List ℕ) (count' : ℕ) →
    Conforms (equivalent_call l m choice list count choice' list' count')
conforms l m choice list count choice' list' count' =
    record {
      order = refl;
      complete = λ z. let all = none-of-all (pair_lines l m choice list) _ (pair-numbered l m choice list) z in
          let A = accepted-pair l m choice list all.0 in
          let back = ((to-64 l m choice list count 0 _ _ _
          (record { number = sym z; held = (refl, (refl, (refl, tt))) }) A).otherwise
          (λ e. absurd (omega (arith, e)))).1 in (
            table-fills l.n _ choice A.choice-places,
            (
              written-fills (compare_list l.n (rows l) (rows m)) list
                  (omega (arith, back.few, (accepted-list l false A.first).formed.upto, A.list-places)),
              (tt, tt),
            ),
          );
    }

-- ---- in one record
module _ (l m : GeneratorList) (choice list : List ℕ) (count : ℕ) (choice' list' : List ℕ) (count' r : ℕ)
    (C : Call (equivalent_call l m choice list count choice' list' count') r) where
  exactly : (r ≡ 0) ↔ EquivalentFits l m choice list
  exactly = (
    (λ z. let p = none-of-all (pair_lines l m choice list) _ (pair-numbered l m choice list) (sym C.number ∙ z) in
        let A = accepted-pair l m choice list p.0 in
        let back = ((to-64 l m choice list count r choice' list' count' C A).otherwise (λ e. differ z e)).1 in
        record {
          first = ((list-exactly l false).0 A.first).0;
          second = ((list-exactly m false).0 A.second).0;
          same_count = A.same_count;
          choice-places = A.choice-places;
          list-places = A.list-places;
          equivalent = (_, back.least.among);
        }),
    (λ F. let D = to-64 l m choice list count r choice' list' count' C (record {
      first = (list-exactly l false).1 (F.first, refl);
      second = (list-exactly m false).1 (F.second, refl);
      same_count = F.same_count;
      choice-places = F.choice-places;
      list-places = F.list-places;
    }) in
        (D.otherwise (λ e. D.exactly.0 e F.equivalent.0 F.equivalent.1)).0),
  )
    where
      differ : r ≡ 0 → r ≡ 13 → ⊥
      differ a b = omega (arith, a, b)

  pub equivalent-says : EquivalentSays l m choice list count choice' list' count' r
  equivalent-says =
      record {
        answered = answered (conforms l m choice list count choice' list' count') C;
        accepted = exactly;
        numbers = in_words (equivalent_sentences l m choice list)
            (and-line (pair_lines l m choice list) (pair_sentences l m choice list) 13 (pair-words l m choice list)
            (none-of-choices l m choice list)) C;
        to-64 = to-64 l m choice list count r choice' list' count' C;
        never-3 = never-3 l m choice list count r choice' list' count' C;
        same = λ small small₂. (same-where-small l m choice list count r choice' list' count' small small₂).1 C;
      }

-- ---- the answer buffers: only whether one has a wrong length is a line's matter
buffers-unread : EquivalentBuffersUnread
buffers-unread l m choice list choice₂ list₂ e f =
    ap₂ (λ a b. first_fitting (lines_of (not (eqb a l.n) || not (eqb b 96)))) e f
  where
    lines_of : Bool → List Refusal
    lines_of others =
        line 2 (bad_counts l m) ∷ line 4 (list_lengths l || (list_lengths m || others))
        ∷ line 5 (list_stray l || list_stray m) ∷ line 6 (list_signs l || list_signs m)
        ∷ line 9 (clashing l.n (rows l) || clashing m.n (rows m))
        ∷ line 10 (dependent l.n (rows l) || dependent m.n (rows m))
        ∷ line 13 (no_choice l.n (rows l) (rows m)) ∷ []

records-buffers-unread : EquivalentRecordsBuffersUnread
records-buffers-unread l m choice list choice₂ list₂ e f =
    ap₂ (λ a b. first_fitting (lines_of (not (eqb a l.n) || not (eqb b 96)))) e f
  where
    lines_of : Bool → List Refusal
    lines_of others =
        line 2 (records_count l m) ∷ line 4 (record_lengths l || (record_lengths m || others))
        ∷ line 5 (record_stray l || record_stray m) ∷ line 6 (record_codes l || record_codes m)
        ∷ line 7 (records_not_simple l m) ∷ line 13 (no_choice l.n (held_rows l) (held_rows m)) ∷ []

pub equivalents-demand : EquivalentsDemand
equivalents-demand =
    record {
      to-64 = to-64;
      never-3 = never-3;
      same = same-where-small;
      same-records = same-records-where-small;
      unread = buffers-unread;
      unread-records = records-buffers-unread;
    }
