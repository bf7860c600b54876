-- Two records that no line refuses and their expansions: the same numbers, and the same answers for each buffer.
use mathlib.Core.Bool.{false, not, ◌||◌}
use mathlib.Core.List.{List, [], ◌∷◌}
use mathlib.Core.Logic.{◌↔◌}
use mathlib.Core.Path.{ap, ap₂, refl, sym, ◌∙◌, ◌≡◌}
use Prim.Native.Nat.{ℕ}
use lib.Dec.{eqb}
use lib.ListN.{length}
use borrow.Author.Tests.{eq-eqb, eqb-true, not-false}
use Rattle.buffers.proofs.Lines.{more-accepted}
use Rattle.buffers.specs.Buffers.{accepted, accepted_number, tabulate, written}
use Rattle.buffers.specs.Refusals.{bad_count, first_fitting, line, other_than}
use Rattle.calls.proofs.PairLines.{pair-numbered}
use Rattle.calls.proofs.RecordPairLines.{records-numbered}
use Rattle.calls.specs.Comparisons.{compare_call}
use Rattle.calls.specs.RecordComparisons.{
  compare_records_call,
  compare_records_lines,
  records_lines,
}
use Rattle.claims.proofs.AcceptedPairs.{no-line-holds}
use Rattle.claims.proofs.LinesExactly.{record-exactly}
use Rattle.clifford.specs.Clifford.{clifford_of, inverse, then}
use Rattle.comparison.proofs.ComparedRecords.{same-least, same-refusal}
use Rattle.comparison.specs.Choices.{choice, least_code, least_number, no_choice}
use Rattle.comparison.specs.Compared.{compare_lines, pair_lines}
use Rattle.comparison.specs.ComparedPairs.{compare_list}
use Rattle.buffers.proofs.Fitting.{NoneHolds, none-fits-of, none-holds}
use Rattle.buffers.specs.Calls.{Call}
use Rattle.image.specs.Rule.{image_list}
use Rattle.operations.proofs.GroupAlone.{reduced-of-group}
use Rattle.comparison.specs.Parts.{part_above}
use Rattle.pauli.specs.Pauli.{Pauli}
use Rattle.record.specs.Accepted.{AcceptedRecord}
use Rattle.record.specs.Lent.{
  held_record,
  held_rows,
  LentRecord,
  lent_record,
  not_simple,
  record_codes,
  record_lengths,
  record_lines,
  record_stray,
}
use Rattle.record.specs.Records.{GraphRecord}
use Rattle.record.specs.Reduced.{reduced, reduced_graph}
use Rattle.stabilizer.proofs.ReadBack.{back_passes, back-proper, back-same}
use Rattle.stabilizer.proofs.SharedTests.{has-length, length-passes}
use Rattle.stabilizer.specs.Groups.{Proper}
use Rattle.stabilizer.specs.Lists.{list_of, rows}
use Rattle.words.proofs.Flags.{neither}
use Rattle.claims.specs.RecordPairs.{expansion}

-- ---- no line holds of two records and the buffers
pub record BothAccepted (l m : LentRecord) (chosen list : List ℕ) : Type 0 where
  pub first : AcceptedRecord l
  pub second : AcceptedRecord m
  pub same_count : l.n ≡ m.n
  pub choice-places : length chosen ≡ l.n
  pub list-places : length list ≡ 96

module _ (l m : LentRecord) (chosen list : List ℕ) where
  pub both-accepted : first_fitting (records_lines l m chosen list) ≡ 0 → BothAccepted l m chosen list
  both-accepted e =
      let h = none-holds (records_lines l m chosen list) refl e in
      let two = neither (bad_count l.n) _ h.0 in
      let two₂ = neither (bad_count m.n) _ two.1 in
      let four = neither (record_lengths l) _ h.1.0 in
      let four₂ = neither (record_lengths m) _ four.1 in
      let places = neither (other_than l.n chosen) _ four₂.1 in
      let five = neither (record_stray l) (record_stray m) h.1.1.0 in
      let six = neither (record_codes l) (record_codes m) h.1.1.1.0 in
      let seven = neither (not_simple l.n (held_record l).graph) _ h.1.1.1.1.0 in
      record {
        first = accepts l two.0 four.0 five.0 six.0 seven.0;
        second = accepts m two₂.0 four₂.0 five.1 six.1 seven.1;
        same_count = eqb-true l.n m.n (not-false (eqb l.n m.n) two₂.1);
        choice-places = has-length l.n chosen places.0;
        list-places = has-length 96 list places.1;
      }
    where
      accepts : (s : LentRecord) → bad_count s.n ≡ false → record_lengths s ≡ false → record_stray s ≡ false →
          record_codes s ≡ false → not_simple s.n (held_record s).graph ≡ false → AcceptedRecord s
      accepts s h₂ h₄ h₅ h₆ h₇ =
          ((record-exactly s false false).0
          (none-fits-of (record_lines s false false)
          (h₂, (ap (λ b. b || false) h₄, (h₅, (ap (λ b. b || false) h₆, (h₇, tt))))))).0

  pub no_line : BothAccepted l m chosen list → first_fitting (records_lines l m chosen list) ≡ 0
  no_line A =
      let h = holds l A.first in
      let k = holds m A.second in
      none-fits-of (records_lines l m chosen list) (
        ap₂ ◌||◌ h.0 (ap₂ ◌||◌ k.0 (ap not (eq-eqb l.n m.n A.same_count))),
        (
          ap₂ ◌||◌ (neither (record_lengths l) false h.1.0).0
              (ap₂ ◌||◌ (neither (record_lengths m) false k.1.0).0
              (ap₂ ◌||◌ (length-passes l.n chosen A.choice-places) (length-passes 96 list A.list-places))),
          (
            ap₂ ◌||◌ h.1.1.0 k.1.1.0,
            (
              ap₂ ◌||◌ (neither (record_codes l) false h.1.1.1.0).0
                  (neither (record_codes m) false k.1.1.1.0).0,
              (ap₂ ◌||◌ h.1.1.1.1.0 k.1.1.1.1.0, tt),
            ),
          ),
        ),
      )
    where
      holds : (s : LentRecord) → AcceptedRecord s → NoneHolds (record_lines s false false)
      holds s B = none-holds (record_lines s false false) refl ((record-exactly s false false).1 (B, refl, refl))

-- ---- two records on the same number of qubits and their expansions
module _ (n : ℕ) (R S : ℕ → Pauli) (P : Proper n R) (Q : Proper n S) where
  pub least-back : least_number n R S ≡ least_number n (rows (list_of n R)) (rows (list_of n S))
  least-back =
      same-least n R (rows (list_of n R)) S (rows (list_of n S)) P (back-proper n R P) Q (back-proper n S Q)
      (back-same n R P) (back-same n S Q)

  pub refusal-back : no_choice n R S ≡ no_choice n (rows (list_of n R)) (rows (list_of n S))
  refusal-back =
      same-refusal n R (rows (list_of n R)) S (rows (list_of n S)) P (back-proper n R P) Q (back-proper n S Q)
      (back-same n R P) (back-same n S Q)

pub reduced-back : (n : ℕ) (R : ℕ → Pauli) → Proper n R → reduced n R ≡ reduced n (rows (list_of n R))
reduced-back n R P = reduced-of-group n R (rows (list_of n R)) P (back-proper n R P) (back-same n R P)

-- the complementation list, from the two reduced records and the number of the least choice
abbrev list_from : ℕ → GraphRecord → GraphRecord → ℕ → List ℕ
list_from n r s k =
    image_list n (record {
      graph = r.graph;
      codes = λ q. then (then (r.codes q) (clifford_of (choice n k q))) (inverse (s.codes q));
    })

module _ (n : ℕ) (R S : ℕ → Pauli) (P : Proper n R) (Q : Proper n S) where
  pub codes-back : tabulate n (least_code n R S) ≡ tabulate n (least_code n (rows (list_of n R)) (rows (list_of n S)))
  codes-back = ap (λ k. tabulate n (choice n k)) (least-back n R S P Q)

  pub list_back : compare_list n R S ≡ compare_list n (rows (list_of n R)) (rows (list_of n S))
  list_back =
      ap (λ r. list_from n r (reduced n S) (least_number n R S)) (reduced-back n R P)
      ∙ ap (λ s. list_from n (reduced n (rows (list_of n R))) s (least_number n R S)) (reduced-back n S Q)
      ∙ ap (list_from n (reduced n (rows (list_of n R))) (reduced n (rows (list_of n S)))) (least-back n R S P Q)

-- the number of the call, and that of `compare` on the expansions
module _ (n : ℕ) (nb cs nb₂ cs₂ chosen list : List ℕ)
    (A : BothAccepted (lent_record n nb cs) (lent_record n nb₂ cs₂)
    chosen list) where
  abbrev l : LentRecord
  l = lent_record n nb cs

  abbrev m : LentRecord
  m = lent_record n nb₂ cs₂

  pub expansions-pass : first_fitting (pair_lines (expansion l) (expansion m) chosen list) ≡ 0
  expansions-pass =
      no-line-holds (expansion l) (expansion m) chosen list (record {
        first = back_passes n (held_rows l) A.first.proper A.first.positive A.first.upto;
        second = back_passes n (held_rows m) A.second.proper A.second.positive A.second.upto;
        same_count = refl;
        choice-places = A.choice-places;
        list-places = A.list-places;
      })

  large-back : (s : LentRecord) → Proper n (held_rows s) →
      part_above 20 n (reduced_graph n (held_rows s)) ≡ part_above 20 n (reduced_graph n (rows (list_of n (held_rows s))))
  large-back s P = ap (λ r. part_above 20 n r.graph) (reduced-back n (held_rows s) P)

  same_number : first_fitting (compare_records_lines l m chosen list)
      ≡ first_fitting (compare_lines (expansion l) (expansion m) chosen list)
  same_number =
      more-accepted (records_lines l m chosen list) _ (records-numbered l m chosen list) (no_line l m chosen list A)
      ∙ ap₂ (λ a b. first_fitting (line 3 a ∷ line 13 b ∷ []))
      (ap₂ ◌||◌ (large-back l A.first.proper) (large-back m A.second.proper))
      (refusal-back n (held_rows l) (held_rows m) A.first.proper A.second.proper)
      ∙ sym (more-accepted (pair_lines (expansion l) (expansion m) chosen list) _
      (pair-numbered (expansion l) (expansion m) chosen list) expansions-pass)

  pub same_at : (count : ℕ) (chosen' list' : List ℕ) (count' r : ℕ) →
      Call (compare_records_call l m chosen list count chosen' list' count') r
      ↔ Call (compare_call (expansion l) (expansion m) chosen list count chosen' list' count') r
  same_at count chosen' list' count' r = (
    λ C. record {
      number = C.number ∙ same_number;
      held = (
        C.held.0 ∙ ap (λ a. accepted r a chosen) codes,
        (
          C.held.1.0 ∙ ap (λ v. accepted r (written v list) list) vertices,
          (C.held.1.1.0 ∙ ap (λ v. accepted_number r (length v) count) vertices, tt),
        ),
      );
    },
    λ C. record {
      number = C.number ∙ sym same_number;
      held = (
        C.held.0 ∙ ap (λ a. accepted r a chosen) (sym codes),
        (
          C.held.1.0 ∙ ap (λ v. accepted r (written v list) list) (sym vertices),
          (C.held.1.1.0 ∙ ap (λ v. accepted_number r (length v) count) (sym vertices), tt),
        ),
      );
    },
  )
    where
      codes : tabulate n (least_code n (held_rows l) (held_rows m))
          ≡ tabulate n (least_code n (rows (expansion l)) (rows (expansion m)))
      codes = codes-back n (held_rows l) (held_rows m) A.first.proper A.second.proper

      vertices : compare_list n (held_rows l) (held_rows m) ≡ compare_list n (rows (expansion l)) (rows (expansion m))
      vertices = list_back n (held_rows l) (held_rows m) A.first.proper A.second.proper
