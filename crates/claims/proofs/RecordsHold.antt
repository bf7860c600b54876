-- What is claimed of the comparison of two records with parts of any size holds, by the comparison of their expansions.
use mathlib.Core.Bool.{Bool, false, true}
use mathlib.Core.List.{List, [], ◌∷◌}
use mathlib.Core.Logic.{inl, inr, ◌↔◌, ◌⊎◌}
use mathlib.Core.Path.{ap, refl, subst, sym, ◌∙◌, ◌≡◌}
use Prim.Native.Nat.{ℕ}
use native.Mathlib.Omega.{arith}
use lib.ListN.{length}
use Rattle.buffers.proofs.Lines.{fits, more-accepted, none-fits, none-of-all, passed}
use Rattle.buffers.specs.Buffers.{accepted, accepted_number, written}
use Rattle.buffers.specs.Refusals.{first_fitting, line}
use Rattle.calls.proofs.PairLines.{pair-numbered}
use Rattle.calls.proofs.RecordPairLines.{records-numbered}
use Rattle.calls.specs.Equivalences.{equivalent_call, equivalent_records_call, equivalent_records_lines}
use Rattle.calls.specs.RecordComparisons.{records_lines}
use Rattle.claims.proofs.AcceptedPairs.{accepted-pair}
use Rattle.claims.proofs.families.Shared.{answered}
use Rattle.claims.specs.Conforming.{Conforms}
use Rattle.claims.proofs.Expansions.{
  BothAccepted,
  both-accepted,
  codes-back,
  expansions-pass,
  list_back,
  no_line,
  refusal-back,
}
use Rattle.claims.proofs.RecordPairsHold.{pairs-pass, records-pass, with_count}
use Rattle.claims.specs.RecordPairs.{expansion, records_sentences, AcceptedRecords}
use Rattle.comparison.specs.Compared.{equivalent_lines, pair_lines}
use Rattle.buffers.specs.Calls.{Call}
use Rattle.record.specs.Lent.{held_rows, LentRecord, lent_record}
use Rattle.claims.proofs.EquivalentsHold.{conforms, same-records-where-small, to-64, equivalent-says}
use Rattle.claims.specs.Equivalents.{EquivalentRecordsSays, equivalent_records_sentences, EquivalentRecordsFits}
use Rattle.buffers.proofs.SentenceLaws.{and-line}
use Rattle.claims.proofs.NumbersHold.{in_words}
use Rattle.claims.proofs.ClaimsCompareRecordsNumbersHold.{none-of-choices, records-words}
use Rattle.comparison.specs.Choices.{no_choice}

-- ---- two records on the same number of qubits: what the call answers, the call on lists answers on the expansions
module _ (n : ℕ) (nb cs nb₂ cs₂ chosen list : List ℕ)
    (A : BothAccepted (lent_record n nb cs) (lent_record n nb₂ cs₂)
    chosen list) where
  abbrev l : LentRecord
  l = lent_record n nb cs

  abbrev m : LentRecord
  m = lent_record n nb₂ cs₂

  same_number : first_fitting (equivalent_records_lines l m chosen list)
      ≡ first_fitting (equivalent_lines (expansion l) (expansion m) chosen list)
  same_number =
      more-accepted (records_lines l m chosen list) _ (records-numbered l m chosen list) (no_line l m chosen list A)
      ∙ ap (λ b. first_fitting (line 13 b ∷ []))
      (refusal-back n (held_rows l) (held_rows m) A.first.proper A.second.proper)
      ∙ sym (more-accepted (pair_lines (expansion l) (expansion m) chosen list) _
      (pair-numbered (expansion l) (expansion m) chosen list) (expansions-pass n nb cs nb₂ cs₂ chosen list A))

  expanded-at : (count : ℕ) (chosen' list' : List ℕ) (count' r : ℕ) →
      Call (equivalent_records_call l m chosen list count chosen' list' count') r →
      Call (equivalent_call (expansion l) (expansion m) chosen list count chosen' list' count') r
  expanded-at count chosen' list' count' r C =
      let vertices = list_back n (held_rows l) (held_rows m) A.first.proper A.second.proper in
      record {
        number = C.number ∙ same_number;
        held = (
          C.held.0
              ∙ ap (λ a. accepted r a chosen)
              (codes-back n (held_rows l) (held_rows m) A.first.proper A.second.proper),
          (
            C.held.1.0 ∙ ap (λ v. accepted r (written v list) list) vertices,
            (C.held.1.1.0 ∙ ap (λ v. accepted_number r (length v) count) vertices, tt),
          ),
        );
      }

module _ (l m : LentRecord) (choice list : List ℕ) (count : ℕ) where
  expanded : (choice' list' : List ℕ) (count' r : ℕ) → first_fitting (records_lines l m choice list) ≡ 0 →
      Call (equivalent_records_call l m choice list count choice' list' count') r →
      Call (equivalent_call (expansion l) (expansion m) choice list count choice' list' count') r
  expanded choice' list' count' r e =
      let A = both-accepted l m choice list e in
      subst (λ k. BothAccepted l (with_count m k) choice list →
      Call (equivalent_records_call l (with_count m k) choice list count choice' list' count') r →
      Call (equivalent_call (expansion l) (expansion (with_count m k)) choice list count choice' list' count') r)
      A.same_count
      (λ B. expanded-at l.n l.neighbours l.codes m.neighbours m.codes choice list B count choice' list'
      count' r)
      A

  -- ---- demand 1
  records-conform : (choice' list' : List ℕ) (count' : ℕ) →
      Conforms (equivalent_records_call l m choice list count choice' list' count')
  records-conform choice' list' count' =
      record {
        order = refl;
        complete = λ z. let all = none-of-all (records_lines l m choice list) _ (records-numbered l m choice list) z in
            let C = expanded _ _ _ 0 all.0 (record { number = sym z; held = (refl, (refl, (refl, tt))) }) in
            let F = (conforms (expansion l) (expansion m) choice list count choice' list' count').complete
            (sym C.number) in
            (ap length C.held.0 ∙ F.0, (ap length C.held.1.0 ∙ F.1.0, (tt, tt)));
      }

  -- ---- which arguments it accepts
  module _ (choice' list' : List ℕ) (count' r : ℕ)
      (C : Call (equivalent_records_call l m choice list count choice' list' count') r) where
    exactly : (r ≡ 0) ↔ EquivalentRecordsFits l m choice list
    exactly = (
      (λ z. let p = none-of-all (records_lines l m choice list) _ (records-numbered l m choice list)
          (sym C.number ∙ z) in
          let A = both-accepted l m choice list p.0 in
          record {
            first = A.first;
            second = A.second;
            expansions = (equivalent-says (expansion l) (expansion m) choice list count choice' list' count' r
                (expanded choice' list' count' r p.0 C)).accepted.0 z;
          }),
      (λ F. let e = no_line l m choice list (record {
        first = F.first;
        second = F.second;
        same_count = F.expansions.same_count;
        choice-places = F.expansions.choice-places;
        list-places = F.expansions.list-places;
      }) in
          (equivalent-says (expansion l) (expansion m) choice list count choice' list' count' r
          (expanded choice' list' count' r e C)).accepted.1 F.expansions),
    )

    taken : AcceptedRecords l m choice list → (r ≡ 0) ⊎ (r ≡ 13)
    taken A =
        go (no_choice l.n (held_rows l) (held_rows m))
        (C.number ∙ more-accepted (records_lines l m choice list) _ (records-numbered l m choice list)
        (records-pass l m choice list A))
      where
        go : (b : Bool) → r ≡ first_fitting (line 13 b ∷ []) → (r ≡ 0) ⊎ (r ≡ 13)
        go true e = inr (e ∙ fits 13 _ refl)
        go false e = inl (e ∙ passed 13 _ refl ∙ none-fits)

-- none of its lines is 3
others : (a b c d e f : Bool)
    → first_fitting (line 2 a ∷ line 4 b ∷ line 5 c ∷ line 6 d ∷ line 7 e ∷ line 13 f ∷ []) ≡ 3 → ⊥
unfolding first_fitting
others true b c d e f h = omega (arith, h)
others false true c d e f h = omega (arith, h)
others false false true d e f h = omega (arith, h)
others false false false true e f h = omega (arith, h)
others false false false false true f h = omega (arith, h)
others false false false false false true h = omega (arith, h)
others false false false false false false h = omega (arith, h)

-- ---- in one record
pub equivalent-records-says : (l m : LentRecord) (choice list : List ℕ) (count : ℕ) (choice' list' : List ℕ)
    (count' r : ℕ) → Call (equivalent_records_call l m choice list count choice' list' count') r →
    EquivalentRecordsSays l m choice list count choice' list' count' r
equivalent-records-says l m choice list count choice' list' count' r C =
    record {
      answered = answered (records-conform l m choice list count choice' list' count') C;
      accepted = exactly l m choice list count choice' list' count' r C;
      taken = taken l m choice list count choice' list' count' r C;
      numbers = in_words (equivalent_records_sentences l m choice list)
          (and-line (records_lines l m choice list) (records_sentences l m choice list) 13
          (records-words l m choice list) (none-of-choices l m choice list)) C;
      expanded = λ e. expanded l m choice list count choice' list' count' r e C;
      to-64 = λ A. let e = records-pass l m choice list A in
          to-64 (expansion l) (expansion m) choice list count r choice' list' count'
          (expanded l m choice list count choice' list' count' r e C)
          (accepted-pair (expansion l) (expansion m) choice list (pairs-pass l m choice list e));
      never-3 = λ h. others _ _ _ _ _ _ (sym C.number ∙ h);
      same = λ small small₂. (same-records-where-small l m choice list count r choice' list' count' small small₂).1 C;
    }
