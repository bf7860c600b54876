-- What is claimed of the comparison of two records holds, by the same claims of `compare` on the expansions.
use mathlib.Core.Bool.{Bool, false, not, true, ◌||◌}
use mathlib.Core.List.{List, [], ◌∷◌}
use mathlib.Core.Logic.{inl, inr, ◌↔◌, ◌⊎◌}
use mathlib.Core.Path.{ap, ap₂, refl, subst, sym, ◌∙◌, ◌≡◌}
use Prim.Native.Nat.{ℕ}
use lib.Dec.{eqb}
use lib.ListN.{length}
use Rattle.calls.proofs.RecordPairLines.{records-numbered}
use Rattle.buffers.proofs.Lines.{fits, more-accepted, none-fits, none-of-all, passed}
use Rattle.buffers.specs.Refusals.{Refusal, first_fitting, line}
use Rattle.calls.specs.Comparisons.{compare_call}
use Rattle.calls.specs.RecordComparisons.{
  compare_records_call,
  compare_records_lines,
  record_large_part,
  records_count,
  records_lines,
  records_not_simple,
}
use Rattle.claims.proofs.AcceptedPairs.{accepted-pair}
use Rattle.claims.proofs.PartsDemandHolds.{large-parts-refused}
use Rattle.claims.proofs.ThirdDemandHolds.{third-demand, third-demand-to-20}
use Rattle.claims.proofs.families.Comparisons.{comparisons-accepted, comparisons-conform}
use Rattle.claims.proofs.families.Shared.{answered}
use Rattle.comparison.specs.Choices.{no_choice}
use Rattle.comparison.specs.Compared.{pair_lines}
use Rattle.buffers.specs.Calls.{Call}
use Rattle.record.proofs.AcceptedRecords.{accepted-record}
use Rattle.record.specs.Lent.{held_rows, LentRecord, lent_record, record_codes, record_lengths, record_stray}
use Rattle.claims.proofs.Expansions.{
  BothAccepted,
  both-accepted,
  expansions-pass,
  no_line,
  same_at,
}
use Rattle.claims.specs.RecordPairs.{
  AcceptedRecords,
  CompareRecordsSays,
  RecordComparisonBuffersUnread,
  RecordComparisonsAccepted,
  RecordComparisonsConform,
  RecordPairsDemand,
  SameOnExpansions,
  compare_records_sentences,
  expansion,
}
use Rattle.claims.proofs.NumbersHold.{in_words}
use Rattle.claims.proofs.ClaimsCompareRecordsNumbersHold.{compare-words}

-- the second record, with n as its number of qubits
abbrev pub with_count : LentRecord → ℕ → LentRecord
with_count m n = lent_record n m.neighbours m.codes

-- ---- the same answer as on the expansions
pub same-on-expansions : SameOnExpansions
same-on-expansions l m choice list count choice' list' count' r e =
    let A = both-accepted l m choice list e in
    subst (λ k. BothAccepted l (with_count m k) choice list →
    Call (compare_records_call l (with_count m k) choice list count choice' list' count') r
    ↔ Call (compare_call (expansion l) (expansion (with_count m k)) choice list count choice' list' count') r)
    A.same_count
    (λ B. same_at l.n l.neighbours l.codes m.neighbours m.codes choice list B count choice' list' count'
    r)
    A

pub pairs-pass : (l m : LentRecord) (choice list : List ℕ) → first_fitting (records_lines l m choice list) ≡ 0 →
    first_fitting (pair_lines (expansion l) (expansion m) choice list) ≡ 0
pairs-pass l m choice list e =
    let A = both-accepted l m choice list e in
    subst (λ k. BothAccepted l (with_count m k) choice list →
    first_fitting (pair_lines (expansion l) (expansion (with_count m k)) choice list) ≡ 0) A.same_count
    (λ B. expansions-pass l.n l.neighbours l.codes m.neighbours m.codes choice list B) A

-- ---- demand 1
pub record-comparisons-conform : RecordComparisonsConform
record-comparisons-conform l m choice list count choice' list' count' =
    record {
      order = refl;
      complete = λ z. let all = none-of-all (records_lines l m choice list) _ (records-numbered l m choice list) z in
          let C = (same-on-expansions l m choice list count _ _ _ 0 all.0).0
          (record { number = sym z; held = (refl, (refl, (refl, tt))) }) in
          let F = (comparisons-conform.comparisons (expansion l) (expansion m) choice list count choice' list'
          count').complete (sym C.number) in
          (ap length C.held.0 ∙ F.0, (ap length C.held.1.0 ∙ F.1.0, (tt, tt)));
    }

pub record-comparison-buffers-unread : RecordComparisonBuffersUnread
record-comparison-buffers-unread l m choice list choice₂ list₂ e f =
    ap₂ (λ a b. first_fitting (lines_of (not (eqb a l.n) || not (eqb b 96)))) e f
  where
    -- the lines, by whether an answer buffer has a wrong length
    lines_of : Bool → List Refusal
    lines_of others =
        line 2 (records_count l m) ∷ line 4 (record_lengths l || (record_lengths m || others))
        ∷ line 5 (record_stray l || record_stray m) ∷ line 6 (record_codes l || record_codes m)
        ∷ line 7 (records_not_simple l m) ∷ line 3 (record_large_part l || record_large_part m)
        ∷ line 13 (no_choice l.n (held_rows l) (held_rows m)) ∷ []

pub record-comparisons-accepted : RecordComparisonsAccepted
record-comparisons-accepted l m choice list count choice' list' count' r C = (
  (λ z. let p = none-of-all (records_lines l m choice list) _ (records-numbered l m choice list) (sym C.number ∙ z) in
      let A = both-accepted l m choice list p.0 in
      record {
        first = A.first;
        second = A.second;
        expansions = (comparisons-accepted.compare (expansion l) (expansion m) choice list count choice' list' count' r
            ((same-on-expansions l m choice list count choice' list' count' r p.0).0 C)).0 z;
      }),
  (λ F. let e = no_line l m choice list (record {
    first = F.first;
    second = F.second;
    same_count = F.expansions.same_count;
    choice-places = F.expansions.choice-places;
    list-places = F.expansions.list-places;
  }) in
      (comparisons-accepted.compare (expansion l) (expansion m) choice list count choice' list' count' r
      ((same-on-expansions l m choice list count choice' list' count' r e).0 C)).1 F.expansions),
)

pub record-pairs-demand : RecordPairsDemand
record-pairs-demand =
    record {
      conform = record-comparisons-conform;
      unread = record-comparison-buffers-unread;
      accepted = record-comparisons-accepted;
      same = same-on-expansions;
    }

-- ---- records that no line refuses
pub records-pass : (l m : LentRecord) (choice list : List ℕ) → AcceptedRecords l m choice list →
    first_fitting (records_lines l m choice list) ≡ 0
records-pass l m choice list A =
    no_line l m choice list (record {
      first = accepted-record l false false A.first;
      second = accepted-record m false false A.second;
      same_count = A.same_count;
      choice-places = A.choice-places;
      list-places = A.list-places;
    })

pub records-taken : (l m : LentRecord) (choice list : List ℕ) {r : ℕ} →
    r ≡ first_fitting (compare_records_lines l m choice list) → AcceptedRecords l m choice list →
    (r ≡ 0) ⊎ ((r ≡ 3) ⊎ (r ≡ 13))
records-taken l m choice list {r} number A =
    go (record_large_part l || record_large_part m) (no_choice l.n (held_rows l) (held_rows m))
    (number ∙ more-accepted (records_lines l m choice list) _ (records-numbered l m choice list)
    (records-pass l m choice list A))
  where
    go : (a b : Bool) → r ≡ first_fitting (line 3 a ∷ line 13 b ∷ []) → (r ≡ 0) ⊎ ((r ≡ 3) ⊎ (r ≡ 13))
    go true b e = inr (inl (e ∙ fits 3 _ refl))
    go false true e = inr (inr (e ∙ passed 3 _ refl ∙ fits 13 _ refl))
    go false false e = inl (e ∙ passed 3 _ refl ∙ passed 13 _ refl ∙ none-fits)

-- ---- all that is said of the exported function
pub compare-records-says : (l m : LentRecord) (choice list : List ℕ) (count : ℕ) (choice' list' : List ℕ)
    (count' r : ℕ) → Call (compare_records_call l m choice list count choice' list' count') r →
    CompareRecordsSays l m choice list count choice' list' count' r
compare-records-says l m choice list count choice' list' count' r C =
    record {
      answered = answered (record-comparisons-conform l m choice list count choice' list' count') C;
      accepted = record-comparisons-accepted l m choice list count choice' list' count' r C;
      numbers = in_words (compare_records_sentences l m choice list) (compare-words l m choice list) C;
      same = λ e. (same-on-expansions l m choice list count choice' list' count' r e).0 C;
      taken = records-taken l m choice list C.number;
      to-20 = λ A h. let e = records-pass l m choice list A in
          third-demand-to-20 (expansion l) (expansion m) choice list count r choice' list' count'
          ((same-on-expansions l m choice list count choice' list' count' r e).0 C)
          (accepted-pair (expansion l) (expansion m) choice list (pairs-pass l m choice list e)) h;
      decided = λ e. third-demand (expansion l) (expansion m) choice list count r choice' list' count'
          ((same-on-expansions l m choice list count choice' list' count' r e).0 C) (pairs-pass l m choice list e);
      large = λ e. large-parts-refused (expansion l) (expansion m) choice list count r choice' list' count'
          ((same-on-expansions l m choice list count choice' list' count' r e).0 C) (pairs-pass l m choice list e);
    }
