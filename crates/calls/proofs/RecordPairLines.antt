-- Two records compared: the number of both together is the earlier of their numbers, and the comparison of their
-- reduced records decides.
use mathlib.Core.Bool.{Bool, false, not, ◌||◌}
use mathlib.Core.List.{◌++◌, List, [], ◌∷◌}
use mathlib.Core.Path.{ap, ap₂, sym, ◌∙◌, ◌≡◌}
use Prim.Native.Nat.{ℕ}
use lib.Dec.{eqb, eqb→eq, lit<}
use borrow.Author.Tests.{eqb-true, not-false}
use Rattle.buffers.proofs.Lines.{Numbered, more-accepted, passed}
use Rattle.buffers.specs.Refusals.{Refusal, bad_count, first_fitting, line, other_than}
use Rattle.comparison.specs.Choices.{no_choice}
use Rattle.comparison.specs.internal.ComparedPairs.{PairAnswered, limit_lines}
use Rattle.buffers.specs.Calls.{Call}
use Rattle.buffers.specs.internal.Earlier.{earlier_of}
use Rattle.comparison.specs.Parts.{part_above}
use Rattle.record.specs.Lent.{
  LentRecord,
  held_record,
  held_rows,
  not_simple,
  record_codes,
  record_lengths,
  record_lines,
  record_stray,
}
use Rattle.record.specs.Reduced.{reduced_graph}
use Rattle.words.proofs.Finite.{Law, Of, law}
use Rattle.words.proofs.Flags.{neither}
use Rattle.calls.specs.internal.Limited.{comparing_records_call}
use Rattle.calls.specs.RecordComparisons.{
  record_large_part,
  records_count,
  records_lines,
}

pub records-numbered : (l m : LentRecord) (choice list : List ℕ) → Numbered (records_lines l m choice list)
records-numbered l m choice list = (lit< tt, (lit< tt, (lit< tt, (lit< tt, (lit< tt, tt)))))

-- lines 4 to 7 of a record, and those of a pair
module _ (four others five six seven : Bool) where
  abbrev later_lines : List Refusal
  later_lines = line 4 (four || others) ∷ line 5 five ∷ line 6 (six || false) ∷ line 7 seven ∷ []

abbrev later_of : Of 9 ℕ
later_of a b c d f g h i o =
    earlier_of (first_fitting (later_lines a o b c d)) (first_fitting (later_lines f false g h i))

abbrev later_both : Of 9 ℕ
later_both a b c d f g h i o =
    first_fitting (line 4 (a || (f || o)) ∷ line 5 (b || g) ∷ line 6 (c || h) ∷ line 7 (d || i) ∷ [])

earlier-later : Law ℕ 9 later_both later_of
unfolding first_fitting
earlier-later = law eqb eqb→eq 9 later_both later_of tt

-- where line 2 does not hold
module _ (l m : LentRecord) (choice list : List ℕ) (p : records_count l m ≡ false) where
  second-count : (bad_count m.n ≡ false) × (not (eqb l.n m.n) ≡ false)
  second-count =
      neither (bad_count m.n) (not (eqb l.n m.n))
      (neither (bad_count l.n) (bad_count m.n || not (eqb l.n m.n)) p).1

  pub counts-agree : l.n ≡ m.n
  counts-agree = eqb-true l.n m.n (not-false (eqb l.n m.n) second-count.1)

  pub records-number : {others : Bool} → others ≡ (other_than l.n choice || other_than 96 list) →
      first_fitting (records_lines l m choice list)
      ≡ earlier_of (first_fitting (record_lines l others false)) (first_fitting (record_lines m false false))
  records-number {others} o =
      sym (ap₂ earlier_of
      (passed 2 _ (neither (bad_count l.n) (bad_count m.n || not (eqb l.n m.n)) p).0)
      (passed 2 _ second-count.0)
      ∙ sym (earlier-later (record_lengths l) (record_stray l) (record_codes l)
      (not_simple l.n (held_record l).graph) (record_lengths m) (record_stray m) (record_codes m)
      (not_simple m.n (held_record m).graph) others)
      ∙ ap (λ v. first_fitting (line 4 (record_lengths l || (record_lengths m || v))
      ∷ line 5 (record_stray l || record_stray m) ∷ line 6 (record_codes l || record_codes m)
      ∷ line 7 (not_simple l.n (held_record l).graph || not_simple m.n (held_record m).graph) ∷ [])) o
      ∙ sym (passed 2 _ p))

  -- no line up to 7 holds: the comparison of the two reduced records decides
  pub records-answered : first_fitting (records_lines l m choice list) ≡ 0 →
      {limited : Bool} {count k : ℕ} {choice' list' : List ℕ} {count' : ℕ} →
      PairAnswered limited l.n (held_rows l) (held_rows m) choice list count k choice' list' count' →
      Call (comparing_records_call limited l m choice list count choice' list' count') k
  records-answered a {limited} Q =
      record {
        number = Q.number
            ∙ ap (λ b. first_fitting (limit_lines limited (record_large_part l || b)
            ++ (line 13 (no_choice l.n (held_rows l) (held_rows m)) ∷ [])))
            (ap (λ j. part_above 20 j (reduced_graph j (held_rows m))) counts-agree)
            ∙ sym (more-accepted (records_lines l m choice list) _ (records-numbered l m choice list) a);
        held = (Q.codes, (Q.vertices, (Q.amount, tt)));
      }
