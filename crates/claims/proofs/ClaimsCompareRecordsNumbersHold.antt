-- The numbers of a comparison of two records, in words.
use mathlib.Core.List.{List, [], ◌∷◌}
use mathlib.Core.Path.{refl, subst, sym, ◌≡◌}
use Prim.Native.Nat.{ℕ}
use lib.Dec.{ltb}
use Rattle.buffers.proofs.SentenceLaws.{Decides, Matches, above, and_then, or-decides, some-decides}
use Rattle.buffers.specs.Refusals.{first_fitting, line}
use Rattle.buffers.specs.Sentences.{sentence}
use Rattle.calls.specs.RecordComparisons.{compare_records_lines, record_large_part, records_lines}
use Rattle.claims.proofs.NumbersHold.{answers-misfit, counts-wrong}
use Rattle.claims.specs.Numbers.{NoneCarries}
use Rattle.comparison.proofs.Least.{none-carries}
use Rattle.comparison.specs.Choices.{no_choice}
use Rattle.cut.specs.Kernel.{count}
use Rattle.record.specs.NeighbourWords.{graph_in}
use Rattle.comparison.specs.Parts.{part_above, part_of}
use Rattle.record.proofs.RecordInWords.{code-above-23, misfits, not-simple, stray-neighbour}
use Rattle.record.specs.Lent.{LentRecord, held_rows}
use Rattle.record.specs.Reduced.{reduced_graph}
use Rattle.stabilizer.specs.Groups.{Proper}
use Rattle.claims.proofs.Expansions.{both-accepted}
use Rattle.claims.specs.RecordPairs.{LargePartOf, compare_records_sentences, records_sentences}

large-part : (l : LentRecord) → Decides (record_large_part l) (LargePartOf l)
unfolding part_above
large-part l = some-decides l.n
    (λ q. ltb 20 (count l.n (part_of l.n (reduced_graph l.n (held_rows l)) q))) _ (λ q. above 20 _)

module _ (l m : LentRecord) (choice list : List ℕ) where
  pub records-words : Matches (records_lines l m choice list) (records_sentences l m choice list)
  records-words = (
    refl,
    (
      counts-wrong l.n m.n,
      λ e. (
        refl,
        (
          or-decides (misfits l) (or-decides (misfits m) (answers-misfit l.n choice list)),
          λ e. (
            refl,
            (
              or-decides (stray-neighbour l) (stray-neighbour m),
              λ e. (
                refl,
                (
                  or-decides (code-above-23 l) (code-above-23 m),
                  λ e. (
                    refl,
                    (
                      or-decides (not-simple l.n (graph_in l.neighbours))
                          (not-simple m.n (graph_in m.neighbours)),
                      λ e. tt,
                    ),
                  ),
                ),
              ),
            ),
          ),
        ),
      ),
    ),
  )

  -- where lines 2 to 7 pass, 13 is about all choices
  pub none-of-choices : first_fitting (records_lines l m choice list) ≡ 0
      → Decides (no_choice l.n (held_rows l) (held_rows m)) (NoneCarries l.n (held_rows l) (held_rows m))
  none-of-choices e =
      let A = both-accepted l m choice list e in
      none-carries l.n (held_rows l) (held_rows m) A.first.proper.within
      (subst (λ k. Proper k (held_rows m)) (sym A.same_count) A.second.proper).within

  pub compare-words : Matches (compare_records_lines l m choice list) (compare_records_sentences l m choice list)
  compare-words = and_then (records_lines l m choice list) (line 3 _ ∷ line 13 _ ∷ []) (records_sentences l m choice list)
      (sentence 3 _ ∷ sentence 13 _ ∷ []) records-words
      (λ e. (refl, (or-decides (large-part l) (large-part m), λ h. (refl, (none-of-choices e, λ h. tt)))))
