-- A record written into buffers and read back: it is the same record, and it is refused by no line.
use mathlib.Core.Bool.{false}
use mathlib.Core.Logic.{inl, inr}
use mathlib.Core.Path.{ap, sym, ◌∙◌, ◌≡◌}
use Prim.Native.Nat.{◌^◌, ℕ, ◌≤◌}
use Rattle.buffers.proofs.Tabulate.{tabulate-at, tabulate-length}
use Rattle.buffers.specs.Refusals.{first_fitting}
use Rattle.clifford.proofs.CliffordLaws.{clifford_of-code_of, code_of-lt}
use Rattle.clifford.specs.Clifford.{clifford_of, code_of, identity_clifford}
use Rattle.record.specs.Graph.{Simple}
use Rattle.pauli.specs.Pauli.{Pauli}
use Rattle.record.proofs.AcceptedRecords.{none-refuses}
use Rattle.stabilizer.proofs.EqualRows.{same-group-equal}
use Rattle.stabilizer.proofs.GroupLaws.{same-trans}
use Rattle.stabilizer.proofs.ReadBack.{table-past, word_back}
use Rattle.stabilizer.proofs.SharedTests.{table-passes}
use Rattle.stabilizer.specs.Groups.{Proper, SameGroup}
use Rattle.words.proofs.BitLaws.{word_of-lt, zero_bit}
use Rattle.words.proofs.Sums.{lt-or-ge}
use Rattle.words.specs.Bits.{bit, word_of}
use Rattle.record.proofs.ReducedCodes.{reduced-code-above}
use Rattle.record.proofs.ReducedRecords.{reduced-is, same-group}
use Rattle.record.proofs.SimpleVerdict.{SimpleBelow}
use Rattle.record.proofs.Unique.{record-path}
use Rattle.record.specs.Lent.{
  code_numbers,
  held_record,
  held_rows,
  LentRecord,
  lent_record,
  neighbour_words,
  record_lines,
}
use Rattle.record.specs.Records.{GraphRecord, SameRecord, rows_of}
use Rattle.record.specs.Reduced.{reduced}

abbrev pub written_record : ℕ → GraphRecord → LentRecord
written_record n r = lent_record n (neighbour_words n r) (code_numbers n r)

module _ (n : ℕ) (r : GraphRecord) (S : Simple n r.graph) (above : (q : ℕ) → n ≤ q
    → r.codes q ≡ identity_clifford)
  where
    graph-back : (i j : ℕ) → (held_record (written_record n r)).graph i j ≡ r.graph i j
    graph-back i j = elim (lt-or-ge i n) [
      | inl l ↦ ap (λ w. bit w j) (tabulate-at n (λ j. word_of n (r.graph j)) i l)
          ∙ word_back n (r.graph i) (S.below i) j
      | inr l ↦ ap (λ w. bit w j) (table-past n (λ j. word_of n (r.graph j)) i l) ∙ zero_bit j
          ∙ sym (S.symmetric i j ∙ S.below j i l)
    ]

    code-back : (q : ℕ) → (held_record (written_record n r)).codes q ≡ r.codes q
    code-back q = elim (lt-or-ge q n) [
      | inl l ↦ ap clifford_of (tabulate-at n (λ q. code_of (r.codes q)) q l) ∙ clifford_of-code_of (r.codes q)
      | inr l ↦ ap clifford_of (table-past n (λ q. code_of (r.codes q)) q l) ∙ sym (above q l)
    ]

    pub record-back : SameRecord (held_record (written_record n r)) r
    record-back = record { neighbours = graph-back; code = code-back }

    pub record-rows-back : (j : ℕ) → held_rows (written_record n r) j ≡ rows_of n r j
    record-rows-back j = ap (λ s. rows_of n s j) (record-path (held_record (written_record n r)) r record-back)

    pub record-passes : 1 ≤ n → n ≤ 64 → first_fitting (record_lines (written_record n r) false false) ≡ 0
    record-passes positive upto =
        none-refuses (written_record n r) positive upto (tabulate-length n _) (tabulate-length n _)
        (table-passes (2 ^ n) n (λ j. word_of n (r.graph j)) (λ j l. word_of-lt n (r.graph j)))
        (table-passes 24 n (λ q. code_of (r.codes q)) (λ q l. code_of-lt (r.codes q))) still-simple
      where
        still-simple : SimpleBelow n (held_record (written_record n r)).graph
        still-simple =
            record {
              symmetric = λ i j k l. graph-back i j ∙ S.symmetric i j ∙ sym (graph-back j i);
              loopless = λ i l. graph-back i i ∙ S.loopless i;
            }

-- ---- the reduced record of a list
module _ (n : ℕ) (R : ℕ → Pauli) (P : Proper n R) where
  pub reduced-identity-above : (q : ℕ) → n ≤ q → (reduced n R).codes q ≡ identity_clifford
  reduced-identity-above q l =
      sym (clifford_of-code_of ((reduced n R).codes q)) ∙ ap clifford_of (reduced-code-above n R q l)

  pub reduced-back : SameRecord (held_record (written_record n (reduced n R))) (reduced n R)
  reduced-back = record-back n (reduced n R) (reduced-is n R P).simple reduced-identity-above

  -- what the buffers hold stands for the list's group
  pub reduced-held-same : SameGroup n n R (held_rows (written_record n (reduced n R)))
  reduced-held-same =
      same-trans (same-group n R P)
      (same-group-equal n (rows_of n (reduced n R)) (held_rows (written_record n (reduced n R)))
      (λ j l. sym (record-rows-back n (reduced n R) (reduced-is n R P).simple reduced-identity-above j)))

  pub reduced-passes : 1 ≤ n → n ≤ 64
      → first_fitting (record_lines (written_record n (reduced n R)) false false) ≡ 0
  reduced-passes = record-passes n (reduced n R) (reduced-is n R P).simple reduced-identity-above
