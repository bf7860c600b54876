-- The call that reads a record, from what the functions below it answer.
use mathlib.Core.Bool.{Bool, false, not, true, ◌||◌}
use mathlib.Core.List.{List}
use mathlib.Core.Path.{ap, refl, sym, ◌∙◌, ◌≡◌}
use Prim.Native.Nat.{◌*◌, ◌+◌, ◌<◌, ℕ, ◌≤◌}
use native.Mathlib.Omega.{arith}
use lib.ListN.{length, length-take, take}
use Rattle.std.specs.Prelude.{None, Some}
use Rattle.buffers.proofs.Calling.{done, refused}
use Rattle.buffers.proofs.Fitting.{first-is, fits-at}
use Rattle.buffers.proofs.Lines.{not-held}
use Rattle.buffers.proofs.Tabulate.{tabulate-length}
use Rattle.buffers.specs.Answers.{here, later}
use Rattle.buffers.specs.Buffers.{tabulate, written}
use Rattle.buffers.specs.Calls.{Call}
use Rattle.buffers.specs.Refusals.{bad_count, first_fitting, other_than}
use Rattle.calls.specs.RecordTexts.{read_record_call, read_record_lines, record_in_text}
use Rattle.operations.proofs.UsedPassing.{lines-pass}
use Rattle.operations.specs.Used.{used_lines, UsedRecord, used_record}
use Rattle.record.specs.Lent.{record_lengths, record_lines}
use Rattle.stabilizer.proofs.SharedTests.{counted, has-length}
use Rattle.store.specs.Places.{part_at}
use Rattle.text.specs.RecordTexts.{line_read}
use Rattle.text_records.specs.declared.reading.ReadRecord.{ReadRecord}
use Rattle.text_records.specs.internal.Reads.{TextTold}
use Rattle.words.proofs.Flags.{neither}
use Rattle.words.specs.Bits.{word_of}

-- a count that is 0 or above 64 is 2, whatever else the record has
pub two : (u : UsedRecord) (others : Bool) → bad_count u.held.n ≡ true →
    2 ≡ first_fitting (used_lines u others false false)
two u others h = first-is (here (ap (λ b. (b || false) || false) h))

-- the record that was read, in the first places of the arrays
abbrev held_by : ReadRecord → UsedRecord
held_by r =
    used_record r.count (take r.count r.neighbours) (take r.count r.codes) r.used

module _ (t : List ℕ) (n : ℕ) (nb cs : List ℕ) (used : ℕ) where
  pub read-unformed : TextTold t None → Call (read_record_call t n nb cs used n nb cs used) 1
  read-unformed T =
      refused _ (first-is (here (ap not (sym T.form)))) (λ e. absurd (omega (arith, e)))
      (refl, (refl, (refl, (refl, tt))))

  module _ (r : ReadRecord) (T : TextTold t (Some r)) where
    -- up to 64 lines the arrays hold what the text says
    same-record : r.count ≤ 64 → held_by r ≡ record_in_text t
    same-record few =
        let c = T.lines.count in
        let words = T.lines.neighbours few ∙ ap (λ k. tabulate k (λ q. (line_read t q).word)) c in
        let marks = T.lines.codes few ∙ ap (λ k. tabulate k (λ q. (line_read t q).code)) c in
        let bits = T.lines.used few ∙ ap (λ k. word_of k (λ q. (line_read t q).used)) c in
        λ i. used_record (c i) (words i) (marks i) (bits i)

    same_number : (others : Bool) → first_fitting (used_lines (held_by r) others false false)
        ≡ first_fitting (used_lines (record_in_text t) others false false)
    same_number others = go (bad_count r.count) refl
      where
        go : (b : Bool) → bad_count r.count ≡ b → first_fitting (used_lines (held_by r) others false false)
            ≡ first_fitting (used_lines (record_in_text t) others false false)
        go true h = sym (two (held_by r) others h) ∙ two (record_in_text t) others (sym (ap bad_count (T.lines.count)) ∙ h)
        go false h =
            ap (λ u. first_fitting (used_lines u others false false)) (same-record (counted r.count h).1)

    module _ (others : Bool) (o : others ≡ (other_than 64 nb || other_than 64 cs)) (k : ℕ)
        (e : k ≡ first_fitting (used_lines (held_by r) others false false)) where
      at-record : k ≡ first_fitting (used_lines (record_in_text t) (other_than 64 nb || other_than 64 cs) false false)
      at-record = e ∙ same_number others ∙ ap (λ b. first_fitting (used_lines (record_in_text t) b false false)) o

      at-lines : k ≡ first_fitting (read_record_lines t nb cs)
      at-lines = first-is (later (ap not (sym T.form)) (fits-at _ at-record))

      pub read-refused : (k ≡ 0 → ⊥) → Call (read_record_call t n nb cs used n nb cs used) k
      read-refused h = refused _ at-lines h (refl, (refl, (refl, (refl, tt))))

      module _ (z : k ≡ 0) where
        lines : first_fitting (record_lines (held_by r).held others false) ≡ 0
        lines = ((lines-pass (held_by r) others false false).0 (sym e ∙ z)).0

        few : r.count ≤ 64
        few = (counted r.count (not-held 1 _ _ lines).0).1

        others-fit : (other_than 64 nb || other_than 64 cs) ≡ false
        others-fit =
            sym o ∙ (neither (record_lengths (held_by r).held) others (not-held 3 _ _ (not-held 1 _ _ lines).1).0).1

        in_array : (array : List ℕ) (g : ℕ → ℕ) → take r.count array ≡ tabulate r.count g → r.count ≤ length
            array
        in_array array g h = omega (arith, ap length h, tabulate-length r.count g, length-take r.count array)

        pub read-room : ((0 < 8) × (r.count ≤ length nb) × (r.count ≤ length cs))
            × ((64 * 0 + r.count ≤ length r.neighbours) × (64 * 0 + r.count ≤ length r.codes))
        read-room =
            let h = neither (other_than 64 nb) (other_than 64 cs) others-fit in (
              (
                omega arith,
                omega (arith, few, has-length 64 nb h.0),
                omega (arith, few, has-length 64 cs h.1),
              ),
              (
                omega (arith, in_array r.neighbours _ (T.lines.neighbours few)),
                omega (arith, in_array r.codes _ (T.lines.codes few)),
              ),
            )

        pub read_done : {nb' cs' : List ℕ} → nb' ≡ written (part_at 0 r.count r.neighbours) nb →
            cs' ≡ written (part_at 0 r.count r.codes) cs →
            Call (read_record_call t n nb cs used r.count nb' cs' r.used) 0
        read_done en ec =
            let same = same-record few in
            done _ at-lines z (
              T.lines.count,
              (
                en ∙ ap (λ u. written u.held.neighbours nb) same,
                (ec ∙ ap (λ u. written u.held.codes cs) same, (ap (λ u. u.used) same, tt)),
              ),
            )
