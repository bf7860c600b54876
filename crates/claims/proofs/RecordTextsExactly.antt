-- A record written and read, and a text read and written: each comes back; the lines of both calls, exactly.
use mathlib.Core.Bool.{false, not, true, ◌||◌}
use mathlib.Core.List.{List}
use mathlib.Core.Logic.{◌↔◌}
use mathlib.Core.Path.{ap, ap₂, refl, sym, ◌∙◌, ◌≡◌}
use Prim.Native.Nat.{◌<◌, ℕ, ◌≤◌}
use native.Mathlib.Nat.{lt_of_lt_of_le}
use native.Mathlib.Omega.{arith}
use lib.ListN.{get_or, length, length-append}
use lib.Pow.{pow_mono}
use borrow.Author.Tests.{not-false}
use Rattle.buffers.proofs.Fitting.{first-is, fits-at}
use Rattle.buffers.proofs.Lines.{not-held}
use Rattle.buffers.proofs.Tabulate.{tabulate-at, tabulate-is}
use Rattle.buffers.specs.Answers.{later}
use Rattle.buffers.specs.Buffers.{tabulate}
use Rattle.buffers.specs.Refusals.{first_fitting, other_than}
use Rattle.calls.specs.RecordTexts.{print_of, read_record_lines, record_in_text, write_record_lines}
use Rattle.operations.specs.Used.{used_lines, UsedRecord, used_record}
use Rattle.stabilizer.proofs.SharedTests.{has-length, length-passes}
use Rattle.text.proofs.RecordForm.{count-back, form-text, lines-back, text-form}
use Rattle.text.proofs.RecordLaws.{length-lines}
use Rattle.text.proofs.RecordLines.{print-lines, same_text_lem}
use Rattle.text.specs.RecordTexts.{LineFits, line_read, qubit_count, record_form, record_lines_text}
use Rattle.text.specs.Text.{qubit_lines, record_names, record_text}
use Rattle.text.specs.internal.Text.{line_held}
use Rattle.text.specs.declared.records.RecordLine.{RecordLine}
use Rattle.words.proofs.BitLaws.{bit-word_of, word-cong, word_of-bit}
use Rattle.words.proofs.Flags.{neither}
use Rattle.words.specs.Bits.{bit, word_of}
use Rattle.claims.proofs.UsedExactly.{used-exactly}
use Rattle.claims.specs.Arguments.{IsRecord}
use Rattle.claims.specs.RecordTexts.{ReadRecordFits, WriteRecordFits}

-- ---- a record written and read
module _ (u : UsedRecord) (R : IsRecord u) where
  abbrev said : ℕ → RecordLine
  said = line_held u.held.neighbours u.held.codes u.used

  print-is : print_of u ≡ record_lines_text u.held.n said
  print-is = print-lines u.held.n u.held.neighbours u.held.codes u.used (omega (arith, R.held.upto))

  said_fits : (q : ℕ) → q < u.held.n → LineFits (said q)
  said_fits q l =
      record {
        code = omega (arith, R.held.codes-below q);
        word = lt_of_lt_of_le (R.held.words-below q) (pow_mono R.held.upto);
      }

  pub print-form : record_form (print_of u) ≡ true
  print-form = ap record_form print-is ∙ text-form u.held.n said said_fits

  pub record-back : record_in_text (print_of u) ≡ u
  record-back = ap record_in_text print-is ∙ held
    where
      t : List ℕ
      t = record_lines_text u.held.n said

      n : ℕ
      n = u.held.n

      count : qubit_count t ≡ n
      count = count-back n said said_fits

      table : (f : RecordLine → ℕ) (buffer : List ℕ) → length buffer ≡ n → ((q : ℕ) → f (said q) ≡ get_or buffer q 0) →
          tabulate (qubit_count t) (λ q. f (line_read t q)) ≡ buffer
      table f buffer e h =
          ap (λ k. tabulate k (λ q. f (line_read t q))) count
          ∙ sym (tabulate-is n (λ q. f (line_read t q)) buffer e
          (λ q l. sym (ap f (lines-back n said said_fits q l) ∙ h q)))

      held : record_in_text t ≡ u
      held =
          let words = table (λ l. l.word) u.held.neighbours R.held.neighbours-length (λ q. refl) in
          let marks = table (λ l. l.code) u.held.codes R.held.codes-length (λ q. refl) in
          let bits : word_of (qubit_count t) (λ q. (line_read t q).used) ≡ u.used =
          ap (λ k. word_of k (λ q. (line_read t q).used)) count
          ∙ word-cong n _ (bit u.used) (λ q l. ap (λ l. l.used) (lines-back n said said_fits q l))
          ∙ word_of-bit n u.used R.below
          in
          λ i. used_record (count i) (words i) (marks i) (bits i)

-- ---- a text read and written
pub text-back : (t : List ℕ) → record_form t ≡ true → qubit_count t ≤ 64 → print_of (record_in_text t) ≡ t
text-back t form few =
    print-lines n (record_in_text t).held.neighbours (record_in_text t).held.codes (record_in_text t).used
    (omega (arith, few))
    ∙ same_text_lem n (line_held (record_in_text t).held.neighbours (record_in_text t).held.codes
    (record_in_text t).used) (line_read t) each
    ∙ sym (form-text t form)
  where
    n : ℕ
    n = qubit_count t

    each : (q : ℕ) → q < n →
        line_held (record_in_text t).held.neighbours (record_in_text t).held.codes (record_in_text t).used q ≡
        line_read t q
    each q l =
        let word = tabulate-at n (λ q. (line_read t q).word) q l in
        let code = tabulate-at n (λ q. (line_read t q).code) q l in
        let used = bit-word_of n (λ q. (line_read t q).used) q l in
        λ i. record { code = code i; word = word i; used = used i }

-- ---- how long a print is
pub print-size : (u : UsedRecord) → u.held.n ≤ 64 → length (print_of u) ≤ 1627
unfolding record_text
print-size u few =
    omega (
      arith,
      few,
      length-append record_names (qubit_lines u.held.n u.held.neighbours u.held.codes u.used),
      length-lines u.held.n u.held.neighbours u.held.codes u.used,
    )

-- ---- the lines
pub write-lines : (u : UsedRecord) (text : List ℕ) → (first_fitting (write_record_lines u text) ≡ 0) ↔ WriteRecordFits u
    text
write-lines u text = (
  (λ e. let h = (used-exactly u _ false false).0 e in (h.0, has-length 1627 text h.1)),
  (λ F. (used-exactly u _ false false).1 (F.0, length-passes 1627 text F.1, refl, refl)),
)

module _ (t nb cs : List ℕ) where
  pub record ReadParts : Type 0 where
    pub form : record_form t ≡ true
    pub is-record : IsRecord (record_in_text t)
    pub neighbours : length nb ≡ 64
    pub codes : length cs ≡ 64

  pub read-parts : first_fitting (read_record_lines t nb cs) ≡ 0 → ReadParts
  read-parts e =
      let h = not-held 0 _ _ e in
      let k = (used-exactly (record_in_text t) _ false false).0 h.1 in
      let f = neither (other_than 64 nb) (other_than 64 cs) k.1 in
      record {
        form = not-false (record_form t) h.0;
        is-record = k.0;
        neighbours = has-length 64 nb f.0;
        codes = has-length 64 cs f.1;
      }

  pub read-lines : (first_fitting (read_record_lines t nb cs) ≡ 0) ↔ ReadRecordFits t nb cs
  read-lines = (
    (λ e. let P = read-parts e in (
      record_in_text t,
      P.is-record,
      sym (text-back t P.form P.is-record.held.upto),
      P.neighbours,
      P.codes,
    )),
    (λ F. let same = ap record_in_text F.2 ∙ record-back F.0 F.1 in
        sym (first-is (later (ap not (ap record_form F.2 ∙ print-form F.0 F.1))
        (fits-at _ (sym (ap₂ (λ u b. first_fitting (used_lines u b false false)) same
        (ap₂ ◌||◌ (length-passes 64 nb F.3) (length-passes 64 cs F.4))
        ∙ (used-exactly F.0 false false false).1 (F.1, refl, refl, refl))))))),
  )
