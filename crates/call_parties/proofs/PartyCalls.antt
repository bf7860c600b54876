-- A party's calls from what is done to the copy of its vertices.
use mathlib.Core.Bool.{cond, ◌||◌}
use mathlib.Core.List.{List}
use mathlib.Core.Path.{ap, ap₂, refl, subst, sym, ◌∙◌, ◌≡◌}
use Prim.Native.Nat.{ℕ}
use lib.ListN.{get_or, length}
use borrow.Author.Tests.{eq-eqb}
use Rattle.buffers.specs.Buffers.{tabulate}
use Rattle.buffers.specs.Refusals.{first_fitting}
use Rattle.calls.proofs.InPlaceCalls.{left-by-call, marked-by-call}
use Rattle.calls.specs.InPlace.{used_call, used_measure_call}
use Rattle.buffers.proofs.Calling.{done, kept-all, refused, written_all}
use Rattle.buffers.specs.Answers.{HoldsAnswer}
use Rattle.buffers.specs.Calls.{Call, EachOf}
use Rattle.parties.proofs.PartyNumbers.{masked-answer, masked-number}
use Rattle.parties.proofs.PartyPassing.{party-number}
use Rattle.parties.proofs.MaskedRecords.{apart-record, masked-passes}
use Rattle.parties_impl.specs.internal.BeforeEight.{Admitted, PutBack}
use Rattle.parties.specs.PartyLines.{party_lines, names_other}
use Rattle.parties.specs.Masks.{in_party, masked}
use Rattle.parties.specs.internal.Apart.{Apart, PartyOp, measure-op}
use Rattle.operations.specs.Measurement.{determined_number, outcome_number}
use Rattle.operations.specs.Steps.{Operation, measured_answer, measurement_of}
use Rattle.operations.specs.Used.{used_lines_of, UsedRecord, used_record, UsedUnrefused}
use Rattle.words.specs.Bits.{bit, word_of}
use Rattle.calls.specs.Parties.{party_call, party_lent, party_measure_call}

module _ (word g : ℕ) (u : UsedRecord) (H : Apart word u) where
  -- the record's buffers have 64 places
  pub lent-64 : (length u.held.neighbours ≡ 64) × (length u.held.codes ≡ 64)
  lent-64 =
      let R = apart-record word u H in
      (R.neighbours-length ∙ H.count, R.codes-length ∙ H.count)

  -- a copy of 64 qubits is one of n
  pub copied-whole : (nb cs : List ℕ) (r : ℕ)
      → used_record 64 nb cs r
      ≡ masked (in_party word g) (used_record 64 u.held.neighbours u.held.codes u.used)
      → used_record u.held.n nb cs r ≡ masked (in_party word g) u
  copied-whole nb cs r = subst (λ m. used_record m nb cs r
      ≡ masked (in_party word g) (used_record m u.held.neighbours u.held.codes u.used)) (sym H.count)

  pub copy-unrefused : {v : UsedRecord} → v ≡ masked (in_party word g) u → UsedUnrefused v
  copy-unrefused copied = subst UsedUnrefused (sym copied) (record { no_line = masked-passes word g u H })

module _ (word g : ℕ) (u : UsedRecord) (o : Operation) (A : Admitted word g u o) where
  module _ (O : PartyOp o) where
    -- the number is that of the call on the copy
    pub copy-number : first_fitting (used_lines_of (masked (in_party word g) u) o)
        ≡ first_fitting (party_lines word g u o)
    copy-number = sym (party-number word g u o (eq-eqb u.held.n 64 A.apart.count) A.low
        (ap₂ ◌||◌ A.apart.no-crossing
        (ap (λ m. names_other (in_party word g) m o) A.apart.count ∙ A.own))
        ∙ masked-number word g u A.apart o O A.own)

  -- the copy
  module _ {v : UsedRecord} (copied : v ≡ masked (in_party word g) u) where
    -- the call on it
    module _ (O : PartyOp o) {r : ℕ} {nb cs : List ℕ} (C : Call (used_call v o nb cs) r) where
      number : r ≡ first_fitting (party_lines word g u o)
      number = C.number ∙ ap (λ w. first_fitting (used_lines_of w o)) copied ∙ copy-number O

      pub party-refused : (r ≡ 0 → ⊥) → Call (party_call word g u o u.held.neighbours u.held.codes) r
      party-refused h = refused _ number h (refl, (refl, tt))

      -- accepted, the party's vertices are put back
      both-put : {nb' cs' : List ℕ}
          → PutBack (in_party word g) nb cs u.held.neighbours u.held.codes nb' cs'
          → EachOf HoldsAnswer (party_lent word g u o nb' cs')
      both-put P =
          let L = left-by-call (masked (in_party word g) u) o (subst (λ w. Call (used_call w o nb cs) r) copied C) in (
            P.neighbours ∙ ap₂ (λ m w. tabulate m (λ q. cond (in_party word g q) (get_or w q 0)
                (get_or u.held.neighbours q 0))) (sym A.apart.count) L.0,
            (
              P.codes ∙ ap₂ (λ m w. tabulate m (λ q. cond (in_party word g q) (get_or w q 0)
                  (get_or u.held.codes q 0))) (sym A.apart.count) L.1,
              tt,
            ),
          )

      pub party-done : r ≡ 0 → {nb' cs' : List ℕ}
          → PutBack (in_party word g) nb cs u.held.neighbours u.held.codes nb' cs'
          → Call (party_call word g u o nb' cs') 0
      party-done z P = done _ number z (both-put P)

-- ---- a measurement
module _ (word g : ℕ) (u : UsedRecord) (pauli q b : ℕ) (A : Admitted word g u (measurement_of pauli q b))
    {v : UsedRecord} (copied : v ≡ masked (in_party word g) u) {answer determined r : ℕ} {nb cs : List ℕ}
    {own answer' determined' : ℕ}
    (C : Call (used_measure_call v pauli q b answer determined nb cs own answer' determined') r) where
  -- without the further answers
  on-record : Call (used_call v (measurement_of pauli q b) nb cs) r
  on-record = record { number = C.number; held = C.held.1.1.1 }

  measured-number : r ≡ first_fitting (party_lines word g u (measurement_of pauli q b))
  measured-number = number word g u (measurement_of pauli q b) A copied (measure-op pauli q b) on-record

  pub measure-refused : (r ≡ 0 → ⊥) → Call (party_measure_call word g u pauli q b answer determined
      u.held.neighbours u.held.codes u.used answer' determined') r
  measure-refused h =
      let K = kept-all C h in
      refused _ measured-number h (refl, (K.1.0, (K.1.1.0, (refl, (refl, tt)))))

  -- accepted: the outcome is that of the whole record
  module _ (z : r ≡ 0) where
    on-copy : Call (used_measure_call (masked (in_party word g) u) pauli q b answer determined nb cs own answer'
        determined') r
    on-copy = subst (λ w. Call (used_measure_call w pauli q b answer determined nb cs own answer' determined') r)
        copied C

    same_answer : measured_answer (masked (in_party word g) u).held pauli q b ≡ measured_answer u.held pauli q b
    same_answer = sym (masked-answer word g u A.apart pauli q b A.own
        (masked-number word g u A.apart (measurement_of pauli q b) (measure-op pauli q b) A.own
        ∙ sym on-copy.number ∙ z))

    pub measure-done : {nb' cs' : List ℕ} {used' : ℕ}
        → PutBack (in_party word g) nb cs u.held.neighbours u.held.codes nb' cs'
        → used' ≡ word_of 64 (λ t. cond (in_party word g t) (bit own t) (bit u.used t))
        → Call (party_measure_call word g u pauli q b answer determined nb' cs' used' answer' determined') 0
    measure-done P eu =
        let W = written_all on-copy z in
        done _ measured-number z (
          eu ∙ ap₂ (λ m w. word_of m (λ t. cond (in_party word g t) (bit w t) (bit u.used t)))
              (sym A.apart.count) (marked-by-call (masked (in_party word g) u) pauli q b on-copy),
          (
            W.1.0 ∙ ap outcome_number same_answer,
            (
              W.1.1.0 ∙ ap determined_number same_answer,
              both-put word g u (measurement_of pauli q b) A copied (measure-op pauli q b) on-record P,
            ),
          ),
        )
