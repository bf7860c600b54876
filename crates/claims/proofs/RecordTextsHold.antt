-- What is said of the calls that write a record as a text and read it, from their contracts.
use mathlib.Core.Bool.{false}
use mathlib.Core.List.{List, ◌++◌}
use mathlib.Core.Logic.Iff
use mathlib.Core.Path.{ap, ap₂, refl, subst, sym, ◌∙◌, ◌≡◌}
use Prim.Native.Nat.{ℕ}
use native.Mathlib.Omega.{arith}
use lib.ListN.{drop, length, take}
use lib.Seq.{drop_at, take_at}
use Rattle.buffers.proofs.Calling.{no_line, written_all}
use Rattle.buffers.proofs.SentenceLaws.{Matches, not-decides, or-decides, or-none, other_length, stray}
use Rattle.buffers.specs.Buffers.{written}
use Rattle.buffers.specs.Calls.{Call}
use Rattle.calls.specs.RecordTexts.{
  print_of,
  read_record_call,
  read_record_lines,
  record_in_text,
  write_record_call,
  write_record_lines,
}
use Rattle.jobs.specs.Answer.{results_of}
use Rattle.jobs.specs.Results.{job_answer, result_lines, result_names}
use Rattle.jobs.specs.Runs.{run, started}
use Rattle.jobs.specs.Standing.{StillRecord}
use Rattle.operations.proofs.UsedInWords.{used-in-words}
use Rattle.operations.proofs.UsedPassing.{unused-passes}
use Rattle.operations.specs.Used.{UsedRecord, used_record}
use Rattle.record.specs.Lent.{LentRecord}
use Rattle.record.proofs.RecordInWords.{code-above-23, misfits, stray-neighbour}
use Rattle.text.proofs.RecordForm.{record-form-exactly}
use Rattle.claims.proofs.NumbersHold.{in_words}
use Rattle.claims.proofs.RecordTextsExactly.{
  ReadParts,
  print-size,
  read-lines,
  read-parts,
  record-back,
  text-back,
  write-lines,
}
use Rattle.claims.proofs.families.Shared.{answered, at_zero, by_lines, written-fills}
use Rattle.claims.proofs.families.Stores.{is-record}
use Rattle.claims.specs.Arguments.{IsRecord}
use Rattle.claims.specs.Conforming.{Conforms}
use Rattle.claims.specs.ProgramDemand.{reduced_record}
use Rattle.claims.specs.RecordTexts.{
  ReadRecordSays,
  RecordComesBack,
  RecordTextsDemand,
  RecordTextComesBack,
  WriteRecordSays,
  read_record_sentences,
  record_read,
  write_record_sentences,
}

-- ---- numbers in words
write-words : (u : UsedRecord) (text : List ℕ) → Matches (write_record_lines u text) (write_record_sentences u text)
write-words u text = used-in-words u _ false false _ _ _ (or-decides (misfits u.held) (other_length 1627 text))
    (or-decides (stray-neighbour u.held) (or-none (stray u.held.n u.used)))
    (or-none (code-above-23 u.held))

read-words : (t nb cs : List ℕ) → Matches (read_record_lines t nb cs) (read_record_sentences t nb cs)
read-words t nb cs = (
  refl,
  (
    not-decides (record-form-exactly t),
    λ e. let u = record_in_text t in
        used-in-words u _ false false _ _ _
        (or-decides (misfits u.held) (or-decides (other_length 64 nb) (other_length 64 cs)))
        (or-decides (stray-neighbour u.held) (or-none (stray u.held.n u.used)))
        (or-none (code-above-23 u.held)),
  ),
)

-- ---- demand 1
write-conforms : (u : UsedRecord) (text : List ℕ) (size : ℕ) (text' : List ℕ) (size' : ℕ) →
    Conforms (write_record_call u text size text' size')
write-conforms u text size text' size' =
    record {
      order = refl;
      complete = λ z. let F = (write-lines u text).0 z in
          (written-fills (print_of u) text (omega (arith, print-size u F.0.held.upto, F.1)), (tt, tt));
    }

read-conforms : (t : List ℕ) (n : ℕ) (nb cs : List ℕ) (used n' : ℕ) (nb' cs' : List ℕ) (used' : ℕ) →
    Conforms (read_record_call t n nb cs used n' nb' cs' used')
read-conforms t n nb cs used n' nb' cs' used' =
    record {
      order = refl;
      complete = λ z. let P = read-parts t nb cs z in
          let A = P.is-record.held in (
            tt,
            (
              written-fills (record_in_text t).held.neighbours nb
                  (omega (arith, A.neighbours-length, A.upto, P.neighbours)),
              (
                written-fills (record_in_text t).held.codes cs (omega (arith, A.codes-length, A.upto, P.codes)),
                (tt, tt),
              ),
            ),
          );
    }

-- ---- what accepted calls leave
module _ (u : UsedRecord) (text : List ℕ) (size : ℕ) (text' : List ℕ) (size' : ℕ)
    (C : Call (write_record_call u text size text' size') 0) where
  pub written-record : IsRecord u
  written-record = ((write-lines u text).0 (no_line C refl)).0

  pub written-text : take size' text' ≡ print_of u
  written-text =
      let W = written_all C refl in
      ap₂ take W.1.0 W.0 ∙ take_at (print_of u) (drop (length (print_of u)) text) (length (print_of u)) refl

  written-past : drop size' text' ≡ drop size' text
  written-past =
      let W = written_all C refl in
      ap₂ drop W.1.0 W.0 ∙ drop_at (print_of u) (drop (length (print_of u)) text) (length (print_of u)) refl
      ∙ ap (λ k. drop k text) (sym W.1.0)

module _ (t : List ℕ) (n : ℕ) (nb cs : List ℕ) (used n' : ℕ) (nb' cs' : List ℕ) (used' : ℕ)
    (C : Call (read_record_call t n nb cs used n' nb' cs' used') 0) where
  parts : ReadParts t nb cs
  parts = read-parts t nb cs (no_line C refl)

  pub read-record : record_read n' nb' cs' used' ≡ record_in_text t
  read-record =
      let W = written_all C refl in
      let u = record_in_text t in
      let A = parts.is-record.held in
      let words = ap₂ take W.0 W.1.0
      ∙ take_at u.held.neighbours (drop (length u.held.neighbours) nb) u.held.n A.neighbours-length in
      let marks = ap₂ take W.0 W.1.1.0
      ∙ take_at u.held.codes (drop (length u.held.codes) cs) u.held.n A.codes-length in
      let n-is = W.0 in
      let used-is = W.1.1.1.0 in
      λ i. used_record (n-is i) (words i) (marks i) (used-is i)

  past : (new old new' : List ℕ) → length new ≡ n' → new' ≡ written new old → drop n' new' ≡ drop n' old
  past new old new' e w =
      ap (drop n') w ∙ drop_at new (drop (length new) old) n' e ∙ ap (λ k. drop k old) e

  pub read_past : (drop n' nb' ≡ drop n' nb) × (drop n' cs' ≡ drop n' cs)
  read_past =
      let W = written_all C refl in
      let A = parts.is-record.held in (
        past (record_in_text t).held.neighbours nb nb' (A.neighbours-length ∙ sym W.0) W.1.0,
        past (record_in_text t).held.codes cs cs' (A.codes-length ∙ sym W.0) W.1.1.0,
      )

  pub read-text-is : t ≡ print_of (record_in_text t)
  read-text-is = sym (text-back t parts.form parts.is-record.held.upto)

-- ---- each comes back
pub comes_back : (u : UsedRecord) → IsRecord u → (t : List ℕ) → t ≡ print_of u → RecordComesBack u t
comes_back u R t e n nb cs used n' nb' cs' used' r ln lc C =
    let z = (by_lines C).1 ((read-lines t nb cs).1 (u, R, e, ln, lc)) in
    (z, read-record t n nb cs used n' nb' cs' used' (at_zero C z) ∙ ap record_in_text e ∙ record-back u R)

text-comes-back : (t : List ℕ) (u : UsedRecord) → IsRecord u → t ≡ print_of u → RecordTextComesBack t u
text-comes-back t u R e text size text' size' r long C =
    let z = (by_lines C).1 ((write-lines u text).1 (R, long)) in
    (z, written-text u text size text' size' (at_zero C z) ∙ sym e)

-- ---- what is said of each call
pub write-record-says : (u : UsedRecord) (text : List ℕ) (size : ℕ) (text' : List ℕ) (size' r : ℕ) →
    Call (write_record_call u text size text' size') r → WriteRecordSays u text size text' size' r
write-record-says u text size text' size' r C =
    record {
      answered = answered (write-conforms u text size text' size') C;
      accepted = Iff.trans (by_lines C) (write-lines u text);
      numbers = in_words (write_record_sentences u text) (write-words u text) C;
      print = λ z. written-text u text size text' size' (at_zero C z);
      past = λ z. written-past u text size text' size' (at_zero C z);
      back = λ z. comes_back u (written-record u text size text' size' (at_zero C z)) (take size' text')
          (written-text u text size text' size' (at_zero C z));
    }

pub read-record-says : (t : List ℕ) (n : ℕ) (nb cs : List ℕ) (used n' : ℕ) (nb' cs' : List ℕ) (used' r : ℕ) →
    Call (read_record_call t n nb cs used n' nb' cs' used') r → ReadRecordSays t n nb cs used n' nb' cs' used' r
read-record-says t n nb cs used n' nb' cs' used' r C =
    record {
      answered = answered (read-conforms t n nb cs used n' nb' cs' used') C;
      accepted = Iff.trans (by_lines C) (read-lines t nb cs);
      numbers = in_words (read_record_sentences t nb cs) (read-words t nb cs) C;
      read = λ z. let D = at_zero C z in
          subst (λ u. IsRecord u × (t ≡ print_of u)) (sym (read-record t n nb cs used n' nb' cs' used' D))
          ((parts t n nb cs used n' nb' cs' used' D).is-record, read-text-is t n nb cs used n' nb' cs' used' D);
      past = λ z. read_past t n nb cs used n' nb' cs' used' (at_zero C z);
      back = λ z. let D = at_zero C z in
          subst (RecordTextComesBack t) (sym (read-record t n nb cs used n' nb' cs' used' D))
          (text-comes-back t (record_in_text t) (parts t n nb cs used n' nb' cs' used' D).is-record
          (read-text-is t n nb cs used n' nb' cs' used' D));
    }

-- ---- of both, and of the programs
-- a record without used qubits
unused-record : (l : LentRecord) → StillRecord l → IsRecord (record { held = l; used = 0 })
unused-record l still = (is-record _).0 (unused-passes l false false still)

pub record-texts-demand : RecordTextsDemand
unfolding job_answer
record-texts-demand =
    record {
      one-text = λ t s n nb cs used m nb₂ cs₂ used₂ n' nb' cs' used' nb'' cs'' C D e.
          read-text-is t n nb cs used n' nb' cs' used' C
          ∙ ap print_of (sym (read-record t n nb cs used n' nb' cs' used' C) ∙ e ∙ read-record s m nb₂ cs₂ used₂ n' nb''
          cs'' used' D)
          ∙ sym (read-text-is s m nb₂ cs₂ used₂ n' nb'' cs'' used' D);
      one-record = λ u v a b i j a' b' i' j' C D e.
          sym (record-back u (written-record u a i a' i' C))
          ∙ ap record_in_text (sym (written-text u a i a' i' C) ∙ e ∙ written-text v b j b' j' D)
          ∙ record-back v (written-record v b j b' j' D);
      reduce-prints = λ l bytes P. comes_back _ (unused-record (reduced_record l) P.still) bytes P.printed;
      job-prints = λ n steps bytes P. (
        result_names ++ result_lines (length steps) (results_of (started n) steps),
        print_of (run (started n) steps),
        P.printed,
        comes_back (run (started n) steps) ((is-record (run (started n) steps)).0 P.stands.still)
            (print_of (run (started n) steps)) refl,
      );
    }
