-- A new photon at a used place: what is claimed of it holds, by its contract and the laws of the record left.
use mathlib.Core.Bool.{◌&&◌, false, not}
use mathlib.Core.List.{List, [], ◌∷◌}
use mathlib.Core.Logic.Iff
use mathlib.Core.Logic.{◌↔◌, ◌⊎◌}
use mathlib.Core.Path.{◌∙◌, ◌≡◌, ap, ap₂, refl, subst, sym}
use Prim.Native.Nat.{◌<◌, ◌≤◌, ℕ}
use lib.Dec.{leb}
use lib.ListN.{length-set}
use lib.Seq.{get_or-set_other, get_or-set_same}
use borrow.Author.Tests.{lt-leb, not-true}
use Rattle.buffers.proofs.SentenceLaws.{Matches, and_then, at_most, itself, not-decides, or-decides, or-none, stray}
use Rattle.buffers.specs.Refusals.{first_fitting, line}
use Rattle.buffers.specs.Sentences.{sentence}
use Rattle.calls.proofs.SourceCalls.{renew-0}
use Rattle.calls.specs.Sources.{renew_call}
use Rattle.claims.proofs.NumbersHold.{in_words}
use Rattle.claims.proofs.UsedExactly.{record_of, six-codes, used-exactly}
use Rattle.claims.proofs.families.Shared.{answered, at_zero, by_lines}
use Rattle.claims.specs.Conforming.{Conforms}
use Rattle.claims.specs.OperationsDemand.{IsReduced}
use Rattle.claims.specs.UsedDemand.{left_used}
use Rattle.clifford.specs.Clifford.{clifford_of}
use Rattle.buffers.proofs.Fitting.{decides, fits-at, is-first, none-fits-of, skips}
use Rattle.buffers.specs.Answers.{here}
use Rattle.buffers.specs.Calls.{Call}
use Rattle.operations.proofs.FormOfReduced.{written-form}
use Rattle.operations.proofs.Keeping.{held-codes, held-words}
use Rattle.operations.proofs.ReducedForms.{form-reduced}
use Rattle.operations.specs.internal.ReducedForms.{ReducedForm}
use Rattle.operations.proofs.UnrefusedRecords.{accepted-unrefused}
use Rattle.operations.specs.internal.InPlace.{Unrefused, record_in}
use Rattle.pauli.proofs.PauliLaws.{identity-mul}
use Rattle.pauli.specs.Pauli.{Pauli}
use Rattle.record.proofs.RecordInWords.{code-above-23, misfits, stray-neighbour}
use Rattle.record.specs.Accepted.{AcceptedRecord}
use Rattle.record.specs.Lent.{code_numbers, held_record, held_rows, lent_record, neighbour_words}
use Rattle.record.specs.RecordSentences.{CodeAbove23, RecordMisfits}
use Rattle.record.specs.Records.{GraphRecord, rows_of}
use Rattle.record.specs.Reduced.{reduced}
use Rattle.source.proofs.RenewedGroups.{renewed-group}
use Rattle.source.proofs.RenewedRecords.{
  alone,
  holds-recoded,
  renew-passes,
  renewed-accepted,
  renewed-form,
  renewed-passes,
  unmarked-bits,
}
use Rattle.source.proofs.RenewedRecords as below
use Rattle.source.specs.Renewal.{Renewed, joined, photon, renew_lines, renewed}
use Rattle.stabilizer.proofs.GroupLaws.{in-identity}
use Rattle.stabilizer.specs.Groups.{InGroup}
use Rattle.operations.proofs.UsedInWords.{of-six, used-in-words}
use Rattle.operations.proofs.UsedStaying.{used_low}
use Rattle.operations.specs.Used.{used_code, used_lines, UsedRecord, used_record}
use Rattle.operations.specs.UsedSentences.{IsUsed, OfSix, StrayBit, used_sentences}
use Rattle.words.proofs.Places.{same_place}
use Rattle.words.specs.Bits.{bit}
use Rattle.claims.specs.Sources.{RenewFits, RenewSays, RenewalStands, lines_before20, renew_sentences}

module _ (u : UsedRecord) (q k : ℕ) where
  pub renew-lines : (first_fitting (renew_lines u q k) ≡ 0) ↔ RenewFits u q k
  renew-lines = (
    (λ e. let F = renew-passes u q k e in
        let six = used_low k F.code in
        record {
          held = record_of u F.held F.no_stray F.none-wrong;
          qubit = F.below;
          used = F.marked;
          code = (six.0.0, six.0.1, sym six.1 ∙ six.0.2);
        }),
    (λ F. sym (renew-0 u q k (sym ((used-exactly u false false _).1
        (F.held, refl, refl, ap not (six-codes k F.code.0 F.code.1 F.code.2)))) refl
        (lt-leb u.held.n q F.qubit) (ap not F.used))),
  )

  module _ (nb' cs' : List ℕ) (used' : ℕ) where
    renew-conforms : Conforms (renew_call u q k nb' cs' used')
    renew-conforms = record { order = refl; complete = λ z. (tt, (refl, (length-set u.held.codes q k, tt))) }

  -- ---- an accepted one
  module _ (F : below.RenewFits u q k) where
    abbrev n : ℕ
    n = u.held.n

    abbrev after : UsedRecord
    after = renewed u q k

    abbrev now : GraphRecord
    now = held_record after.held

    pub group-renewed : (p : Pauli) → InGroup u.held.n u.held.n (held_rows (renewed u q k).held) p
        ↔ Renewed u.held.n (InGroup u.held.n u.held.n (held_rows u.held)) q (photon q k) p
    group-renewed p = subst (λ s. InGroup n n (rows_of n s) p ↔ Renewed n (InGroup n n (held_rows u.held)) q
        (photon q k) p)
        (sym (holds-recoded u q k F))
        (renewed-group n (held_record u.held) F.held.simple q F.below (alone u q k F) (clifford_of k) p)

    -- the buffers hold what they stand for
    A : AcceptedRecord after.held
    A = renewed-accepted u q k F

    unrefused : Unrefused (record_in after.held.neighbours after.held.codes)
    unrefused = accepted-unrefused n after.held.neighbours after.held.codes A

    -- the reduced form is read off the record
    form : IsReduced u.held → ReducedForm n (held_record u.held)
    form R = subst (ReducedForm n)
        (ap₂ (λ nb cs. held_record (lent_record n nb cs)) (sym R.neighbours) (sym R.codes))
        (written-form n (held_rows u.held) F.held.proper)

    stays-reduced : IsReduced u.held → IsReduced after.held
    stays-reduced R =
        let own : now ≡ reduced n (held_rows after.held) = sym
        (form-reduced n now A.simple (renewed-form u q k F (form R))) in
        record {
          neighbours = held-words _ _ unrefused ∙ ap (λ m. neighbour_words m now) A.neighbours-length
              ∙ ap (neighbour_words n) own;
          codes = held-codes _ _ unrefused ∙ ap (λ m. code_numbers m now) A.neighbours-length ∙ ap (code_numbers n)
              own;
        }

    stands : RenewalStands u q k (renewed u q k)
    stands =
        record {
          passes = renewed-passes u q k F;
          unmarked = unmarked-bits u q k F;
          code = get_or-set_same u.held.codes q k 0 (subst (λ m. q < m) (sym F.held.codes-length) F.below);
          codes = λ t d. get_or-set_other u.held.codes q t k 0 d;
          neighbours = refl;
          free = (F.below, unmarked-bits u q k F q ∙ ap₂ (λ b e. b && not e) F.marked (same_place q));
          new = (group-renewed (photon q k)).1 (subst (Renewed n (InGroup n n (held_rows u.held)) q (photon q k))
              (identity-mul n (photon q k)) (joined (in-identity n n (held_rows u.held)) refl));
          group = group-renewed;
          reduced = stays-reduced;
        }

  -- the tests decide the sentences
  renew-in-words : Matches (renew_lines u q k) (renew_sentences u q k)
  renew-in-words = and_then (used_lines u false false (not (used_code k)))
      (line 8 (leb u.held.n q) ∷ line 20 (not (bit u.used q)) ∷ [])
      (used_sentences u (RecordMisfits u.held) (StrayBit u) (CodeAbove23 u.held ⊎ (OfSix k → ⊥)))
      (sentence 8 (u.held.n ≤ q) ∷ sentence 20 (IsUsed u q → ⊥) ∷ [])
      (used-in-words u false false (not (used_code k)) _ _ _ (or-none (misfits u.held))
      (or-decides (stray-neighbour u.held) (or-none (stray u.held.n u.used)))
      (or-decides (code-above-23 u.held) (not-decides (of-six k))))
      (λ e. (refl, (at_most u.held.n q, λ f. (refl, (not-decides itself, λ g. tt)))))

  module _ (nb' cs' : List ℕ) (used' r : ℕ) (C : Call (renew_call u q k nb' cs' used') r) where
    accepted-stands : r ≡ 0 → RenewalStands u q k (left_used u nb' cs' used')
    accepted-stands z =
        let D = at_zero C z in
        let same : renewed u q k ≡ left_used u nb' cs' used' =
        λ i. used_record u.held.n (sym D.held.1.0 i) (sym D.held.1.1.0 i) (sym D.held.0 i) in
        subst (RenewalStands u q k) same (stands (renew-passes u q k (sym D.number)))

    twenty : (r ≡ 20) ↔ ((first_fitting (lines_before20 u q k) ≡ 0) × (bit u.used q ≡ false))
    twenty = (
      (λ e. let p = skips (lines_before20 u q k) 20 refl e (fits-at (renew_lines u q k) C.number) in
          (none-fits-of (lines_before20 u q k) p.0, not-true (bit u.used q) (is-first p.1 refl e))),
      (λ h. C.number ∙ sym (decides (lines_before20 u q k) refl (sym h.0) refl (here (ap not h.1)))),
    )

    pub renew-says : RenewSays u q k nb' cs' used' r
    renew-says =
        record {
          answered = answered (renew-conforms nb' cs' used') C;
          accepted = Iff.trans (by_lines C) renew-lines;
          numbers = in_words (renew_sentences u q k) renew-in-words C;
          stands = accepted-stands;
          refused = twenty;
        }
