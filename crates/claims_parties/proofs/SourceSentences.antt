-- What is said of a party's observation and renewal, from their contracts: the observation is the party's measurement
-- with the outcome that it answers, and the renewal is that of the whole record.
use mathlib.Core.Bool.{◌&&◌, Bool, and-true, false, not, or-false, true≢false, ◌||◌}
use mathlib.Core.List.{List, []}
use mathlib.Core.Logic.{◌↔◌, ◌≢◌}
use mathlib.Core.Path.{ap, refl, subst, sym, ◌∙◌, ◌≡◌}
use Prim.Native.Nat.{◌<◌, ℕ}
use native.Mathlib.Omega.{arith}
use lib.Dec.{ltb}
use lib.ListN.{get_or, length-set}
use Rattle.buffers.proofs.SentenceLaws.{
  Matches,
  above,
  at_most,
  bad-count,
  equal,
  itself,
  not-decides,
  or-decides,
  or-none,
  stray,
}
use Rattle.buffers.specs.Refusals.{first_fitting}
use Rattle.calls.proofs.PartySourceCalls.{observed-as-measured}
use Rattle.calls.proofs.InPlaceLines.{held-accepted}
use Rattle.calls.proofs.MeasureLines.{arguments-before}
use Rattle.calls.proofs.SourceCalls.{observe-as-measured}
use Rattle.calls.specs.Parties.{party_measure_call}
use Rattle.calls.specs.Sources.{party_observe_call, party_renew_call, renew_call}
use Rattle.claims.proofs.PartiesExactly.{parties-of, of-parties, own-exactly}
use Rattle.claims.proofs.families.Shared.{answered, at_zero, by_lines, table-fills}
use Rattle.claims.specs.Conforming.{Conforms}
use Rattle.claims.specs.UsedDemand.{left_used}
use Rattle.claims.specs.families.Parties.{Own, TwoParties}
use Rattle.claims.proofs.NumbersHold.{in_words}
use Rattle.claims.proofs.ObservationsHold.{observe-lines, passed-all}
use Rattle.claims.proofs.RenewalsHold.{renew-lines, renew-says}
use Rattle.claims.specs.Sources.{ObserveFits, RenewFits, RenewalStands}
use Rattle.buffers.proofs.Fitting.{fits-at, skips}
use Rattle.buffers.specs.Calls.{Call}
use Rattle.source.proofs.ObservedParties.{lines-number, observed-passes-party}
use Rattle.source.proofs.RenewedMasks.{renewed-apart, renewed-passes-party}
use Rattle.source.specs.PartySources.{party_observe_lines, party_renew_lines}
use Rattle.parties.proofs.PartyInWords.{edge-between, other-parties}
use Rattle.parties.proofs.PartyCallsInWords.{arguments-in-words}
use Rattle.parties.specs.PartySentences.{party_argument_sentences}
use Rattle.parties.specs.Masks.{crosses, in_party}
use Rattle.parties.specs.internal.Apart.{Apart}
use Rattle.operations.specs.Steps.{measurement_of}
use Rattle.record.proofs.AcceptedRecords.{accepted-passes}
use Rattle.record.proofs.RecordInWords.{code-above-23, misfits, stray-neighbour}
use Rattle.record.specs.Lent.{record_codes}
use Rattle.source.proofs.Observed as source
use Rattle.source.proofs.RenewedRecords.{renew-passes}
use Rattle.source.specs.Renewal.{renew_lines, renewed}
use Rattle.operations.proofs.UsedInWords.{no_record, of-six}
use Rattle.operations.proofs.UsedPassing.{lines-pass}
use Rattle.operations.specs.Used.{used_arguments_of, used_code, UsedRecord, used_record, used_stray}
use Rattle.words.proofs.Flags.{neither}
use Rattle.words.proofs.Places.{other_place}
use Rattle.words.specs.Bits.{bit}
use Rattle.claims_parties.proofs.CallsStand.{party-calls-stand}
use Rattle.claims_parties.proofs.PartyKeepsHold.{party-calls-keep}
use Rattle.claims_parties.proofs.PartiesReduce.{party-calls-reduce}
use Rattle.claims_parties.specs.PartyKeeps.{PartyKeeps}
use Rattle.claims_parties.specs.PartiesDemand.{StandsAsWhole}
use Rattle.claims_parties.specs.Sentences.Parties.{GroupObserveSays, GroupRenewSays, party_renew_sentences}

module _ (word g : ℕ) (u : UsedRecord) where
  -- ---- observations
  module _ (pauli q b : ℕ) where
    exactly : (first_fitting (party_observe_lines word g u pauli q b) ≡ 0)
        ↔ (TwoParties word g u × Own word g q × ObserveFits u pauli q b)
    exactly = (
      (λ z. let P = observed-passes-party word g u pauli q b z in
          let F = (observe-lines u pauli q b).0 P.lines in (
            parties-of word g u P.count P.party P.no-crossing,
            (own-exactly (in_party word g) q (subst (λ m. q < m) P.count F.qubit.0)).0 P.own,
            F,
          )),
      (λ h. let p = of-parties word g u h.0 in
          lines-number word g u q (used_arguments_of u (measurement_of pauli q b)) h.0.count p.0 p.1
          ((own-exactly (in_party word g) q (subst (λ m. q < m) h.0.count h.2.qubit.0)).1 h.1)
          ∙ (observe-lines u pauli q b).1 h.2),
    )

    module _ (answer determined : ℕ) (nb' cs' : List ℕ) (used' answer' determined' r : ℕ)
        (C : Call (party_observe_call word g u pauli q b answer determined nb' cs' used' answer' determined') r) where
      conforms : Conforms (party_observe_call word g u pauli q b answer determined nb' cs' used' answer' determined')
      conforms =
          record {
            order = refl;
            complete = λ z. let A = held-accepted u.held _ _
                (arguments-before u pauli q b (observed-passes-party word g u pauli q b z).lines) in (
                  tt,
                  (
                    tt,
                    (
                      tt,
                      (
                        table-fills u.held.n _ u.held.neighbours A.neighbours-length,
                        (table-fills u.held.n _ u.held.codes A.codes-length, tt),
                      ),
                    ),
                  ),
                );
          }

      measured : r ≡ 0 → Call (party_measure_call word g u pauli q (source.answered u pauli q b) answer determined nb' cs'
          used'
          answer' determined') 0
      measured z = observed-as-measured word g u pauli q b answer determined nb' cs' used' answer' determined'
          (at_zero C z)

      pub group-observe-says : GroupObserveSays word g u pauli q b answer determined nb' cs' used' answer' determined' r
      group-observe-says =
          record {
            answered = answered conforms C;
            accepted = ((λ z. exactly.0 ((by_lines C).0 z)), λ h. (by_lines C).1 (exactly.1 h));
            numbers = in_words (party_argument_sentences word g u pauli q b) (arguments-in-words word g u pauli q b) C;
            never-14 = λ e. let p = skips (party_observe_lines word g u pauli q b) {ms = []} 14 refl e
                (fits-at (party_observe_lines word g u pauli q b) C.number) in
                absurd (omega (arith, e, passed-all p.1));
            as-measured = λ z. subst (λ v. Call (party_measure_call word g u pauli q v answer determined nb' cs' used'
                answer'
                determined') 0) (sym (at_zero C z).held.1.0) (measured z);
            keeps = λ z. party-calls-keep.measure word g u pauli q (source.answered u pauli q b) answer determined nb'
                cs' used'
                answer' determined' (measured z);
            reduces = λ z. party-calls-reduce.measure word g u pauli q (source.answered u pauli q b) answer determined
                nb' cs'
                used' answer' determined' (measured z);
            stands = λ z r'' nb'' cs'' used'' answer'' determined'' W.
                let zero : r'' ≡ 0 = W.number ∙ (observed-passes-party word g u pauli q b ((by_lines C).0 z)).lines in
                let S = party-calls-stand.measure word g u pauli q (source.answered u pauli q b) answer determined
                nb' cs' used' answer' determined' 0 nb'' cs'' used'' answer'' determined'' (measured z)
                (observe-as-measured u pauli q b (at_zero W zero)) in
                (subst (λ k. StandsAsWhole u nb' cs' k nb'' cs'') (sym zero) S.0, S.1, S.2, S.3);
          }

  -- ---- renewals
  module _ (q k : ℕ) where
    renew-exactly : (first_fitting (party_renew_lines word g u q k) ≡ 0)
        ↔ (TwoParties word g u × Own word g q × RenewFits u q k)
    renew-exactly = (
      (λ z. let P = renewed-passes-party word g u q k z in
          let F = (renew-lines u q k).0 P.lines in (
            parties-of word g u P.count P.group P.no-crossing,
            (own-exactly (in_party word g) q (subst (λ m. q < m) P.count F.qubit)).0 P.own,
            F,
          )),
      (λ h. let p = of-parties word g u h.0 in
          lines-number word g u q (renew_lines u q k) h.0.count p.0 p.1
          ((own-exactly (in_party word g) q (subst (λ m. q < m) h.0.count h.2.qubit)).1 h.1)
          ∙ (renew-lines u q k).1 h.2),
    )

    -- the tests decide the sentences
    renew-in-words : Matches (party_renew_lines word g u q k) (party_renew_sentences word g u q k)
    renew-in-words = (
      refl,
      (
        or-decides (or-none (or-none (or-none (bad-count u.held.n)))) (not-decides (equal u.held.n 64)),
        λ e. (
          refl,
          (
            or-none (or-none (or-none (or-none (or-none (misfits u.held))))),
            λ e. (
              refl,
              (
                or-none (or-none (or-none
                    (or-decides (stray-neighbour u.held) (or-none (stray u.held.n u.used))))),
                λ e. (
                  refl,
                  (
                    or-none (or-decides (or-none (or-none (or-decides (code-above-23 u.held)
                        (not-decides (of-six k)))))
                        (above 1 g)),
                    λ e6. (
                      refl,
                      (
                        or-none (or-none (no_record u)),
                        λ e. (
                          refl,
                          (
                            or-decides (edge-between word u) (other-parties word g u q
                                (low (((record_codes u.held || not (used_code k)) || false) || false) e6)),
                            λ e. (
                              refl,
                              (
                                or-none (or-none (at_most u.held.n q)),
                                λ e. (refl, (or-none (or-none (not-decides itself)), λ e. tt)),
                              ),
                            ),
                          ),
                        ),
                      ),
                    ),
                  ),
                ),
              ),
            ),
          ),
        ),
      ),
    )
      where
        -- no line 6: the party is 0 or 1
        low : (a : Bool) → ((a || ltb 1 g) || false) ≡ false → ltb 1 g ≡ false
        low a e = (neither a (ltb 1 g) (neither (a || ltb 1 g) false e).0).1

    apart_of : first_fitting (party_renew_lines word g u q k) ≡ 0 → Apart word u
    apart_of z =
        let P = renewed-passes-party word g u q k z in
        let F = renew-passes u q k P.lines in
        record {
          count = P.count;
          passes = (lines-pass u false false false).1
              (accepted-passes u.held F.held, or-false (used_stray u) ∙ F.no_stray, F.none-wrong);
          no-crossing = P.no-crossing;
        }

    -- the other party's vertices are as they were
    keeps : {nb' cs' : List ℕ} {used' : ℕ} → first_fitting (party_renew_lines word g u q k) ≡ 0
        → RenewalStands u q k (left_used u nb' cs' used') → renewed u q k ≡ left_used u nb' cs' used'
        → PartyKeeps word g u (left_used u nb' cs' used')
    keeps z S e =
        let own = (renew-exactly.0 z).1 in
        let other : (t : ℕ) → in_party word g t ≡ false → t ≢ q =
        λ t h d. true≢false (sym own ∙ ap (in_party word g) (sym d) ∙ h) in
        record {
          words = λ t l h. ap (λ nb. get_or nb t 0) S.neighbours;
          codes = λ t l h. S.codes t (other t h);
          used = λ t l h. S.unmarked t ∙ ap (λ e. bit u.used t && not e) (other_place (other t h)) ∙ and-true
              (bit u.used t);
          still = S.passes;
          apart = subst (λ v. crosses word v ≡ false) e (renewed-apart word u q k (apart_of z)
              (renewed-passes-party word g u q k z).lines).no-crossing;
        }

    module _ (nb' cs' : List ℕ) (used' r : ℕ) (C : Call (party_renew_call word g u q k nb' cs' used') r) where
      renew-conforms : Conforms (party_renew_call word g u q k nb' cs' used')
      renew-conforms = record { order = refl; complete = λ z. (tt, (refl, (length-set u.held.codes q k, tt))) }

      whole : r ≡ 0 → Call (renew_call u q k nb' cs' used') 0
      whole z =
          record {
            number = sym (renewed-passes-party word g u q k ((by_lines C).0 z)).lines;
            held = (at_zero C z).held;
          }

      same : r ≡ 0 → renewed u q k ≡ left_used u nb' cs' used'
      same z = let D = at_zero C z in λ i. used_record u.held.n (sym D.held.1.0 i) (sym D.held.1.1.0 i)
          (sym D.held.0 i)

      pub group-renew-says : GroupRenewSays word g u q k nb' cs' used' r
      group-renew-says =
          record {
            answered = answered renew-conforms C;
            accepted = ((λ z. renew-exactly.0 ((by_lines C).0 z)), λ h. (by_lines C).1 (renew-exactly.1 h));
            numbers = in_words (party_renew_sentences word g u q k) renew-in-words C;
            whole = whole;
            stands = λ z. (renew-says u q k nb' cs' used' 0 (whole z)).stands refl;
            keeps = λ z. keeps ((by_lines C).0 z) ((renew-says u q k nb' cs' used' 0 (whole z)).stands refl) (same z);
          }
