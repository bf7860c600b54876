-- Steps on a record that stands for a reduced one: their numbers, and the groups after them.
use mathlib.Core.Bool.{◌&&◌, Bool, cond, false, true}
use mathlib.Core.List.{List}
use mathlib.Core.Logic.{◌≢◌}
use mathlib.Core.Path.{ap, ap₂, refl, subst, sym, ◌∙◌, ◌≡◌}
use Prim.Native.Nat.{◌<◌, ℕ, ◌≤◌, ◌^◌}
use native.Mathlib.Omega.{arith}
use lib.Bits.{bit_or}
use lib.ListN.{length}
use borrow.Author.Tests.{ne_eqb}
use Rattle.buffers.specs.Refusals.{first_fitting}
use Rattle.call_gates.proofs.KnownRecords.{six-alone}
use Rattle.calls.proofs.InPlaceLines.{gate-ready, measure-ready}
use Rattle.calls.proofs.MeasureLines.{arguments-before, measure-passes, then-14, then-none}
use Rattle.calls.proofs.UsedInPlace.{named-as, record-refused, then-0, then-16, then-8}
use Rattle.calls.specs.InPlace.{used_call, used_measure_call}
use Rattle.calls.specs.Sources.{observe_call}
use Rattle.calls.specs.internal.InPlace.{used_in_place}
use Rattle.clifford.specs.Clifford.{clifford_of}
use Rattle.buffers.proofs.Calling.{done, refused}
use Rattle.buffers.specs.Calls.{Call}
use Rattle.operations.specs.internal.KeptGroups.{GroupHeld}
use Rattle.operations.proofs.Contradicted.{agreed-outcome, contradicts-exactly}
use Rattle.operations.proofs.Gating.{gate-carries}
use Rattle.operations.proofs.GroupAlone.{cz-of-group, determined-of-group, measured-of-group, reduced-of-group}
use Rattle.operations.proofs.UnrefusedRecords.{accepted-unrefused}
use Rattle.operations.specs.Cz.{cz_rows}
use Rattle.operations.specs.Gates.{gated}
use Rattle.operations.specs.Measurement.{
  contradicts,
  is_determined,
  outcome,
  determined_number,
  measured_outcome,
  measured_rows,
  outcome_number,
  pauli_letter,
  single,
}
use Rattle.operations.specs.Steps.{Operation, argument_lines, cz_on, gate_with, lines_of, made, measurement_of}
use Rattle.operations.specs.declared.Outcome.{Outcome}
use Rattle.operations.specs.declared.Outcome.TheVariants.{Chosen, Determined}
use Rattle.operations.specs.internal.InPlace.{Rewritten, Unrefused, record_in}
use Rattle.pauli.specs.Pauli.{Pauli}
use Rattle.pauli.specs.declared.Letter.{Letter}
use Rattle.record.proofs.AcceptedRecords.{accepted-record}
use Rattle.record.proofs.WrittenRecords.{reduced-held-same}
use Rattle.record.specs.Accepted.{AcceptedRecord}
use Rattle.record.specs.Lent.{code_numbers, held_record, held_rows, LentRecord, lent_record, neighbour_words}
use Rattle.record.specs.Records.{rows_of}
use Rattle.record.specs.Reduced.{reduced}
use Rattle.stabilizer.proofs.Carried.{carries-moved, carries_same}
use Rattle.stabilizer.proofs.GroupLaws.{same_refl, same-sym, same-trans}
use Rattle.stabilizer.specs.Groups.{Proper, SameGroup}
use Rattle.operations.proofs.Determined.{measured-proper}
use Rattle.operations.proofs.AcceptedSteps.{
  cz-arguments,
  cz-list,
  gate-arguments,
  gate-proper,
  measure-arguments,
  measured-list,
}
use Rattle.operations.proofs.MeasuringMarks.{marked-word}
use Rattle.operations.proofs.UsedPassing.{lines-pass, used-passes, used_step_lem}
use Rattle.operations.specs.Used.{used_arguments_of, used_lines_of, UsedRecord, UsedUnrefused}
use Rattle.words.proofs.Flags.{same-by-both}
use Rattle.source.proofs.Observed.{answered, observed-passes}
use Rattle.stabilizer.specs.Membership.{member}
use Rattle.words.specs.Bits.{is_odd, ◌⊕◌}
use Rattle.call_run.specs.internal.Waiting.{
  MeasuredStep,
  ObservedStep,
  Standing,
  Stepped,
  held_in,
  meant,
  meant_record,
}

-- the number of the first line, where none of the record's holds
abbrev pub argument_number : Bool → Bool → Bool → ℕ
argument_number six eight sixteen = cond six 6 (cond eight 8 (cond sixteen 16 0))

pub argument-number : (v : UsedRecord) → UsedUnrefused v → (six eight sixteen : Bool)
    → argument_number six eight sixteen ≡ first_fitting (used_in_place v six eight sixteen)
argument-number v U true eight sixteen = record-refused v true (six-alone v U true) eight sixteen
    (λ z. absurd (omega (arith, z)))
argument-number v U false true sixteen = then-8 v false (six-alone v U false) true sixteen refl refl
argument-number v U false false true = then-16 v false (six-alone v U false) false true refl refl refl
argument-number v U false false false = then-0 v false (six-alone v U false) false false refl refl refl

module _ (waiting : Bool) (u : UsedRecord) (W : Standing waiting u) where
  abbrev l : LentRecord
  l = u.held

  abbrev n : ℕ
  n = u.held.n

  abbrev v : LentRecord
  v = meant_record waiting u.held

  pub accepted-held : AcceptedRecord u.held
  accepted-held = accepted-record l false false W.sound.no_line

  pub ready_held : Unrefused (record_in u.held.neighbours u.held.codes)
  ready_held = accepted-unrefused n l.neighbours l.codes accepted-held

  accepted-meant : AcceptedRecord v
  accepted-meant = accepted-record v false false ((lines-pass (meant waiting u) false false false).0
      W.checked.no_line).0

  pub place : (q : ℕ) → q < u.held.n → q < length u.held.neighbours
  place q h = subst (λ m. q < m) (sym accepted-held.neighbours-length) h

  -- the group is the same
  same : SameGroup n n (held_rows l) (held_rows v)
  same = go waiting
    where
      go : (w : Bool) → SameGroup n n (held_rows l) (held_rows (meant_record w l))
      go false = same_refl
      go true = reduced-held-same n (held_rows l) accepted-held.proper

  -- ---- refused
  pub refused-step : (o : Operation) {k : ℕ} → k ≡ first_fitting (used_lines_of (meant waiting u) o) → (k ≡ 0 → ⊥)
      → Stepped waiting u o u.held.neighbours u.held.codes k
  refused-step o {k} e h =
      record {
        sound = W.sound;
        call = subst (λ b. Call (used_call (meant waiting u) o (meant_record b l).neighbours
            (meant_record b l).codes) k)
            (sym (ap (λ b. cond b true waiting) (ne_eqb k 0 h))) (refused _ e h (refl, (refl, tt)));
      }

  pub refused-measurement : (pauli q b : ℕ) {k : ℕ}
      → k ≡ first_fitting (used_lines_of (meant waiting u) (measurement_of pauli q b)) → (k ≡ 0 → ⊥)
      → MeasuredStep waiting u pauli q b u.held.neighbours u.held.codes u.used 0 0 k
  refused-measurement pauli q b {k} e h =
      record {
        sound = W.sound;
        call = subst (λ t. Call (used_measure_call (meant waiting u) pauli q b 0 0 (meant_record t l).neighbours
            (meant_record t l).codes u.used 0 0) k)
            (sym (ap (λ t. cond t true waiting) (ne_eqb k 0 h)))
            (refused _ e h (refl, (refl, (refl, (refl, (refl, tt))))));
      }

  -- ---- accepted
  -- the list of a step at n, from one at the length of the words
  at_n : (f : ℕ → ℕ → Pauli) (words' codes' : List ℕ) → GroupHeld (length l.neighbours) (f (length l.neighbours))
      words' codes'
      → GroupHeld n (f n) words' codes'
  at_n f words' codes' = subst (λ m. GroupHeld m (f m) words' codes') accepted-held.neighbours-length

  module _ (rows rows' : ℕ → Pauli) (P : Proper n rows) (E : SameGroup n n rows' rows) (words' codes' : List ℕ)
      (H : GroupHeld n rows' words' codes') where
    sound-after : Unrefused (held_in u words' codes')
    sound-after = subst (λ m. Unrefused (lent_record m words' codes')) H.long H.unrefused

    reduced-after : reduced n (held_rows (held_in u words' codes')) ≡ reduced n rows
    reduced-after = reduced-of-group n (held_rows (held_in u words' codes')) rows
        (accepted-record (held_in u words' codes') false false sound-after.no_line).proper P
        (same-trans (same-sym H.group) E)

  module _ (o : Operation) {k : ℕ} (e : k ≡ first_fitting (used_lines_of (meant waiting u) o)) (z : k ≡ 0) where
    before : first_fitting (lines_of v o) ≡ 0
    before = used_step_lem (meant waiting u) o (sym e ∙ z)

  module _ (q k : ℕ) {j : ℕ} (e : j ≡ first_fitting (used_lines_of (meant waiting u) (gate_with q k))) (z : j ≡ 0) where
    pub gate-place : (q < length u.held.neighbours) × (k < 24)
    gate-place = (
      place q (gate-arguments v q k (before (gate_with q k) e z)),
      (gate-ready v q k
          (before (gate_with q k) e z)).1.1,
    )

    gates-same : SameGroup n n (rows_of n (gated (held_record l) q (clifford_of k)))
        (rows_of n (gated (held_record v) q (clifford_of k)))
    gates-same = same-trans (same-sym ((carries_same n _ (rows_of n (held_record v)) _).0
        (carries-moved n _ _ _ _ same same_refl _ (gate-carries n (held_record l) q (clifford_of k)))))
        ((carries_same n _ (rows_of n (held_record v)) _).0 (gate-carries n (held_record v) q (clifford_of k)))

    pub gate-stepped : (codes' : List ℕ) → GroupHeld (length u.held.neighbours)
        (rows_of (length u.held.neighbours) (gated (held_record (record_in u.held.neighbours u.held.codes)) q
        (clifford_of k)))
        u.held.neighbours codes'
        → Stepped waiting u (gate_with q k) u.held.neighbours codes' 0
    gate-stepped codes' G =
        record {
          sound = sound-after _ _ P gates-same l.neighbours codes' H;
          call = done _ e z (ap (neighbour_words n) r, (ap (code_numbers n) r, tt));
        }
      where
        H : GroupHeld n (rows_of n (gated (held_record l) q (clifford_of k))) l.neighbours codes'
        H = at_n (λ m. rows_of m (gated (held_record l) q (clifford_of k))) l.neighbours codes' G

        P : Proper n (rows_of n (gated (held_record v) q (clifford_of k)))
        P = gate-proper v q k accepted-meant

        r : reduced n (held_rows (held_in u l.neighbours codes')) ≡ made v (gate_with q k)
        r = reduced-after _ _ P gates-same l.neighbours codes' H

  module _ (a b : ℕ) {j : ℕ} (e : j ≡ first_fitting (used_lines_of (meant waiting u) (cz_on a b))) (z : j ≡ 0) where
    pub cz-places : (a < length u.held.neighbours) × (b < length u.held.neighbours) × (a ≢ b)
    cz-places = let c = cz-arguments v a b (before (cz_on a b) e z) in (place a c.0, place b c.1, c.2)

    pub cz-stepped : (words' codes' : List ℕ) → GroupHeld (length u.held.neighbours)
        (cz_rows a b (held_rows (record_in u.held.neighbours u.held.codes))) words' codes'
        → Stepped waiting u (cz_on a b) words' codes' 0
    cz-stepped words' codes' G =
        record {
          sound = sound-after _ _ P E words' codes' H;
          call = done _ e z (ap (neighbour_words n) r, (ap (code_numbers n) r, tt));
        }
      where
        H : GroupHeld n (cz_rows a b (held_rows l)) words' codes'
        H = at_n (λ m. cz_rows a b (rows_of m (held_record l))) words' codes' G

        P : Proper n (cz_rows a b (held_rows v))
        P = cz-list v a b (before (cz_on a b) e z)

        E : SameGroup n n (cz_rows a b (held_rows l)) (cz_rows a b (held_rows v))
        E = let c = cz-arguments v a b (before (cz_on a b) e z) in
            cz-of-group n a b c.0 c.1 c.2 (held_rows l) (held_rows v) same

        r : reduced n (held_rows (held_in u words' codes')) ≡ made v (cz_on a b)
        r = reduced-after _ _ P E words' codes' H

  -- ---- measured
  module _ (pauli q b : ℕ) where
    -- line 14 depends on the group alone
    pub contradicts-same : q < u.held.n
        → contradicts (length u.held.neighbours) (held_rows (record_in u.held.neighbours u.held.codes))
        (pauli_letter pauli) q (is_odd b)
        ≡ contradicts u.held.n (held_rows (meant_record waiting u.held)) (pauli_letter pauli) q (is_odd b)
    contradicts-same hq =
        ap (λ m. contradicts m (rows_of m (held_record l)) (pauli_letter pauli) q (is_odd b))
        accepted-held.neighbours-length
        ∙ same-by-both _ _
        (λ t. (contradicts-exactly n (held_rows v) (pauli_letter pauli) q (is_odd b) accepted-meant.proper hq).1
        (same.there _ ((contradicts-exactly n (held_rows l) (pauli_letter pauli) q (is_odd b) accepted-held.proper hq).0
        t)))
        (λ t. (contradicts-exactly n (held_rows l) (pauli_letter pauli) q (is_odd b) accepted-held.proper hq).1
        (same.back _ ((contradicts-exactly n (held_rows v) (pauli_letter pauli) q (is_odd b) accepted-meant.proper hq).0
        t)))

    -- where no line of the arguments holds
    asks_of : first_fitting (argument_lines v pauli q b) ≡ 0
        → (Unrefused (record_in l.neighbours l.codes) × (q < length l.neighbours)) × ((1 ≤ pauli) × (pauli ≤ 3))
    asks_of h =
        let t = measure-ready v pauli q b h in
        ((ready_held, place q (subst (λ m. q < m) accepted-meant.neighbours-length t.0.1)), t.1)

    module _ {j : ℕ} (e : j ≡ first_fitting (used_arguments_of (meant waiting u) (measurement_of pauli q b))) where
      pub asks-before : j ≡ 0 → (Unrefused (record_in u.held.neighbours u.held.codes) ×
          (q < length u.held.neighbours))
          × ((1 ≤ pauli) × (pauli ≤ 3))
      asks-before z = asks_of (arguments-before (meant waiting u) pauli q b (sym e ∙ z))

      module _ (z : j ≡ 0) {d : Bool} (f : d ≡ contradicts (length u.held.neighbours)
          (held_rows (record_in u.held.neighbours u.held.codes)) (pauli_letter pauli) q (is_odd b)) where
        found : d ≡ contradicts (length v.neighbours) (held_rows (record_in v.neighbours v.codes))
            (pauli_letter pauli) q (is_odd b)
        found = f ∙ contradicts-same (subst (λ m. q < m) accepted-held.neighbours-length (asks-before z).0.1)
            ∙ sym (ap (λ m. contradicts m (rows_of m (held_record v)) (pauli_letter pauli) q (is_odd b))
            accepted-meant.neighbours-length)

        pub found-14 : d ≡ true → 14 ≡ first_fitting (used_lines_of (meant waiting u) (measurement_of pauli q b))
        found-14 = then-14 (meant waiting u) pauli q b e z found

        pub found_none : d ≡ false → 0 ≡ first_fitting (used_lines_of (meant waiting u) (measurement_of pauli q b))
        found_none = then-none (meant waiting u) pauli q b e z found

    module _ {j : ℕ} (e : j ≡ first_fitting (used_lines_of (meant waiting u) (measurement_of pauli q b))) (z : j ≡ 0) where
      pub measure-asks : (Unrefused (record_in u.held.neighbours u.held.codes) ×
          (q < length u.held.neighbours))
          × ((1 ≤ pauli) × (pauli ≤ 3))
      measure-asks = asks_of (measure-passes v pauli q b (before (measurement_of pauli q b) e z)).0

      pub measure-below : q < 64
      measure-below = omega (
        arith,
        (measure-arguments v pauli q b (before (measurement_of pauli q b) e z)).below,
        accepted-held.upto,
      )

      abbrev letter : Letter
      letter = pauli_letter pauli

      abbrev sign : Bool
      sign = is_odd b

      hq : q < n
      hq = (measure-arguments v pauli q b (before (measurement_of pauli q b) e z)).below

      -- what is answered depends on the group alone, where no outcome contradicts the bit
      agrees : contradicts n (held_rows v) letter q sign ≡ false
      agrees = (measure-arguments v pauli q b (before (measurement_of pauli q b) e z)).agrees

      agrees-held : contradicts n (held_rows l) letter q sign ≡ false
      agrees-held = sym (ap (λ m. contradicts m (rows_of m (held_record l)) letter q sign)
          accepted-held.neighbours-length)
          ∙ contradicts-same hq ∙ agrees

      answers : measured_outcome n (held_rows l) letter q sign ≡ measured_outcome n (held_rows v) letter q sign
      answers =
          ap (λ o. cond (is_determined n (held_rows l) letter q) (Determined o) (Chosen o))
          (agreed-outcome n (held_rows l) letter q sign agrees-held ∙ sym
          (agreed-outcome n (held_rows v) letter q sign agrees))
          ∙ ap (λ d. cond d (Determined (outcome n (held_rows v) letter q sign))
          (Chosen (outcome n (held_rows v) letter q sign)))
          (determined-of-group n letter q hq (held_rows l) (held_rows v) accepted-held.proper accepted-meant.proper
          same)

      pub measure-stepped : (words' codes' : List ℕ) (r : Outcome) (used' outcome' determined' : ℕ)
          → GroupHeld (length u.held.neighbours) (measured_rows (length u.held.neighbours)
          (held_rows (record_in u.held.neighbours u.held.codes)) (pauli_letter pauli) q (is_odd b)) words' codes'
          → r ≡ measured_outcome (length u.held.neighbours)
          (held_rows (record_in u.held.neighbours u.held.codes))
          (pauli_letter pauli) q (is_odd b)
          → used' ≡ bit_or u.used (2 ^ q) → outcome' ≡ outcome_number r → determined' ≡ determined_number r
          → MeasuredStep waiting u pauli q b words' codes' used' outcome' determined' 0
      measure-stepped words' codes' r used' outcome' determined' G er eu eo ed =
          record {
            sound = sound-after _ _ P E words' codes' H;
            call = done _ e z (
              eu ∙ sym (marked-word (meant waiting u) pauli q b
                  ((used-passes (meant waiting u) (measurement_of pauli q b)).0 (sym e ∙ z))),
              (
                eo ∙ ap outcome_number answered,
                (ed ∙ ap determined_number answered, (ap (neighbour_words n) left, (ap (code_numbers n) left, tt))),
              ),
            );
          }
        where
          answered : r ≡ measured_outcome n (held_rows v) letter q sign
          answered = er ∙ ap (λ m. measured_outcome m (rows_of m (held_record l)) letter q sign)
              accepted-held.neighbours-length ∙ answers

          H : GroupHeld n (measured_rows n (held_rows l) letter q sign) words' codes'
          H = at_n (λ m. measured_rows m (rows_of m (held_record l)) letter q sign) words' codes' G

          P : Proper n (measured_rows n (held_rows v) letter q sign)
          P = measured-list v pauli q b (before (measurement_of pauli q b) e z)

          E : SameGroup n n (measured_rows n (held_rows l) letter q sign) (measured_rows n (held_rows v) letter q sign)
          E = measured-of-group n letter q hq (held_rows l) (held_rows v) accepted-held.proper accepted-meant.proper
              same sign

          left : reduced n (held_rows (held_in u words' codes')) ≡ made v (measurement_of pauli q b)
          left = reduced-after _ _ P E words' codes' H

  -- ---- measured with a bit by lot
  module _ (pauli q b : ℕ) {j : ℕ} (e : j ≡ first_fitting (used_arguments_of (meant waiting u) (measurement_of pauli q b)))
    where
      pub refused-observation : (j ≡ 0 → ⊥)
          → ObservedStep waiting u pauli q b u.held.neighbours u.held.codes u.used 0 0 j
      refused-observation h =
          record {
            sound = W.sound;
            call = subst (λ t. Call (observe_call (meant waiting u) pauli q b 0 0 (meant_record t l).neighbours
                (meant_record t l).codes u.used 0 0) j)
                (sym (ap (λ t. cond t true waiting) (ne_eqb j 0 h)))
                (refused _ e h (refl, (refl, (refl, (refl, (refl, tt))))));
          }

      module _ (z : j ≡ 0) where
        within : q < n
        within = subst (λ m. q < m) accepted-held.neighbours-length (asks-before pauli q b e z).0.1

        pub observe-below : q < 64
        observe-below = omega (arith, within, accepted-held.upto)

        -- the outcome depends on the group alone: it is the bit, or the other where the bit is contradicted
        by_contradiction : (rows : ℕ → Pauli) → outcome n rows (pauli_letter pauli) q (is_odd b)
            ≡ is_odd b ⊕ contradicts n rows (pauli_letter pauli) q (is_odd b)
        by_contradiction rows = go (is_determined n rows (pauli_letter pauli) q)
            (member n rows (single (pauli_letter pauli) q true)) (is_odd b)
          where
            go : (d m s : Bool) → cond d m s ≡ s ⊕ (d && (cond d m s ⊕ s))
            go true true true = refl
            go true true false = refl
            go true false true = refl
            go true false false = refl
            go false m true = refl
            go false m false = refl

        outcome-same : outcome n (held_rows l) (pauli_letter pauli) q (is_odd b) ≡ outcome n (held_rows v) (pauli_letter pauli)
            q (is_odd b)
        outcome-same = by_contradiction (held_rows l) ∙ ap (λ c. is_odd b ⊕ c)
            (sym (ap (λ m. contradicts m (rows_of m (held_record l)) (pauli_letter pauli) q (is_odd b))
            accepted-held.neighbours-length)
            ∙ contradicts-same pauli q b within)
            ∙ sym (by_contradiction (held_rows v))

        answer-same : measured_outcome n (held_rows l) (pauli_letter pauli) q (is_odd b) ≡ measured_outcome n (held_rows v)
            (pauli_letter pauli) q (is_odd b)
        answer-same =
            ap₂ (λ d o. cond d (Determined o) (Chosen o))
            (determined-of-group n (pauli_letter pauli) q within (held_rows l) (held_rows v) accepted-held.proper
            accepted-meant.proper same)
            outcome-same

        pub observe-stepped : (words' codes' : List ℕ) (r : Outcome) (used' outcome' determined' : ℕ)
            → GroupHeld (length u.held.neighbours) (measured_rows (length u.held.neighbours)
            (held_rows (record_in u.held.neighbours u.held.codes)) (pauli_letter pauli) q (is_odd b)) words' codes'
            → r ≡ measured_outcome (length u.held.neighbours)
            (held_rows (record_in u.held.neighbours u.held.codes))
            (pauli_letter pauli) q (is_odd b)
            → used' ≡ bit_or u.used (2 ^ q) → outcome' ≡ outcome_number r → determined' ≡ determined_number r
            → ObservedStep waiting u pauli q b words' codes' used' outcome' determined' 0
        observe-stepped words' codes' r used' outcome' determined' G er eu eo ed =
            record {
              sound = sound-after _ _ P E words' codes' H;
              call = done _ e z (
                eu ∙ sym (marked-word (meant waiting u) pauli q (answered (meant waiting u) pauli q b)
                    (observed-passes (meant waiting u) pauli q b (sym e ∙ z))),
                (
                  eo ∙ ap outcome_number found_as,
                  (ed ∙ ap determined_number found_as, (ap (neighbour_words n) left, (ap (code_numbers n) left, tt))),
                ),
              );
            }
          where
            found_as : r ≡ measured_outcome n (held_rows v) (pauli_letter pauli) q (is_odd b)
            found_as = er ∙ ap (λ m. measured_outcome m (rows_of m (held_record l)) (pauli_letter pauli) q (is_odd b))
                accepted-held.neighbours-length
                ∙ answer-same

            H : GroupHeld n (measured_rows n (held_rows l) (pauli_letter pauli) q (is_odd b)) words' codes'
            H = at_n (λ m. measured_rows m (rows_of m (held_record l)) (pauli_letter pauli) q (is_odd b)) words' codes' G

            P : Proper n (measured_rows n (held_rows v) (pauli_letter pauli) q (is_odd b))
            P = measured-proper n (held_rows v) accepted-meant.proper (pauli_letter pauli) q within (is_odd b)

            E : SameGroup n n (measured_rows n (held_rows l) (pauli_letter pauli) q (is_odd b))
                (measured_rows n (held_rows v) (pauli_letter pauli) q (is_odd b))
            E = measured-of-group n (pauli_letter pauli) q within (held_rows l) (held_rows v) accepted-held.proper
                accepted-meant.proper same (is_odd b)

            left : reduced n (held_rows (held_in u words' codes')) ≡ made v (measurement_of pauli q b)
            left = reduced-after _ _ P E words' codes' H

  -- the record that is meant by the one that is meant
  pub meant-again : ((meant_record waiting (meant_record waiting u.held)).neighbours ≡
      (meant_record waiting u.held).neighbours)
      × ((meant_record waiting (meant_record waiting u.held)).codes ≡ (meant_record waiting u.held).codes)
  meant-again = go waiting accepted-meant same
    where
      go : (w : Bool) → AcceptedRecord (meant_record w l) → SameGroup n n (held_rows l) (held_rows (meant_record w l))
          → ((meant_record w (meant_record w l)).neighbours ≡ (meant_record w l).neighbours)
          × ((meant_record w (meant_record w l)).codes ≡ (meant_record w l).codes)
      go false A E = (refl, refl)
      go true A E =
          let r = reduced-of-group n (held_rows (meant_record true l)) (held_rows l) A.proper accepted-held.proper
          (same-sym E) in
          (ap (neighbour_words n) r, ap (code_numbers n) r)

  -- ---- reduced where it is wanted
  pub settled-meant : (words' codes' : List ℕ)
      → Rewritten u.held.neighbours u.held.codes (λ g. reduced (length u.held.neighbours)
      (rows_of (length u.held.neighbours) g)) words' codes'
      → record { held = held_in u words' codes'; used = u.used } ≡ meant true u
  settled-meant words' codes' R = λ i. record {
    held = record {
      n = n;
      neighbours = (R.neighbours ∙ ap (λ m. neighbour_words m (reduced m (rows_of m (held_record l))))
          accepted-held.neighbours-length) i;
      codes = (R.numbers ∙ ap (λ m. code_numbers m (reduced m (rows_of m (held_record l))))
          accepted-held.neighbours-length) i;
    };
    used = u.used;
  }

-- the number of the lines of a gate, of a CZ and of a measurement's arguments
pub numbered : (v : UsedRecord) → UsedUnrefused v → (six eight : Bool) {k : ℕ} {sixteen named : Bool}
    → k ≡ argument_number six eight sixteen → sixteen ≡ named → k ≡ first_fitting (used_in_place v six eight named)
numbered v U six eight {sixteen = t} e f = named-as v six eight (e ∙ argument-number v U six eight t) f

-- a call on a record that is another
pub call-as : (u v : UsedRecord) (o : Operation) (words' codes' : List ℕ) (k : ℕ) → u ≡ v
    → Call (used_call u o words' codes') k → Call (used_call v o words' codes') k
call-as u v o words' codes' k e C = subst (λ t. Call (used_call t o words' codes') k) e C
