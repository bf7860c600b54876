-- The number of a record with used qubits, from the number of the record as it was and the new tests.
use mathlib.Core.Bool.{Bool, cond, false, or-true, true, ◌||◌}
use mathlib.Core.Path.{ap, ap₂, refl, subst, sym, ◌∙◌, ◌≡◌}
use Prim.Native.Nat.{◌<◌, ◌^◌, ℕ, ◌≤◌}
use lib.Dec.{leb}
use lib.ListN.{length}
use lib.Pow.{pow_pos}
use borrow.Author.Tests.{leb-false, lt-leb}
use Rattle.buffers.specs.Refusals.{bad_count, first_fitting}
use Rattle.buffers.proofs.Fitting.{first-is, fits-at, is-first, none-holds, not_first}
use Rattle.buffers.specs.Answers.{FirstFits, here, later}
use Rattle.operations.specs.internal.InPlace.{record_in}
use Rattle.record.proofs.AcceptedRecords.{accepted-record}
use Rattle.record.specs.Accepted.{AcceptedRecord}
use Rattle.record.specs.Lent.{held_record, not_simple, record_codes, record_lengths, record_lines, record_stray}
use Rattle.stabilizer.proofs.SharedTests.{counted}
use Rattle.operations.proofs.UsedPassing.{lines-pass}
use Rattle.operations.specs.Used.{used_lines, UsedRecord, used_record, used_stray, used_wrong}
use Rattle.words.proofs.Flags.{neither}

-- a flag with two tests of other lines
plain : {h t : Bool} → h ≡ t → ((h || false) || false) ≡ (t || false) || false
plain e = ap (λ b. (b || false) || false) e

-- the record's number k
module _ (u : UsedRecord) (others five six : Bool) (k : ℕ) (e : k ≡ first_fitting (record_lines u.held others six))
  where
    first : FirstFits (record_lines u.held others six) k
    first = fits-at (record_lines u.held others six) e

    pub number-2 : k ≡ 2 → k ≡ first_fitting (used_lines u others five six)
    number-2 z = z ∙ first-is (here (plain (is-first first refl z)))

    module _ (not-2 : k ≡ 2 → ⊥) where
      pub number-4 : k ≡ 4 → k ≡ first_fitting (used_lines u others five six)
      number-4 z = let p = not_first first not-2 in
          z ∙ first-is (later (plain p.0) (here (plain (is-first p.1 refl z))))

      pub word-tested : (1 ≤ u.held.n) × (u.held.n ≤ 64)
      word-tested = counted u.held.n (not_first first not-2).0

      module _ (not-4 : k ≡ 4 → ⊥) where
        pub number-5 : (used_stray u || five) ≡ true → 5 ≡ first_fitting (used_lines u others five six)
        number-5 t = let p = not_first first not-2 in
            first-is (later (plain p.0) (later (plain (not_first p.1 not-4).0)
            (here (ap (λ b. (record_stray u.held || b) || false) t
            ∙ ap (λ b. b || false) (or-true (record_stray u.held))))))

    module _ (good : (used_stray u || five) ≡ false) where
      -- the record as it was decides
      pub number-other : (k ≡ 0 → ⊥) → k ≡ first_fitting (used_lines u others five six)
      unfolding first_fitting
      number-other h = e ∙ go (bad_count u.held.n) (record_lengths u.held || others) (record_stray u.held)
          (record_codes u.held || six) (not_simple u.held.n (held_record u.held).graph) (used_wrong u)
          (used_stray u || five) good (λ z. h (e ∙ z))
        where
          go : (a b c d f w t : Bool) → t ≡ false
              → (◌≡◌ {A = ℕ} (cond a 2 (cond b 4 (cond c 5 (cond d 6 (cond f 7 0))))) 0 → ⊥)
              → ◌≡◌ {A = ℕ} (cond a 2 (cond b 4 (cond c 5 (cond d 6 (cond f 7 0)))))
              (cond ((a || false) || false) 2 (cond ((b || false) || false) 4 (cond ((c || t) || false) 5
              (cond ((d || false) || false) 6 (cond ((f || false) || w) 7 0)))))
          go true b c d f w t g h = refl
          go false true c d f w t g h = refl
          go false false true d f w t g h = refl
          go false false false true f w t g h = ap (λ v. cond (v || false) 5 6) (sym g)
          go false false false false true w t g h = ap (λ v. cond (v || false) 5 7) (sym g)
          go false false false false false w t g h = absurd (h refl)

      -- no line of it holds: the used vertices decide
      module _ (z : k ≡ 0) where
        pub held-accepted : AcceptedRecord u.held
        held-accepted = accepted-record u.held others six (sym e ∙ z)

        pub vertices-tested : ((length u.held.neighbours ≤ 64) ×
            (length u.held.codes ≡ length u.held.neighbours))
            × (u.used < 2 ^ length u.held.neighbours)
        vertices-tested =
            let long = held-accepted.neighbours-length in (
              (subst (λ m. m ≤ 64) (sym long) held-accepted.upto, held-accepted.codes-length ∙ sym long),
              leb-false _ _ (ap (λ m. leb (2 ^ m) u.used) long ∙ (neither (used_stray u) five good).0),
            )

        module _ (b : Bool) (w : b ≡ used_wrong (record {
          held = record_in u.held.neighbours u.held.codes;
          used = u.used;
        })) where
          decided : {t : Bool} → b ≡ t → used_wrong u ≡ t
          decided h = sym (w ∙ ap (λ m. used_wrong (used_record m u.held.neighbours u.held.codes u.used))
              held-accepted.neighbours-length) ∙ h

          pub number-7 : b ≡ true → 7 ≡ first_fitting (used_lines u others five six)
          number-7 h = let n = none-holds (record_lines u.held others six) refl (sym e ∙ z) in
              first-is (later (plain n.0) (later (plain n.1.0)
              (later (ap₂ (λ c t. (c || t) || false) n.1.1.0 good) (later (plain n.1.1.1.0)
              (here (ap₂ (λ f v. (f || false) || v) n.1.1.1.1.0 (decided h)))))))

          pub number-0 : b ≡ false → 0 ≡ first_fitting (used_lines u others five six)
          number-0 h = sym ((lines-pass u others five six).1 (sym e ∙ z, good, decided h))

-- a further word that is 0 has no bit
pub no-further : (u : UsedRecord) (others six : Bool) {r : ℕ}
    → r ≡ first_fitting (used_lines u others (leb (2 ^ u.held.n) 0) six)
    → r ≡ first_fitting (used_lines u others false six)
no-further u others six e = e ∙ ap (λ b. first_fitting (used_lines u others b six))
    (lt-leb (2 ^ u.held.n) 0 (pow_pos u.held.n))
