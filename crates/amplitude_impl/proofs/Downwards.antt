-- Measurements of Z from the last qubit down, each on the record that the one before has left.
use mathlib.Core.Bool.{◌&&◌, Bool, false, true}
use mathlib.Core.List.{List}
use mathlib.Core.Path.{ap, ap₂, refl, subst, sym, ◌∙◌, ◌≡◌}
use Prim.Native.Nat.{◌-◌, ◌<◌, suc, zero, ℕ, ◌≤◌}
use native.Mathlib.Decide.{ℕ_discrete}
use native.Mathlib.Omega.{arith}
use lib.Dec.{eqb, leb, ltb}
use lib.ListN.{length}
use borrow.Author.Tests.{le-leb, le-ltb, leb-false, leb-true, lt-leb, lt-ltb}
use Rattle.amplitude.specs.internal.Measuring.{outcomes_down, records_down}
use Rattle.record.specs.Graph.{Simple}
use Rattle.operations.proofs.Determined.{measured-proper}
use Rattle.operations.proofs.Contradicted.{contradicts-exactly}
use Rattle.operations.proofs.GroupAlone.{measured-of-group}
use Rattle.operations.proofs.UnrefusedRecords.{unrefused-simple}
use Rattle.operations.specs.internal.KeptGroups.{GroupHeld}
use Rattle.operations.specs.internal.InPlace.{Unrefused, record_in}
use Rattle.operations.specs.Measurement.{contradicts, measured_rows}
use Rattle.pauli.specs.Pauli.{Pauli}
use Rattle.pauli.specs.declared.Letter.{Letter}
use Rattle.pauli.specs.declared.Letter.TheVariants.{Z}
use Rattle.record.proofs.ReducedRecords.{record-proper, reduced-is, same-group}
use Rattle.record.specs.Lent.{held_record, held_rows}
use Rattle.record.specs.Records.{GraphRecord, rows_of}
use Rattle.record.specs.Reduced.{reduced}
use Rattle.stabilizer.proofs.GroupLaws.{same_refl, same-sym, same-trans}
use Rattle.stabilizer.specs.Groups.{Proper, SameGroup}
use Rattle.words.proofs.BitLaws.{bit-ext, bit-word_of, lt-of-bits, word_of-lt, zero_bit}
use Rattle.words.proofs.Finite.{⊕-zero}
use Rattle.words.proofs.Flags.{same-by-both}
use Rattle.words.proofs.Places.{other_place, same_place}
use Rattle.words.specs.Bits.{◌⊕◌, bit, word_of}

-- the record after one more measurement, at t
abbrev further : ℕ → GraphRecord → ℕ → GraphRecord
further n g t = reduced n (measured_rows n (rows_of n g) Z t (contradicts n (rows_of n g) Z t false))

-- line 14 depends on the group alone
contradicts-of-group : (n : ℕ) (R S : ℕ → Pauli) → Proper n R → Proper n S → SameGroup n n R S → (l : Letter) (q : ℕ) →
    q < n
    → (b : Bool) → contradicts n R l q b ≡ contradicts n S l q b
contradicts-of-group n R S P Q E l q h b = same-by-both _ _
    (λ t. (contradicts-exactly n S l q b Q h).1 (E.there _ ((contradicts-exactly n R l q b P h).0 t)))
    (λ t. (contradicts-exactly n R l q b P h).1 (E.back _ ((contradicts-exactly n S l q b Q h).0 t)))

-- each of these records has a proper list
records-proper : (n : ℕ) (r : GraphRecord) → Simple n r.graph → (k : ℕ) → k ≤ n → Proper n
    (rows_of n (records_down n r k))
unfolding records_down
records-proper n r S zero l = record-proper n r S
records-proper n r S (suc k) l = record-proper n (records_down n r (suc k))
    (reduced-is n _ (measured-proper n (rows_of n (records_down n r k)) (records-proper n r S k (omega arith)) Z
    (n - suc k)
    (omega arith) (contradicts n (rows_of n (records_down n r k)) Z (n - suc k) false))).simple

module _ (words codes : List ℕ) where
  abbrev n : ℕ
  n = length words

  abbrev r : GraphRecord
  r = held_record (record_in words codes)

  -- the qubits from q on are measured
  pub record Down (words' codes' : List ℕ) (low q : ℕ) : Type 0 where
    pub upto : q ≤ length words
    pub long : length words' ≡ length words
    pub unrefused : Unrefused (record_in words' codes')
    pub group : SameGroup (length words) (length words)
        (rows_of (length words) (records_down (length words) (held_record (record_in words codes)) (length words - q)))
        (rows_of (length words) (held_record (record_in words' codes')))
    pub outcomes : (i : ℕ) → bit low i ≡ (leb q i && (ltb i (length words)
        && outcomes_down (length words) (held_record (record_in words codes)) i))

  pub down-start : Unrefused (record_in words codes) → Down words codes 0 (length words)
  unfolding records_down
  down-start U =
      record {
        upto = omega arith;
        long = refl;
        unrefused = U;
        group = let e : n - n ≡ 0 = omega arith in
            subst (λ k. SameGroup n n (rows_of n (records_down n r k)) (rows_of n r)) (sym e) same_refl;
        outcomes = λ i. zero_bit i ∙ sym (none i (leb n i) refl);
      }
    where
      none : (i : ℕ) (b : Bool) → leb n i ≡ b → (b && (ltb i n && outcomes_down n r i)) ≡ false
      none i false e = refl
      none i true e = ap (λ b. b && outcomes_down n r i) (le-ltb i n (leb-true n i e))

  module _ (words₁ codes₁ : List ℕ) (low q : ℕ) (D : Down words₁ codes₁ low q) (positive : 0 < q) where
    pub next-below : q - 1 < length words₁
    next-below = let h : q ≤ n = D.upto in subst (λ m. q - 1 < m) (sym D.long) (omega arith)

    module _ (S₀ : Simple (length words) (held_record (record_in words codes)).graph) (one : Bool)
        (e : one ≡ contradicts (length words₁) (held_rows (record_in words₁ codes₁)) Z (q - 1) false)
        (words₂ codes₂ : List ℕ) (G : GroupHeld (length words₁)
        (measured_rows (length words₁) (held_rows (record_in words₁ codes₁)) Z (q - 1) one) words₂ codes₂) where
      abbrev held₁ : GraphRecord
      held₁ = held_record (record_in words₁ codes₁)

      abbrev held₂ : GraphRecord
      held₂ = held_record (record_in words₂ codes₂)

      -- the record before this measurement
      abbrev down : GraphRecord
      down = records_down n r (n - q)

      hq : q - 1 < n
      hq = let h : q ≤ n = D.upto in omega arith

      proper-down : Proper n (rows_of n down)
      proper-down = records-proper n r S₀ (n - q) (let h : q ≤ n = D.upto in omega arith)

      proper-held : Proper n (rows_of n held₁)
      proper-held = subst (λ k. Proper k (rows_of k held₁)) D.long
          (record-proper (length words₁) held₁ (unrefused-simple words₁ codes₁ D.unrefused))

      place : n - suc (n - q) ≡ q - 1
      place = let h : q ≤ n = D.upto in omega arith

      is_one : one ≡ contradicts n (rows_of n down) Z (q - 1) false
      is_one = e ∙ ap (λ k. contradicts k (rows_of k held₁) Z (q - 1) false) D.long
          ∙ sym (contradicts-of-group n (rows_of n down) (rows_of n held₁) proper-down proper-held D.group Z (q - 1) hq
          false)

      measured-here : SameGroup n n (measured_rows n (rows_of n held₁) Z (q - 1) one) (rows_of n held₂)
      measured-here = subst (λ k. SameGroup k k (measured_rows k (rows_of k held₁) Z (q - 1) one) (rows_of k held₂))
          D.long G.group

      further-group : SameGroup n n (rows_of n (further n down (q - 1))) (rows_of n held₂)
      further-group =
          same-trans
          (same-sym (same-group n (measured_rows n (rows_of n down) Z (q - 1)
          (contradicts n (rows_of n down) Z (q - 1) false))
          (measured-proper n (rows_of n down) proper-down Z (q - 1) hq
          (contradicts n (rows_of n down) Z (q - 1) false))))
          (subst (λ b. SameGroup n n (measured_rows n (rows_of n down) Z (q - 1) b) (rows_of n held₂)) is_one
          (same-trans (measured-of-group n Z (q - 1) hq (rows_of n down) (rows_of n held₁) proper-down proper-held
          D.group one)
          measured-here))

      next-group : SameGroup n n (rows_of n (records_down n r (n - (q - 1)))) (rows_of n held₂)
      unfolding records_down
      next-group =
          let g : suc (n - q) ≡ n - (q - 1) = (let h : q ≤ n = D.upto in omega arith) in
          subst (λ k. SameGroup n n (rows_of n (records_down n r k)) (rows_of n held₂)) g
          (subst (λ t. SameGroup n n (rows_of n (further n down t)) (rows_of n held₂)) (sym place) further-group)

      outcome : one ≡ outcomes_down n r (q - 1)
      unfolding outcomes_down
      outcome =
          let k : n - q ≡ n - suc (q - 1) = (let h : q ≤ n = D.upto in omega arith) in
          is_one ∙ ap (λ k. contradicts n (rows_of n (records_down n r k)) Z (q - 1) false) k

      pub down-more : (low' : ℕ) → ((i : ℕ) → bit low' i ≡ bit low i ⊕ (eqb i (q - 1) && one))
          → Down words₂ codes₂ low' (q - 1)
      down-more low' h =
          record {
            upto = let h : q ≤ n = D.upto in omega arith;
            long = G.long ∙ D.long;
            unrefused = G.unrefused;
            group = next-group;
            outcomes = λ i. h i ∙ ap (λ b. b ⊕ (eqb i (q - 1) && one)) (D.outcomes i) ∙ at i (ℕ_discrete i (q - 1));
          }
        where
          value : ℕ → Bool
          value i = ltb i n && outcomes_down n r i

          here : (leb q (q - 1) && value (q - 1)) ⊕ (eqb (q - 1) (q - 1) && one)
              ≡ (leb (q - 1) (q - 1) && value (q - 1))
          here =
              let h : q ≤ n = D.upto in
              ap₂ (λ u v. (u && value (q - 1)) ⊕ (v && one)) (lt-leb q (q - 1) (omega arith)) (same_place (q - 1))
              ∙ outcome
              ∙ sym (ap₂ (λ u v. u && (v && outcomes_down n r (q - 1))) (le-leb (q - 1) (q - 1) (omega arith))
              (lt-ltb (q - 1) n (omega arith)))

          at : (i : ℕ) → Dec (i ≡ q - 1) → (leb q i && value i) ⊕ (eqb i (q - 1) && one) ≡ (leb (q - 1) i && value i)
          at i (yes d) = subst (λ i. (leb q i && value i) ⊕ (eqb i (q - 1) && one) ≡ (leb (q - 1) i && value i))
              (sym d) here
          at i (no d) = ap (λ v. (leb q i && value i) ⊕ (v && one)) (other_place d) ∙ ⊕-zero (leb q i && value i)
              ∙ ap (λ v. v && value i) (same_test (leb q i) refl)
            where
              same_test : (b : Bool) → leb q i ≡ b → b ≡ leb (q - 1) i
              same_test true t = let k : q ≤ i = leb-true q i t in sym (le-leb (q - 1) i (omega arith))
              same_test false t = let k : i < q = leb-false q i t in sym (lt-leb (q - 1) i (omega (arith, d)))

  -- all of them
  pub down_word : (words₁ codes₁ : List ℕ) (low q : ℕ) → q ≤ 0 → Down words₁ codes₁ low q
      → low ≡ word_of (length words) (outcomes_down (length words) (held_record (record_in words codes)))
  down_word words₁ codes₁ low q z D =
      bit-ext n low (word_of n (outcomes_down n r))
      (lt-of-bits n low (λ i l. D.outcomes i ∙ ap₂ (λ u v. u && (v && outcomes_down n r i))
      (le-leb q i (omega arith)) (le-ltb i n l)))
      (word_of-lt n (outcomes_down n r))
      (λ i l. D.outcomes i ∙ ap₂ (λ u v. u && (v && outcomes_down n r i)) (le-leb q i (omega arith)) (lt-ltb i n l)
      ∙ sym (bit-word_of n (outcomes_down n r) i l))
