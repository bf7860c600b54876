-- Vertices out of place, by the numbers in the buffers: what a step at the first of them finds, and that a record
-- without any has the reduced form.
use mathlib.Core.Bool.{◌&&◌, Bool, false, not, or-true, true, true≢false, ◌||◌}
use mathlib.Core.List.{List}
use mathlib.Core.Logic.{inl, inr, ◌⊎◌}
use mathlib.Core.Path.{ap, ap₂, refl, subst, sym, ◌∙◌, ◌≡◌}
use Prim.Native.Nat.{◌+◌, ◌-◌, ◌/◌, ◌<◌, ◌^◌, ℕ, ◌≤◌}
use native.Mathlib.Nat.{div-eq_of_lt, lt_of_lt_of_le, zero-div}
use native.Mathlib.Omega.{arith}
use lib.Dec.{eqb, leb, ltb}
use lib.ListN.{get_or, length}
use lib.Pow.{pow_mono}
use borrow.Author.Tests.{
  eqb-false,
  eqb-true,
  le-leb,
  le-ltb,
  leb-false,
  leb-true,
  lt-leb,
  lt-ltb,
  ltb-true,
  not-false,
  not-true,
}
use Rattle.clifford.proofs.CliffordLaws.{code_of-clifford_of}
use Rattle.clifford.specs.Clifford.{bit_c, bit_d, class_of, clifford_of}
use Rattle.record.specs.Graph.{Simple}
use Rattle.operations.proofs.UnrefusedRecords.{unrefused-above, unrefused-simple}
use Rattle.operations.specs.internal.InPlace.{Unrefused, record_in}
use Rattle.operations.specs.Steps.{pivot_record}
use Rattle.record.proofs.AcceptedRecords.{accepted-record}
use Rattle.record.specs.Accepted.{AcceptedRecord}
use Rattle.record.specs.Lent.{held_record}
use Rattle.record.specs.Records.{GraphRecord, complement_record}
use Rattle.words.proofs.BitLaws.{bit-above, bit-ext∞, bit-shr, zero_bit}
use Rattle.words.proofs.Flags.{both_true, either, neither, true-same_bit}
use Rattle.words.proofs.SearchLaws.{every-at, first-is, first-none}
use Rattle.words.proofs.Sums.{lt-or-ge}
use Rattle.words.specs.Bits.{bit, is_odd, same_bit}
use Rattle.words.specs.Search.{IsFirst, every, first}
use Rattle.operations.proofs.Settling.{lighter, nearer-alone, nearer-joined, nearer-signed, nearer-turned}
use Rattle.operations.specs.internal.KeptGroups.{unsettled}
use Rattle.operations.specs.internal.ReducedForms.{ReducedForm}
use Rattle.operations.specs.internal.Settling.{distance, code_weight}
use Rattle.operations.specs.internal.GraphSteps.{sign_moved}

-- ---- codes by their numbers
pub number-C : (k : ℕ) → k < 24 → bit_c (clifford_of k) ≡ leb 8 k
unfolding every
number-C k l = true-same_bit _ _ (every-at 24 (λ k. same_bit (bit_c (clifford_of k)) (leb 8 k)) refl k l)

number-D : (k : ℕ) → k < 24 → bit_d (clifford_of k) ≡ ((leb 8 k && (leb 12 k && ltb k 20)) || not (leb 8 k))
unfolding every
number-D k l = true-same_bit _ _ (every-at 24
    (λ k. same_bit (bit_d (clifford_of k)) ((leb 8 k && (leb 12 k && ltb k 20)) || not (leb 8 k))) refl k l)

-- ---- a word without bits at and above a place
none_from : (w j q : ℕ) → w / 2 ^ j ≡ 0 → j ≤ q → bit w q ≡ false
none_from w j q e l = ap (bit w) {x = q} {y = j + (q - j)} (omega arith) ∙ sym (bit-shr w j (q - j))
    ∙ ap (λ v. bit v (q - j)) e
    ∙ zero_bit (q - j)

module _ (words codes : List ℕ) (U : Unrefused (record_in words codes)) where
  abbrev n : ℕ
  n = length words

  abbrev A : AcceptedRecord (record_in words codes)
  A = accepted-record (record_in words codes) false false U.no_line

  abbrev r : GraphRecord
  r = held_record (record_in words codes)

  simple : Simple (length words) (held_record (record_in words codes)).graph
  simple = unrefused-simple words codes U

  abbrev k : ℕ → ℕ
  k q = get_or codes q 0

  abbrev w : ℕ → ℕ
  w q = get_or words q 0

  -- a vertex in place with C = 1 has no bit at or above its own place
  placed : (q j : ℕ) → unsettled words codes q ≡ false → bit_c (r.codes q) ≡ true → q ≤ j → bit (w q) j ≡ false
  placed q j e c l = none_from (w q) q j
      (eqb-true (w q / 2 ^ q) 0 (not-false (eqb (w q / 2 ^ q) 0)
      (go (leb 8 (k q)) (sym (number-C (k q) (A.codes-below q)) ∙ c)
      (neither (is_odd (k q)) (leb 8 (k q) && not (eqb (w q / 2 ^ q) 0)) (neither (leb 12 (k q)) _ e).1).1))) l
    where
      go : (b : Bool) → b ≡ true → (b && not (eqb (w q / 2 ^ q) 0)) ≡ false → not (eqb (w q / 2 ^ q) 0) ≡ false
      go true h f = f
      go false h f = absurd (true≢false (sym h))

  pub none-unsettled : ((q : ℕ) → q < length words → unsettled words codes q ≡ false)
      → ReducedForm (length words) (held_record (record_in words codes))
  none-unsettled h =
      record {
        low = λ q l. subst (λ m. m < 12) (sym (code_of-clifford_of (k q) (A.codes-below q)))
            (leb-false 12 (k q) (neither (leb 12 (k q)) _ (h q l)).0);
        even = λ q l. (neither (is_odd (k q)) _ (neither (leb 12 (k q)) _ (h q l)).1).0;
        above = unrefused-above words codes U;
        smaller = λ q j l c e. elim (lt-or-ge j q) [
          | inl m ↦ m
          | inr m ↦ absurd (true≢false (sym e ∙ placed q j (h q l) c m))
        ];
      }

  -- and the other way round: in the reduced form no vertex is out of place
  pub form-settled : ReducedForm (length words) (held_record (record_in words codes)) → (q : ℕ) → q < length words
      → unsettled words codes q ≡ false
  form-settled F q l =
      ap₂ (λ a b. a || (b || (leb 8 (k q) && not (eqb (w q / 2 ^ q) 0))))
      (lt-leb 12 (k q) (subst (λ m. m < 12) (code_of-clifford_of (k q) (A.codes-below q)) (F.low q l))) (F.even q l)
      ∙ none-larger (leb 8 (k q)) refl
    where
      smaller : leb 8 (k q) ≡ true → (j : ℕ) (b : Bool) → bit (w q) (q + j) ≡ b → b ≡ false
      smaller c j false e = refl
      smaller c j true e = absurd (omega (arith, F.smaller q (q + j) l (number-C (k q) (A.codes-below q) ∙ c) e))

      none-larger : (b : Bool) → leb 8 (k q) ≡ b → (b && not (eqb (w q / 2 ^ q) 0)) ≡ false
      none-larger false c = refl
      none-larger true c = ap (λ v. not (eqb v 0)) {x = w q / 2 ^ q} {y = 0}
          (bit-ext∞ (w q / 2 ^ q) 0 (λ j. bit-shr (w q) q j ∙ smaller c j _ refl ∙ sym (zero_bit j)))

  -- ---- the first vertex out of place
  module _ (j : ℕ) (hj : j < length words) (first_one : j ≡ first (length words) (unsettled words codes)) where
    found : IsFirst n (unsettled words codes) j
    found = elim (first-is n (unsettled words codes)) [
      | inl F ↦ subst (IsFirst n (unsettled words codes)) (sym first_one) F
      | inr none ↦ absurd (omega (arith, hj, first_one ∙ first-none n (unsettled words codes) none))
    ]

    below : k j < 24
    below = A.codes-below j

    -- a step by a pivot
    module _ (taken : (leb 8 (get_or codes j 0) && ((ltb (get_or codes j 0) 12 || leb 20 (get_or codes j 0))
        && not (eqb (get_or words j 0 / 2 ^ j) 0))) ≡ true) where
      parts : ((ltb (k j) 12 || leb 20 (k j)) ≡ true) × (not (eqb (w j / 2 ^ j) 0) ≡ true)
      parts = both_true (ltb (k j) 12 || leb 20 (k j)) (not (eqb (w j / 2 ^ j) 0)) (both_true (leb 8 (k j)) _ taken).1

      reaches : w j / 2 ^ j ≡ 0 → ⊥
      reaches = eqb-false (w j / 2 ^ j) 0 (not-true (eqb (w j / 2 ^ j) 0) parts.1)

      range : (8 ≤ k j) × ((k j < 12) ⊎ (20 ≤ k j))
      range = (
        leb-true 8 (k j) (both_true (leb 8 (k j)) _ taken).0,
        elim (either (ltb (k j) 12) (leb 20 (k j)) parts.0) [
          | inl e ↦ inl (ltb-true (k j) 12 e)
          | inr e ↦ inr (leb-true 20 (k j) e)
        ],
      )

      own-C : bit_c (r.codes j) ≡ true
      own-C = number-C (k j) below ∙ le-leb 8 (k j) range.0

      own-D : bit_d (r.codes j) ≡ false
      own-D = number-D (k j) below ∙ elim range.1 [
        | inl l ↦ ap₂ (λ a b. (a && (b && ltb (k j) 20)) || not a) (le-leb 8 (k j) range.0) (lt-leb 12 (k j) l)
        | inr l ↦ ap₂ (λ a b. (a && (leb 12 (k j) && b)) || not a) (le-leb 8 (k j) range.0) (le-ltb (k j) 20 l)
            ∙ none (leb 12 (k j))
      ]
        where
          none : (b : Bool) → ((true && (b && false)) || not true) ≡ false
          none false = refl
          none true = refl

      pub word-reaches : get_or words j 0 ≡ 0 → ⊥
      word-reaches e = reaches (ap (λ v. v / 2 ^ j) e ∙ zero-div (2 ^ j))

      module _ (m : ℕ) (set : bit (get_or words j 0) m ≡ true) (top : get_or words j 0 < 2 ^ (m + 1)) where
        pub larger-below : m < length words
        larger-below = elim (lt-or-ge m n) [
          | inl l ↦ l
          | inr l ↦ absurd (true≢false (sym set ∙ bit-above n (w j) (A.words-below j) m l))
        ]

        larger : j < m
        larger = elim (lt-or-ge j m) [
          | inl l ↦ l
          | inr l ↦ elim (lt-or-ge m j) [
            | inl o ↦ absurd (reaches (div-eq_of_lt (lt_of_lt_of_le top (pow_mono {i = m + 1} {j = j} (omega arith)))))
            | inr o ↦ absurd (true≢false (sym set ∙ ap (bit (w j)) {x = m} {y = j} (omega arith) ∙ simple.loopless j))
          ]
        ]

        pub pivot-less : distance (length words) (pivot_record (held_record (record_in words codes)) j m)
            < distance (length words) (held_record (record_in words codes))
        pivot-less = lighter n r simple (pivot_record r j m)
            (nearer-joined n r simple j m hj larger-below larger set own-C own-D)

    -- another step
    module _ (left : (leb 8 (get_or codes j 0) && ((ltb (get_or codes j 0) 12 || leb 20 (get_or codes j 0))
        && not (eqb (get_or words j 0 / 2 ^ j) 0))) ≡ false) where
      -- no larger neighbour: class 5, and the smaller neighbours, which are in place, have C = 0
      turned : 20 ≤ k j → w j / 2 ^ j ≡ 0 → code_weight n (complement_record r j) < code_weight n r
      turned l e =
          nearer-turned n r simple j hj (ap class_of {x = k j / 4} {y = 5} (omega (arith, l, below)))
          (λ q h. kept q h (bit_c (r.codes q)) refl)
        where
          kept : (q : ℕ) → bit (w j) q ≡ true → (b : Bool) → bit_c (r.codes q) ≡ b → b ≡ false
          kept q h false c = refl
          kept q h true c = elim (lt-or-ge q j) [
            | inl l ↦ absurd (true≢false (sym h ∙ simple.symmetric j q
                ∙ placed q j (found.least q l) c (omega arith)))
            | inr l ↦ absurd (true≢false (sym h ∙ none_from (w j) j q e l))
          ]

      alone : 12 ≤ k j → k j < 20 → code_weight n (complement_record r j) < code_weight n r
      alone l m =
          nearer-alone n r simple j hj (number-C (k j) below ∙ le-leb 8 (k j) (omega arith))
          (number-D (k j) below
          ∙ ap₂ (λ a b. (a && (b && ltb (k j) 20)) || not a) (le-leb 8 (k j) (omega arith)) (le-leb 12 (k j) l)
          ∙ ap (λ c. (true && (true && c)) || not true) (lt-ltb (k j) 20 m))

      none-larger : 8 ≤ k j → (ltb (k j) 12 || leb 20 (k j)) ≡ true → w j / 2 ^ j ≡ 0
      none-larger l e = eqb-true (w j / 2 ^ j) 0 (not-false (eqb (w j / 2 ^ j) 0)
          (sym (ap₂ (λ a b. a && (b && not (eqb (w j / 2 ^ j) 0))) (le-leb 8 (k j) l) e) ∙ left))

      -- by a complementation
      pub complement-less : 12 ≤ get_or codes j 0
          → distance (length words) (complement_record (held_record (record_in words codes)) j)
          < distance (length words) (held_record (record_in words codes))
      complement-less l = lighter n r simple (complement_record r j) (elim (lt-or-ge (k j) 20) [
        | inl m ↦ alone l m
        | inr m ↦ turned m (none-larger (omega arith)
            (ap (λ a. ltb (k j) 12 || a) (le-leb 20 (k j) m) ∙ or-true (ltb (k j) 12)))
      ])

      -- by moving a sign
      pub sign-less : get_or codes j 0 < 12 → distance (length words) (sign_moved (held_record (record_in words codes)) j)
          < distance (length words) (held_record (record_in words codes))
      sign-less l = nearer-signed n r simple j hj (odd (either (leb 12 (k j)) _ found.passes))
        where
          last : (is_odd (k j) ≡ true) ⊎ ((leb 8 (k j) && not (eqb (w j / 2 ^ j) 0)) ≡ true) → is_odd (k j) ≡ true
          last (inl e) = e
          last (inr e) =
              let h = both_true (leb 8 (k j)) (not (eqb (w j / 2 ^ j) 0)) e in
              absurd (true≢false (sym (ap₂ (λ a b. a && b) h.0
              (ap₂ (λ a b. (a || leb 20 (k j)) && b) (lt-ltb (k j) 12 l) h.1)) ∙ left))

          odd : (leb 12 (k j) ≡ true) ⊎ ((is_odd (k j) || (leb 8 (k j) && not (eqb (w j / 2 ^ j) 0))) ≡ true)
              → is_odd (k j) ≡ true
          odd (inl e) = absurd (omega (arith, leb-true 12 (k j) e))
          odd (inr e) = last (either (is_odd (k j)) _ e)
