-- A pivot in the code's working state: C and D are exchanged at j and k, and three vertices are listed.
use mathlib.Core.Bool.{◌&&◌, Bool, and-false, false, true, ◌||◌}
use mathlib.Core.List.{◌++◌, List, [], ◌∷◌, append_assoc}
use mathlib.Core.Logic.{inl, inr, ◌⊎◌}
use mathlib.Core.Path.{ap, ap₂, refl, subst, sym, ◌∙◌, ◌≡◌}
use Prim.Native.Nat.{◌+◌, ◌<◌, ◌^◌, suc, ℕ, ◌≤◌}
use native.Mathlib.Omega.{arith}
use lib.Bits.{bit_and, bit_or, bit_xor}
use lib.Dec.{eqb}
use lib.ListN.{get_or, length, length-set, set, take}
use lib.Seq.{take-suc-set}
use Rattle.clifford.proofs.CliffordLaws.{from_five, on_clifford}
use Rattle.clifford.specs.Clifford.{Clifford, bit_c, bit_d}
use Rattle.clifford.specs.Vectors.{codes_of}
use Rattle.operations.specs.internal.InPlace.{Rewritten}
use Rattle.operations.specs.Steps.{pivot_record}
use Rattle.operations_rewriting.proofs.PivotCodes.{pivot-code, pivoted_code}
use Rattle.operations_rewriting.proofs.PivotedRecords.{pivoted-held, pivoted-length, pivoted-unrefused}
use Rattle.words.proofs.BitLaws.{bit-and, bit-or, bit-single, bit-xor}
use Rattle.words.proofs.Finite.{bits}
use Rattle.words.proofs.Places.{other_place}
use Rattle.words.proofs.Sums.{lt-or-ge}
use Rattle.words.specs.Bits.{bit, ◌⊕◌}
use Rattle.image_impl.proofs.TrackedRecords.{tracked-simple}
use Rattle.image_impl.specs.internal.Working.{Complemented, Tracking, Working, working_record}

-- ---- how 11 and 2 change the bits
pivot-C : (J K a b : Bool) (c : Clifford) → bit_c (pivoted_code J K a b c) ≡ bit_c c ⊕ ((bit_c c ⊕ bit_d c) && (J || K))
pivot-C J K a b = on_clifford _ (λ p q r s t. bits 9 (λ J K a b p q r s t. bit_c
    (pivoted_code J K a b (from_five p q r s t)))
    (λ J K a b p q r s t. bit_c (from_five p q r s t)
    ⊕ ((bit_c (from_five p q r s t) ⊕ bit_d (from_five p q r s t)) && (J || K))) tt J K a b p q r s t)

pivot-D : (J K a b : Bool) (c : Clifford) → bit_d (pivoted_code J K a b c) ≡ bit_d c ⊕ ((bit_c c ⊕ bit_d c) && (J || K))
pivot-D J K a b = on_clifford _ (λ p q r s t. bits 9 (λ J K a b p q r s t. bit_d
    (pivoted_code J K a b (from_five p q r s t)))
    (λ J K a b p q r s t. bit_d (from_five p q r s t)
    ⊕ ((bit_c (from_five p q r s t) ⊕ bit_d (from_five p q r s t)) && (J || K))) tt J K a b p q r s t)

-- ---- three vertices put on a list
pub two-long : (l : List ℕ) (i j a b : ℕ) → length (set (set l i a) j b) ≡ length l
two-long l i j a b = length-set (set l i a) j b ∙ length-set l i a

three-listed : (l : List ℕ) (i a b c : ℕ) → i + 2 < length l
    → take (i + 3) (set (set (set l i a) (i + 1) b) (i + 2) c) ≡ take i l ++ (a ∷ b ∷ c ∷ [])
three-listed l i a b c h =
    ap (λ m. take m (set l₂ (i + 2) c)) {x = i + 3} {y = suc (i + 2)} (omega arith)
    ∙ take-suc-set l₂ (i + 2) c (omega (arith, h, two-long l i (i + 1) a b))
    ∙ ap (λ v. v ++ (c ∷ []))
    (ap (λ m. take m l₂) {x = i + 2} {y = suc (i + 1)} (omega arith)
    ∙ take-suc-set l₁ (i + 1) b (omega (arith, h, length-set l i a))
    ∙ ap (λ v. v ++ (b ∷ []))
    (ap (λ m. take m l₁) {x = i + 1} {y = suc i} (omega arith) ∙ take-suc-set l i a (omega (arith, h))))
    ∙ ap (λ v. v ++ (c ∷ [])) (append_assoc (take i l) (a ∷ []) (b ∷ []))
    ∙ append_assoc (take i l) (a ∷ b ∷ []) (c ∷ [])
  where
    l₁ : List ℕ
    l₁ = set l i a

    l₂ : List ℕ
    l₂ = set l₁ (i + 1) b

module _ (n : ℕ) (w : Working) (T : Tracking n w) (j k : ℕ) (hj : j < n) (hk : k < n)
    (edge : bit (get_or w.neighbours j 0) k ≡ true) (s t : ℕ) (es : s ≡ 2 ^ j) (et : t ≡ 2 ^ k) where
  abbrev code : ℕ → Clifford
  code = codes_of w.codes

  abbrev turned : ℕ
  turned = bit_and (bit_xor w.c w.d) (bit_or s t)

  -- whether q is j or k
  abbrev ends : ℕ → Bool
  ends q = eqb q j || eqb q k

  turned_bit : (q : ℕ) → bit turned q ≡ ((bit_c (code q) ⊕ bit_d (code q)) && ends q)
  turned_bit q =
      bit-and (bit_xor w.c w.d) (bit_or s t) q
      ∙ ap₂ ◌&&◌ (bit-xor w.c w.d q)
      (bit-or s t q ∙ ap₂ ◌||◌ (ap (λ v. bit v q) es ∙ bit-single j q) (ap (λ v. bit v q) et ∙ bit-single k q))
      ∙ within (lt-or-ge q n)
    where
      within : (q < n) ⊎ (n ≤ q) → ((bit w.c q ⊕ bit w.d q) && ends q) ≡
          ((bit_c (code q) ⊕ bit_d (code q)) && ends q)
      within (inl l) = ap₂ (λ u v. (u ⊕ v) && ends q) (T.C q) (T.D q l)
      within (inr l) =
          let none : ends q ≡ false = ap₂ ◌||◌ (other_place {i = q} {j = j} (λ e. absurd (omega (arith, e, hj, l))))
          (other_place {i = q} {j = k} (λ e. absurd (omega (arith, e, hk, l)))) in
          ap (λ e. (bit w.c q ⊕ bit w.d q) && e) none ∙ and-false (bit w.c q ⊕ bit w.d q)
          ∙ sym (ap (λ e. (bit_c (code q) ⊕ bit_d (code q)) && e) none ∙ and-false (bit_c (code q) ⊕ bit_d (code q)))

  module _ (small : w.count + 2 < 96) (words codes : List ℕ)
      (R : Rewritten w.neighbours w.codes (λ g. pivot_record g j k) words codes) where
    abbrev after : Working
    after =
        record {
          neighbours = words;
          codes = codes;
          list = set (set (set w.list w.count j) (w.count + 1) k) (w.count + 2) j;
          c = bit_xor w.c turned;
          d = bit_xor w.d turned;
          count = w.count + 3;
        }

    inside : {v : ℕ} → v < n → v < length w.neighbours
    inside {v} l = subst (λ m. v < m) (sym T.long) l

    held : working_record after ≡ pivot_record (working_record w) j k
    held = pivoted-held w.neighbours w.codes T.unrefused j k (inside hj) (inside hk) words codes R

    code-after : (q : ℕ) → codes_of codes q
        ≡ pivoted_code (eqb q j) (eqb q k) ((working_record w).graph j q) ((working_record w).graph k q) (code q)
    code-after q = ap (λ g. g.codes q) held ∙ pivot-code n (working_record w) (tracked-simple n w T) j k edge q

    C-after : (q : ℕ) → bit (bit_xor w.c turned) q ≡ bit_c (codes_of codes q)
    C-after q = bit-xor w.c turned q ∙ ap₂ ◌⊕◌ (T.C q) (turned_bit q)
        ∙ sym (ap bit_c (code-after q)
        ∙ pivot-C (eqb q j) (eqb q k) ((working_record w).graph j q) ((working_record w).graph k q) (code q))

    D-after : (q : ℕ) → q < n → bit (bit_xor w.d turned) q ≡ bit_d (codes_of codes q)
    D-after q l = bit-xor w.d turned q ∙ ap₂ ◌⊕◌ (T.D q l) (turned_bit q)
        ∙ sym (ap bit_d (code-after q)
        ∙ pivot-D (eqb q j) (eqb q k) ((working_record w).graph j q) ((working_record w).graph k q) (code q))

    above-after : (q : ℕ) → n ≤ q → bit (bit_xor w.c turned) q ≡ false
    above-after q l =
        bit-xor w.c turned q
        ∙ ap₂ ◌⊕◌ (T.above q l) (turned_bit q
        ∙ ap₂ (λ u v. (bit_c (code q) ⊕ bit_d (code q)) && (u || v))
        (other_place {i = q} {j = j} (λ e. absurd (omega (arith, e, hj, l))))
        (other_place {i = q} {j = k} (λ e. absurd (omega (arith, e, hk, l))))
        ∙ and-false (bit_c (code q) ⊕ bit_d (code q)))

    pub pivoted-at : Complemented n w (j ∷ k ∷ j ∷ []) after
    pivoted-at =
        record {
          held = held;
          list = three-listed w.list w.count j k j (omega (arith, small, T.places));
          count = refl;
          tracking =
              record {
                long = pivoted-length w.neighbours w.codes T.unrefused j k (inside hj) (inside hk) words codes
                    R
                    ∙ T.long;
                unrefused = pivoted-unrefused w.neighbours w.codes T.unrefused j k (inside hj) (inside hk)
                    words
                    codes R;
                C = C-after;
                D = D-after;
                above = above-after;
                places = length-set (set (set w.list w.count j) (w.count + 1) k) (w.count + 2) j
                    ∙ two-long w.list w.count (w.count + 1) j k ∙ T.places;
              };
        }
