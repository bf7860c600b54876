-- Two sets of vertices in three passes, first those in the first set alone, then in the second alone, then in both: the
-- edges between the sets are flipped, and 2 is put before each code once.
use mathlib.Core.Bool.{◌&&◌, Bool, cond, false, true, ◌||◌}
use mathlib.Core.List.{List}
use mathlib.Core.Logic.{inl, inr}
use mathlib.Core.Path.{ap, ap₂, refl, subst, sym, ◌∙◌, ◌≡◌}
use Prim.Native.Nat.{◌<◌, ◌^◌, ℕ, ◌≤◌}
use lib.Bits.{and_lt, bit_and, bit_or, bit_xor, xor_lt}
use lib.Dec.{lit<}
use lib.ListN.{get_or-eq_default, get_or, length}
use Rattle.buffers.proofs.Tabulate.{tabulate-at, tabulate-cong, tabulate-length}
use Rattle.buffers.specs.Buffers.{tabulate}
use Rattle.clifford.proofs.CliffordLaws.{clifford_of-code_of, code_of-lt}
use Rattle.clifford.specs.Clifford.{Clifford, clifford_of, code_of, then}
use Rattle.clifford.specs.Vectors.{codes_of}
use Rattle.record.specs.internal.Joined.{joined_by}
use Rattle.record.specs.internal.NeighbourWords.{SameGraph}
use Rattle.record.specs.NeighbourWords.{graph_in}
use Rattle.operations.proofs.UnrefusedRecords.{unrefused-codes, unrefused-long, unrefused-short}
use Rattle.operations.specs.internal.InPlace.{Unrefused, record_in}
use Rattle.words.proofs.BitLaws.{bit-and, bit-or, bit-xor}
use Rattle.words.proofs.Finite.{bits}
use Rattle.words.proofs.Sums.{lt-or-ge}
use Rattle.words.specs.Bits.{bit, ◌⊕◌}
use Rattle.operations_rewriting.proofs.FlippedRows.{Flipped}

-- 2 before a code, where a bit says so
abbrev turned : Bool → Clifford → Clifford
turned b c = cond b (then (clifford_of 2) c) c

-- ---- one pass
abbrev pub Turned : List ℕ → ℕ → List ℕ → Type 0
Turned old rows new = new ≡ tabulate (length old) (λ q. code_of (turned (bit rows q) (codes_of old q)))

-- what a pass asks for
abbrev pub Ready : List ℕ → List ℕ → ℕ → Type 0
Ready words codes rows = ((length words ≤ 64) × (length codes ≡ length words))
    × (((q : ℕ) → get_or codes q 0 < 24) × (rows < 2 ^ (length words)))

module _ (old : List ℕ) (rows : ℕ) (new : List ℕ) (T : Turned old rows new) where
  turned-length : length new ≡ length old
  turned-length = ap length T ∙ tabulate-length (length old) _

  turned-at : (q : ℕ) → q < length old → codes_of new q ≡ turned (bit rows q) (codes_of old q)
  turned-at q l = ap (λ m. codes_of m q) T ∙ ap clifford_of (tabulate-at (length old) _ q l)
      ∙ clifford_of-code_of (turned (bit rows q) (codes_of old q))

  turned-below : (q : ℕ) → get_or new q 0 < 24
  turned-below q = elim (lt-or-ge q (length old)) [
    | inl l ↦ subst (λ v. v < 24) (sym (ap (λ m. get_or m q 0) T ∙ tabulate-at (length old) _ q l))
        (code_of-lt (turned (bit rows q) (codes_of old q)))
    | inr l ↦ subst (λ v. v < 24) (sym (get_or-eq_default new 0 (subst (λ m. m ≤ q) (sym turned-length) l)))
        (lit< tt)
  ]

-- the next pass may follow
ready-next : (words codes : List ℕ) (rows : ℕ) (words' codes' : List ℕ) → Ready words codes rows
    → length words' ≡ length words → Turned codes rows codes' → (rows' : ℕ) → rows' < 2 ^ (length words)
    → Ready words' codes' rows'
ready-next words codes rows words' codes' R long T rows' l = (
  (
    subst (λ m. m ≤ 64) (sym long) R.0.0,
    turned-length codes rows codes' T ∙ R.0.1 ∙ sym long,
  ),
  (turned-below codes rows codes' T, subst (λ m. rows' < 2 ^ m) (sym long) l),
)

-- ---- all three
-- a vertex of either set is in one pass alone
once : (A B : Bool) (c : Clifford)
    → turned (A && B) (turned (B ⊕ (A && B)) (turned (A ⊕ (A && B)) c)) ≡ turned (A || B) c
once false false c = refl
once false true c = refl
once true false c = refl
once true true c = refl

module _ (a b : ℕ) where
  alone : (v q : ℕ) → bit (bit_xor v (bit_and a b)) q ≡ bit v q ⊕ (bit a q && bit b q)
  alone v q = bit-xor v (bit_and a b) q ∙ ap (λ u. bit v q ⊕ u) (bit-and a b q)

  pub flipped-thrice : (w₀ w₁ w₂ w₃ : List ℕ) → Flipped w₀ (bit_xor a (bit_and a b)) b w₁
      → Flipped w₁ (bit_xor b (bit_and a b)) a w₂ → Flipped w₂ (bit_and a b) (bit_xor a b) w₃
      → SameGraph (graph_in w₃) (joined_by (graph_in w₀) (bit a) (bit b))
  flipped-thrice w₀ w₁ w₂ w₃ F₁ F₂ F₃ k l =
      F₃ k l
      ∙ ap (λ t. t ⊕ (bit (bit_and a b) k && bit (bit_xor a b) l))
      (F₂ k l ∙ ap (λ t. t ⊕ (bit (bit_xor b (bit_and a b)) k && bit a l)) (F₁ k l)
      ∙ ap₂ (λ u v. (graph_in w₀ k l ⊕ (u && bit b l)) ⊕ (v && bit a l)) (alone a k) (alone b k))
      ∙ ap₂ (λ u v. ((graph_in w₀ k l ⊕ ((bit a k ⊕ (bit a k && bit b k)) && bit b l))
      ⊕ ((bit b k ⊕ (bit a k && bit b k)) && bit a l)) ⊕ (u && v)) (bit-and a b k) (bit-xor a b l)
      ∙ bits 5 (λ t A B C D. ((t ⊕ ((A ⊕ (A && B)) && D)) ⊕ ((B ⊕ (A && B)) && C)) ⊕ ((A && B) && (C ⊕ D)))
      (λ t A B C D. t ⊕ ((A && D) ⊕ (B && C))) tt (graph_in w₀ k l) (bit a k) (bit b k) (bit a l) (bit b l)

  pub turned-thrice : (c₀ c₁ c₂ c₃ : List ℕ) → Turned c₀ (bit_xor a (bit_and a b)) c₁
      → Turned c₁ (bit_xor b (bit_and a b)) c₂ → Turned c₂ (bit_and a b) c₃ → Turned c₀ (bit_or a b) c₃
  turned-thrice c₀ c₁ c₂ c₃ T₁ T₂ T₃ =
      T₃ ∙ ap (λ n. tabulate n (λ q. code_of (turned (bit (bit_and a b) q) (codes_of c₂ q)))) (long₂ ∙ long₁)
      ∙ tabulate-cong (length c₀) _ _ (λ q l. ap code_of (place q l))
    where
      long₁ : length c₁ ≡ length c₀
      long₁ = turned-length c₀ (bit_xor a (bit_and a b)) c₁ T₁

      long₂ : length c₂ ≡ length c₁
      long₂ = turned-length c₁ (bit_xor b (bit_and a b)) c₂ T₂

      place : (q : ℕ) → q < length c₀ → turned (bit (bit_and a b) q) (codes_of c₂ q) ≡ turned (bit (bit_or a b) q)
          (codes_of c₀ q)
      place q l =
          ap₂ turned (bit-and a b q)
          (turned-at c₁ (bit_xor b (bit_and a b)) c₂ T₂ q (subst (λ n. q < n) (sym long₁) l)
          ∙ ap₂ turned (alone b q)
          (turned-at c₀ (bit_xor a (bit_and a b)) c₁ T₁ q l ∙ ap (λ u. turned u (codes_of c₀ q)) (alone a q)))
          ∙ once (bit a q) (bit b q) (codes_of c₀ q)
          ∙ ap (λ u. turned u (codes_of c₀ q)) (sym (bit-or a b q))

-- ---- what each of the three asks for
module _ (words codes : List ℕ) (U : Unrefused (record_in words codes)) (a b : ℕ) (ha : a < 2 ^ (length words))
    (hb : b < 2 ^ (length words)) where
  both_below : bit_and a b < 2 ^ (length words)
  both_below = and_lt (length words) a b ha hb

  pub first-ready : Ready words codes (bit_xor a (bit_and a b))
  first-ready = (
    (unrefused-short words codes U, unrefused-long words codes U),
    ((unrefused-codes words codes U).1, xor_lt (length words) a (bit_and a b) ha both_below),
  )

  module _ (words₁ codes₁ : List ℕ) (long₁ : length words₁ ≡ length words)
      (T₁ : Turned codes (bit_xor a (bit_and a b)) codes₁) where
    pub second-ready : Ready words₁ codes₁ (bit_xor b (bit_and a b))
    second-ready =
        ready-next words codes (bit_xor a (bit_and a b)) words₁ codes₁ first-ready long₁ T₁ (bit_xor b (bit_and a b))
        (xor_lt (length words) b (bit_and a b) hb both_below)

    module _ (words₂ codes₂ : List ℕ) (long₂ : length words₂ ≡ length words₁)
        (T₂ : Turned codes₁ (bit_xor b (bit_and a b)) codes₂) where
      pub third-ready : Ready words₂ codes₂ (bit_and a b)
      third-ready =
          ready-next words₁ codes₁ (bit_xor b (bit_and a b)) words₂ codes₂ second-ready long₂ T₂ (bit_and a b)
          (subst (λ m. bit_and a b < 2 ^ m) (sym long₁) both_below)
