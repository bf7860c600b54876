-- The loops over the vertices: each equation, the vertices without a Hadamard, and the sum of the turns.
use mathlib.Core.Bool.{◌&&◌, Bool, cond, false, not, true, true≢false}
use mathlib.Core.List.{List}
use mathlib.Core.Path.{ap, ap₂, subst, sym, ◌∙◌, ◌≡◌}
use Prim.Native.Nat.{◌%◌, ◌+◌, ◌<◌, ℕ, ◌≤◌}
use native.Mathlib.Numerals.{add-one}
use native.Mathlib.Omega.{arith}
use lib.Bits.{bit_and}
use lib.ListN.{get_or, length}
use borrow.Author.Tests.{le-ltb, leb-false, lt-ltb, not-false, not-true}
use Rattle.amplitude.specs.internal.KeptTurns.{kept_bits, kept_turns, unit_of}
use Rattle.clifford.specs.Clifford.{bit_c, clifford_of}
use Rattle.clifford.specs.Vectors.{codes_of}
use Rattle.operations.proofs.OutOfPlace.{number-C}
use Rattle.operations.specs.internal.InPlace.{Unrefused, record_in}
use Rattle.operations.proofs.UnrefusedRecords.{unrefused-codes, unrefused-long}
use Rattle.pauli.proofs.PhaseLaws.{exponent_lt}
use Rattle.pauli.specs.Pauli.{◌+ᵖ◌, Phase, exponent, i⁰, minus}
use Rattle.record.specs.Lent.{held_record}
use Rattle.record.specs.Records.{GraphRecord}
use Rattle.words.proofs.BitLaws.{bit-and, bit-ext, bit-word_of, lt-of-bits, word_of-lt}
use Rattle.words.proofs.Flags.{both_true, never_true}
use Rattle.words.proofs.SearchLaws.{every-at}
use Rattle.words.proofs.Sums.{fold-ext}
use Rattle.words.specs.Bits.{◌⊕◌, bit, fold, parity, word_of}
use Rattle.words.specs.Search.{every}
use Rattle.amplitude_impl.proofs.Exponents.{exponent-add}
use Rattle.amplitude_impl.proofs.FoundWords.{Found}

-- ---- every vertex passes
module _ (f : ℕ → Bool) (j : ℕ) (here : Bool) (e : here ≡ f j) where
  pub one_more : every j f ≡ true → not here ≡ false → every (j + 1) f ≡ true
  unfolding every
  one_more h t = ap (λ m. every m f) (add-one j) ∙ ap₂ ◌&&◌ h (sym e ∙ not-false here t)

  pub one-fails : (n : ℕ) → j < n → not here ≡ true → false ≡ every n f
  one-fails n l t =
      sym (never_true (every n f) (λ h. true≢false (sym (every-at n f h j l) ∙ sym e ∙ not-true here t)))

pub all_pass : (f : ℕ → Bool) (n j : ℕ) → j ≤ n → n ≤ j → every j f ≡ true → true ≡ every n f
all_pass f n j a b h = let e : j ≡ n = omega arith in sym h ∙ ap (λ m. every m f) e

-- ---- the word of the vertices that pass
pub found_word : (f : ℕ → Bool) (n all i : ℕ) → n ≤ i → Found f n all i → all ≡ word_of n f
found_word f n all i l S =
    let upto : i ≤ n = S.upto in
    bit-ext n all (word_of n f)
    (lt-of-bits n all (λ q h. S.held q ∙ ap (λ b. b && f q) (le-ltb q i (omega arith)))) (word_of-lt n f)
    (λ q h. S.held q ∙ ap (λ b. b && f q) (lt-ltb q i (omega arith)) ∙ sym (bit-word_of n f q h))

-- ---- turns
module _ (words codes : List ℕ) (U : Unrefused (record_in words codes)) (y chosen : ℕ)
    (C : (k : ℕ) × (k ≡ word_of (length codes) (λ q. not (bit_c (codes_of codes q)))) × (chosen ≡ bit_and k y)) where
  abbrev r : GraphRecord
  r = held_record (record_in words codes)

  -- the bits of y at the vertices without a Hadamard
  chosen-bits : (q : ℕ) → q < length words → bit chosen q ≡ kept_bits r (bit y) q
  chosen-bits q l =
      ap (λ w. bit w q) C.2 ∙ bit-and C.0 y q
      ∙ ap (λ b. b && bit y q) (ap (λ w. bit w q) C.1
      ∙ bit-word_of (length codes) (λ q. not (bit_c (codes_of codes q))) q
      (subst (λ m. q < m) (sym (unrefused-long words codes U)) l))

  pub chosen-low : (j : ℕ) → j < length words → bit chosen j ≡ true → get_or codes j 0 < 8
  chosen-low j l e =
      let kept = (both_true (not (bit_c (clifford_of (get_or codes j 0)))) (bit y j) (sym (chosen-bits j l) ∙ e)).0 in
      leb-false 8 (get_or codes j 0) (sym (number-C (get_or codes j 0) ((unrefused-codes words codes U).1 j))
      ∙ not-true _ kept)

  -- what vertex j adds
  abbrev term : ℕ → Phase
  term j = cond (bit chosen j) (unit_of (clifford_of (get_or codes j 0))
      +ᵖ minus (parity j (λ q. bit (get_or words j 0) q && bit chosen q))) i⁰

  pub turns-small : (sum j t : ℕ) → sum ≡ exponent (kept_turns j (held_record (record_in words codes)) (bit y))
      → t ≡ exponent (term j) → sum + t < 8
  turns-small sum j t h e =
      omega (
        arith,
        h,
        e,
        exponent_lt (kept_turns j (held_record (record_in words codes)) (bit y)),
        exponent_lt (term j),
      )

  pub turns-all : (sum j : ℕ) → j ≤ length words → length words ≤ j
      → sum ≡ exponent (kept_turns j (held_record (record_in words codes)) (bit y))
      → sum ≡ exponent (kept_turns (length words) (held_record (record_in words codes)) (bit y))
  turns-all sum j a b h = let e : j ≡ length words = omega arith in
      h ∙ ap (λ m. exponent (kept_turns m (held_record (record_in words codes)) (bit y))) e

  pub turns_more : (sum j t : ℕ) → j < length words
      → sum ≡ exponent (kept_turns j (held_record (record_in words codes)) (bit y))
      → t ≡ exponent (term j)
      → (sum + t) % 4 ≡ exponent (kept_turns (j + 1) (held_record (record_in words codes)) (bit y))
  unfolding kept_turns fold
  turns_more sum j t l h e =
      ap₂ (λ a b. (a + b) % 4) h (e ∙ ap exponent same) ∙ exponent-add (kept_turns j r (bit y)) _
      ∙ ap (λ m. exponent (kept_turns m r (bit y))) (sym (add-one j))
    where
      same : term j ≡ cond (kept_bits r (bit y) j) (unit_of (r.codes j)
          +ᵖ minus (parity j (λ q. r.graph j q && kept_bits r (bit y) q))) i⁰
      same = ap₂ (λ b p. cond b (unit_of (r.codes j) +ᵖ minus p) i⁰) (chosen-bits j l)
          (fold-ext false ◌⊕◌ j (λ q k. ap (λ b. r.graph j q && b) (chosen-bits q (omega arith))))
