-- Records of reduced form: the ratio of a word is the difference of its turns and those of the smallest word.
use mathlib.Core.Bool.{◌&&◌, Bool, not, true}
use mathlib.Core.Path.{◌∙◌, ◌≡◌, ap, ap₂, fun_ext, refl, subst, sym}
use Prim.Native.Nat.{ℕ}
use native.Mathlib.Nat.{le_refl}
use Rattle.clifford.specs.Clifford.{bit_c}
use Rattle.record.specs.Graph.{Simple}
use Rattle.operations.specs.internal.ReducedForms.{ReducedForm}
use Rattle.pauli.proofs.PauliLaws.{mul-x, square}
use Rattle.pauli.proofs.PhaseLaws.{+ᵖ-assoc, +ᵖ-comm, +ᵖ-zero}
use Rattle.pauli.specs.Pauli.{◌+ᵖ◌, Pauli, Phase, i⁰, mul}
use Rattle.record.proofs.ReducedRecords.{record-proper}
use Rattle.record.specs.Records.{GraphRecord, rows_of}
use Rattle.stabilizer.proofs.GroupLaws.{elements-signed, in-mul}
use Rattle.stabilizer.specs.Groups.{Proper, product}
use Rattle.words.proofs.Finite.{bits, ⊕-back}
use Rattle.words.specs.Bits.{Word, ◌⊕◌, bit}
use Rattle.amplitude.proofs.Existence.{any-element, lowest-is}
use Rattle.amplitude.proofs.FormWords.{
  Solves,
  between,
  first-solves,
  first_word,
  leads-between,
  supported-solves,
}
use Rattle.amplitude.proofs.KeptRows.{products-turn}
use Rattle.amplitude.proofs.Support.{supported-exactly, turns-ext, turns-identity}
use Rattle.amplitude.proofs.TurnLaws.{turns-mul}
use Rattle.amplitude.specs.internal.KeptTurns.{kept_bits, kept_turns}
use Rattle.amplitude.specs.Ratios.{Leads, lowest, ratio, is_supported}
use Rattle.amplitude.specs.Turns.{turns_at}

module _ (n : ℕ) (r : GraphRecord) (S : Simple n r.graph) (F : ReducedForm n r) where
  abbrev rows : ℕ → Pauli
  rows = rows_of n r

  P : Proper n (rows_of n r)
  P = record-proper n r S

  -- the word without kept vertices
  abbrev base : Word
  base q = bit_c (r.codes q) && (r.codes q).sx

  base-solves : Solves n r S F base
  unfolding first_word
  base-solves = first-solves n r S F

  -- the element of a word
  abbrev element : Word → Pauli
  element y = product n n (kept_bits r y) rows

  leads : (y : Word) → Solves n r S F y → Leads n (element y) base y
  unfolding between
  leads y H = subst (λ w. Leads n (product n n w rows) base y) (fun_ext same)
      (leads-between n r S F base y base-solves H)
    where
      same : (j : ℕ) → between n r S F base y base-solves H j ≡ kept_bits r y j
      same j = kept (bit_c (r.codes j)) (r.codes j).sx (y j)
        where
          kept : (c s y : Bool) → (not c && ((c && s) ⊕ y)) ≡ (not c && y)
          kept = bits 3 (λ c s y. not c && ((c && s) ⊕ y)) (λ c s y. not c && y) tt

  element-turns : (y : Word) → turns_at n (element y) base ≡ kept_turns n r y
  unfolding kept_turns
  element-turns y = products-turn n r S F (kept_bits r y) base
      (λ j c. ap (λ b. not b && y j) c) (λ j c. ap (λ b. b && (r.codes j).sx) c) n (le_refl n)

  -- from a word back to the base
  back-turns : (y : Word) → Solves n r S F y → kept_turns n r y +ᵖ turns_at n (element y) y ≡ i⁰
  back-turns y H =
      ap₂ ◌+ᵖ◌ (sym (element-turns y)) (turns-ext n (element y) y (λ q. base q ⊕ (element y).x q)
      (λ q l. sym (ap (λ b. base q ⊕ b) (leads y H q l) ∙ ⊕-back (base q) (y q))))
      ∙ sym (turns-mul n (element y) (element y) base)
      ∙ ap (λ p. turns_at n p base)
      (square n (element y) (elements-signed n n rows P.commuting (kept_bits r y, refl)))
      ∙ turns-identity n base

  solves : (y : ℕ) → is_supported n rows y ≡ true → Solves n r S F (bit y)
  solves y e = supported-solves n r S F (bit y) ((supported-exactly n rows y).0 e)

  -- the ratio and the turns of the smallest word are the turns of the word
  pub ratio-by-turns : (y : ℕ) → is_supported n (rows_of n r) y ≡ true
      → ratio n (rows_of n r) y +ᵖ kept_turns n r (bit (lowest n (rows_of n r))) ≡ kept_turns n r (bit y)
  ratio-by-turns y e =
      ap (λ t. t +ᵖ kept_turns n r low) (sym (any-element n rows P y e (mul n (element (bit y)) (element low))
      (in-mul n n rows P.commuting (kept_bits r (bit y), refl) (kept_bits r low, refl))
      (λ q l. mul-x n (element (bit y)) (element low) q
      ∙ ap₂ ◌⊕◌ (leads (bit y) H q l) (leads low L q l) ∙ around (base q) (bit y q) (low q)))
      ∙ turns-mul n (element (bit y)) (element low) low
      ∙ ap (λ t. turns_at n (element low) low +ᵖ t) (turns-ext n (element (bit y)) _ base
      (λ q l. ap (λ b. low q ⊕ b) (leads low L q l) ∙ again (low q) (base q)) ∙ element-turns (bit y)))
      ∙ rearranged (turns_at n (element low) low) (kept_turns n r (bit y)) (kept_turns n r low) (back-turns low L)
    where
      low : Word
      low = bit (lowest n (rows_of n r))

      H : Solves n r S F (bit y)
      H = solves y e

      L : Solves n r S F (bit (lowest n (rows_of n r)))
      L = solves (lowest n rows) (lowest-is n rows P).passes

      around : (e y l : Bool) → (e ⊕ y) ⊕ (e ⊕ l) ≡ l ⊕ y
      around = bits 3 (λ e y l. (e ⊕ y) ⊕ (e ⊕ l)) (λ e y l. l ⊕ y) tt

      again : (l e : Bool) → l ⊕ (e ⊕ l) ≡ e
      again = bits 2 (λ l e. l ⊕ (e ⊕ l)) (λ l e. e) tt

      rearranged : (a b c : Phase) → c +ᵖ a ≡ i⁰ → (a +ᵖ b) +ᵖ c ≡ b
      rearranged a b c h = ap (λ t. t +ᵖ c) (+ᵖ-comm a b) ∙ +ᵖ-assoc b a c
          ∙ ap (λ t. b +ᵖ t) (+ᵖ-comm a c ∙ h) ∙ +ᵖ-zero b
