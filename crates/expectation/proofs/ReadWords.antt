-- The value as the code reads it: from the words of the row that was sent back, and of the element with its x bits.
use mathlib.Core.Bool.{Bool, cond, false, true}
use mathlib.Core.Path.{ap, refl, subst, sym, ◌∙◌, ◌≡◌}
use Prim.Native.Nat.{◌<◌, ◌^◌, ℕ}
use lib.Dec.{eqb}
use borrow.Author.Tests.{eqb-false, eqb-true}
use Rattle.clifford.specs.Clifford.{inverse}
use Rattle.clifford.specs.Vectors.{act, codes_of}
use Rattle.record.proofs.GraphGroups.{graph-commuting}
use Rattle.record.specs.Graph.{graph_generator}
use Rattle.pauli.proofs.PauliLaws.{Pauli-path}
use Rattle.pauli.proofs.PhaseLaws.{exponent-two, sign-of-phase}
use Rattle.pauli.proofs.WordRows.{exponent-power}
use Rattle.pauli.specs.Pauli.{◌+ᵖ◌, Pauli, Phase, imaginary, i², i⁰, minus, power, signed_row}
use Rattle.pauli.specs.declared.Generator.{Generator}
use Rattle.pauli.specs.declared.Row.{Row}
use Rattle.pauli.specs.internal.Rows.{generator_of, pauli_of}
use Rattle.record.specs.Accepted.{AcceptedRecord}
use Rattle.record.specs.Lent.{LentRecord, held_record, held_rows}
use Rattle.stabilizer.proofs.Products.{product-signed}
use Rattle.stabilizer.proofs.Within.{act-wide, act-within}
use Rattle.stabilizer.specs.Groups.{InGroup, Within, product}
use Rattle.words.proofs.BitLaws.{bit-above, bit-ext∞}
use Rattle.words.specs.Bits.{bit, digit, ◌⊕◌}
use Rattle.expectation.proofs.Reading.{element-bits, sent-back-in, sent-back-negated}
use Rattle.expectation.proofs.ValueLaws.{value-minus, value-neither, value-plus}
use Rattle.expectation.specs.Values.{negated, stabilizer_value}
use Rattle.expectation.specs.internal.Reading.{element_with, read_value, sent_back}

pub row-of-words : (n z x : ℕ) (s : Bool) → z < 2 ^ n → x < 2 ^ n → Within n (signed_row s z x)
row-of-words n z x s hz hx = record { no-x = bit-above n x hx; no-z = bit-above n z hz }

module _ (l : LentRecord) (A : AcceptedRecord l) (z x : ℕ) (hz : z < 2 ^ l.n) (hx : x < 2 ^ l.n) where
  abbrev p : Pauli
  p = signed_row false z x

  within : Within l.n p
  within = row-of-words l.n z x false hz hx

  -- the row that was sent back, and the element
  module _ (g : Generator) (sent : generator_of g ≡ act 64 (λ q. inverse (codes_of l.codes q)) (signed_row false z x))
      (e : Row) (low : e.phase < 4)
      (element : pauli_of e ≡ product l.n l.n (bit g.x) (graph_generator (held_record l).graph)) where
    back : generator_of g ≡ sent_back l.n (held_record l) p
    back = sent ∙ act-wide l.n 64 A.upto within _

    back-within : Within l.n (generator_of g)
    back-within = subst (Within l.n) (sym back) (act-within l.n l.n _ within)

    in-exactly : (InGroup l.n l.n (held_rows l) p → generator_of g ≡ pauli_of e)
        × (generator_of g ≡ pauli_of e → InGroup l.n l.n (held_rows l) p)
    in-exactly =
        let E = subst (λ s. (InGroup l.n l.n (held_rows l) p → s ≡ element_with l.n (held_record l) s)
        × (s ≡ element_with l.n (held_record l) s → InGroup l.n l.n (held_rows l) p)) (sym back)
        (sent-back-in l.n (held_record l) A.simple p) in
        ((λ a. E.0 a ∙ sym element), (λ h. E.1 (h ∙ element)))

    negated-exactly : (InGroup l.n l.n (held_rows l) (negated p) → negated (generator_of g) ≡ pauli_of e)
        × (negated (generator_of g) ≡ pauli_of e → InGroup l.n l.n (held_rows l) (negated p))
    negated-exactly =
        let E = subst (λ s. (InGroup l.n l.n (held_rows l) (negated p)
        → negated s ≡ element_with l.n (held_record l) s)
        × (negated s ≡ element_with l.n (held_record l) s → InGroup l.n l.n (held_rows l) (negated p)))
        (sym back) (sent-back-negated l.n (held_record l) A.simple p) in
        ((λ a. E.0 a ∙ sym element), (λ h. E.1 (h ∙ element)))

    sign : power e.phase ≡ minus (eqb e.phase 2)
    sign =
        sign-of-phase (power e.phase) (ap (λ s. imaginary s.phase) element
        ∙ product-signed l.n l.n _ (graph-commuting l.n (held_record l).graph A.simple) (bit g.x))
        ∙ ap minus (sym (exponent-two (power e.phase)) ∙ ap (λ k. eqb k 2) (exponent-power e.phase low))

    x-same : (q : ℕ) → bit g.x q ≡ bit e.x q
    x-same q = sym (ap (λ s. s.x q) element
        ∙ element-bits l.n (held_record l) A.simple (generator_of g) back-within q)

    by_sign : (s m : Bool) → eqb e.phase 2 ≡ s → g.minus ≡ m → e.z ≡ g.z
        → digit (s ⊕ m) ≡ stabilizer_value l.n (held_rows l) p
    by_sign s m es em h = go s m es em
      where
        z-same : (q : ℕ) → bit g.z q ≡ bit e.z q
        z-same q = ap (λ w. bit w q) (sym h)

        plus : minus g.minus ≡ power e.phase → 0 ≡ stabilizer_value l.n (held_rows l) p
        plus t = sym ((value-plus l.n (held_rows l) A.proper p refl within).1
            (in-exactly.1 (Pauli-path t z-same x-same)))

        minused : i² +ᵖ minus g.minus ≡ power e.phase → 1 ≡ stabilizer_value l.n (held_rows l) p
        minused t = sym ((value-minus l.n (held_rows l) A.proper p refl within).1
            (negated-exactly.1 (Pauli-path t z-same x-same)))

        signs : (s m : Bool) → eqb e.phase 2 ≡ s → g.minus ≡ m → (t : Phase)
            → t +ᵖ minus m ≡ minus s → t +ᵖ minus g.minus ≡ power e.phase
        signs s m es em t k = ap (λ b. t +ᵖ minus b) em ∙ k ∙ ap minus (sym es) ∙ sym sign

        go : (s m : Bool) → eqb e.phase 2 ≡ s → g.minus ≡ m → digit (s ⊕ m)
            ≡ stabilizer_value l.n (held_rows l) p
        go false false es em = plus (signs false false es em i⁰ refl)
        go false true es em = minused (signs false true es em i² refl)
        go true false es em = minused (signs true false es em i² refl)
        go true true es em = plus (signs true true es em i⁰ refl)

    pub read_is : read_value e g ≡ stabilizer_value l.n (held_rows l) (signed_row false z x)
    read_is = go (eqb e.z g.z) refl
      where
        other : (e.z ≡ g.z → ⊥) → {s : Pauli} → ((q : ℕ) → s.z q ≡ bit g.z q) → s ≡ pauli_of e → ⊥
        other d same h = d (bit-ext∞ e.z g.z (λ q. ap (λ s. s.z q) (sym h) ∙ same q))

        go : (b : Bool) → eqb e.z g.z ≡ b → cond b (digit (eqb e.phase 2 ⊕ g.minus)) 2
            ≡ stabilizer_value l.n (held_rows l) p
        go true h = by_sign _ _ refl refl (eqb-true _ _ h)
        go false h = sym ((value-neither l.n (held_rows l) A.proper p refl within).1 (
          (λ a. other (eqb-false _ _ h) {s = generator_of g} (λ q. refl) (in-exactly.0 a)),
          (λ a. other (eqb-false _ _ h) {s = negated (generator_of g)} (λ q. refl) (negated-exactly.0 a)),
        ))
