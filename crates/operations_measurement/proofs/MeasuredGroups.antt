-- The group after a measurement: the old one where it is determined, else that of the record whose vertex is cut off.
use mathlib.Core.Bool.{Bool, beq, false, not, true, true≢false}
use mathlib.Core.List.{List}
use mathlib.Core.Path.{ap, refl, subst, sym, ◌∙◌, ◌≡◌}
use Prim.Native.Nat.{◌<◌, ℕ, ◌≤◌}
use lib.ListN.{get_or, length}
use Rattle.clifford.specs.Clifford.{identity_clifford, image}
use Rattle.clifford.specs.Vectors.{codes_of}
use Rattle.record.specs.Graph.{Simple}
use Rattle.operations.proofs.Isolation.{isolated-above, isolated-same, isolated-simple}
use Rattle.operations.specs.internal.KeptGroups.{BroughtToZ, GroupMeasured}
use Rattle.operations.specs.internal.GraphSteps.{isolated}
use Rattle.operations.proofs.Determined.{determined-kept}
use Rattle.operations.proofs.GroupAlone.{measured-of-group}
use Rattle.operations.proofs.MeasuredRecords.{acts, determined-alone, pauli-acts}
use Rattle.operations.proofs.UnrefusedRecords.{
  rewritten-held,
  rewritten-length,
  rewritten-unrefused,
  unrefused-above,
  unrefused-simple,
}
use Rattle.operations.specs.internal.InPlace.{Rewritten, Unrefused, record_in}
use Rattle.operations.specs.Measurement.{is_determined, measured_rows, pauli_letter}
use Rattle.pauli.specs.declared.Letter.{Letter}
use Rattle.pauli.specs.declared.Letter.TheVariants.{I, X, Y, Z}
use Rattle.record.proofs.ReducedRecords.{record-proper}
use Rattle.record.specs.Lent.{held_record, held_rows}
use Rattle.record.specs.Records.{GraphRecord, rows_of}
use Rattle.stabilizer.proofs.GroupLaws.{same_refl, same-sym, same-trans}
use Rattle.stabilizer.specs.Groups.{SameGroup}
use Rattle.words.proofs.BitLaws.{zero_bit}
use Rattle.words.proofs.Finite.{unequal}
use Rattle.words.specs.Bits.{bit, is_odd, ◌⊕◌}

-- a letter that is not I acts; one that a Pauli's number names is not I
letter-acts : (l : Letter) → (l ≡ I → ⊥) → acts l ≡ true
letter-acts I h = absurd (h refl)
letter-acts X h = refl
letter-acts Y h = refl
letter-acts Z h = refl

pub named-acts : (k : ℕ) {l : Letter} → 1 ≤ k → l ≡ pauli_letter k → l ≡ I → ⊥
named-acts k h e i = true≢false (sym (pauli-acts k h) ∙ ap acts (sym e ∙ i))

-- ---- the group afterwards
-- of the letter that the code sends there
pub measured-letter : {words codes words' codes' : List ℕ} {q : ℕ} {b : Bool} {m l : Letter} → m ≡ l
    → GroupMeasured words codes m q b words' codes' → GroupMeasured words codes l q b words' codes'
measured-letter {words} {codes} {words'} {codes'} {q} {b} e G =
    subst (λ l. GroupMeasured words codes l q b words' codes') e G

module _ (words codes : List ℕ) (U : Unrefused (record_in words codes)) (q : ℕ) (hq : q < length words)
    (l : Letter) where
  abbrev n : ℕ
  n = length words

  abbrev held : GraphRecord
  held = held_record (record_in words codes)

  simple : Simple (length words) (held_record (record_in words codes)).graph
  simple = unrefused-simple words codes U

  -- determined: it stays
  pub measured-determined : (b : Bool) {d : Bool}
      → d ≡ is_determined (length words) (held_rows (record_in words codes)) l q
      → d ≡ true → GroupMeasured words codes l q b words codes
  measured-determined b e t =
      record {
        long = refl;
        unrefused = U;
        group = subst (λ R. SameGroup n n R (rows_of n held))
            (sym (determined-kept n (rows_of n held) (record-proper n held simple) l q hq (sym e ∙ t) b)) same_refl;
      }

  -- open: a vertex whose code sends X to the letter has a neighbour
  pub open-neighbour : (l ≡ I → ⊥) → is_determined (length words) (held_rows (record_in words codes)) l q ≡ false
      → image (codes_of codes q) X ≡ l → get_or words q 0 ≡ 0 → ⊥
  open-neighbour i e x z = true≢false (sym ((determined-alone n held simple q hq l (letter-acts l i)).1
      (x, λ j. ap (λ w. bit w j) z ∙ zero_bit j)) ∙ e)

  module _ (words₁ codes₁ : List ℕ) (F : BroughtToZ words codes q l words₁ codes₁) where
    abbrev held₁ : GraphRecord
    held₁ = held_record (record_in words₁ codes₁)

    brought-below : q < length words₁
    brought-below = subst (λ m. q < m) (sym F.kept.long) hq

    pub measured-open : (b t : Bool) (words₂ codes₂ : List ℕ) → t ≡ not (beq b (is_odd (get_or codes₁ q 0)))
        → Rewritten words₁ codes₁ (λ g. isolated g q t) words₂ codes₂ → GroupMeasured words codes l q b words₂ codes₂
    measured-open b t words₂ codes₂ e R =
        record {
          long = rewritten-length words₁ codes₁ U₁ f words₂ codes₂ R₁ S₂ above ∙ F.kept.long;
          unrefused = rewritten-unrefused words₁ codes₁ U₁ f words₂ codes₂ R₁ S₂ above;
          group =
              same-trans (measured-of-group n l q hq (rows_of n held) (rows_of n held₁) (record-proper n held simple)
              (record-proper n held₁ S₁) F.kept.group b)
              (subst (λ g. SameGroup n n (measured_rows n (rows_of n held₁) l q b) (rows_of n g))
              (sym (rewritten-held words₁ codes₁ U₁ f words₂ codes₂ R₁ S₂ above))
              (subst (λ m. SameGroup n n (measured_rows n (rows_of n held₁) m q b) (rows_of n (isolated held₁ q s)))
              F.sends-z
              (same-sym (isolated-same n held₁ S₁ q hq b))));
        }
      where
        s : Bool
        s = b ⊕ (held₁.codes q).sz

        f : GraphRecord → GraphRecord
        f g = isolated g q s

        R₁ : Rewritten words₁ codes₁ f words₂ codes₂
        R₁ = subst (λ t. Rewritten words₁ codes₁ (λ g. isolated g q t) words₂ codes₂)
            (e ∙ unequal b (is_odd (get_or codes₁ q 0))) R

        U₁ : Unrefused (record_in words₁ codes₁)
        U₁ = F.kept.unrefused

        S₁ : Simple n held₁.graph
        S₁ = subst (λ m. Simple m held₁.graph) F.kept.long (unrefused-simple words₁ codes₁ U₁)

        S₂ : Simple (length words₁) (isolated held₁ q s).graph
        S₂ = isolated-simple (length words₁) held₁ (unrefused-simple words₁ codes₁ U₁) q brought-below b

        above : (j : ℕ) → length words₁ ≤ j → (isolated held₁ q s).codes j ≡ identity_clifford
        above = isolated-above (length words₁) held₁ (unrefused-simple words₁ codes₁ U₁) q brought-below b
            (unrefused-above words₁ codes₁ U₁)
