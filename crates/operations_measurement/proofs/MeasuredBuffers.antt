-- A measurement by what was read off the record: whether it is determined, the answer, and the buffers afterwards.
use mathlib.Core.Bool.{◌&&◌, Bool, beq, cond, false, not, true}
use mathlib.Core.List.{List}
use mathlib.Core.Path.{ap, refl, subst, sym, ◌∙◌, ◌≡◌}
use Prim.Native.Nat.{◌<◌, ℕ}
use lib.ListN.{length}
use Rattle.record.specs.Graph.{Simple}
use Rattle.operations.specs.internal.KeptGroups.{GroupHeld, GroupMeasured, Normalised}
use Rattle.stabilizer.specs.Groups.{SameGroup}
use Rattle.operations.proofs.Determined.{measured-proper}
use Rattle.operations.proofs.GroupAlone.{reduced-of-group}
use Rattle.operations.proofs.UnrefusedRecords.{unrefused-simple}
use Rattle.operations.specs.internal.InPlace.{MeasuredInPlace, Unrefused, record_in}
use Rattle.operations.specs.Measurement.{measured_outcome, contradicts, is_determined, measured_rows, outcome, pauli_letter}
use Rattle.operations.specs.internal.Steps.{ReadOff}
use Rattle.operations.specs.declared.Outcome.{Outcome}
use Rattle.operations.specs.declared.Outcome.TheVariants.{Chosen, Determined}
use Rattle.pauli.specs.Pauli.{Pauli}
use Rattle.pauli.specs.declared.Letter.{Letter}
use Rattle.record.proofs.ReducedRecords.{record-proper}
use Rattle.record.specs.Lent.{code_numbers, held_record, held_rows, neighbour_words}
use Rattle.record.specs.Records.{GraphRecord, rows_of}
use Rattle.record.specs.Reduced.{reduced}
use Rattle.words.proofs.Finite.{unequal}
use Rattle.words.specs.Bits.{◌⊕◌}

-- a bit that differs from the sign read off is contradicted
pub contradicted-as-read : (words codes : List ℕ) (pauli q : ℕ) (d m : Bool)
    → ReadOff (record_in words codes) pauli q d m → (b : Bool)
    → (d && not (beq m b))
    ≡ contradicts (length words) (held_rows (record_in words codes)) (pauli_letter pauli) q b
contradicted-as-read words codes pauli q d m read b =
    ap (λ v. d && v) (unequal m b) ∙ as-outcome d (read.reading b)
    ∙ ap (λ v. v && (o ⊕ b)) read.known
  where
    o : Bool
    o = outcome (length words) (held_rows (record_in words codes)) (pauli_letter pauli) q b

    as-outcome : (d : Bool) → o ≡ cond d m b → (d && (m ⊕ b)) ≡ (d && (o ⊕ b))
    as-outcome true e = ap (λ v. v ⊕ b) (sym e)
    as-outcome false e = refl

module _ (words codes : List ℕ) (pauli q : ℕ) (d m : Bool) (read : ReadOff (record_in words codes) pauli q d m)
    {l : Letter} (named : l ≡ pauli_letter pauli) where
  abbrev n : ℕ
  n = length words

  abbrev rows : ℕ → Pauli
  rows = held_rows (record_in words codes)

  -- of the letter that the number names
  pub determined-as-read : d ≡ is_determined (length words) (held_rows (record_in words codes)) l q
  determined-as-read = read.known ∙ sym (ap (λ l. is_determined n rows l q) named)

  pub answered-as-read : (b : Bool) → cond d (Determined m) (Chosen b)
      ≡ measured_outcome (length words) (held_rows (record_in words codes)) (pauli_letter pauli) q b
  answered-as-read b =
      as-outcome d (read.reading b) ∙ ap (λ d. cond d (Determined o) (Chosen o)) read.known
    where
      o : Bool
      o = outcome n rows (pauli_letter pauli) q b

      as-outcome : (d : Bool) → o ≡ cond d m b
          → cond d (Determined m) (Chosen b) ≡ cond d (Determined o) (Chosen o)
      as-outcome true e = ap Determined (sym e)
      as-outcome false e = ap Chosen (sym e)

  pub held-as-read : (b : Bool) (words₁ codes₁ : List ℕ) → GroupMeasured words codes l q b words₁ codes₁
      → GroupHeld (length words) (measured_rows (length words) (held_rows (record_in words codes)) (pauli_letter pauli) q b)
      words₁ codes₁
  held-as-read b words₁ codes₁ G =
      record {
        long = G.long;
        unrefused = G.unrefused;
        group = subst (λ l. SameGroup n n (measured_rows n rows l q b) (rows_of n (held_record (record_in words₁ codes₁))))
            named G.group;
      }

  pub measured-as-read : Unrefused (record_in words codes) → q < length words
      → (b : Bool) (r : Outcome) → r ≡ cond d (Determined m) (Chosen b)
      → (words₁ codes₁ : List ℕ) → GroupMeasured words codes l q b words₁ codes₁
      → (words₂ codes₂ : List ℕ) → Normalised words₁ codes₁ words₂ codes₂
      → MeasuredInPlace words codes pauli q b r words₂ codes₂
  measured-as-read U hq b r e words₁ codes₁ G words₂ codes₂ N =
      record {
        after =
            record {
              neighbours = N.after.neighbours
                  ∙ ap (λ k. neighbour_words k (reduced k (rows_of k held₁))) G.long ∙ ap (neighbour_words n) same;
              numbers = N.after.numbers
                  ∙ ap (λ k. code_numbers k (reduced k (rows_of k held₁))) G.long ∙ ap (code_numbers n) same;
            };
        answer = e ∙ answered-as-read b;
      }
    where
      held₁ : GraphRecord
      held₁ = held_record (record_in words₁ codes₁)

      S₁ : Simple n held₁.graph
      S₁ = subst (λ k. Simple k held₁.graph) G.long (unrefused-simple words₁ codes₁ G.unrefused)

      same : reduced n (rows_of n held₁) ≡ reduced n (measured_rows n rows (pauli_letter pauli) q b)
      same = sym (reduced-of-group n (measured_rows n rows l q b) (rows_of n held₁)
          (measured-proper n rows
          (record-proper n (held_record (record_in words codes)) (unrefused-simple words codes U)) l q hq b)
          (record-proper n held₁ S₁) G.group)
          ∙ ap (λ l. reduced n (measured_rows n rows l q b)) named
