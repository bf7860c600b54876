-- What a measurement of a row answers and leaves, from the row's value: chosen where it is 2, determined otherwise.
use mathlib.Core.Bool.{Bool, cond, false}
use mathlib.Core.List.{List}
use mathlib.Core.Path.{ap, sym, ◌∙◌, ◌≡◌}
use Prim.Native.Nat.{ℕ}
use lib.Dec.{eqb}
use lib.ListN.{length}
use borrow.Author.Tests.{eq-eqb, ne_eqb}
use Rattle.operations.specs.declared.Outcome.TheVariants.{Chosen, Determined}
use Rattle.operations.specs.internal.InPlace.{record_in}
use Rattle.operations.specs.internal.KeptGroups.{Normalised}
use Rattle.operations.specs.Measurement.{first_against, projected}
use Rattle.pauli.specs.Pauli.{Pauli, signed_row}
use Rattle.record.specs.Lent.{code_numbers, held_rows, neighbour_words}
use Rattle.record.specs.Reduced.{reduced}
use Rattle.parity.specs.RowMeasurement.{row_measured, row_value}
use Rattle.parity.specs.internal.InPlace.{RowInPlace, RowLeft}

module _ (words codes : List ℕ) (z x : ℕ) (bit : Bool) (words' codes' : List ℕ) where
  abbrev n : ℕ
  n = length words

  abbrev R : ℕ → Pauli
  R = held_rows (record_in words codes)

  pub left-chosen : row_value (length words) (held_rows (record_in words codes)) z x ≡ 2
      → RowLeft words codes z x bit words' codes' → RowInPlace words codes z x bit (Chosen bit) words' codes'
  left-chosen e L = record {
    after = L;
    answer = sym (ap (λ d. cond d (Chosen bit) (Determined (eqb (row_value n R z x) 1)))
        (eq-eqb (row_value n R z x) 2 e));
  }

  pub left-determined : (value : ℕ) → value ≡ row_value (length words) (held_rows (record_in words codes)) z x
      → (value ≡ 2 → ⊥) → Normalised words codes words' codes'
      → RowInPlace words codes z x bit (Determined (eqb value 1)) words' codes'
  left-determined value v d N = record {
    after = record {
      neighbours = N.after.neighbours ∙ ap (λ S. neighbour_words n (reduced n S)) (sym kept);
      numbers = N.after.numbers ∙ ap (λ S. code_numbers n (reduced n S)) (sym kept);
    };
    answer = ap (λ k. Determined (eqb k 1)) v
        ∙ sym (ap (λ t. cond t (Chosen bit) (Determined (eqb (row_value n R z x) 1))) known);
  }
    where
      known : eqb (row_value n R z x) 2 ≡ false
      known = ne_eqb (row_value n R z x) 2 (λ e. d (v ∙ e))

      kept : row_measured n R z x bit ≡ R
      kept = ap (λ t. cond t (projected n R (signed_row bit z x) (first_against n R (signed_row bit z x))) R) known
