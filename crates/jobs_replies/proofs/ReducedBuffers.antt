-- The reduced record of a list in two buffers: no line refuses it, a plot can be read off it, and the plot is the
-- list's.
use mathlib.Core.Bool.{false}
use mathlib.Core.List.{List}
use mathlib.Core.Path.{ap, ap₂, subst, sym, ◌∙◌, ◌≡◌}
use Prim.Native.Nat.{ℕ, ◌≤◌}
use lib.ListN.{length}
use Rattle.amplitude.proofs.CountedWords.{plot-of-group}
use Rattle.operations.proofs.FormOfReduced.{form-of-reduced}
use Rattle.amplitude.specs.Ratios.{lowest, plot_at}
use Rattle.amplitude_impl.specs.internal.Plottable.{Plottable}
use Rattle.buffers.proofs.Tabulate.{tabulate-length}
use Rattle.operations.specs.internal.ReducedForms.{ReducedForm}
use Rattle.operations.specs.internal.InPlace.{Unrefused, record_in}
use Rattle.pauli.specs.Pauli.{Pauli}
use Rattle.record.proofs.AcceptedRecords.{accepted-record}
use Rattle.record.proofs.Unique.{record-path}
use Rattle.record.proofs.WrittenRecords.{reduced-back, reduced-held-same, reduced-passes, written_record}
use Rattle.record.specs.Lent.{code_numbers, held_record, held_rows, lent_record, neighbour_words}
use Rattle.record.specs.Reduced.{reduced}
use Rattle.stabilizer.specs.Groups.{Proper}

module _ (n : ℕ) (R : ℕ → Pauli) (P : Proper n R) (positive : 1 ≤ n) (upto : n ≤ 64) (words codes : List ℕ)
    (e : words ≡ neighbour_words n (reduced n R)) (f : codes ≡ code_numbers n (reduced n R)) where
  pub buffer-length : length words ≡ n
  buffer-length = ap length e ∙ tabulate-length n _

  are_written : record_in words codes ≡ written_record n (reduced n R)
  are_written =
      ap₂ record_in e f
      ∙ ap (λ m. lent_record m (neighbour_words n (reduced n R)) (code_numbers n (reduced n R))) (tabulate-length n _)

  pub buffers-unrefused : Unrefused (record_in words codes)
  buffers-unrefused = subst Unrefused (sym are_written) (record { no_line = reduced-passes n R P positive upto })

  held-reduced : held_record (record_in words codes) ≡ reduced n R
  held-reduced = ap held_record are_written
      ∙ record-path (held_record (written_record n (reduced n R))) (reduced n R) (reduced-back n R P)

  pub buffers-plottable : (low : ℕ) → low ≡ lowest (length words) (held_rows (record_in words codes))
      → Plottable words codes low
  buffers-plottable low s =
      record {
        unrefused = buffers-unrefused;
        form = subst (λ m. ReducedForm m (held_record (record_in words codes))) (sym buffer-length)
            (subst (ReducedForm n) (sym held-reduced) (form-of-reduced n R P));
        smallest = s;
      }

  pub points-same : (y : ℕ) → plot_at (length words) (held_rows (record_in words codes)) y ≡ plot_at n R y
  points-same y = ap (λ m. plot_at m (held_rows (record_in words codes)) y) buffer-length
      ∙ ap (λ l. plot_at n (held_rows l) y) are_written
      ∙ sym (plot-of-group n R (held_rows (written_record n (reduced n R))) P
      (accepted-record (written_record n (reduced n R)) false false (reduced-passes n R P positive upto)).proper
      (reduced-held-same n R P) y)
