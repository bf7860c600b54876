-- The lines of the call on amplitudes: where none of them holds, the record can be plotted, and its line is that of the
-- buffers.
use mathlib.Core.Bool.{false}
use mathlib.Core.Path.{ap, subst, sym, ◌∙◌, ◌≡◌}
use Prim.Native.Nat.{◌^◌, ℕ}
use lib.Dec.{leb}
use lib.ListN.{length}
use Rattle.amplitude.specs.Ratios.{plot_at}
use Rattle.amplitude.specs.declared.PlotLine.{PlotLine}
use Rattle.buffers.specs.Refusals.{first_fitting}
use Rattle.operations.specs.internal.InPlace.{Unrefused, record_in}
use Rattle.record.proofs.AcceptedRecords.{accepted-record}
use Rattle.record.specs.Lent.{held_record, held_rows, lent_record, record_lines}
use Rattle.record.specs.Records.{rows_of}
use Rattle.operations.proofs.UsedPassing.{lines-pass}
use Rattle.operations.specs.Used.{UsedRecord}
use Rattle.calls.specs.Amplitudes.{amplitude_lines}

module _ (u : UsedRecord) (y : ℕ) (e : first_fitting (amplitude_lines u y) ≡ 0) where
  no-record-line : first_fitting (record_lines u.held false false) ≡ 0
  no-record-line = ((lines-pass u false (leb (2 ^ u.held.n) y) false).0 e).0

  -- the count is the length of the buffers
  long : u.held.n ≡ length u.held.neighbours
  long = sym (accepted-record u.held false false no-record-line).neighbours-length

  pub amplitude-unrefused : Unrefused (record_in u.held.neighbours u.held.codes)
  amplitude-unrefused =
      record {
        no_line = subst (λ m. first_fitting (record_lines (lent_record m u.held.neighbours u.held.codes) false
            false) ≡ 0) long no-record-line;
      }

  pub line-held : (l : PlotLine) → l ≡ plot_at (length u.held.neighbours)
      (held_rows (record_in u.held.neighbours u.held.codes)) y → l ≡ plot_at u.held.n (held_rows u.held) y
  line-held l d = d ∙ ap (λ m. plot_at m (rows_of m (held_record u.held)) y) (sym long)
