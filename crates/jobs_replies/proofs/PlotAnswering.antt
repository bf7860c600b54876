-- The program's answer to a list, from what the reduction and the print promise.
use mathlib.Core.Bool.{cond, false}
use mathlib.Core.List.{List}
use mathlib.Core.Path.{ap, ap₂, sym, ◌∙◌, ◌≡◌}
use Prim.Native.Nat.{◌*◌, ◌+◌, ◌<◌, ◌^◌, ℕ, ◌≤◌}
use native.Mathlib.Nat.{min-eq_left}
use native.Mathlib.Omega.{arith}
use lib.ListN.{length, take}
use lib.Pow.{pow_mono}
use borrow.Author.Tests.{eq-eqb, ne_eqb}
use Rattle.calls.proofs.PlotLines.{many-refused, same_number}
use Rattle.amplitude.specs.Ratios.{lowest, plot_at}
use Rattle.amplitude_impl.specs.internal.Plottable.{Plottable}
use Rattle.buffers.specs.Refusals.{first_fitting}
use Rattle.calls.specs.internal.Reductions.{reduce_call}
use Rattle.buffers.proofs.Calling.{written_all}
use Rattle.buffers.specs.Calls.{Call}
use Rattle.text_replies.proofs.Answering.{number_is}
use Rattle.text_replies.specs.internal.Places.{Lent, list_at}
use Rattle.operations.specs.internal.InPlace.{Unrefused, record_in}
use Rattle.jobs.specs.Table.{table_text}
use Rattle.record.specs.Lent.{code_numbers, held_rows, neighbour_words}
use Rattle.record.specs.Reduced.{reduced}
use Rattle.stabilizer.proofs.Accepted.{AcceptedList, accepted-list}
use Rattle.stabilizer.specs.Lists.{GeneratorList, rows}
use Rattle.text.specs.Text.{refused_text}
use Rattle.jobs_replies.proofs.ReducedBuffers.{buffer-length, buffers-plottable, buffers-unrefused, points-same}
use Rattle.calls.specs.PlotAnswers.{plot_answer, plot_lines}
use Rattle.jobs_replies.specs.internal.Rooms.{RoomFor}

-- what is printed where no line holds
abbrev table_of : GeneratorList → List ℕ
table_of l = table_text (2 ^ l.n) (plot_at l.n (rows l))

pub too-many-refused : (l : GeneratorList) → 64 < l.n → plot_answer l ≡ refused_text 2
too-many-refused l h = many-refused l (omega (arith, h))

-- a list of at most 10 stands at the start of buffers of 64 places
pub places-plotted : (n : ℕ) → n ≤ 10 → (signs z x : List ℕ) →
    plot_answer (record { n = n; signs = take n signs; z = take n z; x = take n x }) ≡ plot_answer (list_at n signs z x)
places-plotted n few signs z x =
    ap (λ k. plot_answer (record { n = n; signs = take k signs; z = take k z; x = take k x }))
    (sym (min-eq_left {n = n} {m = 64} (omega (arith, few))))

module _ (l : GeneratorList) (nb cs words bytes out : List ℕ) (W : RoomFor l.n nb cs words bytes out) where
  lent : Lent l.n nb cs out
  lent =
      record {
        words-fit = λ h. W.neighbours-long;
        codes-fit = λ h. W.codes-long;
        room = omega (arith, W.room);
      }

  -- the table fits
  pub table-room : (k : ℕ) → k ≡ 2 ^ l.n → (k ≤ 10000) × (10 + k * 56 ≤ length out)
  table-room k e =
      let most : 2 ^ l.n ≤ 1024 = pow_mono W.few in
      (omega (arith, e, most), omega (arith, e, most, W.room))

  module _ (number : ℕ) (nb' cs' : List ℕ) (C : Call (reduce_call l nb cs nb' cs') number) where
    number-found : number ≡ first_fitting (plot_lines l)
    number-found = number_is l nb cs out lent number nb' cs' C ∙ sym (same_number l W.few)

    pub refused-plotted : (number ≡ 0 → ⊥) → refused_text number ≡ plot_answer l
    unfolding plot_answer
    refused-plotted h =
        ap refused_text number-found
        ∙ sym (ap (λ b. cond b (table_of l) (refused_text (first_fitting (plot_lines l))))
        (ne_eqb (first_fitting (plot_lines l)) 0 (λ z. h (number-found ∙ z))))

    module _ (z : number ≡ 0) where
      A : AcceptedList l
      A = accepted-list l false (sym (number_is l nb cs out lent number nb' cs' C) ∙ z)

      words_are : nb' ≡ neighbour_words l.n (reduced l.n (rows l))
      words_are = (written_all C z).0

      codes-are : cs' ≡ code_numbers l.n (reduced l.n (rows l))
      codes-are = (written_all C z).1.0

      pub reduced-length : length nb' ≡ l.n
      reduced-length =
          buffer-length l.n (rows l) A.proper A.formed.positive A.formed.upto nb' cs' words_are codes-are

      pub reduced-unrefused : Unrefused (record_in nb' cs')
      reduced-unrefused = buffers-unrefused l.n (rows l) A.proper A.formed.positive A.formed.upto nb' cs'
          words_are codes-are

      pub reduced-plottable : (low : ℕ) → low ≡ lowest (length nb') (held_rows (record_in nb' cs'))
          → Plottable nb' cs' low
      reduced-plottable = buffers-plottable l.n (rows l) A.proper A.formed.positive A.formed.upto nb' cs'
          words_are codes-are

      pub table-plotted : (k : ℕ) → k ≡ 2 ^ l.n
          → table_text k (plot_at (length nb') (held_rows (record_in nb' cs'))) ≡ plot_answer l
      unfolding plot_answer
      table-plotted k e =
          ap₂ table_text e (λ i y. points-same l.n (rows l) A.proper A.formed.positive A.formed.upto nb'
          cs'
          words_are codes-are y i)
          ∙ sym (ap (λ b. cond b (table_of l) (refused_text (first_fitting (plot_lines l))))
          (eq-eqb (first_fitting (plot_lines l)) 0 (sym number-found ∙ z)))
