-- A line of the plot from what is read off a record of reduced form: support, turns, and vertices without a Hadamard.
use mathlib.Core.Bool.{Bool, cond, false, not, true}
use mathlib.Core.List.{List}
use mathlib.Core.Path.{ap, ap₂, subst, sym, ◌∙◌, ◌≡◌}
use Prim.Native.Nat.{◌%◌, ◌*◌, ◌+◌, ◌<◌, ℕ}
use native.Mathlib.Omega.{arith}
use lib.Count.{ones}
use lib.ListN.{length}
use borrow.Author.Tests.{not-false, not-true}
use Rattle.amplitude.proofs.AnswerByRecord.{form-answer-over}
use Rattle.amplitude.proofs.CountedWords.{form-rank, plot-of-group}
use Rattle.amplitude.specs.internal.ByRecord.{answer_over, over}
use Rattle.amplitude.specs.internal.KeptTurns.{fits_at, kept_turns}
use Rattle.amplitude.specs.Plotting.{plotted, turned}
use Rattle.amplitude.specs.Ratios.{amplitude_of, lowest, plot_at}
use Rattle.amplitude.specs.declared.Amplitude.{Amplitude}
use Rattle.amplitude.specs.declared.Amplitude.TheVariants.{Nothing}
use Rattle.amplitude.specs.declared.PlotLine.{PlotLine}
use Rattle.amplitude_impl.proofs.Exponents.{exponent-add, exponent-undone}
use Rattle.clifford.specs.Clifford.{bit_c}
use Rattle.clifford.specs.Vectors.{codes_of}
use Rattle.cut.specs.Kernel.{count}
use Rattle.record.specs.Graph.{Simple}
use Rattle.record.specs.NeighbourWords.{graph_in}
use Rattle.operations.specs.internal.KeptGroups.{Normalised}
use Rattle.operations.specs.internal.ReducedForms.{ReducedForm}
use Rattle.operations.proofs.UnrefusedRecords.{unrefused-long, unrefused-simple}
use Rattle.operations.specs.internal.InPlace.{Unrefused, record_in}
use Rattle.pauli.proofs.PhaseLaws.{exponent_lt}
use Rattle.pauli.specs.Pauli.{Phase, exponent}
use Rattle.record.proofs.ReducedRecords.{record-proper}
use Rattle.record.specs.Lent.{held_record, held_rows}
use Rattle.record.specs.Records.{GraphRecord, rows_of}
use Rattle.words.specs.Bits.{bit, word_of}
use Rattle.words.specs.Search.{every}
use Rattle.amplitude_impl.proofs.KeptCounts.{word_count}
use Rattle.amplitude_impl.specs.internal.Plottable.{Plottable}

-- ---- the turns of a word over those of the smallest
turns-over : (t s : Phase) → (exponent t + 3 * exponent s % 4) % 4 ≡ exponent (over t s)
turns-over t s = ap (λ b. (exponent t + b) % 4) (exponent-undone s) ∙ exponent-add t _

module _ (words codes : List ℕ) (low : ℕ) (P : Plottable words codes low) where
  abbrev n : ℕ
  n = length words

  abbrev r : GraphRecord
  r = held_record (record_in words codes)

  -- ---- the answer
  answer-is : (y : ℕ) → amplitude_of n (held_rows (record_in words codes)) y ≡ answer_over n r low y
  answer-is y = form-answer-over n r (unrefused-simple words codes P.unrefused) P.form y
      ∙ ap (λ w. answer_over n r w y) (sym P.smallest)

  pub nothing-there : (y : ℕ) (s : Bool) → s ≡ every (length words) (fits_at (held_record (record_in words codes)) y)
      → not s ≡ true → Nothing ≡ amplitude_of (length words) (held_rows (record_in words codes)) y
  nothing-there y s e h = sym (answer-is y ∙ ap (λ b. cond b
      (turned (exponent (over (kept_turns n r (bit y)) (kept_turns n r (bit low))))) Nothing) (sym e ∙ not-true s h))

  module _ (y there here : ℕ)
      (e : there ≡ exponent (kept_turns (length words) (held_record (record_in words codes)) (bit y)))
      (d : here ≡ exponent (kept_turns (length words) (held_record (record_in words codes)) (bit low))) where
    pub thrice-small : 3 * here < 256
    thrice-small = omega (arith, d, exponent_lt (kept_turns n r (bit low)))

    pub sum-small : there + 3 * here % 4 < 256
    sum-small = omega (arith, e, exponent_lt (kept_turns n r (bit y)))

    pub value_there : (s : Bool) → s ≡ every (length words) (fits_at (held_record (record_in words codes)) y)
        → not s ≡ false → (a : Amplitude) → a ≡ turned ((there + 3 * here % 4) % 4)
        → a ≡ amplitude_of (length words) (held_rows (record_in words codes)) y
    value_there s h f a v = v
        ∙ ap turned (ap₂ (λ a b. (a + 3 * b % 4) % 4) e d ∙ turns-over (kept_turns n r (bit y))
        (kept_turns n r (bit low)))
        ∙ sym (answer-is y ∙ ap (λ b. cond b (turned (exponent
        (over (kept_turns n r (bit y)) (kept_turns n r (bit low))))) Nothing)
        (sym h ∙ not-false s f))

  -- ---- its line
  pub line-there : (y kept ranks : ℕ) (a : Amplitude) (l : PlotLine)
      → a ≡ amplitude_of (length words) (held_rows (record_in words codes)) y
      → kept ≡ word_of (length codes) (λ q. not (bit_c (codes_of codes q))) → ranks ≡ ones kept → l ≡ plotted a ranks
      → l ≡ plot_at (length words) (held_rows (record_in words codes)) y
  line-there y kept ranks a l ea ek ec el = el ∙ ap₂ plotted ea (ec ∙ ap ones ek ∙ word_count (length codes) _
      ∙ ap (λ m. count m (λ q. not (bit_c (codes_of codes q)))) (unrefused-long words codes P.unrefused)
      ∙ form-rank n r (unrefused-simple words codes P.unrefused) P.form)

-- ---- by the reduced form
module _ (words codes : List ℕ) (U : Unrefused (record_in words codes)) (words' codes' : List ℕ)
    (N : Normalised words codes words' codes') where
  pub normalised-plottable : (low : ℕ) → low ≡ lowest (length words') (held_rows (record_in words' codes'))
      → Plottable words' codes' low
  normalised-plottable low e =
      record {
        unrefused = N.kept.unrefused;
        form = subst (λ m. ReducedForm m (held_record (record_in words' codes'))) (sym N.kept.long) N.form;
        smallest = e;
      }

  pub normalised-plots : (y : ℕ) → plot_at (length words') (held_rows (record_in words' codes')) y
      ≡ plot_at (length words) (held_rows (record_in words codes)) y
  normalised-plots y =
      let m = length words in
      let r' = held_record (record_in words' codes') in
      ap (λ k. plot_at k (rows_of k r') y) N.kept.long
      ∙ sym (plot-of-group m (held_rows (record_in words codes)) (rows_of m r')
      (record-proper m (held_record (record_in words codes)) (unrefused-simple words codes U))
      (record-proper m r' (subst (λ k. Simple k (graph_in words')) N.kept.long
      (unrefused-simple words' codes' N.kept.unrefused)))
      N.kept.group y)

-- a copy has the record's plot
pub copied-plots : (words codes words' codes' : List ℕ) → (words' ≡ words) × (codes' ≡ codes) → (y : ℕ)
    → plot_at (length words') (held_rows (record_in words' codes')) y
    ≡ plot_at (length words) (held_rows (record_in words codes)) y
copied-plots words codes words' codes' e y = ap₂ (λ w k. plot_at (length w) (held_rows (record_in w k)) y) e.0 e.1
