-- A list that is made of rows has its form: lines 4, 5 and 6 do not hold of it.
use mathlib.Core.Bool.{false, ◌||◌}
use mathlib.Core.Path.{ap, ap₂, ◌≡◌}
use Prim.Native.Nat.{◌^◌, ℕ}
use Rattle.buffers.proofs.Lines.{more-accepted}
use Rattle.buffers.proofs.Tabulate.{tabulate-length}
use Rattle.buffers.specs.Buffers.{tabulate}
use Rattle.buffers.specs.Refusals.{bad_count, first_fitting, other_than}
use Rattle.buffers.proofs.Fitting.{NoneHolds, none-fits-of}
use Rattle.pauli.specs.Pauli.{Pauli, sign_bit}
use Rattle.stabilizer.proofs.EarlyLines.{form-numbered}
use Rattle.stabilizer.proofs.SharedTests.{length-passes, table-passes}
use Rattle.stabilizer.specs.Lists.{form_lines, list_lines, list_of}
use Rattle.text.specs.Reading.{judged_lines}
use Rattle.words.proofs.BitLaws.{digit_lt, word_of-lt}

module _ (n : ℕ) (R : ℕ → Pauli) where
  pub listed-form : bad_count n ≡ false → NoneHolds (form_lines (list_of n R) false)
  listed-form h = (
    h,
    (
      ap (λ b. b || false) (ap₂ ◌||◌ (place _) (ap₂ ◌||◌ (place _) (place _))),
      (
        ap₂ ◌||◌ (table-passes (2 ^ n) n _ (λ j l. word_of-lt n (R j).z))
            (table-passes (2 ^ n) n _ (λ j l. word_of-lt n (R j).x)),
        (table-passes 2 n _ (λ j l. digit_lt (sign_bit (R j).phase)), tt),
      ),
    ),
  )
    where
      place : (f : ℕ → ℕ) → other_than n (tabulate n f) ≡ false
      place f = length-passes n (tabulate n f) (tabulate-length n f)

  -- so that lines 9 and 10 decide
  pub listed-number : bad_count n ≡ false →
      first_fitting (list_lines (list_of n R) false) ≡ first_fitting (judged_lines (list_of n R))
  listed-number h =
      more-accepted (form_lines (list_of n R) false) (judged_lines (list_of n R)) (form-numbered (list_of n R) false)
      (none-fits-of (form_lines (list_of n R) false) (listed-form h))
