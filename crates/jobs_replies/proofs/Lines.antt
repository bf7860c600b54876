-- The print of the results, line by line.
use mathlib.Core.List.{◌++◌, List}
use mathlib.Core.Path.{◌∙◌, ◌≡◌, ap, subst, sym}
use Prim.Native.Nat.{◌*◌, ◌+◌, ◌<◌, ◌≤◌, ℕ}
use native.Mathlib.Nat.{add-zero}
use native.Mathlib.Omega.{arith}
use lib.ListN.{length}
use Rattle.jobs.proofs.ResultLaws.{length-results, results-more}
use Rattle.jobs.specs.Results.{Result, result_line, result_lines, result_names}
use Rattle.buffers.proofs.Writing.{and_then, length-written, write-none}
use Rattle.buffers.specs.Writing.{Printed}
use Rattle.jobs_replies.specs.Room.{lines_room}

-- behind the names there is room for the lines
names-room : (first before : List ℕ) (from : ℕ) → lines_room ≤ length first
    → Printed result_names 0 first before from → from + 4096 * 14 ≤ length before
names-room first before from room P =
    omega (arith, P.end, ap length P.out ∙ length-written first 0 result_names (omega arith))

module _ (results : ℕ → Result) (first before : List ℕ) (from : ℕ) (space : lines_room ≤ length first)
    (names : Printed result_names 0 first before from) where
  -- no line
  pub no_line : Printed (result_lines 0 results) from before before from
  unfolding result_lines
  no_line = record { end = sym (add-zero from); out = write-none before from }

  -- all of them, behind the names
  pub all_lines : (count k : ℕ) (out : List ℕ) (at : ℕ) → k ≤ count → count ≤ k
      → Printed (result_lines k results) from before out at → Printed (result_names ++ result_lines count results) 0 first
      out at
  all_lines count k out at few end P = and_then (omega arith) names
      (subst (λ m. Printed (result_lines m results) from before out at) (same k few end) P)
    where
      same : (k : ℕ) → k ≤ count → count ≤ k → k ≡ count
      same k a b = omega (arith, a, b)

  module _ (k : ℕ) (more : k < 4096) (out : List ℕ) (at : ℕ) (P : Printed (result_lines k results) from before out at)
    where
      fits : from + length (result_lines k results) ≤ length before
      fits = omega (arith, length-results k results, names-room first before from space names)

      -- there is room for a line more
      pub line-fits : at + 14 ≤ length out
      line-fits =
          omega (
            arith,
            length-results k results,
            names-room first before from space names,
            P.end,
            ap length P.out ∙ length-written before from (result_lines k results) fits,
          )

      -- a line more
      pub one_line : (out' : List ℕ) (at' : ℕ) → Printed (result_line k (results k)) at out out' at'
          → Printed (result_lines (k + 1) results) from before out' at'
      one_line out' at' L =
          subst (λ t. Printed t from before out' at') (results-more k results) (and_then fits P L)
