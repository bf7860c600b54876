-- The lines of the call over many steps: how its number is found, and what it means that none of them holds.
use mathlib.Core.Bool.{Bool, false}
use mathlib.Core.List.{List, ◌∷◌}
use mathlib.Core.Path.{◌∙◌, ◌≡◌, ap, sym}
use Prim.Native.Nat.{◌<◌, ◌^◌, ◌≤◌, ℕ}
use lib.Dec.{leb, ltb}
use lib.ListN.{length}
use borrow.Author.Tests.{le-ltb, lt-ltb}
use Rattle.buffers.proofs.Lines.{fits, passed}
use Rattle.buffers.specs.Refusals.{first_fitting, line, reaching}
use Rattle.operations.specs.Used.{UsedRecord, used_lines}
use Rattle.operations_checks.proofs.UsedNumbers.{no-further}

module _ (u : UsedRecord) (ops : List ℕ) (others : Bool) where
  -- more than 4,096 steps
  pub many-steps : 4096 < length ops
      → 15 ≡ first_fitting (line 15 (ltb 4096 (length ops)) ∷ used_lines u others false (reaching 7 ops))
  many-steps h = sym (fits 15 _ (lt-ltb 4096 (length ops) h))

  -- else the record, the lengths and the operations decide
  pub record-decides : (six : Bool) → six ≡ reaching 7 ops → {k : ℕ} → length ops ≤ 4096
      → k ≡ first_fitting (used_lines u others (leb (2 ^ u.held.n) 0) six)
      → k ≡ first_fitting (line 15 (ltb 4096 (length ops)) ∷ used_lines u others false (reaching 7 ops))
  record-decides six e few h =
      no-further u others six h ∙ ap (λ b. first_fitting (used_lines u others false b)) e
      ∙ sym (passed 15 _ (le-ltb 4096 (length ops) few))
