-- The value of a Pauli row: its lines and answer are as demand 1 has them, and which arguments it accepts.
use mathlib.Core.Bool.{false}
use mathlib.Core.Logic.Iff
use mathlib.Core.Logic.{◌↔◌}
use mathlib.Core.Path.{refl, ◌≡◌}
use Prim.Native.Nat.{ℕ}
use Rattle.buffers.specs.Refusals.{first_fitting}
use Rattle.calls.specs.Expectations.{expectation_lines}
use Rattle.operations.specs.Used.{UsedRecord}
use Rattle.words.proofs.Flags.{neither}
use Rattle.claims.proofs.LinesExactly.{below-exactly, both-pass}
use Rattle.claims.proofs.UsedExactly.{used-exactly}
use Rattle.claims.proofs.families.Shared.{by_lines}
use Rattle.claims.specs.families.Expectations.{ExpectationFits, ExpectationsAccepted, ExpectationsConform}

expectation-lines : (u : UsedRecord) (z x : ℕ) → (first_fitting (expectation_lines u z x) ≡ 0) ↔ ExpectationFits u z x
expectation-lines u z x = (
  (λ e. let h = (used-exactly u false _ false).0 e in
      let f = neither _ _ h.2 in (h.0, (below-exactly _ z).0 f.0, (below-exactly _ x).0 f.1)),
  (λ h. (used-exactly u false _ false).1
      (h.0, refl, both-pass ((below-exactly _ z).1 h.1) ((below-exactly _ x).1 h.2), refl)),
)

pub expectations-conform : ExpectationsConform
expectations-conform = record { expectations = λ u z x value value'. record { order = refl; complete = λ e. (tt, tt) } }

pub expectations-accepted : ExpectationsAccepted
expectations-accepted =
    record { expectation = λ u z x value value' r C. Iff.trans (by_lines C) (expectation-lines u z x) }
