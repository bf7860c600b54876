-- The lines of the call: both words are tested at once, and what it means that none of them holds.
use mathlib.Core.Bool.{false}
use mathlib.Core.Path.{ap, ◌∙◌, ◌≡◌}
use Prim.Native.Nat.{◌<◌, ◌^◌, ℕ}
use lib.Bits.{bit_or}
use lib.Dec.{leb}
use borrow.Author.Tests.{leb-false}
use Rattle.buffers.proofs.Reaching.{or-reaches}
use Rattle.buffers.specs.Refusals.{first_fitting}
use Rattle.record.proofs.AcceptedRecords.{accepted-record}
use Rattle.record.specs.Accepted.{AcceptedRecord}
use Rattle.operations.proofs.UsedPassing.{lines-pass}
use Rattle.operations.specs.Used.{UsedRecord, used_lines, used_stray}
use Rattle.words.proofs.Flags.{neither}
use Rattle.calls.specs.Expectations.{expectation_lines}

-- a bit of one of the two words is a bit of both joined
pub words-joined : (u : UsedRecord) (z x : ℕ) {k : ℕ}
    → k ≡ first_fitting (used_lines u false (leb (2 ^ u.held.n) (bit_or z x)) false)
    → k ≡ first_fitting (expectation_lines u z x)
words-joined u z x e = e ∙ ap (λ b. first_fitting (used_lines u false b false)) (or-reaches u.held.n z x)

pub record AcceptedRow (u : UsedRecord) (z x : ℕ) : Type 0 where
  pub held : AcceptedRecord u.held
  pub z-below : z < 2 ^ u.held.n
  pub x_below : x < 2 ^ u.held.n

pub accepted-row : (u : UsedRecord) (z x : ℕ) → first_fitting (expectation_lines u z x) ≡ 0 → AcceptedRow u z x
accepted-row u z x e =
    let bound = 2 ^ u.held.n in
    let h = (lines-pass u false _ false).0 e in
    let both = neither (leb bound z) (leb bound x) (neither (used_stray u) _ h.1).1 in
    record {
      held = accepted-record u.held false false h.0;
      z-below = leb-false bound z both.0;
      x_below = leb-false bound x both.1;
    }
