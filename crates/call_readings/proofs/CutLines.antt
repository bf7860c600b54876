-- The lines of a cut: what it means that none of them holds.
use mathlib.Core.Bool.{false}
use mathlib.Core.Path.{◌≡◌}
use Prim.Native.Nat.{◌<◌, ◌^◌, ℕ}
use lib.Dec.{leb}
use borrow.Author.Tests.{leb-false}
use Rattle.buffers.specs.Refusals.{first_fitting}
use Rattle.record.proofs.AcceptedRecords.{accepted-record}
use Rattle.record.specs.Accepted.{AcceptedRecord}
use Rattle.operations.proofs.UsedPassing.{lines-pass}
use Rattle.operations.specs.Used.{UsedRecord, used_stray}
use Rattle.words.proofs.Flags.{neither}
use Rattle.calls.specs.Cuts.{cut_lines}

pub record AcceptedCut (u : UsedRecord) (side : ℕ) : Type 0 where
  pub held : AcceptedRecord u.held
  pub below : side < 2 ^ u.held.n

pub accepted-cut : (u : UsedRecord) (side : ℕ) → first_fitting (cut_lines u side) ≡ 0 → AcceptedCut u side
accepted-cut u side e =
    let h = (lines-pass u false (leb (2 ^ u.held.n) side) false).0 e in
    record {
      held = accepted-record u.held false false h.0;
      below = leb-false (2 ^ u.held.n) side (neither (used_stray u) _ h.1).1;
    }
