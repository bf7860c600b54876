-- The amplitudes: the lines and answers of the call are as demand 1 has them, and which arguments it accepts.
use mathlib.Core.Bool.{false}
use mathlib.Core.Logic.Iff
use mathlib.Core.Logic.{◌↔◌}
use mathlib.Core.Path.{refl, ◌≡◌}
use Prim.Native.Nat.{ℕ}
use Rattle.buffers.specs.Refusals.{first_fitting}
use Rattle.calls.specs.Amplitudes.{amplitude_lines}
use Rattle.operations.specs.Used.{UsedRecord}
use Rattle.claims.proofs.LinesExactly.{below-exactly}
use Rattle.claims.proofs.UsedExactly.{used-exactly}
use Rattle.claims.proofs.families.Shared.{by_lines}
use Rattle.claims.specs.families.Amplitudes.{AmplitudeFits, AmplitudesAccepted, AmplitudesConform}

pub amplitude-lines : (u : UsedRecord) (y : ℕ) → (first_fitting (amplitude_lines u y) ≡ 0) ↔ AmplitudeFits u y
amplitude-lines u y = (
  (λ e. let h = (used-exactly u false _ false).0 e in (h.0, (below-exactly _ y).0 h.2)),
  (λ h. (used-exactly u false _ false).1 (h.0, refl, (below-exactly _ y).1 h.1, refl)),
)

pub amplitudes-conform : AmplitudesConform
amplitudes-conform =
    record {
      amplitudes = λ u y re im p re' im' p'. record { order = refl; complete = λ z. (tt, (tt, (tt, tt))) };
    }

pub amplitudes-accepted : AmplitudesAccepted
amplitudes-accepted =
    record {
      amplitude = λ u y re im p re' im' p' r C. Iff.trans (by_lines C) (amplitude-lines u y);
    }
