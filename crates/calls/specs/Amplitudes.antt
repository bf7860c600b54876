-- What the call on amplitudes promises, for all arguments. The three floats are lent as their 64 bits, so that a
-- refused call keeps a NaN bit for bit. A name with a prime is what is lent at exit.
use Rattle.std.specs.Prelude.{false, List, [], ◌∷◌, ◌^◌, ℕ, leb, Float}
use Rattle.std.specs.Float.{binary64}
use Rattle.std.specs.Float.Ieee.{to_bits}
use Rattle.amplitude.specs.Ratios.{plot_at}
use Rattle.buffers.specs.Refusals.{Refusal}
use Rattle.buffers.specs.Calls.{Contract, contract_of, number}
use Rattle.record.specs.Lent.{held_rows}
use Rattle.operations.specs.Used.{UsedRecord, used_lines}

-- the lines of a record in checking order. "A y with a bit at or above n gives 5"
abbrev pub amplitude_lines : UsedRecord → ℕ → List Refusal
amplitude_lines u y = used_lines u false (leb (2 ^ u.held.n) y) false

-- the 64 bits of a float
abbrev pub bits_of : Float → ℕ
bits_of = to_bits binary64

-- ---- sukhlent_amplitude: "three floats, real part, imaginary part and probability"
abbrev pub amplitude_call : (u : UsedRecord) (y re im p re' im' p' : ℕ) → Contract
amplitude_call u y re im p re' im' p' =
    contract_of (amplitude_lines u y)
    (number re (bits_of (plot_at u.held.n (held_rows u.held) y).re) re'
    ∷ number im (bits_of (plot_at u.held.n (held_rows u.held) y).im) im'
    ∷ number p (bits_of (plot_at u.held.n (held_rows u.held) y).p) p' ∷ [])
