-- The lines of the call over many steps: what it means that none of them holds.
use mathlib.Core.Bool.{Bool, false}
use mathlib.Core.List.{List, ◌∷◌}
use mathlib.Core.Path.{◌∙◌, ◌≡◌, ap₂, refl, sym}
use Rattle.buffers.proofs.Lines.{not-held}
use Rattle.buffers.specs.Refusals.{Refusal, first_fitting, line}
use Rattle.buffers.proofs.Fitting.{NoneHolds, none-holds}
use Rattle.record.specs.Lent.{record_codes, record_lengths, record_lines}
use Rattle.operations.proofs.UsedPassing.{lines-pass}
use Rattle.operations.specs.Used.{UsedRecord, UsedUnrefused, used_lines}
use Rattle.words.proofs.Flags.{neither}

-- no line holds: neither does one behind 15
pub after-15 : (b : Bool) (ls : List Refusal) → first_fitting (line 15 b ∷ ls) ≡ 0 → first_fitting ls ≡ 0
after-15 b ls e = (not-held 14 b ls e).1

-- no line of the record holds, with further tests: neither without them, and the lengths are alike
pub no-further-argument : (u : UsedRecord) (others six : Bool) → first_fitting (used_lines u others false six) ≡ 0
    → UsedUnrefused u × (others ≡ false)
no-further-argument u others six z = (
  record {
    no_line = sym (ap₂ (λ b c. first_fitting (used_lines u b false c)) fourth.1 sixth.1) ∙ z;
  },
  fourth.1,
)
  where
    h : NoneHolds (record_lines u.held others six)
    h = none-holds (record_lines u.held others six) refl ((lines-pass u others false six).0 z).0

    fourth : (record_lengths u.held ≡ false) × (others ≡ false)
    fourth = neither (record_lengths u.held) others h.1.0

    sixth : (record_codes u.held ≡ false) × (six ≡ false)
    sixth = neither (record_codes u.held) six h.1.1.1.0
