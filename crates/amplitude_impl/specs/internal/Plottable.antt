-- Records whose plot can be read off them.
use Rattle.std.specs.Prelude.{List, ◌≡◌, ℕ, length}
use Rattle.amplitude.specs.Ratios.{lowest}
use Rattle.operations.specs.internal.ReducedForms.{ReducedForm}
use Rattle.operations.specs.internal.InPlace.{Unrefused, record_in}
use Rattle.record.specs.Lent.{held_record, held_rows}

-- two buffers hold a record of reduced form, and this is its smallest supported word
pub record Plottable (words codes : List ℕ) (low : ℕ) : Type 0 where
  pub unrefused : Unrefused (record_in words codes)
  pub form : ReducedForm (length words) (held_record (record_in words codes))
  pub smallest : low ≡ lowest (length words) (held_rows (record_in words codes))
