-- Worked examples in a table: what the definitions give, beside what the text says.
use Rattle.std.specs.Prelude.{List, map, ◌≡◌}

pub record Example (A : Type 0) : Type 0 where
  pub given : A
  pub expected : A

abbrev pub example : {A : Type 0} → A → A → Example A
example a b = record { given = a; expected = b }

-- every example of the table holds
abbrev pub AllHold : {A : Type 0} → List (Example A) → Type 0
AllHold table = map (λ e. e.given) table ≡ map (λ e. e.expected) table
