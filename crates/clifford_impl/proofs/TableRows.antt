-- A row of the constant table of the source: the codes that a code gives with each code after it.
use mathlib.Core.List.{List}
use mathlib.Core.Path.{ap, ◌∙◌, ◌≡◌}
use Prim.Native.Nat.{◌*◌, ◌+◌, ◌<◌, ℕ}
use lib.ListN.{get_or}
use Rattle.clifford.specs.Clifford.{clifford_of, code_of, then}
use Rattle.clifford_impl.proofs.TableRules.{then-entry, then_table}

-- the 24 entries from place 24 a on are 'first a', then each code
pub then-row : (row : List ℕ) (start a : ℕ) → a < 24 → start ≡ 24 * a
    → ((b : ℕ) → b < 24 → get_or row b 0 ≡ get_or then_table (start + b) 0)
    → (b : ℕ) → b < 24 → get_or row b 0 ≡ code_of (then (clifford_of a) (clifford_of b))
then-row row start a ha e h b hb =
    h b hb ∙ ap (λ s. get_or then_table (s + b) 0) e ∙ then-entry a b ha hb
