-- The value of a Pauli row on the state of a list: by membership in the group.
use Rattle.std.specs.Prelude.{cond, suc, zero, ℕ}
use Rattle.pauli.specs.Pauli.{Pauli, i², scaled}
use Rattle.stabilizer.specs.Membership.{member}

-- the row with the other sign
abbrev pub negated : Pauli → Pauli
negated p = scaled i² p

-- "0 where the row is in the group, 1 where its negative is, 2 where neither is"
unfoldable pub stabilizer_value : ℕ → (ℕ → Pauli) → Pauli → ℕ
stabilizer_value n rows p = cond (member n rows p) 0 (cond (member n rows (negated p)) 1 2)

-- the value of the row with the other sign: plus and minus change places
abbrev pub exchanged : ℕ → ℕ
exchanged zero = 1
exchanged (suc zero) = 0
exchanged (suc (suc k)) = 2
