-- What the code's rows stand for.
use Rattle.pauli.specs.declared.Generator.{Generator}
use Rattle.pauli.specs.declared.Row.{Row}
use Rattle.pauli.specs.Pauli.{Pauli, power, row, signed_row}

-- i to the power phase, times the letters of the z word and the x word
abbrev pub pauli_of : Row → Pauli
pauli_of r = row (power r.phase) r.z r.x

-- a generator: the sign, and the letters
abbrev pub generator_of : Generator → Pauli
generator_of g = signed_row g.minus g.z g.x
