-- The row operations of an elimination over the x bits: what the code's steps do to a list: what only the proofs name.
use Rattle.std.specs.Prelude.{◌&&◌, not, ℕ, eqb}
use Rattle.pauli.specs.Pauli.{Pauli}
use Rattle.words.specs.Bits.{Word}
use Rattle.stabilizer.specs.Elimination.{shear}

-- row q, where it lacks x bit q, and no other row: it is to have the bit from a row that has it
abbrev pub lend : (ℕ → Pauli) → ℕ → Word
lend rows q j = eqb j q && not ((rows q).x q)

-- the other rows that have x bit q: they are to lose it
abbrev pub clear : (ℕ → Pauli) → ℕ → Word
clear rows q j = not (eqb j q) && (rows j).x q

-- the pivot of column q: row i, which has x bit q, lends it to row q; row q clears it from every other row
abbrev pub pivot_on : ℕ → (ℕ → Pauli) → ℕ → ℕ → ℕ → Pauli
pivot_on n rows q i = shear n (shear n rows i (lend rows q)) q (clear (shear n rows i (lend rows q)) q)
