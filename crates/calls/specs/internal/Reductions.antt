-- The reduction without the word of used qubits, which programs and comparisons use: what only the proofs name.
use Rattle.std.specs.Prelude.{List, ℕ}
use Rattle.buffers.specs.Calls.{Contract, contract_of}
use Rattle.stabilizer.specs.Lists.{GeneratorList}
use Rattle.calls.specs.Lists.{reduce_lent, reduce_lines}

-- the reduced record of the list: graph and codes
abbrev pub reduce_call : GeneratorList → List ℕ → List ℕ → List ℕ → List ℕ → Contract
reduce_call l neighbours codes neighbours' codes' =
    contract_of (reduce_lines l neighbours codes) (reduce_lent l neighbours codes neighbours' codes')
