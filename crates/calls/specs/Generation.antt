-- What the generator's call promises, for all arguments. A name with a prime is what is held at exit.
use Rattle.std.specs.Prelude.{List, [], ◌∷◌, ℕ, length}
use Rattle.buffers.specs.Buffers.{written}
use Rattle.buffers.specs.Calls.{Contract, buffer, contract_of, number}
use Rattle.jobs.specs.Drawn.{generated_text}
use Rattle.jobs.specs.GeneratedLines.{generate_lines}

-- ---- sukhlent_generate: "The generator takes n, a count of steps and a seed"; "Its lent buffer has 61,463 bytes;
-- those past the text keep their values"
abbrev pub generate_call : ℕ → ℕ → ℕ → List ℕ → ℕ → List ℕ → ℕ → Contract
generate_call n count seed text size text' size' =
    contract_of (generate_lines n count seed text)
    (buffer text (written (generated_text n count seed) text) text'
    ∷ number size (length (generated_text n count seed)) size' ∷ [])
