-- Moving a sign off the image of Z changes no generator.
use mathlib.Core.Path.{ap, ◌∙◌, ◌≡◌}
use Prim.Native.Nat.{◌<◌, ℕ}
use lib.Dec.{eqb}
use Rattle.clifford.proofs.VectorLaws.{act-then}
use Rattle.clifford.specs.Vectors.{act}
use Rattle.record.specs.Graph.{Simple, graph_generator}
use Rattle.pauli.specs.Pauli.{minus, scaled}
use Rattle.record.specs.Records.{GraphRecord, rows_of}
use Rattle.words.proofs.Finite.{⊕-self}
use Rattle.words.proofs.Places.{parity-at}
use Rattle.words.specs.Bits.{◌⊕◌}
use Rattle.operations.proofs.Places.{pauli-generator}
use Rattle.operations.specs.internal.GraphSteps.{pauli_code, sign_moved}

pub sign-moved-row : (n : ℕ) (r : GraphRecord) → Simple n r.graph → (a : ℕ) → a < n → (j : ℕ) → j < n
    → rows_of n (sign_moved r a) j ≡ rows_of n r j
sign-moved-row n r S a ha j l =
    act-then n (λ q. pauli_code (eqb q a) (r.graph a q)) r.codes (graph_generator r.graph j)
    ∙ ap (act n r.codes)
    (pauli-generator n (λ q. eqb q a) (r.graph a) r.graph j l
    ∙ ap (λ b. scaled (minus b) (graph_generator r.graph j))
    (ap (λ b. b ⊕ r.graph a j) (parity-at n (r.graph j) a ha ∙ S.symmetric j a) ∙ ⊕-self (r.graph a j)))
