-- A gate carries the record's group: sent through the code at the qubit, it is exactly the group of the answer.
use mathlib.Core.Path.{ap, sym, ◌∙◌, ◌≡◌}
use Prim.Native.Nat.{ℕ}
use Rattle.clifford.proofs.CliffordLaws.{then_id}
use Rattle.clifford.proofs.VectorLaws.{act-cong, act-then}
use Rattle.clifford.specs.Clifford.{Clifford, then}
use Rattle.clifford.specs.Vectors.{act, only}
use Rattle.record.specs.Graph.{graph_generator}
use Rattle.record.specs.Records.{GraphRecord, rows_of}
use Rattle.stabilizer.proofs.Carried.{carries_same, same_rows}
use Rattle.stabilizer.proofs.GroupLaws.{same_refl}
use Rattle.stabilizer.specs.Carries.{Carries}
use Rattle.words.proofs.Places.{put_all, put_other, put_same}
use Rattle.words.specs.Bits.{put}
use Rattle.operations.specs.Gates.{gated}

-- the codes after a gate: the old codes, then the gate's code at the qubit alone
gated-codes : (c : ℕ → Clifford) (q : ℕ) (k : Clifford) (t : ℕ)
    → put c q (then (c q) k) t ≡ then (c t) (only q k t)
gated-codes c q k t =
    put_all (λ t d. d ≡ then (c t) (only q k t)) c q (then (c q) k)
    (ap (then (c q)) (sym (put_same _ q k))) t
    (λ o. sym (then_id (c t)) ∙ ap (then (c t)) (sym (put_other _ q k t o)))

-- generator by generator
pub gated-row : (n : ℕ) (r : GraphRecord) (q : ℕ) (k : Clifford) (j : ℕ)
    → rows_of n (gated r q k) j ≡ act n (only q k) (rows_of n r j)
gated-row n r q k j =
    act-cong n (gated-codes r.codes q k) (graph_generator r.graph j)
    ∙ act-then n r.codes (only q k) (graph_generator r.graph j)

pub gate-carries : (n : ℕ) (r : GraphRecord) (q : ℕ) (k : Clifford)
    → Carries n (only q k) (rows_of n r) (rows_of n (gated r q k))
gate-carries n r q k =
    (carries_same n (only q k) (rows_of n r) (rows_of n (gated r q k))).1
    (same_rows n n _ _ _ (λ j l. sym (gated-row n r q k j)) same_refl)
