-- Complementing a record at a vertex keeps its group, signs included.
use mathlib.Core.Bool.{Bool, cond, false, true}
use mathlib.Core.Path.{ap, fun_ext, refl, sym, ◌∙◌, ◌≡◌}
use Prim.Native.Nat.{◌<◌, ℕ}
use lib.Dec.{eqb}
use Rattle.clifford.proofs.CliffordLaws.{cliffords, from_five, on_clifford}
use Rattle.clifford.proofs.VectorLaws.{act-then}
use Rattle.clifford.specs.Clifford.{Clifford, clifford_of, identity_clifford, then}
use Rattle.clifford.specs.Vectors.{act}
use Rattle.record.proofs.Complement.{complement-group, rotation}
use Rattle.record.specs.Graph.{Graph, Simple, complement, graph_generator}
use Rattle.stabilizer.proofs.Carried.{act-same, same_rows}
use Rattle.stabilizer.specs.Groups.{SameGroup}
use Rattle.record.specs.Records.{GraphRecord, complement_record, recoded, rows_of}

-- the new codes are those of the rotation, then the old ones
recoded-then : (θ : Graph) (a : ℕ) (c : ℕ → Clifford) → recoded θ a c ≡ (λ q. then (rotation θ a q) (c q))
recoded-then θ a c = fun_ext λ q. go (eqb q a) (θ a q) (c q)
  where
    identity-then : (k : Clifford) → k ≡ then identity_clifford k
    identity-then = on_clifford _
        (cliffords 5 from_five (λ a b c d e. then identity_clifford (from_five a b c d e)) tt)

    go : (A u : Bool) (k : Clifford) → cond A (then (clifford_of 13) k) (cond u (then (clifford_of 6) k) k)
        ≡ then (cond A (clifford_of 13) (cond u (clifford_of 6) identity_clifford)) k
    go true u k = refl
    go false true k = refl
    go false false k = identity-then k

pub complement-same : (n : ℕ) (r : GraphRecord) → Simple n r.graph → (a : ℕ) → a < n
    → SameGroup n n (rows_of n r) (rows_of n (complement_record r a))
complement-same n r S a l =
    same_rows n n _ _ _
    (λ j k. sym (ap (λ d. act n d (graph_generator (complement r.graph a) j))
    (recoded-then r.graph a r.codes)
    ∙ act-then n (rotation r.graph a) r.codes (graph_generator (complement r.graph a) j)))
    (act-same n n r.codes (graph_generator r.graph) _ (complement-group n r.graph S a l))
