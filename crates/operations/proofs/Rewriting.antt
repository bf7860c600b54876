-- Complements and pivots rewrite a record: the graph stays simple, and the group is kept, signs included.
use mathlib.Core.List.{[], ◌∷◌}
use mathlib.Core.Path.{◌≡◌}
use Prim.Native.Nat.{◌<◌, ℕ, ◌≤◌}
use Rattle.clifford.specs.Clifford.{identity_clifford}
use Rattle.record.proofs.Complement.{complement-simple}
use Rattle.record.specs.Graph.{Simple}
use Rattle.record.proofs.ComplementLists.{add, complement-all-same, complement-all-simple, nil}
use Rattle.record.specs.Records.{GraphRecord, complement_record, rows_of}
use Rattle.stabilizer.specs.Groups.{SameGroup}
use Rattle.operations.proofs.UnrefusedRecords.{complement-above}
use Rattle.operations.specs.Steps.{pivot_record}

pub pivot-simple : (n : ℕ) (r : GraphRecord) → Simple n r.graph → (j k : ℕ)
    → Simple n (pivot_record r j k).graph
pivot-simple n r S j k = complement-all-simple n r S (j ∷ k ∷ j ∷ [])

pub pivot-same : (n : ℕ) (r : GraphRecord) → Simple n r.graph → (j k : ℕ) → j < n → k < n
    → SameGroup n n (rows_of n r) (rows_of n (pivot_record r j k))
pivot-same n r S j k hj hk = complement-all-same n r S (add j hj (add k hk (add j hj nil)))

-- code 0 stays at and above n
pub pivot-above : (n : ℕ) (r : GraphRecord) → Simple n r.graph → (j k : ℕ) → j < n → k < n
    → ((q : ℕ) → n ≤ q → r.codes q ≡ identity_clifford)
    → (q : ℕ) → n ≤ q → (pivot_record r j k).codes q ≡ identity_clifford
pivot-above n r S j k hj hk above =
    let S₁ = complement-simple n r.graph S j in
    complement-above n (complement_record (complement_record r j) k) (complement-simple n _ S₁ k) j hj
    (complement-above n (complement_record r j) S₁ k hk (complement-above n r S j hj above))
