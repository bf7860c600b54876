-- Whether a code is odd, or 8 or more, a step changes only at its own vertices: what it puts before the codes of their
-- neighbours keeps Z, and so leaves the image of Z and its sign.
use mathlib.Core.Bool.{Bool, cond, false, true}
use mathlib.Core.Path.{ap, refl, ◌∙◌, ◌≡◌}
use Prim.Native.Nat.{ℕ}
use lib.Dec.{eqb}
use Rattle.clifford.proofs.CliffordLaws.{from_five, on_clifford}
use Rattle.clifford.specs.Clifford.{Clifford, clifford_of, code_of, then}
use Rattle.operations.specs.internal.GraphSteps.{pauli_code, sign_moved}
use Rattle.operations_gates.specs.internal.Suspects.{suspect}
use Rattle.operations.specs.Steps.{pivot_record}
use Rattle.record.specs.Records.{GraphRecord, complement_record}
use Rattle.words.proofs.Finite.{bits}

-- the code at q is odd, or 8 or more
abbrev pub suspect_in : GraphRecord → ℕ → Bool
suspect_in r q = suspect (code_of (r.codes q))

six-before : (k : Clifford) → suspect (code_of (then (clifford_of 6) k)) ≡ suspect (code_of k)
six-before = on_clifford _
    (bits 5 (λ a b c d e. suspect (code_of (then (clifford_of 6) (from_five a b c d e))))
    (λ a b c d e. suspect (code_of (from_five a b c d e))) tt)

signs-before : (k : Clifford) (v : Bool) → suspect (code_of (then (pauli_code false v) k)) ≡ suspect (code_of k)
signs-before = on_clifford _
    (bits 6 (λ a b c d e v. suspect (code_of (then (pauli_code false v) (from_five a b c d e))))
    (λ a b c d e v. suspect (code_of (from_five a b c d e))) tt)

pub complement-suspect : (r : GraphRecord) (a q : ℕ) → eqb q a ≡ false
    → suspect_in (complement_record r a) q ≡ suspect_in r q
complement-suspect r a q d =
    ap (λ u. suspect (code_of (cond u (then (clifford_of 13) (r.codes q))
    (cond (r.graph a q) (then (clifford_of 6) (r.codes q)) (r.codes q))))) d
    ∙ near (r.graph a q)
  where
    near : (b : Bool) → suspect (code_of (cond b (then (clifford_of 6) (r.codes q)) (r.codes q))) ≡ suspect_in r q
    near true = six-before (r.codes q)
    near false = refl

pub pivot-suspect : (r : GraphRecord) (j k q : ℕ) → eqb q j ≡ false → eqb q k ≡ false
    → suspect_in (pivot_record r j k) q ≡ suspect_in r q
pivot-suspect r j k q dj dk =
    complement-suspect (complement_record (complement_record r j) k) j q dj
    ∙ complement-suspect (complement_record r j) k q dk
    ∙ complement-suspect r j q dj

pub sign-suspect : (r : GraphRecord) (a q : ℕ) → eqb q a ≡ false → suspect_in (sign_moved r a) q ≡ suspect_in r q
sign-suspect r a q d =
    ap (λ u. suspect (code_of (then (pauli_code u (r.graph a q)) (r.codes q)))) d
    ∙ signs-before (r.codes q) (r.graph a q)
