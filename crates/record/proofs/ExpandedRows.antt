-- One generator of a record as the code makes it: on words of 64 bits, and as numbers.
use mathlib.Core.Bool.{Bool, false}
use mathlib.Core.List.{List}
use mathlib.Core.Path.{ap, refl, subst, sym, ◌∙◌, ◌≡◌}
use Prim.Native.Nat.{◌<◌, ◌^◌, ℕ, ◌≤◌}
use native.Mathlib.Omega.{arith}
use lib.ListN.{get_or-eq_default, get_or, length}
use Rattle.clifford.specs.Clifford.{clifford_of}
use Rattle.clifford.specs.Vectors.{act, codes_of}
use Rattle.record.specs.Graph.{graph_generator}
use Rattle.pauli.proofs.PauliLaws.{Pauli-path}
use Rattle.pauli.proofs.PhaseLaws.{sign-minus}
use Rattle.pauli.specs.Pauli.{Pauli, sign_bit, signed_row}
use Rattle.stabilizer.proofs.Within.{act-wide-codes, act-within}
use Rattle.stabilizer.specs.Groups.{Within}
use Rattle.words.proofs.BitLaws.{bit-single, lt-of-bits, word_of-bit}
use Rattle.words.proofs.Places.{other_place}
use Rattle.words.specs.Bits.{bit, digit, word_of}
use Rattle.record.proofs.AcceptedRecords.{held_below}
use Rattle.record.specs.Lent.{LentRecord, held_record, held_rows}
use Rattle.record.specs.Records.{record_row}

-- X at j and Z at the neighbours of j, sign plus
pub plus-row : (neighbours : List ℕ) (j : ℕ) {x : ℕ} → x ≡ 2 ^ j →
    signed_row false (get_or neighbours j 0) x ≡ graph_generator (λ i. bit (get_or neighbours i 0)) j
plus-row neighbours j e = Pauli-path refl (λ q. refl) (λ q. ap (λ w. bit w q) e ∙ bit-single j q)

pub sent-row : (neighbours codes : List ℕ) (j : ℕ) {x : ℕ} {r : Pauli} → x ≡ 2 ^ j →
    r ≡ act 64 (codes_of codes) (signed_row false (get_or neighbours j 0) x) →
    r ≡ record_row 64 (λ i. bit (get_or neighbours i 0)) (codes_of codes) j
sent-row neighbours codes j e h = h ∙ ap (act 64 (codes_of codes)) (plus-row neighbours j e)

-- the codes at and above n are the identity, so n qubits are enough
pub held-row : (l : LentRecord) → l.n ≤ 64 → length l.codes ≡ l.n → (j : ℕ) →
    record_row 64 (held_record l).graph (held_record l).codes j ≡ held_rows l j
held-row l h e j =
    act-wide-codes l.n 64 h (codes_of l.codes)
    (λ q k. ap clifford_of (get_or-eq_default l.codes 0 (subst (λ m. m ≤ q) (sym e) k)))
    (graph_generator (held_record l).graph j)

pub held-within : (l : LentRecord) → ((j : ℕ) → get_or l.neighbours j 0 < 2 ^ l.n) → (j : ℕ) → j < l.n →
    Within l.n (held_rows l j)
held-within l h j k =
    act-within l.n l.n (codes_of l.codes) {p = graph_generator (held_record l).graph j}
    (record {
      no-x = λ q m. other_place {i = q} {j = j} (λ e. absurd (omega (arith, e)));
      no-z = λ q m. held_below l h j q m;
    })

-- ---- the numbers of a generator
pub sign_of : (m : Bool) (z x : ℕ) {p : Pauli} → signed_row m z x ≡ p → digit m ≡ digit (sign_bit p.phase)
sign_of m z x e = ap digit (sym (sign-minus m) ∙ ap (λ p. sign_bit p.phase) e)

pub z-of : (n : ℕ) (m : Bool) (z x : ℕ) {p : Pauli} → signed_row m z x ≡ p → Within n p → z ≡ word_of n p.z
z-of n m z x e W =
    sym (word_of-bit n z (lt-of-bits n z (λ q l. ap (λ p. p.z q) e ∙ W.no-z q l)))
    ∙ ap (λ p. word_of n p.z) e

pub x-of : (n : ℕ) (m : Bool) (z x : ℕ) {p : Pauli} → signed_row m z x ≡ p → Within n p → x ≡ word_of n p.x
x-of n m z x e W =
    sym (word_of-bit n x (lt-of-bits n x (λ q l. ap (λ p. p.x q) e ∙ W.no-x q l)))
    ∙ ap (λ p. word_of n p.x) e
