-- The record read off the rows: the neighbour words and the codes.
use mathlib.Core.Bool.{◌&&◌, Bool, and-false, and-true, false, not}
use mathlib.Core.List.{List, []}
use mathlib.Core.Logic.{inl, inr, ◌⊎◌}
use mathlib.Core.Path.{ap, ap₂, sym, ◌∙◌, ◌≡◌}
use Prim.Native.Nat.{◌<◌, ℕ, ◌≤◌}
use lib.Dec.{eqb}
use lib.ListN.{get_or}
use borrow.Author.Tests.{lt-ltb}
use Rattle.clifford.specs.Clifford.{code_of}
use Rattle.pauli.proofs.PhaseLaws.{sign-minus}
use Rattle.pauli.specs.Pauli.{minus, sign_bit}
use Rattle.record.specs.Reduced.{graph_of, minuses_of, plain_code, record_of, with_hadamard, ys_of}
use Rattle.stabilizer.specs.Groups.{Within}
use Rattle.stabilizer.specs.internal.Tableau.{tableau}
use Rattle.words.proofs.BitLaws.{bit-above, bit-ext∞, bit-word_of, word_of-lt}
use Rattle.words.proofs.Places.{other_place, put_all, same_place}
use Rattle.words.proofs.Sums.{lt-or-ge}
use Rattle.words.specs.Bits.{Word, bit, put, word_of}

-- the z word without the own place
pub neighbour-word : (n signs : ℕ) (rows : List (List ℕ)) (q : ℕ) → q < n → Within n (tableau signs rows q)
    → (v : ℕ) →
    ((k : ℕ) → bit v k ≡ put (bit (get_or (get_or rows q []) 0 0)) q false k) →
    v ≡ word_of n (graph_of n (tableau signs rows) q)
unfolding graph_of
neighbour-word n signs rows q l W v h =
    bit-ext∞ v (word_of n (graph_of n (tableau signs rows) q)) (λ k. at k (lt-or-ge k n))
  where
    z : Word
    z = bit (get_or (get_or rows q []) 0 0)

    without : (k : ℕ) → put (bit (get_or (get_or rows q []) 0 0)) q false k ≡ (bit (get_or (get_or rows q []) 0 0) k
        && not (eqb k q))
    without k =
        put_all (λ k b. b ≡ (bit (get_or (get_or rows q []) 0 0) k && not (eqb k q)))
        (bit (get_or (get_or rows q []) 0 0)) q false
        (sym (ap (λ b. bit (get_or (get_or rows q []) 0 0) q && not b) (same_place q)
        ∙ and-false (bit (get_or (get_or rows q []) 0 0) q))) k
        (λ d. sym (ap (λ b. bit (get_or (get_or rows q []) 0 0) k && not b) (other_place d)
        ∙ and-true (bit (get_or (get_or rows q []) 0 0) k)))

    at : (k : ℕ) → (k < n) ⊎ (n ≤ k) → bit v k ≡ bit (word_of n (graph_of n (tableau signs rows) q)) k
    at k (inl a) =
        h k ∙ without k
        ∙ sym (ap (λ b. b && (bit (get_or (get_or rows q []) 0 0) k && not (eqb k q)))
        (ap₂ ◌&&◌ (lt-ltb q n l) (lt-ltb k n a)))
        ∙ sym (bit-word_of n (graph_of n (tableau signs rows) q) k a)
    at k (inr a) =
        h k ∙ without k ∙ ap (λ b. b && not (eqb k q)) (W.no-z k a)
        ∙ sym (bit-above n (word_of n (graph_of n (tableau signs rows) q))
        (word_of-lt n (graph_of n (tableau signs rows) q)) k a)

-- the code by the Hadamard, the letter and the sign
pub vertex-number : (n hadamards signs : ℕ) (rows : List (List ℕ)) (q : ℕ) → q < n → (v : ℕ) {h y s : Bool} →
    h ≡ bit hadamards q → y ≡ bit (get_or (get_or rows q []) 0 0) q → s ≡ bit signs q →
    v ≡ code_of (with_hadamard h (plain_code y s)) →
    v ≡ code_of ((record_of n (bit hadamards) (tableau signs rows)).codes q)
unfolding ys_of minuses_of
vertex-number n hadamards signs rows q l v {y = y} {s = s} eh ey es e =
    e
    ∙ ap (λ b. code_of (with_hadamard b (plain_code y s))) eh
    ∙ ap₂ (λ a b. code_of (with_hadamard (bit hadamards q) (plain_code a b)))
    (ey ∙ sym (ap (λ b. b && bit (get_or (get_or rows q []) 0 0) q) (lt-ltb q n l)))
    (es ∙ sym (ap (λ b. b && sign_bit (minus (bit signs q))) (lt-ltb q n l) ∙ sign-minus (bit signs q)))
