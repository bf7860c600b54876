-- Codes acting on rows place by place: Pauli codes, a row that acts at one place, and rows of I and Z.
use mathlib.Core.Bool.{◌&&◌, Bool, and_comm, cond, false, true}
use mathlib.Core.Path.{ap, refl, subst, sym, ◌∙◌, ◌≡◌}
use Prim.Native.Nat.{◌<◌, ℕ}
use native.Mathlib.Decide.{ℕ_discrete}
use native.Mathlib.Omega.{arith}
use lib.Dec.{eqb}
use Rattle.clifford.proofs.CliffordLaws.{cliffords, from_five, on_clifford}
use Rattle.clifford.specs.Clifford.{Clifford, clifford_of, code_of, image, image_phase, then}
use Rattle.clifford.specs.Vectors.{act}
use Rattle.record.specs.Graph.{Graph, graph_generator}
use Rattle.operations.specs.Measurement.{single}
use Rattle.pauli.proofs.PauliLaws.{Pauli-path, letter-bits}
use Rattle.pauli.proofs.PhaseLaws.{+ᵖ-comm, +ᵖ-zero, minus-parity, phase_monoid, phases}
use Rattle.pauli.specs.Pauli.{◌+ᵖ◌, Pauli, i⁰, letter, minus, scaled, x_bit, z_bit}
use Rattle.pauli.specs.declared.Letter.{Letter}
use Rattle.pauli.specs.declared.Letter.TheVariants.{I}
use Rattle.words.proofs.BitLaws.{digit_lt}
use Rattle.words.proofs.Finite.{bits}
use Rattle.words.proofs.Places.{other_place, parity-at, same_place}
use Rattle.words.proofs.Sums.{fold-ext, fold-one, parity-add}
use Rattle.words.specs.Bits.{Word, parity, ◌⊕◌}
use Rattle.operations.specs.internal.GraphSteps.{pauli_code}

-- ---- Paulis
-- a Pauli code keeps letters, and its sign is that of the bits that it does not commute with
pauli-phase : (u v z x : Bool) → image_phase (pauli_code u v) (letter z x) ≡ minus ((z && u) ⊕ (x && v))
pauli-phase = phases 4 (λ u v z x. image_phase (pauli_code u v) (letter z x)) (λ u v z x. minus ((z && u) ⊕ (x && v))) tt

pauli-z : (u v z x : Bool) → z_bit (image (pauli_code u v) (letter z x)) ≡ z
pauli-z = bits 4 (λ u v z x. z_bit (image (pauli_code u v) (letter z x))) (λ u v z x. z) tt

pauli-x : (u v z x : Bool) → x_bit (image (pauli_code u v) (letter z x)) ≡ x
pauli-x = bits 4 (λ u v z x. x_bit (image (pauli_code u v) (letter z x))) (λ u v z x. x) tt

pub pauli-act : (n : ℕ) (u v : Word) (p : Pauli)
    → act n (λ q. pauli_code (u q) (v q)) p
    ≡ record { phase = p.phase +ᵖ minus (parity n (λ q. (p.z q && u q) ⊕ (p.x q && v q))); z = p.z; x = p.x }
unfolding act
pauli-act n u v p =
    Pauli-path
    (ap (λ t. p.phase +ᵖ t)
    (fold-ext i⁰ ◌+ᵖ◌ n (λ q l. pauli-phase (u q) (v q) (p.z q) (p.x q)) ∙ minus-parity n _))
    (λ q. pauli-z (u q) (v q) (p.z q) (p.x q)) (λ q. pauli-x (u q) (v q) (p.z q) (p.x q))

-- on a generator of a graph: the bits of u at the neighbours, and v at the vertex
pub pauli-generator : (n : ℕ) (u v : Word) (θ : Graph) (j : ℕ) → j < n
    → act n (λ q. pauli_code (u q) (v q)) (graph_generator θ j)
    ≡ scaled (minus (parity n (λ q. θ j q && u q) ⊕ v j)) (graph_generator θ j)
pauli-generator n u v θ j l =
    pauli-act n u v (graph_generator θ j)
    ∙ Pauli-path
    (ap minus (parity-add n (λ q. θ j q && u q) (λ q. eqb q j && v q)
    ∙ ap (λ b. parity n (λ q. θ j q && u q) ⊕ b)
    (fold-ext false ◌⊕◌ n (λ q k. and_comm (eqb q j) (v q)) ∙ parity-at n v j l))
    ∙ sym (+ᵖ-zero (minus (parity n (λ q. θ j q && u q) ⊕ v j))))
    (λ q. refl) (λ q. refl)

-- ---- a Pauli before a code
-- the signs alone change
pub pauli-then : (u v : Bool) (k : Clifford) → then (pauli_code u v) k
    ≡ record { class = k.class; sx = v ⊕ k.sx; sz = u ⊕ k.sz }
pauli-then u v = on_clifford _ (λ a b c d e. cliffords 7
    (λ u v a b c d e. then (pauli_code u v) (from_five a b c d e))
    (λ u v a b c d e. record { class = (from_five a b c d e).class; sx = v ⊕ d; sz = u ⊕ e }) tt u v a b c d e)

-- code 2 before the code, or nothing
pub z-before : (b : Bool) (k : Clifford) → cond b (then (clifford_of 2) k) k ≡ then (pauli_code false b) k
z-before true k = refl
z-before false k = sym (pauli-then false false k)

-- so a low code stays low
pub pauli-low : (u v : Bool) (k : Clifford) → code_of k < 12 → code_of (then (pauli_code u v) k) < 12
pauli-low u v k l = subst (λ m. code_of m < 12) (sym (pauli-then u v k))
    (omega (arith, digit_lt (v ⊕ k.sx), digit_lt (u ⊕ k.sz)))

-- ---- one place
pub act-single : (n : ℕ) (c : ℕ → Clifford) (l : Letter) (a : ℕ) (s : Bool) → a < n
    → act n c (single l a s)
    ≡ scaled (image_phase (c a) l) (single (image (c a) l) a s)
unfolding act
act-single n c l a s h =
    Pauli-path
    (ap (λ t. minus s +ᵖ t)
    (fold-one i⁰ ◌+ᵖ◌ phase_monoid n a h
    (λ q k d. ap (image_phase (c q)) (ap (λ b. letter (b && z_bit l) (b && x_bit l)) (other_place d)))
    ∙ ap (image_phase (c a)) (here (same_place a)))
    ∙ +ᵖ-comm (minus s) (image_phase (c a) l))
    (λ q. bit_at z_bit refl q (ℕ_discrete q a)) (λ q. bit_at x_bit refl q (ℕ_discrete q a))
  where
    here : {b : Bool} → b ≡ true → letter (b && z_bit l) (b && x_bit l) ≡ l
    here e = ap (λ b. letter (b && z_bit l) (b && x_bit l)) e ∙ letter-bits l

    bit_at : (f : Letter → Bool) → f I ≡ false → (q : ℕ) → Dec (q ≡ a)
        → f (image (c q) (letter (eqb q a && z_bit l) (eqb q a && x_bit l))) ≡ (eqb q a && f (image (c a) l))
    bit_at f none q (yes e) =
        subst (λ v. f (image (c v) (letter (eqb v a && z_bit l) (eqb v a && x_bit l))) ≡ (eqb v a && f (image (c a) l)))
        (sym e)
        (ap (λ m. f (image (c a) m)) (here (same_place a)) ∙ ap (λ b. b && f (image (c a) l)) (sym (same_place a)))
    bit_at f none q (no d) =
        ap (λ b. f (image (c q) (letter (b && z_bit l) (b && x_bit l)))) (other_place d) ∙ none
        ∙ ap (λ b. b && f (image (c a) l)) (sym (other_place d))
