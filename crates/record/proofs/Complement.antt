-- Local complementation: codes 13 at a vertex and 6 at its neighbours carry the group of the complemented
-- graph onto that of the graph, signs included.
use mathlib.Core.Bool.{◌&&◌, Bool, and_comm, and-false, and-true, cond, false, not, true, ◌||◌}
use mathlib.Core.Path.{ap, ap₂, refl, subst, sym, ◌∙◌, ◌≡◌}
use Prim.Native.Nat.{◌<◌, ℕ}
use native.Mathlib.Decide.{ℕ_discrete}
use lib.Dec.{eqb}
use Rattle.clifford.specs.Clifford.{Clifford, clifford_of, identity_clifford, image, image_phase}
use Rattle.clifford.specs.Vectors.{act}
use Rattle.pauli.proofs.PauliLaws.{Pauli-path}
use Rattle.pauli.proofs.PhaseLaws.{+ᵖ-zero, phase_monoid, phases, sum_phase-add}
use Rattle.pauli.specs.Pauli.{
  ◌+ᵖ◌,
  Pauli,
  Phase,
  i³,
  i¹,
  i⁰,
  letter,
  letter_at,
  letter_phase,
  mul,
  sum_phase,
  x_bit,
  z_bit,
}
use Rattle.stabilizer.proofs.Carried.{same_rows}
use Rattle.stabilizer.proofs.RowOperations.{shear-same}
use Rattle.stabilizer.specs.Elimination.{shear}
use Rattle.stabilizer.specs.Groups.{SameGroup, chosen}
use Rattle.words.proofs.Finite.{bits}
use Rattle.words.proofs.Places.{other_place, place-comm, same_place}
use Rattle.words.proofs.Sums.{fold-ext, fold-one}
use Rattle.words.specs.Bits.{same_bit, ◌⊕◌}
use Rattle.record.proofs.GraphGroups.{graph-commuting}
use Rattle.record.specs.Graph.{Graph, Simple, complement, graph_generator}

-- ---- at one place; the bits say: A, it is a; J, it is j; u, it is next to a; v, j is next to a; t, it is
-- next to j. In a simple graph:
abbrev known : Bool → Bool → Bool → Bool → Bool → Bool
known A J u v t = (not A || (not u && same_bit t v)) && (not J || (same_bit u v && not t))

abbrev rotation_b : Bool → Bool → Clifford
rotation_b A u = cond A (clifford_of 13) (cond u (clifford_of 6) identity_clifford)

-- code 13 at a, 6 at the neighbours of a
abbrev pub rotation : Graph → ℕ → ℕ → Clifford
rotation θ a q = rotation_b (eqb q a) (θ a q)

-- the edge after complementing
abbrev edge_b : Bool → Bool → Bool → Bool → Bool
edge_b J u v t = t ⊕ ((v && u) && not J)

-- what stands there: the new generator j through the rotation, and the product of old generators
abbrev z_new : Bool → Bool → Bool → Bool → Bool → Bool
z_new A J u v t = z_bit (image (rotation_b A u) (letter (edge_b J u v t) J))

abbrev z_old : Bool → Bool → Bool → Bool → Bool → Bool
z_old A J u v t = t ⊕ (v && u)

abbrev x_new : Bool → Bool → Bool → Bool → Bool → Bool
x_new A J u v t = x_bit (image (rotation_b A u) (letter (edge_b J u v t) J))

abbrev x_old : Bool → Bool → Bool → Bool → Bool → Bool
x_old A J u v t = J ⊕ (v && A)

abbrev phase_new : Bool → Bool → Bool → Bool → Bool → Phase
phase_new A J u v t = image_phase (rotation_b A u) (letter (edge_b J u v t) J)

-- the phase of the product, and what the places j and a add, which cancels
abbrev phase_old : Bool → Bool → Bool → Bool → Bool → Phase
phase_old A J u v t = letter_phase (letter t J) (letter (v && u) (v && A))
    +ᵖ (cond (v && J) i³ i⁰ +ᵖ cond (v && A) i¹ i⁰)

-- they agree where the bits are possible
pub under : {X : Type 0} (b : Bool) (x y : X) → b ≡ true → cond b x y ≡ y → x ≡ y
under b x y h e = ap (λ c. cond c x y) (sym h) ∙ e

z-at : (A J u v t : Bool) → known A J u v t ≡ true → z_new A J u v t ≡ z_old A J u v t
z-at A J u v t h = under (known A J u v t) (z_new A J u v t) (z_old A J u v t) h
    (bits 5 (λ A J u v t. cond (known A J u v t) (z_new A J u v t) (z_old A J u v t)) z_old tt A J u v t)

x-at : (A J u v t : Bool) → known A J u v t ≡ true → x_new A J u v t ≡ x_old A J u v t
x-at A J u v t h = under (known A J u v t) (x_new A J u v t) (x_old A J u v t) h
    (bits 5 (λ A J u v t. cond (known A J u v t) (x_new A J u v t) (x_old A J u v t)) x_old tt A J u v t)

phase-at : (A J u v t : Bool) → known A J u v t ≡ true → phase_new A J u v t ≡ phase_old A J u v t
phase-at A J u v t h = under (known A J u v t) (phase_new A J u v t) (phase_old A J u v t) h
    (phases 5 (λ A J u v t. cond (known A J u v t) (phase_new A J u v t) (phase_old A J u v t)) phase_old tt A J
    u v t)

module _ (n : ℕ) (θ : Graph) (S : Simple n θ) (a : ℕ) (ha : a < n) where
  possible : (j q : ℕ) → known (eqb q a) (eqb q j) (θ a q) (θ a j) (θ j q) ≡ true
  possible j q = ap₂ ◌&&◌ (at_a (ℕ_discrete q a)) (at_j (ℕ_discrete q j))
    where
      tidy_a : (v : Bool) → (not true || (not false && same_bit v v)) ≡ true
      tidy_a false = refl
      tidy_a true = refl

      tidy_j : (v : Bool) → (not true || (same_bit v v && not false)) ≡ true
      tidy_j false = refl
      tidy_j true = refl

      at_a : Dec (q ≡ a) → (not (eqb q a) || (not (θ a q) && same_bit (θ j q) (θ a j))) ≡ true
      at_a (yes e) = subst (λ v. (not (eqb v a) || (not (θ a v) && same_bit (θ j v) (θ a j))) ≡ true) (sym e)
          (simp (same_place, S.loopless, S.symmetric j a) (tidy_a (θ a j)))
      at_a (no d) = simp (other_place d)

      at_j : Dec (q ≡ j) → (not (eqb q j) || (same_bit (θ a q) (θ a j) && not (θ j q))) ≡ true
      at_j (yes e) = subst (λ v. (not (eqb v j) || (same_bit (θ a v) (θ a j) && not (θ j v))) ≡ true) (sym e)
          (simp (same_place, S.loopless) (tidy_j (θ a j)))
      at_j (no d) = simp (other_place d)

  -- generator a, or the identity
  generator_if : Bool → Pauli
  generator_if v = record { phase = i⁰; z = λ q. v && θ a q; x = λ q. v && eqb q a }

  chosen-generator : (v : Bool) → chosen v (graph_generator θ a) ≡ generator_if v
  unfolding generator_if
  chosen-generator false = refl
  chosen-generator true = refl

  once : (v : Bool) (t : Phase) (j : ℕ) → j < n → sum_phase n (λ q. cond (v && eqb q j) t i⁰) ≡ cond v t i⁰
  once v t j l = fold-one i⁰ ◌+ᵖ◌ phase_monoid n j l (λ q k d. ap (λ b. cond (v && b) t i⁰) (other_place d)
      ∙ ap (λ b. cond b t i⁰) (and-false v)) ∙ ap (λ b. cond (v && b) t i⁰) (same_place j)
      ∙ ap (λ b. cond b t i⁰) (and-true v)

  whole : (v : Bool) → cond v i³ i⁰ +ᵖ cond v i¹ i⁰ ≡ i⁰
  whole false = refl
  whole true = refl

  -- the new generator, sent through the rotation, is the old one, times that of a where j is next to a
  rotated-generator : (j : ℕ) → j < n → act n (rotation θ a) (graph_generator (complement θ a) j)
      ≡ mul n (graph_generator θ j) (chosen (θ a j) (graph_generator θ a))
  unfolding act mul generator_if
  rotated-generator j l =
      Pauli-path {r = mul n (graph_generator θ j) (generator_if (θ a j))}
      (fold-ext i⁰ ◌+ᵖ◌ n (λ q k. phase-at (eqb q a) (eqb q j) (θ a q) (θ a j) (θ j q) (possible j q))
      ∙ sum_phase-add n (λ q. letter_phase (letter_at (graph_generator θ j) q) (letter_at (generator_if (θ a j)) q))
      (λ q. cond (θ a j && eqb q j) i³ i⁰ +ᵖ cond (θ a j && eqb q a) i¹ i⁰)
      ∙ ap (λ w. sum_phase n
      (λ q. letter_phase (letter_at (graph_generator θ j) q) (letter_at (generator_if (θ a j)) q)) +ᵖ w)
      (sum_phase-add n (λ q. cond (θ a j && eqb q j) i³ i⁰) (λ q. cond (θ a j && eqb q a) i¹ i⁰)
      ∙ ap₂ ◌+ᵖ◌ (once (θ a j) i³ j l) (once (θ a j) i¹ a ha) ∙ whole (θ a j))
      ∙ +ᵖ-zero _)
      (λ q. z-at (eqb q a) (eqb q j) (θ a q) (θ a j) (θ j q) (possible j q))
      (λ q. x-at (eqb q a) (eqb q j) (θ a q) (θ a j) (θ j q) (possible j q))
      ∙ ap (mul n (graph_generator θ j)) (sym (chosen-generator (θ a j)))

  -- the law of local complementation
  pub complement-group : SameGroup n n (graph_generator θ)
      (λ j. act n (rotation θ a) (graph_generator (complement θ a) j))
  complement-group = same_rows n n _ (shear n (graph_generator θ) a (θ a)) _
      (λ j l. sym (rotated-generator j l))
      (shear-same n n (graph_generator θ) (graph-commuting n θ S) a ha (θ a) (S.loopless a))

-- the graph stays simple
pub complement-simple : (n : ℕ) (θ : Graph) → Simple n θ → (a : ℕ) → Simple n (complement θ a)
complement-simple n θ S a =
    record {
      symmetric = λ i j. ap₂ (λ b c. b ⊕ (c && not (eqb j i))) (S.symmetric i j) (and_comm (θ a i) (θ a j))
          ∙ ap (λ b. θ j i ⊕ ((θ a j && θ a i) && not b)) (place-comm j i);
      loopless = λ i. ap₂ (λ b c. b ⊕ ((θ a i && θ a i) && not c)) (S.loopless i) (same_place i)
          ∙ and-false (θ a i && θ a i);
      below = λ i q l. ap₂ (λ b c. b ⊕ ((θ a i && c) && not (eqb q i))) (S.below i q l) (S.below a q l)
          ∙ ap (λ b. b && not (eqb q i)) (and-false (θ a i));
    }
