-- A vertex whose Z is measured and isolated: the group of the record is the group after the measurement.
use mathlib.Core.Bool.{◌&&◌, Bool, and_comm, and-false, and-true, cond, false, not, true, true≢false}
use mathlib.Core.Logic.{◌≢◌, ◌⊎◌, inl, inr}
use mathlib.Core.Path.{ap, ap₂, refl, subst, sym, ◌∙◌, ◌≡◌}
use Prim.Native.Nat.{◌<◌, ℕ, ◌≤◌}
use native.Mathlib.Decide.{ℕ_discrete}
use native.Mathlib.Omega.{arith}
use lib.Dec.{eqb}
use Rattle.clifford.proofs.CliffordLaws.{cliffords}
use Rattle.clifford.proofs.VectorLaws.{act-agree, act-identity, act-mul, act-scaled, act-then}
use Rattle.clifford.specs.Clifford.{
  Class,
  Clifford,
  XY,
  XZ,
  YX,
  YZ,
  ZX,
  ZY,
  class_with,
  identity_clifford,
  image,
  image_x,
  image_z,
  then,
}
use Rattle.clifford.specs.Vectors.{act}
use Rattle.record.specs.Graph.{Graph, Simple, graph_generator}
use Rattle.operations.proofs.Determined.{measured-group, measured-proper}
use Rattle.operations.proofs.MeasuredRecords.{acts, alone-row, determined-alone, images-clash, single-clash}
use Rattle.operations.specs.Cz.{z_at}
use Rattle.operations.specs.Measurement.{Measured, is_determined, joined, kept, measured_rows, single}
use Rattle.pauli.proofs.PauliLaws.{Pauli-path, identity-mul, letter-bits, mul-identity, mul-scaled}
use Rattle.pauli.proofs.PhaseLaws.{+ᵖ-zero, minus-⊕, phase_monoid, phases, sign-minus}
use Rattle.pauli.specs.Pauli.{
  ◌+ᵖ◌,
  Pauli,
  anticommute,
  clash,
  identity,
  i⁰,
  letter,
  letter_at,
  letter_phase,
  minus,
  mul,
  scaled,
}
use Rattle.pauli.specs.declared.Letter.{Letter}
use Rattle.pauli.specs.declared.Letter.TheVariants.{I, X, Y, Z}
use Rattle.record.proofs.Maximality.{inclusion-same}
use Rattle.record.proofs.ReducedRecords.{record-proper}
use Rattle.record.specs.Records.{GraphRecord, rows_of}
use Rattle.stabilizer.proofs.GroupLaws.{in-identity, in_row}
use Rattle.stabilizer.proofs.Products.{anticommute-identity}
use Rattle.stabilizer.specs.Groups.{SameGroup, chosen}
use Rattle.words.proofs.Finite.{bits, ⊕-cleared, ⊕-twice, ⊕-zero}
use Rattle.words.proofs.Flags.{never_true}
use Rattle.words.proofs.Places.{other_place, put_other, put_same, same_place}
use Rattle.words.proofs.Sums.{bit_monoid, fold-unit}
use Rattle.words.specs.Bits.{◌⊕◌}
use Rattle.operations.proofs.CzProducts.{scaled-scaled}
use Rattle.operations.proofs.Places.{act-single, pauli-generator}
use Rattle.operations.proofs.Reaching.{single-z}
use Rattle.operations.proofs.ZRows.{chosen-zs, zs}
use Rattle.operations.specs.internal.GraphSteps.{isolated, hadamard_code, pauli_code}

-- ---- letters
z-acts : (k : Class) → acts (image_z k) ≡ true
z-acts XZ = refl
z-acts YZ = refl
z-acts ZX = refl
z-acts XY = refl
z-acts YX = refl
z-acts ZY = refl

pub clash-self : (l : Letter) → clash l l ≡ false
clash-self I = refl
clash-self X = refl
clash-self Y = refl
clash-self Z = refl

-- a Hadamard first: X goes where Z went
hadamard-x : (k : Class) → image_x (class_with (image_z k) (image_x k)) ≡ image_z k
hadamard-x XZ = refl
hadamard-x YZ = refl
hadamard-x ZX = refl
hadamard-x XY = refl
hadamard-x YX = refl
hadamard-x ZY = refl

-- Z at a place without x bit multiplies letters with no phase
no-phase : (z x u : Bool) → (x && u) ≡ false → letter_phase (letter z x) (letter u false) ≡ i⁰
no-phase z x u e =
    ap (λ b. cond b i⁰ (letter_phase (letter z x) (letter u false))) (sym e)
    ∙ phases 3 (λ z x u. cond (x && u) i⁰ (letter_phase (letter z x) (letter u false))) (λ z x u. i⁰) tt z x u

single-scaled : (l : Letter) (q : ℕ) (s : Bool) → scaled (minus s) (single l q false) ≡ single l q s
single-scaled l q s = Pauli-path (+ᵖ-zero (minus s)) (λ t. refl) (λ t. refl)

module _ (n : ℕ) (r : GraphRecord) (S : Simple n r.graph) (q : ℕ) (hq : q < n) (b : Bool) where
  abbrev θ : Graph
  θ = r.graph

  abbrev c : ℕ → Clifford
  c = r.codes

  abbrev l : Letter
  l = image (c q) Z

  abbrev t : Bool
  t = b ⊕ (c q).sz

  abbrev P : Pauli
  P = single l q b

  abbrev after : GraphRecord
  after = isolated r q t

  abbrev R : ℕ → Pauli
  R = rows_of n r

  -- ---- the graph
  pub isolated-simple : Simple n (isolated r q (b ⊕ (r.codes q).sz)).graph
  isolated-simple =
      record {
        symmetric = λ i j. ap₂ ◌&&◌ (S.symmetric i j) (and_comm (not (eqb i q)) (not (eqb j q)));
        loopless = λ i. ap (λ e. e && (not (eqb i q) && not (eqb i q))) (S.loopless i);
        below = λ i j h. ap (λ e. e && (not (eqb i q) && not (eqb j q))) (S.below i j h);
      }

  no_edge : (j : ℕ) → after.graph q j ≡ false
  no_edge j = ap (λ e. θ q j && (not e && not (eqb j q))) (same_place q) ∙ and-false (θ q j)

  edge_other : (j i : ℕ) → j ≢ q → after.graph j i ≡ θ j i ⊕ (θ q j && eqb i q)
  edge_other j i d = ap (λ e. θ j i && (not e && not (eqb i q))) (other_place d) ∙ go (ℕ_discrete i q)
    where
      go : Dec (i ≡ q) → (θ j i && not (eqb i q)) ≡ θ j i ⊕ (θ q j && eqb i q)
      go (yes e) =
          subst (λ v. (θ j v && not (eqb v q)) ≡ θ j v ⊕ (θ q j && eqb v q)) (sym e)
          (ap (λ u. θ j q && not u) (same_place q) ∙ and-false (θ j q)
          ∙ sym (ap₂ (λ u v. u ⊕ (θ q j && v)) (S.symmetric j q) (same_place q) ∙ ⊕-cleared (θ q j)))
      go (no e) = ap (λ u. θ j i && not u) (other_place e) ∙ plain (θ j i) (θ q j)
          ∙ sym (ap (λ u. θ j i ⊕ (θ q j && u)) (other_place e))
        where
          plain : (u v : Bool) → (u && true) ≡ u ⊕ (v && false)
          plain = bits 2 (λ u v. u && true) (λ u v. u ⊕ (v && false)) tt

  -- ---- the generators
  own_row : rows_of n after q ≡ P
  own_row =
      alone-row n after isolated-simple q hq no_edge
      ∙ ap (λ k. single (image k X) q k.sx) (put_same _ q (then (hadamard_code t) (c q)))
      ∙ ap₂ (λ m s. single m q s) (hadamard-x (c q).class)
      (ap (λ s. t ⊕ s) (sign-minus (c q).sz) ∙ ⊕-twice b (c q).sz)

  z-image : act n c (z_at q) ≡ single l q (c q).sz
  z-image = ap (act n c) (sym (single-z q)) ∙ act-single n c Z q false hq ∙ single-scaled l q (c q).sz

  generator-other : (j : ℕ) → j ≢ q
      → graph_generator after.graph j ≡ mul n (graph_generator θ j) (chosen (θ q j) (z_at q))
  unfolding mul
  generator-other j d =
      Pauli-path {r = mul n (graph_generator θ j) (zs (λ i. θ q j && eqb i q))}
      (sym (fold-unit i⁰ ◌+ᵖ◌ phase_monoid n
      (λ i h. no-phase (θ j i) (eqb i j) (θ q j && eqb i q) (apart i (ℕ_discrete i q)))))
      (λ i. edge_other j i d) (λ i. sym (⊕-zero (eqb i j)))
      ∙ ap (mul n (graph_generator θ j)) (sym (chosen-zs (θ q j) (λ i. eqb i q)))
    where
      apart : (i : ℕ) → Dec (i ≡ q) → (eqb i j && (θ q j && eqb i q)) ≡ false
      apart i (yes e) = ap (λ u. u && (θ q j && eqb i q)) (other_place {i = i} {j = j} (λ f. d (sym f ∙ e)))
      apart i (no e) = ap (λ u. eqb i j && (θ q j && u)) (other_place e) ∙ none (eqb i j) (θ q j)
        where
          none : (u v : Bool) → (u && (v && false)) ≡ false
          none = bits 2 (λ u v. u && (v && false)) (λ u v. false) tt

  other_row : (j : ℕ) → j < n → j ≢ q
      → rows_of n after j ≡ scaled (minus (t && θ q j)) (mul n (R j) (chosen (θ q j) (single l q (c q).sz)))
  other_row j h d =
      act-agree n after.codes (λ i. then (pauli_code false (t && θ q i)) (c i)) (graph_generator after.graph j)
      (λ i. place i (ℕ_discrete i q))
      ∙ act-then n (λ i. pauli_code false (t && θ q i)) c (graph_generator after.graph j)
      ∙ ap (act n c)
      (pauli-generator n (λ i. false) (λ i. t && θ q i) after.graph j h
      ∙ ap (λ v. scaled (minus (v ⊕ (t && θ q j))) (graph_generator after.graph j))
      (fold-unit false ◌⊕◌ bit_monoid n (λ i k. and-false (after.graph j i))))
      ∙ act-scaled n c (minus (t && θ q j)) (graph_generator after.graph j)
      ∙ ap (scaled (minus (t && θ q j)))
      (ap (act n c) (generator-other j d)
      ∙ act-mul n c (graph_generator θ j) (chosen (θ q j) (z_at q))
      ∙ ap (mul n (R j)) (gated (θ q j)))
    where
      place : (i : ℕ) → Dec (i ≡ q) → (after.codes i ≡ then (pauli_code false (t && θ q i)) (c i))
          ⊎ (letter_at (graph_generator after.graph j) i ≡ I)
      place i (no e) = inl (put_other _ q (then (hadamard_code t) (c q)) i e)
      place i (yes e) = inr (ap (letter_at (graph_generator after.graph j)) e
          ∙ ap₂ letter (isolated-simple.symmetric j q ∙ no_edge j) (other_place (λ e. d (sym e))))

      gated : (v : Bool) → act n c (chosen v (z_at q)) ≡ chosen v (single l q (c q).sz)
      gated false = act-identity n c
      gated true = z-image

  -- it commutes with the Pauli
  commutes : (j : ℕ) → j ≢ q → anticommute n (R j) P ≡ false
  unfolding act
  commutes j d = single-clash n (R j) l q b hq
      ∙ ap (λ m. clash m l) (letter-bits (image (c q) (letter (θ j q) (eqb q j))))
      ∙ ap (λ x. clash (image (c q) (letter (θ j q) x)) l) (other_place (λ e. d (sym e)))
      ∙ go (θ j q)
    where
      go : (z : Bool) → clash (image (c q) (letter z false)) l ≡ false
      go false = refl
      go true = clash-self l

  member : (j : ℕ) → j < n → Measured n R P (rows_of n after j)
  member j h = elim (ℕ_discrete j q) [
    | yes e ↦ subst (λ v. Measured n R P (rows_of n after v)) (sym e)
        (subst (Measured n R P) (identity-mul n P ∙ sym own_row)
        (joined (in-identity n n R) (anticommute-identity n P)))
    | no d ↦ subst (Measured n R P) (sym (other_row j h d)) (go d (θ q j))
  ]
    where
      minus-twice : mul n (R j) P ≡ scaled (minus t) (mul n (R j) (single l q (c q).sz))
      minus-twice =
          ap (mul n (R j))
          (sym (ap (λ s. single l q s) (⊕-twice b (c q).sz))
          ∙ sym (single-scaled l q (t ⊕ (c q).sz))
          ∙ ap (λ s. scaled s (single l q false)) (minus-⊕ t (c q).sz)
          ∙ sym (scaled-scaled (minus t) (minus (c q).sz) (single l q false))
          ∙ ap (scaled (minus t)) (single-scaled l q (c q).sz))
          ∙ mul-scaled n (minus t) (R j) (single l q (c q).sz)

      go : j ≢ q → (v : Bool)
          → Measured n R P (scaled (minus (t && v)) (mul n (R j) (chosen v (single l q (c q).sz))))
      go d true = subst (Measured n R P)
          (minus-twice ∙ ap (λ s. scaled (minus s) (mul n (R j) (single l q (c q).sz))) (sym (and-true t)))
          (joined (in_row n n R j h) (commutes j d))
      go d false = subst (Measured n R P)
          (sym (mul-identity n (R j)) ∙ ap (λ s. scaled (minus s) (mul n (R j) identity)) (sym (and-false t)))
          (kept (in_row n n R j h) (commutes j d))

  -- ---- the Pauli was open, and the groups are equal
  pub open-z : is_determined n (rows_of n r) (image (r.codes q) Z) q ≡ false
  open-z = never_true (is_determined n R l q) (λ e. true≢false (sym (images-clash (c q).class)
      ∙ ap (clash l) ((determined-alone n r S q hq l (z-acts (c q).class)).0 e).0 ∙ clash-self l))

  pub isolated-same : SameGroup n n (rows_of n (isolated r q (b ⊕ (r.codes q).sz)))
      (measured_rows n (rows_of n r) (image (r.codes q) Z) q b)
  isolated-same =
      inclusion-same n (rows_of n after) (measured_rows n R l q b) (record-proper n after isolated-simple)
      (measured-proper n R (record-proper n r S) l q hq b)
      (λ j h. (measured-group n R (record-proper n r S) l q hq open-z b (rows_of n after j)).1 (member j h))

  pub isolated-above : ((i : ℕ) → n ≤ i → r.codes i ≡ identity_clifford)
      → (i : ℕ) → n ≤ i → (isolated r q (b ⊕ (r.codes q).sz)).codes i ≡ identity_clifford
  isolated-above above i h =
      put_other _ q (then (hadamard_code t) (c q)) i (λ e. absurd (omega (arith, e)))
      ∙ ap₂ (λ v k. then (pauli_code false v) k) (ap (λ v. t && v) (S.below q i h) ∙ and-false t) (above i h)
      ∙ cliffords 0 (then (pauli_code false false) identity_clifford) identity_clifford tt
