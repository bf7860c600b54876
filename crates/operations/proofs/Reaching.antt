-- Z at a vertex whose code is not crossed is, up to a sign and an element of the group, a product of Z of the graph.
use mathlib.Core.Bool.{◌&&◌, Bool, and-false, and-true, cond, false, true, true≢false}
use mathlib.Core.Path.{ap, ap₂, refl, sym, ◌∙◌, ◌≡◌}
use Prim.Native.Nat.{◌<◌, ℕ, ◌≤◌}
use native.Mathlib.Omega.{arith}
use lib.Dec.{eqb}
use Rattle.clifford.proofs.VectorLaws.{act-mul}
use Rattle.clifford.specs.Clifford.{Class, Clifford, XY, XZ, YX, YZ, ZX, ZY, bit_c, code_of, image, image_x}
use Rattle.clifford.specs.Vectors.{act}
use Rattle.record.proofs.GraphGroups.{no_loop}
use Rattle.record.specs.Graph.{Graph, Simple, graph_generator}
use Rattle.operations.specs.Cz.{x_at, z_at}
use Rattle.operations.specs.Measurement.{single}
use Rattle.pauli.proofs.PauliLaws.{Pauli-path, identity-mul, mul_assoc, mul-identity, mul-scaled, scaled-mul, square}
use Rattle.pauli.proofs.PhaseLaws.{minus-real, phase_monoid, phases, twice}
use Rattle.pauli.specs.Pauli.{◌+ᵖ◌, Pauli, Phase, i⁰, letter, letter_phase, minus, mul, scaled, x_bit}
use Rattle.pauli.specs.declared.Letter.TheVariants.{X, Z}
use Rattle.record.specs.Records.{GraphRecord, rows_of}
use Rattle.stabilizer.specs.Groups.{chosen}
use Rattle.words.proofs.Finite.{⊕-zero}
use Rattle.words.proofs.Places.{other_place, place-comm}
use Rattle.words.proofs.Sums.{fold-unit}
use Rattle.operations.proofs.CzProducts.{scaled-scaled}
use Rattle.operations.proofs.Places.{act-single}
use Rattle.operations.proofs.ReducedForms.{apart}
use Rattle.operations.proofs.ZRows.{zs}
use Rattle.operations.specs.internal.ReadyPairs.{Ready, crossed}
use Rattle.operations.specs.internal.ReducedForms.{ReducedForm}
use Rattle.operations.specs.internal.GraphSteps.{reach, reach_minus}

-- a code with C = 0 keeps Z, up to its sign
kept-z : (k : Clifford) → bit_c k ≡ false → image k Z ≡ Z
kept-z k e = go k.class e
  where
    go : (c : Class) → bit_c (record { class = c; sx = k.sx; sz = k.sz }) ≡ false
        → image (record { class = c; sx = k.sx; sz = k.sz }) Z ≡ Z
    go XZ e = refl
    go YZ e = refl
    go ZX e = absurd (true≢false e)
    go XY e = absurd (true≢false e)
    go YX e = absurd (true≢false e)
    go ZY e = absurd (true≢false e)

-- one with C = 1 that is not crossed sends X to Z
rotated-x : (k : Clifford) → crossed k ≡ false → bit_c k ≡ true → image k X ≡ Z
rotated-x k l e = go k.class l e
  where
    go : (c : Class) → crossed (record { class = c; sx = k.sx; sz = k.sz }) ≡ false
        → bit_c (record { class = c; sx = k.sx; sz = k.sz }) ≡ true → image_x c ≡ Z
    go XZ l e = absurd (true≢false (sym e))
    go YZ l e = absurd (true≢false (sym e))
    go ZX l e = refl
    go XY l e = absurd (true≢false l)
    go YX l e = absurd (true≢false l)
    go ZY l e = refl

-- the x bit after such a code: the own place where it keeps Z, the edge where it does not
uncrossed-x : (c : Class) (s t : Bool) (z x : Bool) → crossed (record { class = c; sx = s; sz = t }) ≡ false
    → x_bit (image (record { class = c; sx = s; sz = t }) (letter z x))
    ≡ cond (bit_c (record { class = c; sx = s; sz = t })) z x
uncrossed-x XZ s t false false l = refl
uncrossed-x XZ s t false true l = refl
uncrossed-x XZ s t true false l = refl
uncrossed-x XZ s t true true l = refl
uncrossed-x YZ s t false false l = refl
uncrossed-x YZ s t false true l = refl
uncrossed-x YZ s t true false l = refl
uncrossed-x YZ s t true true l = refl
uncrossed-x ZX s t false false l = refl
uncrossed-x ZX s t false true l = refl
uncrossed-x ZX s t true false l = refl
uncrossed-x ZX s t true true l = refl
uncrossed-x ZY s t false false l = refl
uncrossed-x ZY s t false true l = refl
uncrossed-x ZY s t true false l = refl
uncrossed-x ZY s t true true l = refl
uncrossed-x XY s t z x l = absurd (true≢false l)
uncrossed-x YX s t z x l = absurd (true≢false l)

-- a generator is Z at the neighbours, times X
no-phase : (z x : Bool) → (x && z) ≡ false → letter_phase (letter z false) (letter false x) ≡ i⁰
no-phase z x e =
    ap (λ b. cond b i⁰ (letter_phase (letter z false) (letter false x))) (sym e)
    ∙ phases 2 (λ z x. cond (x && z) i⁰ (letter_phase (letter z false) (letter false x))) (λ z x. i⁰) tt z x

split : (n : ℕ) (θ : Graph) → Simple n θ → (a : ℕ) → graph_generator θ a ≡ mul n (zs (θ a)) (x_at a)
unfolding mul
split n θ S a =
    Pauli-path
    (sym (fold-unit i⁰ ◌+ᵖ◌ phase_monoid n (λ q l. no-phase (θ a q) (eqb q a) (no_loop n θ S a q))))
    (λ q. sym (⊕-zero (θ a q))) (λ q. refl)

single-x : (a : ℕ) → x_at a ≡ single X a false
single-x a = Pauli-path refl (λ q. sym (and-false (eqb q a))) (λ q. sym (and-true (eqb q a)))

pub single-z : (a : ℕ) → single Z a false ≡ z_at a
single-z a = Pauli-path refl (λ q. and-true (eqb q a)) (λ q. and-false (eqb q a))

-- Z twice is nothing
z-twice : (n a : ℕ) (p : Pauli) → mul n (mul n p (z_at a)) (z_at a) ≡ p
z-twice n a p = mul_assoc n p (z_at a) (z_at a) ∙ ap (mul n p) (square n (z_at a) refl) ∙ mul-identity n p

module _ (n : ℕ) (r : GraphRecord) (S : Simple n r.graph) (a : ℕ) (ha : a < n) where
  abbrev θ : Graph
  θ = r.graph

  abbrev c : ℕ → Clifford
  c = r.codes

  -- the element: the generator of a vertex with C = 1, the identity otherwise
  abbrev pub element : Pauli
  element = chosen (bit_c (r.codes a)) (rows_of n r a)

  -- the set lies below n
  pub reach-below : (q : ℕ) → n ≤ q → reach r a q ≡ false
  reach-below q l = go (bit_c (c a))
    where
      go : (b : Bool) → cond b (θ a q) (eqb q a) ≡ false
      go true = S.below a q l
      go false = other_place {i = q} {j = a} (λ d. absurd (omega (arith, d)))

  module _ (K : crossed (r.codes a) ≡ false) where
    -- the x bits of the generators at a
    pub row-x : (j : ℕ) → (rows_of n r j).x a ≡ cond (bit_c (r.codes a)) (r.graph j a) (eqb a j)
    unfolding act
    row-x j = uncrossed-x (c a).class (c a).sx (c a).sz (θ j a) (eqb a j) K

    z-product : (b : Bool) → bit_c (c a) ≡ b
        → act n c (zs (λ q. cond b (θ a q) (eqb q a)))
        ≡ scaled (minus (cond b (c a).sx (c a).sz)) (mul n (chosen b (rows_of n r a)) (z_at a))
    z-product false e =
        ap (act n c) (sym (single-z a)) ∙ act-single n c Z a false ha
        ∙ ap (scaled m) (ap (λ l. single l a false) (kept-z (c a) e) ∙ single-z a ∙ sym (identity-mul n (z_at a)))
      where
        m : Phase
        m = minus (c a).sz
    z-product true e =
        sym (ap (λ p. scaled m (mul n p (z_at a))) row
        ∙ ap (scaled m) (scaled-mul n m (mul n W (z_at a)) (z_at a) ∙ ap (scaled m) (z-twice n a W))
        ∙ scaled-scaled m m W ∙ ap (λ t. scaled t W) (twice m (minus-real (c a).sx)))
      where
        m : Phase
        m = minus (c a).sx

        W : Pauli
        W = act n c (zs (θ a))

        own : act n c (x_at a) ≡ scaled m (z_at a)
        own = ap (act n c) (single-x a) ∙ act-single n c X a false ha
            ∙ ap (scaled m) (ap (λ l. single l a false) (rotated-x (c a) K e) ∙ single-z a)

        row : rows_of n r a ≡ scaled m (mul n W (z_at a))
        row = ap (act n c) (split n θ S a) ∙ act-mul n c (zs (θ a)) (x_at a)
            ∙ ap (mul n W) own ∙ mul-scaled n m W (z_at a)

    pub reach-z : act n r.codes (zs (reach r a)) ≡ scaled (minus (reach_minus r a)) (mul n element (z_at a))
    reach-z = z-product (bit_c (c a)) refl

    -- the set is where the generators have x bits at a
    pub x-reach : (j : ℕ) → (rows_of n r j).x a ≡ reach r a j
    x-reach j = row-x j ∙ ap₂ (cond (bit_c (c a))) (S.symmetric j a) (place-comm a j)

    -- the element has no x bit at a
    pub element-own : element.x a ≡ false
    element-own = go (bit_c (c a)) refl
      where
        go : (b : Bool) → bit_c (c a) ≡ b → (chosen b (rows_of n r a)).x a ≡ false
        go false e = refl
        go true e = row-x a ∙ ap (λ b. cond b (θ a a) (eqb a a)) e ∙ S.loopless a

-- the element of a has no x bit at b
pub element-other : (n : ℕ) (r : GraphRecord) (S : Simple n r.graph) (a b : ℕ) (ha : a < n) (hb : b < n)
    → (a ≡ b → ⊥) → crossed (r.codes b) ≡ false
    → (bit_c (r.codes a) ≡ true → bit_c (r.codes b) ≡ true → r.graph a b ≡ false)
    → (element n r S a ha).x b ≡ false
element-other n r S a b ha hb ab K h = go (bit_c (r.codes a)) refl
  where
    at : (v : Bool) → bit_c (r.codes a) ≡ true → bit_c (r.codes b) ≡ v → cond v (r.graph a b) (eqb b a) ≡ false
    at true e f = h e f
    at false e f = other_place {i = b} {j = a} (λ d. ab (sym d))

    go : (v : Bool) → bit_c (r.codes a) ≡ v → (chosen v (rows_of n r a)).x b ≡ false
    go false e = refl
    go true e = row-x n r S b hb K a ∙ at (bit_c (r.codes b)) e refl

-- in a record of reduced form no vertex of the set has 8 or 10
pub reach-kept : (n : ℕ) (r : GraphRecord) (S : Simple n r.graph) (F : ReducedForm n r) (a : ℕ) → a < n
    → (q : ℕ) → q < n → bit_c (r.codes q) ≡ true → reach r a q ≡ false
reach-kept n r S F a ha q l f = go (bit_c (r.codes a)) refl
  where
    go : (b : Bool) → bit_c (r.codes a) ≡ b → cond b (r.graph a q) (eqb q a) ≡ false
    go true e = apart n r S F a q ha l e f
    go false e = other_place {i = q} {j = a} (λ d. true≢false (sym f ∙ ap (λ v. bit_c (r.codes v)) d ∙ e))

-- a code of a reduced record is not crossed, and any two vertices of one are ready
low-uncrossed : (k : Clifford) → code_of k < 12 → crossed k ≡ false
low-uncrossed k l = go k.class l
  where
    go : (c : Class) → code_of (record { class = c; sx = k.sx; sz = k.sz }) < 12
        → crossed (record { class = c; sx = k.sx; sz = k.sz }) ≡ false
    go XZ l = refl
    go YZ l = refl
    go ZX l = refl
    go XY l = absurd (omega (arith, l))
    go YX l = absurd (omega (arith, l))
    go ZY l = refl

pub form-ready : (n : ℕ) (r : GraphRecord) → Simple n r.graph → ReducedForm n r → (a b : ℕ) → a < n → b < n
    → Ready r a b
form-ready n r S F a b ha hb =
    record {
      first = low-uncrossed (r.codes a) (F.low a ha);
      second = low-uncrossed (r.codes b) (F.low b hb);
      parted = apart n r S F a b ha hb;
    }
