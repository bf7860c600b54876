-- Records of reduced form: the products of generators of vertices without a Hadamard, and what they give the word that
-- has none of these vertices.
use mathlib.Core.Bool.{◌&&◌, Bool, and-false, and-true, cond, false, not, true, true≢false}
use mathlib.Core.Logic.{inl, inr}
use mathlib.Core.Path.{◌∙◌, ◌≡◌, ap, ap₂, refl, sym}
use Prim.Native.Nat.{◌<◌, suc, zero, ℕ, ◌≤◌}
use native.Mathlib.Nat.{le_refl}
use native.Mathlib.Omega.{arith}
use lib.Dec.{eqb, ltb}
use borrow.Author.Tests.{le-ltb, lt-ltb}
use Rattle.clifford.specs.Clifford.{Class, Clifford, XY, XZ, YX, YZ, ZX, ZY, bit_c, code_of, image, image_phase}
use Rattle.clifford.specs.Vectors.{act}
use Rattle.record.proofs.GraphGroups.{no_loop}
use Rattle.record.specs.Graph.{Simple}
use Rattle.operations.proofs.ReducedForms.{form-x}
use Rattle.operations.specs.internal.ReducedForms.{ReducedForm}
use Rattle.pauli.proofs.PauliLaws.{letter-bits, mul_comm, mul-identity}
use Rattle.pauli.proofs.PhaseLaws.{+ᵖ-assoc, +ᵖ-zero, minus-⊕, sum_phase-add, sum_phase-one}
use Rattle.pauli.specs.Pauli.{◌+ᵖ◌, Pauli, anticommute, i⁰, letter, minus, mul, sum_phase}
use Rattle.pauli.specs.declared.Letter.TheVariants.{X}
use Rattle.record.proofs.ReducedRecords.{record-proper}
use Rattle.record.specs.Records.{GraphRecord, rows_of}
use Rattle.stabilizer.proofs.Products.{anticommute-product, product-x}
use Rattle.stabilizer.specs.Groups.{chosen, product}
use Rattle.words.proofs.Places.{other_place, parity-at, place-comm}
use Rattle.words.proofs.Sums.{bit_monoid, fold-ext, fold-hom, fold_more, fold-unit, lt-or-ge}
use Rattle.words.specs.Bits.{Word, ◌⊕◌, fold, parity}
use Rattle.amplitude.proofs.Support.{turns-identity}
use Rattle.amplitude.proofs.TurnLaws.{turns-mul}
use Rattle.amplitude.specs.internal.KeptTurns.{unit_of}
use Rattle.amplitude.specs.Turns.{letter_turns, turns_at}

-- ---- a place of a generator: g, an edge; e, the own place; b, the word's bit
phase-place : (k : Clifford) (g e : Bool) → k.sz ≡ false → (e && g) ≡ false
    → image_phase k (letter g e) ≡ cond e (minus k.sx) i⁰
phase-place k false false z h = refl
phase-place k false true z h = refl
phase-place k true false z h = ap minus z
phase-place k true true z h = absurd (true≢false h)

turns-place : (c : Class) (s t g e b : Bool) → code_of (record { class = c; sx = s; sz = t }) < 12 → (e && g) ≡ false
    → letter_turns (image (record { class = c; sx = s; sz = t }) (letter g e)) b
    ≡ cond e (letter_turns (image (record { class = c; sx = s; sz = t }) X) b) i⁰
    +ᵖ minus ((g && not (bit_c (record { class = c; sx = s; sz = t }))) && b)
turns-place c s t true true b l h = absurd (true≢false h)
turns-place c s t false false b l h = refl
turns-place c s t false true b l h = sym (+ᵖ-zero _)
turns-place XZ s t true false false l h = refl
turns-place XZ s t true false true l h = refl
turns-place YZ s t true false false l h = refl
turns-place YZ s t true false true l h = refl
turns-place ZX s t true false b l h = refl
turns-place XY s t true false b l h = absurd (omega (arith, l))
turns-place YX s t true false b l h = absurd (omega (arith, l))
turns-place ZY s t true false b l h = absurd (omega (arith, l))

module _ (n : ℕ) (r : GraphRecord) (S : Simple n r.graph) (F : ReducedForm n r) where
  abbrev rows : ℕ → Pauli
  rows = rows_of n r

  -- what a generator gives a word
  row-turns : (j : ℕ) → j < n → (u : Word) → turns_at n (rows j) u
      ≡ (minus (r.codes j).sx +ᵖ letter_turns (image (r.codes j) X) (u j))
      +ᵖ minus (parity n (λ q. (r.graph j q && not (bit_c (r.codes q))) && u q))
  unfolding turns_at act
  row-turns j l u =
      ap₂ ◌+ᵖ◌
      (fold-ext i⁰ ◌+ᵖ◌ n (λ q k. phase-place (r.codes q) (r.graph j q) (eqb q j) (F.even q k)
      (no_loop n r.graph S j q))
      ∙ sum_phase-one n j l (λ q. minus (r.codes q).sx))
      (fold-ext i⁰ ◌+ᵖ◌ n (λ q k. ap (λ a. letter_turns a (u q))
      (letter-bits (image (r.codes q) (letter (r.graph j q) (eqb q j))))
      ∙ turns-place (r.codes q).class (r.codes q).sx (r.codes q).sz (r.graph j q) (eqb q j) (u q)
      (F.low q k) (no_loop n r.graph S j q))
      ∙ sum_phase-add n (λ q. cond (eqb q j) (letter_turns (image (r.codes q) X) (u q)) i⁰)
      (λ q. minus ((r.graph j q && not (bit_c (r.codes q))) && u q))
      ∙ ap₂ ◌+ᵖ◌ (sum_phase-one n j l (λ q. letter_turns (image (r.codes q) X) (u q)))
      (sym (fold-hom false ◌⊕◌ i⁰ ◌+ᵖ◌ minus refl minus-⊕ n (λ q. (r.graph j q && not (bit_c (r.codes q))) && u q))))
      ∙ sym (+ᵖ-assoc (minus (r.codes j).sx) _ _)

  -- ---- products of the generators of kept vertices that w names, at a word e that has no kept vertex
  module _ (w e : Word) (kept : (j : ℕ) → bit_c (r.codes j) ≡ true → w j ≡ false)
      (empty : (j : ℕ) → bit_c (r.codes j) ≡ false → e j ≡ false) where
    -- the word that the first m of them lead to, at a kept vertex
    reached : (m : ℕ) → m ≤ n → (q : ℕ) → q < n → bit_c (r.codes q) ≡ false
        → e q ⊕ (product n m w rows).x q ≡ parity m (λ i. w i && eqb i q)
    reached m l q k c = ap₂ ◌⊕◌ (empty q c) (product-x n m w rows q
        ∙ fold-ext false ◌⊕◌ m (λ i o. ap (λ b. w i && b) (form-x n r S F i q k
        ∙ ap (λ b. cond b (r.graph i q) (eqb q i)) c ∙ place-comm q i)))

    reached-below : (m : ℕ) → m ≤ n → (q : ℕ) → q < m → bit_c (r.codes q) ≡ false
        → e q ⊕ (product n m w rows).x q ≡ w q
    reached-below m l q k c = reached m l q (omega arith) c ∙ parity-at m w q k

    reached-above : (m : ℕ) → m ≤ n → (q : ℕ) → m ≤ q → q < n → bit_c (r.codes q) ≡ false
        → e q ⊕ (product n m w rows).x q ≡ false
    reached-above m l q k h c = reached m l q h c
        ∙ fold-unit false ◌⊕◌ bit_monoid m (λ i o. ap (λ b. w i && b)
        (other_place {i = i} {j = q} (λ d. absurd (omega (arith, d, k, o)))) ∙ and-false (w i))

    -- the neighbours that count
    neighbours : (m : ℕ) → m < n
        → parity n (λ q. (r.graph m q && not (bit_c (r.codes q))) && (e q ⊕ (product n m w rows).x q))
        ≡ parity m (λ q. r.graph m q && w q)
    neighbours m l =
        fold-ext false ◌⊕◌ n (λ q k. go q k (bit_c (r.codes q)) refl)
        ∙ fold_more false ◌⊕◌ bit_monoid m n (omega arith) (λ q k. ap (λ b. r.graph m q && b) (up q k) ∙ and-false
        (r.graph m q))
        ∙ fold-ext false ◌⊕◌ m (λ q k. ap (λ b. r.graph m q && b) (down q k))
      where
        -- w below m, nothing from m on
        up : (q : ℕ) → m ≤ q → (ltb q m && w q) ≡ false
        up q k = ap (λ b. b && w q) (le-ltb q m k)

        down : (q : ℕ) → q < m → (ltb q m && w q) ≡ w q
        down q k = ap (λ b. b && w q) (lt-ltb q m k)

        go : (q : ℕ) → q < n → (c : Bool) → bit_c (r.codes q) ≡ c
            → ((r.graph m q && not c) && (e q ⊕ (product n m w rows).x q)) ≡ (r.graph m q && (ltb q m && w q))
        go q k true c = ap (λ b. b && (e q ⊕ (product n m w rows).x q)) (and-false (r.graph m q))
            ∙ sym (ap (λ b. r.graph m q && b) (ap (λ b. ltb q m && b) (kept q c) ∙ and-false (ltb q m))
            ∙ and-false (r.graph m q))
        go q k false c = ap₂ ◌&&◌ (and-true (r.graph m q)) (elim (lt-or-ge q m) [
          | inl o ↦ reached-below m (omega arith) q o c ∙ sym (down q o)
          | inr o ↦ reached-above m (omega arith) q o k c ∙ sym (up q o)
        ])

    -- one generator more
    next-turns : (m : ℕ) → m < n → w m ≡ true
        → turns_at n (rows m) (λ q. e q ⊕ (product n m w rows).x q)
        ≡ unit_of (r.codes m) +ᵖ minus (parity m (λ q. r.graph m q && w q))
    next-turns m l h =
        row-turns m l (λ q. e q ⊕ (product n m w rows).x q)
        ∙ ap₂ (λ b c. (minus (r.codes m).sx +ᵖ letter_turns (image (r.codes m) X) b) +ᵖ minus c)
        (reached-above m (omega arith) m (le_refl m) l (free (bit_c (r.codes m)) refl)) (neighbours m l)
      where
        free : (c : Bool) → bit_c (r.codes m) ≡ c → c ≡ false
        free false c = refl
        free true c = absurd (true≢false (sym h ∙ kept m c))

    pub products-turn : (m : ℕ) → m ≤ n → turns_at n (product n m w rows) e
        ≡ sum_phase m (λ j. cond (w j) (unit_of (r.codes j) +ᵖ minus (parity j (λ q. r.graph j q && w q))) i⁰)
    unfolding fold
    products-turn zero l = turns-identity n e
    products-turn (suc m) l = last (w m) refl (products-turn m (omega arith))
      where
        abelian : anticommute n (product n m w rows) (rows m) ≡ false
        abelian = anticommute-product n m w rows (rows m)
            (λ j k. (record-proper n r S).commuting.commute j m (omega arith) (omega arith))

        last : (b : Bool) → w m ≡ b
            → turns_at n (product n m w rows) e
            ≡ sum_phase m (λ j. cond (w j) (unit_of (r.codes j) +ᵖ minus (parity j (λ q. r.graph j q && w q))) i⁰)
            → turns_at n (mul n (product n m w rows) (chosen b (rows m))) e
            ≡ sum_phase m (λ j. cond (w j) (unit_of (r.codes j) +ᵖ minus (parity j (λ q. r.graph j q && w q))) i⁰)
            +ᵖ cond b (unit_of (r.codes m) +ᵖ minus (parity m (λ q. r.graph m q && w q))) i⁰
        last false h ih = ap (λ p. turns_at n p e) (mul-identity n (product n m w rows)) ∙ ih ∙ sym (+ᵖ-zero _)
        last true h ih = ap (λ p. turns_at n p e) (mul_comm n (product n m w rows) (rows m) abelian)
            ∙ turns-mul n (rows m) (product n m w rows) e ∙ ap₂ ◌+ᵖ◌ ih (next-turns m (omega arith) h)
