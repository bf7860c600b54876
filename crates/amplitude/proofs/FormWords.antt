-- Records of reduced form: a word is supported exactly if it solves one equation for each vertex with a Hadamard; some
-- word does; and some element leads from any supported word to any other.
use mathlib.Core.Bool.{◌&&◌, Bool, and_comm, and-false, cond, false, not, true, true≢false}
use mathlib.Core.Path.{◌∙◌, ◌≡◌, ap, ap₂, refl, sym}
use Prim.Native.Nat.{◌<◌, suc, zero, ℕ, ◌≤◌}
use native.Mathlib.Nat.{le_refl}
use native.Mathlib.Omega.{arith}
use lib.Dec.{eqb}
use Rattle.clifford.specs.Clifford.{bit_c}
use Rattle.record.specs.Graph.{Simple}
use Rattle.operations.proofs.ReducedForms.{apart, form-x}
use Rattle.operations.specs.internal.ReducedForms.{ReducedForm}
use Rattle.pauli.proofs.PhaseLaws.{minus-injective, minus-⊕}
use Rattle.pauli.specs.Pauli.{◌+ᵖ◌, Pauli, i⁰, minus}
use Rattle.record.specs.Records.{GraphRecord, rows_of}
use Rattle.stabilizer.proofs.GroupLaws.{in_row}
use Rattle.stabilizer.proofs.Products.{product-x}
use Rattle.stabilizer.specs.Groups.{chosen, product}
use Rattle.words.proofs.Finite.{bits, ⊕-and, ⊕-zero}
use Rattle.words.proofs.Places.{parity-at, place-comm}
use Rattle.words.proofs.Sums.{bit_monoid, fold-ext, fold-unit, parity-add}
use Rattle.words.specs.Bits.{Word, ◌⊕◌, fold, parity}
use Rattle.amplitude.proofs.FormRows.{diagonal-turns, rotated-diagonal, rotated-phase, rotated-z}
use Rattle.amplitude.proofs.Support.{turns-ext, turns-identity}
use Rattle.amplitude.proofs.TurnLaws.{turns-mul}
use Rattle.amplitude.specs.internal.Ratios.{Diagonal, Supported}
use Rattle.amplitude.specs.Ratios.{Leads}
use Rattle.amplitude.specs.Turns.{turns_at}

-- three bits with sum 0
solved : (s y t : Bool) → s ⊕ (y ⊕ t) ≡ false → y ≡ s ⊕ t
solved s y t e = sym (again s y t) ∙ ap (λ b. s ⊕ (t ⊕ b)) e ∙ plain s t
  where
    plain : (s t : Bool) → s ⊕ (t ⊕ false) ≡ s ⊕ t
    plain = bits 2 (λ s t. s ⊕ (t ⊕ false)) (λ s t. s ⊕ t) tt

    again : (s y t : Bool) → s ⊕ (t ⊕ (s ⊕ (y ⊕ t))) ≡ y
    again = bits 3 (λ s y t. s ⊕ (t ⊕ (s ⊕ (y ⊕ t)))) (λ s y t. y) tt

module _ (n : ℕ) (r : GraphRecord) (S : Simple n r.graph) (F : ReducedForm n r) where
  abbrev rows : ℕ → Pauli
  rows = rows_of n r

  abbrev rotated : ℕ → Bool
  rotated q = bit_c (r.codes q)

  -- the neighbours of j in y, modulo 2
  abbrev around : ℕ → Word → Bool
  around j y = parity n (λ q. r.graph j q && y q)

  -- the equation of a vertex with a Hadamard: its bit is the sign of its code and its neighbours' bits
  abbrev pub Solves : Word → Type 0
  Solves y = (j : ℕ) → j < n → bit_c (r.codes j) ≡ true
      → y j ≡ (r.codes j).sx ⊕ parity n (λ q. r.graph j q && y q)

  row-turns : (j : ℕ) → j < n → rotated j ≡ true → (y : Word)
      → turns_at n (rows j) y ≡ minus ((r.codes j).sx ⊕ (y j ⊕ around j y))
  row-turns j hj c y =
      diagonal-turns n (rows j) (rotated-diagonal n r S F j hj c) y
      ∙ ap₂ ◌+ᵖ◌ (rotated-phase n r S F j hj c) (ap minus
      (fold-ext false ◌⊕◌ n (λ q l. ap (λ b. b && y q) (rotated-z n r S F j hj c q l)
      ∙ ⊕-and (eqb q j) (r.graph j q) (y q) ∙ ap (λ b. b ⊕ (r.graph j q && y q)) (and_comm (eqb q j) (y q)))
      ∙ parity-add n (λ q. y q && eqb q j) (λ q. r.graph j q && y q)
      ∙ ap (λ b. b ⊕ around j y) (parity-at n y j hj)))
      ∙ sym (minus-⊕ (r.codes j).sx (y j ⊕ around j y))

  pub supported-solves : (y : Word) → Supported n rows y → Solves y
  supported-solves y H j hj c = solved (r.codes j).sx (y j) (around j y) (minus-injective _ false
      (sym (row-turns j hj c y) ∙ H (rows j) (in_row n n rows j hj) (rotated-diagonal n r S F j hj c)))

  -- ---- the diagonal elements are the products of these generators
  kept-bit : (w : Word) (j : ℕ) → j < n → rotated j ≡ false → (product n n w rows).x j ≡ w j
  kept-bit w j hj c = product-x n n w rows j
      ∙ fold-ext false ◌⊕◌ n (λ i l. ap (λ b. w i && b) (form-x n r S F i j hj
      ∙ ap (λ b. cond b (r.graph i j) (eqb j i)) c ∙ place-comm j i)) ∙ parity-at n w j hj

  only-rotated : (w : Word) → Diagonal n (product n n w rows) → (j : ℕ) → j < n → w j ≡ true → rotated j ≡ true
  only-rotated w d j hj e = go (rotated j) refl
    where
      go : (b : Bool) → rotated j ≡ b → b ≡ true
      go true c = refl
      go false c = absurd (true≢false (sym e ∙ sym (kept-bit w j hj c) ∙ d j hj))

  module _ (y : Word) (H : Solves y) where
    row-fixes : (j : ℕ) → j < n → rotated j ≡ true → turns_at n (rows j) y ≡ i⁰
    row-fixes j hj c = row-turns j hj c y
        ∙ ap (λ b. minus ((r.codes j).sx ⊕ (b ⊕ around j y))) (H j hj c)
        ∙ ap minus (back (r.codes j).sx (around j y))
      where
        back : (s t : Bool) → s ⊕ ((s ⊕ t) ⊕ t) ≡ false
        back = bits 2 (λ s t. s ⊕ ((s ⊕ t) ⊕ t)) (λ s t. false) tt

    products-fix : (m : ℕ) → m ≤ n → (w : Word) → ((j : ℕ) → j < n → w j ≡ true → rotated j ≡ true)
        → turns_at n (product n m w rows) y ≡ i⁰
    unfolding fold
    products-fix zero l w h = turns-identity n y
    products-fix (suc m) l w h =
        turns-mul n (product n m w rows) (chosen (w m) (rows m)) y ∙ last (w m) refl
        ∙ products-fix m (omega arith) w h
      where
        last : (b : Bool) → w m ≡ b → turns_at n (chosen b (rows m)) y
            +ᵖ turns_at n (product n m w rows) (λ q. y q ⊕ (chosen b (rows m)).x q)
            ≡ turns_at n (product n m w rows) y
        last false e = ap₂ ◌+ᵖ◌ (turns-identity n y)
            (turns-ext n (product n m w rows) _ y (λ q k. ⊕-zero (y q)))
        last true e =
            let c = h m (omega arith) e in
            ap₂ ◌+ᵖ◌ (row-fixes m (omega arith) c)
            (turns-ext n (product n m w rows) _ y
            (λ q k. ap (λ b. y q ⊕ b) (rotated-diagonal n r S F m (omega arith) c q k) ∙ ⊕-zero (y q)))

    pub solves-supported : Supported n (rows_of n r) y
    solves-supported p a d = ap (λ s. turns_at n s y) a.1
        ∙ products-fix n (le_refl n) a.0 (only-rotated a.0 (λ q l. ap (λ s. s.x q) (sym a.1) ∙ d q l))

  -- ---- one that solves all: the signs, at these vertices alone
  unfoldable pub first_word : Word
  first_word q = bit_c (r.codes q) && (r.codes q).sx

  pub first-solves : Solves first_word
  unfolding first_word
  first-solves j hj c =
      ap (λ b. b && (r.codes j).sx) c
      ∙ sym (ap (λ b. (r.codes j).sx ⊕ b) (fold-unit false ◌⊕◌ bit_monoid n (λ q l. none q l (rotated q) refl))
      ∙ ⊕-zero (r.codes j).sx)
    where
      none : (q : ℕ) → q < n → (b : Bool) → rotated q ≡ b → (r.graph j q && (b && (r.codes q).sx)) ≡ false
      none q l false e = and-false (r.graph j q)
      none q l true e = ap (λ b. b && (r.codes q).sx) (apart n r S F j q hj l c e)

  -- ---- from one to another
  module _ (a b : Word) (H : Solves a) (K : Solves b) where
    -- the kept qubits where they differ choose the generators
    unfoldable pub between : Word
    between j = not (bit_c (r.codes j)) && (a j ⊕ b j)

    differ : (j : ℕ) → j < n → rotated j ≡ true → a j ⊕ b j ≡ parity n (λ q. (a q ⊕ b q) && r.graph q j)
    differ j hj c =
        ap₂ ◌⊕◌ (H j hj c) (K j hj c) ∙ without (r.codes j).sx (around j a) (around j b)
        ∙ sym (parity-add n (λ q. r.graph j q && a q) (λ q. r.graph j q && b q))
        ∙ fold-ext false ◌⊕◌ n (λ q l. joined (r.graph j q) (a q) (b q)
        ∙ ap (λ e. (a q ⊕ b q) && e) (S.symmetric j q))
      where
        without : (s t u : Bool) → (s ⊕ t) ⊕ (s ⊕ u) ≡ t ⊕ u
        without = bits 3 (λ s t u. (s ⊕ t) ⊕ (s ⊕ u)) (λ s t u. t ⊕ u) tt

        joined : (g a b : Bool) → (g && a) ⊕ (g && b) ≡ ((a ⊕ b) && g)
        joined = bits 3 (λ g a b. (g && a) ⊕ (g && b)) (λ g a b. (a ⊕ b) && g) tt

    pub leads-between : Leads n (product n n between (rows_of n r)) a b
    unfolding between
    leads-between q hq = product-x n n between rows q ∙ go (rotated q) refl
      where
        term : (v : Bool) → rotated q ≡ v → (j : ℕ) → j < n
            → (between j && (rows j).x q) ≡ (between j && cond v (r.graph j q) (eqb q j))
        term v c j l = ap (λ e. between j && e) (form-x n r S F j q hq ∙ ap (λ b. cond b (r.graph j q) (eqb q j)) c)

        kept : rotated q ≡ true → (j : ℕ) → j < n → (v : Bool) → rotated j ≡ v
            → ((not v && (a j ⊕ b j)) && r.graph j q) ≡ ((a j ⊕ b j) && r.graph j q)
        kept c j l false e = refl
        kept c j l true e = sym (ap (λ g. (a j ⊕ b j) && g) (apart n r S F j q l hq e c) ∙ and-false (a j ⊕ b j))

        go : (v : Bool) → rotated q ≡ v → parity n (λ j. between j && (rows j).x q) ≡ a q ⊕ b q
        go false c = fold-ext false ◌⊕◌ n (λ j l. term false c j l ∙ ap (λ e. between j && e) (place-comm q j))
            ∙ parity-at n between q hq ∙ ap (λ v. not v && (a q ⊕ b q)) c
        go true c = fold-ext false ◌⊕◌ n (λ j l. term true c j l ∙ kept c j l (rotated j) refl) ∙ sym (differ q hq c)
