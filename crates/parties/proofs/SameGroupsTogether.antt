-- A record put together of the vertices of each side: each row is that of the record that the vertex is taken from.
-- With +Z at every vertex outside s, an element that has I there is one of the whole group.
use mathlib.Core.Bool.{◌&&◌, Bool, and-true, cond, false, true}
use mathlib.Core.Path.{ap, refl, subst, sym, ◌∙◌, ◌≡◌}
use Prim.Native.Nat.{◌<◌, ℕ}
use lib.Dec.{eqb}
use Rattle.clifford.specs.Clifford.{image}
use Rattle.record.specs.Graph.{Simple}
use Rattle.operations.proofs.MeasuredRecords.{alone-row}
use Rattle.operations.specs.Measurement.{single}
use Rattle.pauli.specs.Pauli.{Pauli, identity, mul}
use Rattle.pauli.specs.declared.Letter.TheVariants.{X, Z}
use Rattle.record.specs.Records.{GraphRecord, rows_of}
use Rattle.stabilizer.proofs.Products.{product-z}
use Rattle.stabilizer.specs.Groups.{InGroup, chosen, product}
use Rattle.words.proofs.Places.{other_place, parity-at, place-comm}
use Rattle.words.proofs.Sums.{fold-ext}
use Rattle.words.specs.Bits.{Word, ◌⊕◌}
use Rattle.parties.proofs.SameGroupsRows.{apart, row-alike, row-free}
use Rattle.parties.specs.internal.Sides.{Free, MaskOf, PutTogether, Split, blank}

module _ (n : ℕ) (s : Word) (a r t : GraphRecord) (T : PutTogether n s a r t) where
  -- the neighbours and the code of a vertex of s
  pub edges-own : (i j : ℕ) → s i ≡ true → t.graph i j ≡ a.graph i j
  edges-own i j e = T.edges i j ∙ ap (λ v. cond v (a.graph i j) (r.graph i j)) e

  pub code-own : (q : ℕ) → q < n → s q ≡ true → t.codes q ≡ a.codes q
  code-own q l e = T.codes q l ∙ ap (λ v. cond v (a.codes q) (r.codes q)) e

  -- and of another one
  pub edges-other : (i j : ℕ) → s i ≡ false → t.graph i j ≡ r.graph i j
  edges-other i j e = T.edges i j ∙ ap (λ v. cond v (a.graph i j) (r.graph i j)) e

  pub code_other : (q : ℕ) → q < n → s q ≡ false → t.codes q ≡ r.codes q
  code_other q l e = T.codes q l ∙ ap (λ v. cond v (a.codes q) (r.codes q)) e

  pub row-own : Simple n a.graph → Split s a.graph → (j : ℕ) → j < n → s j ≡ true
      → rows_of n t j ≡ rows_of n a j
  row-own A Y j l e = sym (row-alike n s true a A Y j l e t (λ q. sym (edges-own j q e))
      (λ q k f. sym (code-own q k f)))

  pub row_other : Simple n r.graph → Split s r.graph → (j : ℕ) → j < n → s j ≡ false
      → rows_of n t j ≡ rows_of n r j
  row_other R Y j l e = sym (row-alike n s false r R Y j l e t (λ q. sym (edges-other j q e))
      (λ q k f. sym (code_other q k f)))

-- ---- +Z at every vertex outside s
module _ (n : ℕ) (s : Word) (r m : GraphRecord) (K : MaskOf n s r m) where
  abbrev all : ℕ → Pauli
  all = rows_of n r

  abbrev part : ℕ → Pauli
  part = rows_of n m

  own : (j : ℕ) → j < n → s j ≡ true → part j ≡ all j
  own = row-own n s r blank m K.put K.simple K.split

  other : (j : ℕ) → j < n → s j ≡ false → part j ≡ single Z j false
  other j l e =
      alone-row n m K.own-simple j l (λ q. edges-other n s r blank m K.put j q e)
      ∙ ap (λ k. single (image k X) j k.sx) (code_other n s r blank m K.put j l e)

  -- an element with I outside s is a product of rows of s alone
  unchosen : (w : Word) → Free n s false (product n n w part) → (j : ℕ) → j < n → s j ≡ false → w j ≡ false
  unchosen w F j l e =
      sym (product-z n n w part j ∙ fold-ext false ◌⊕◌ n (λ i k. ap (λ v. w i && v) (place i k (s i) refl))
      ∙ parity-at n w j l)
      ∙ F.no-z j l e
    where
      place : (i : ℕ) → i < n → (b : Bool) → s i ≡ b → (part i).z j ≡ eqb i j
      place i k true f =
          ap (λ p. p.z j) (own i k f) ∙ (row-free n s true r K.simple K.split i k f).no-z j l e
          ∙ sym (other_place (apart s false e f))
      place i k false f = ap (λ p. p.z j) (other i k f) ∙ and-true (eqb j i) ∙ place-comm j i

  pub mask-inner : (p : Pauli) → InGroup n n (rows_of n m) p → Free n s false p → InGroup n n (rows_of n r) p
  mask-inner p (w, e) F = (w, e ∙ fold-ext identity (mul n) n (λ j l. at j l (s j) refl))
    where
      at : (j : ℕ) → j < n → (b : Bool) → s j ≡ b → chosen (w j) (part j) ≡ chosen (w j) (all j)
      at j l true h = ap (chosen (w j)) (own j l h)
      at j l false h =
          let off = unchosen w (subst (Free n s false) e F) j l h in
          ap (λ b. chosen b (part j)) off ∙ sym (ap (λ b. chosen b (all j)) off)
