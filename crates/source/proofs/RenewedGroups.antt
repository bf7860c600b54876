-- A vertex without neighbours gets another code: the group has the elements with I there, joined by the new Pauli.
use mathlib.Core.Bool.{◌&&◌, Bool, and-false, false, false≢true, true}
use mathlib.Core.Logic.{◌↔◌, ◌≢◌}
use mathlib.Core.Path.{ap, ap₂, refl, subst, sym, ◌∙◌, ◌≡◌}
use Prim.Native.Nat.{◌<◌, ℕ}
use native.Mathlib.Decide.{ℕ_discrete}
use lib.Dec.{eqb}
use Rattle.clifford.specs.Clifford.{Clifford, image, image_phase}
use Rattle.clifford.specs.Vectors.{act}
use Rattle.record.specs.Graph.{Simple}
use Rattle.operations.proofs.MeasuredRecords.{acts, alone-row, image-acts}
use Rattle.operations.specs.Measurement.{single}
use Rattle.pauli.proofs.PauliLaws.{Pauli-path}
use Rattle.pauli.specs.Pauli.{Pauli, i⁰, ◌+ᵖ◌, identity, letter, letter_at, mul, x_bit, z_bit}
use Rattle.pauli.specs.declared.Letter.{Letter}
use Rattle.pauli.specs.declared.Letter.TheVariants.{I, X, Y, Z}
use Rattle.record.proofs.ReducedRecords.{record-proper}
use Rattle.record.specs.Records.{GraphRecord, rows_of}
use Rattle.stabilizer.proofs.GroupLaws.{in-mul, in_row, row-product}
use Rattle.stabilizer.proofs.Products.{product-mul, product-x, product-z}
use Rattle.stabilizer.specs.Groups.{Commuting, InGroup, chosen, product}
use Rattle.words.proofs.Finite.{⊕-assoc, ⊕-self, ⊕-zero}
use Rattle.words.proofs.Places.{other_place, put_other, put_same, same_place}
use Rattle.words.proofs.Sums.{bit_monoid, fold-ext, fold-one}
use Rattle.words.specs.Bits.{Word, put, ◌⊕◌}
use Rattle.source.specs.Renewal.{Renewed, joined, kept}
use Rattle.source.specs.internal.Renewal.{recoded_at}

-- a letter with both bits false is I
bits-of-I : (z x : Bool) → letter z x ≡ I → (z ≡ false) × (x ≡ false)
bits-of-I false false e = (refl, refl)
bits-of-I false true e = absurd (false≢true (sym (ap acts e)))
bits-of-I true false e = absurd (false≢true (sym (ap acts e)))
bits-of-I true true e = absurd (false≢true (sym (ap acts e)))

-- a letter that acts is chosen where a bit is
no-choice : (l : Letter) (b : Bool) → acts l ≡ true → (b && z_bit l) ≡ false → (b && x_bit l) ≡ false → b ≡ false
no-choice l false a z x = refl
no-choice I true a z x = absurd (false≢true a)
no-choice X true a z x = absurd (false≢true (sym x))
no-choice Y true a z x = absurd (false≢true (sym x))
no-choice Z true a z x = absurd (false≢true (sym z))

module _ (n : ℕ) (r : GraphRecord) (S : Simple n r.graph) (q : ℕ) (hq : q < n)
    (alone : (j : ℕ) → r.graph q j ≡ false)
    (k : Clifford) where
  abbrev rows : ℕ → Pauli
  rows = rows_of n r

  abbrev new : ℕ → Pauli
  new = rows_of n (recoded_at r q k)

  abbrev P : Pauli
  P = single (image k X) q k.sx

  -- the rows of the other vertices have I at q
  into : (j : ℕ) → r.graph j q ≡ false
  into j = S.symmetric j q ∙ alone j

  free : (f : Letter → Bool) → f I ≡ false → (c : Clifford) (j : ℕ) → j ≢ q
      → f (image c (letter (r.graph j q) (eqb q j))) ≡ false
  free f none c j d = ap₂ (λ z x. f (image c (letter z x))) (into j) (other_place (λ e. d (sym e))) ∙ none

  -- so they stay
  same_row : (j : ℕ) → j ≢ q → new j ≡ rows j
  unfolding act
  same_row j d =
      Pauli-path (fold-ext i⁰ ◌+ᵖ◌ n (λ t l. at image_phase (λ c. refl) t (ℕ_discrete t q)))
      (λ t. at (λ c a. z_bit (image c a)) (λ c. refl) t (ℕ_discrete t q))
      (λ t. at (λ c a. x_bit (image c a)) (λ c. refl) t (ℕ_discrete t q))
    where
      at : {A : Type 0} {none : A} (f : Clifford → Letter → A) → ((c : Clifford) → f c I ≡ none) → (t : ℕ) → Dec (t ≡ q)
          → f (put r.codes q k t) (letter (r.graph j t) (eqb t j)) ≡ f (r.codes t)
          (letter (r.graph j t) (eqb t j))
      at f e t (no h) = ap (λ c. f c (letter (r.graph j t) (eqb t j))) (put_other r.codes q k t h)
      at f e t (yes h) =
          let here : letter (r.graph j t) (eqb t j) ≡ I =
          ap (λ t. letter (r.graph j t) (eqb t j)) h ∙ ap₂ letter (into j) (other_place (λ e. d (sym e))) in
          ap (f (put r.codes q k t)) here ∙ e _ ∙ sym (e _) ∙ sym (ap (f (r.codes t)) here)

  own_row : new q ≡ P
  own_row = alone-row n (recoded_at r q k) S q hq alone
      ∙ ap (λ c. single (image c X) q c.sx) (put_same r.codes q k)

  old_row : rows q ≡ single (image (r.codes q) X) q (r.codes q).sx
  old_row = alone-row n r S q hq alone

  -- products that do not choose q
  same-product : (w : Word) → w q ≡ false → product n n w new ≡ product n n w rows
  same-product w e = fold-ext identity (mul n) n (λ j l. at j (ℕ_discrete j q))
    where
      at : (j : ℕ) → Dec (j ≡ q) → chosen (w j) (new j) ≡ chosen (w j) (rows j)
      at j (no d) = ap (chosen (w j)) (same_row j d)
      at j (yes d) = let off : w j ≡ false = ap w d ∙ e in
          ap (λ b. chosen b (new j)) off ∙ sym (ap (λ b. chosen b (rows j)) off)

  -- the letter of a product at q is that of row q where it is chosen
  x-at : (w : Word) → (product n n w rows).x q ≡ (w q && x_bit (image (r.codes q) X))
  unfolding act
  x-at w = product-x n n w rows q
      ∙ fold-one false ◌⊕◌ bit_monoid n q hq (λ j l d. ap (λ b. w j && b) (row-x j d) ∙ and-false (w j))
      ∙ ap (λ p. w q && p.x q) old_row ∙ ap (λ b. w q && (b && x_bit (image (r.codes q) X))) (same_place q)
    where
      row-x : (j : ℕ) → j ≢ q → (rows j).x q ≡ false
      row-x j d = free x_bit refl (r.codes q) j d

  z-at : (w : Word) → (product n n w rows).z q ≡ (w q && z_bit (image (r.codes q) X))
  unfolding act
  z-at w = product-z n n w rows q
      ∙ fold-one false ◌⊕◌ bit_monoid n q hq (λ j l d. ap (λ b. w j && b) (row-z j d) ∙ and-false (w j))
      ∙ ap (λ p. w q && p.z q) old_row ∙ ap (λ b. w q && (b && z_bit (image (r.codes q) X))) (same_place q)
    where
      row-z : (j : ℕ) → j ≢ q → (rows j).z q ≡ false
      row-z j d = free z_bit refl (r.codes q) j d

  -- an element without q has I there, and back
  without-q : (w : Word) → w q ≡ false → letter_at (product n n w rows) q ≡ I
  without-q w e = ap₂ letter (z-at w ∙ ap (λ b. b && z_bit (image (r.codes q) X)) e)
      (x-at w ∙ ap (λ b. b && x_bit (image (r.codes q) X)) e)

  with-I : (w : Word) → letter_at (product n n w rows) q ≡ I → w q ≡ false
  with-I w e =
      let b = bits-of-I _ _ e in
      no-choice (image (r.codes q) X) (w q) (image-acts (r.codes q).class) (sym (z-at w) ∙ b.0)
      (sym (x-at w) ∙ b.1)

  commuting : Commuting n n new
  commuting = (record-proper n (recoded_at r q k) S).commuting

  stays-in : {p : Pauli} → InGroup n n rows p → letter_at p q ≡ I → InGroup n n new p
  stays-in (w, e) i = (w, e ∙ sym (same-product w (with-I w (ap (λ p. letter_at p q) (sym e) ∙ i))))

  back : (p : Pauli) → Renewed n (InGroup n n rows) q P p → InGroup n n new p
  back p (kept a i) = stays-in a i
  back p (joined a i) = in-mul n n new commuting (stays-in a i) (subst (InGroup n n new) own_row (in_row n n new q hq))

  there : (p : Pauli) → InGroup n n new p → Renewed n (InGroup n n rows) q P p
  there p (w, e) = go (w q) refl
    where
      off : Word
      off j = w j ⊕ eqb j q

      again : (a b : Bool) → (a ⊕ b) ⊕ b ≡ a
      again a b = ⊕-assoc a b b ∙ ap (λ c. a ⊕ c) (⊕-self b) ∙ ⊕-zero a

      parted : product n n w new ≡ mul n (product n n off new) P
      parted = ap (λ v. product n n v new) (λ i j. sym (again (w j) (eqb j q)) i)
          ∙ sym (product-mul n n new commuting off (λ j. eqb j q))
          ∙ ap (mul n (product n n off new)) (sym (row-product n n new q hq) ∙ own_row)

      go : (b : Bool) → w q ≡ b → Renewed n (InGroup n n rows) q P p
      go false h = subst (Renewed n (InGroup n n rows) q P) (sym (e ∙ same-product w h))
          (kept (w, refl) (without-q w h))
      go true h =
          let h₀ : off q ≡ false = ap₂ ◌⊕◌ h (same_place q) in
          subst (Renewed n (InGroup n n rows) q P)
          (sym (e ∙ parted ∙ ap (λ s. mul n s P) (same-product off h₀)))
          (joined (off, refl) (without-q off h₀))

  pub renewed-group : (p : Pauli) → InGroup n n (rows_of n (recoded_at r q k)) p
      ↔ Renewed n (InGroup n n (rows_of n r)) q (single (image k X) q k.sx) p
  renewed-group p = (there p, back p)
