-- The one product of a record's generators that can be a given row: its word is read off the row's x bits once the
-- record's codes are undone.
use mathlib.Core.Bool.{Bool, beq, not, true}
use mathlib.Core.Path.{ap, refl, sym, ◌∙◌, ◌≡◌}
use Prim.Native.Nat.{◌<◌, ℕ, ◌≤◌}
use lib.Bits.{bit_xor}
use Rattle.clifford.proofs.VectorLaws.{act-inverse}
use Rattle.clifford.specs.Clifford.{Clifford, image, inverse}
use Rattle.clifford.specs.Vectors.{act}
use Rattle.record.proofs.GraphGroups.{element-x}
use Rattle.record.specs.Graph.{graph_generator}
use Rattle.pauli.proofs.WordRows.{signed_mul}
use Rattle.pauli.specs.Pauli.{
  Pauli,
  identity,
  i⁰,
  i²,
  letter,
  minus,
  mul,
  row,
  scaled,
  signed_row,
  x_bit,
}
use Rattle.pauli.specs.internal.Rows.{generator_of}
use Rattle.pauli.specs.declared.Generator.{Generator}
use Rattle.record.proofs.Maximality.{inclusion-same}
use Rattle.record.proofs.ReducedRecords.{record-proper}
use Rattle.record.specs.Records.{record_row}
use Rattle.stabilizer.proofs.Carried.{act-product, carries_same}
use Rattle.stabilizer.proofs.EqualRows.{product-equal, proper-equal}
use Rattle.stabilizer.proofs.Independence.{act-proper}
use Rattle.stabilizer.proofs.Multiplying.{Multiplied, all-multiplied}
use Rattle.stabilizer.proofs.Within.{act-wide, element-within}
use Rattle.stabilizer.specs.Groups.{InGroup, Proper, Within, chosen, product}
use Rattle.words.proofs.Finite.{unequal}
use Rattle.words.proofs.Sums.{fold-ext}
use Rattle.words.specs.Bits.{◌⊕◌}
use Rattle.comparison.proofs.Least.{act-within}
use Rattle.comparison.proofs.Members.{carries-is}
use Rattle.comparison.specs.Choices.{is_carrying}
use Rattle.comparison.specs.internal.Setting.{Framed, Guessed}

module _ (n : ℕ) (rows : ℕ → Pauli) (frame : ℕ → Clifford) (F : Framed n rows frame) where
  pub framed-proper : Proper n rows
  framed-proper =
      proper-equal n (record_row n F.graph F.codes) rows (λ j l. sym (F.generators j l))
      (record-proper n (record { graph = F.graph; codes = F.codes }) F.simple)

  pub element-word : (p : Pauli) → InGroup n n rows p → p ≡ product n n (λ q. (act n frame p).x q) rows
  element-word p a = a.1 ∙ fold-ext identity (mul n) n (λ j l. ap (λ b. chosen b (rows j)) (sym (word j l)))
    where
      plain : Pauli
      plain = product n n a.0 (graph_generator F.graph)

      sent : p ≡ act n F.codes plain
      sent =
          a.1 ∙ product-equal n rows (record_row n F.graph F.codes) F.generators a.0
          ∙ sym (act-product n n (graph_generator F.graph) F.codes a.0)

      within : Within n p
      within = element-within n n rows framed-proper.within a

      undone : act n frame p ≡ plain
      undone =
          act-within n frame (λ q. inverse (F.codes q)) F.undoes p within
          ∙ ap (act n (λ q. inverse (F.codes q))) sent ∙ act-inverse n F.codes plain

      word : (j : ℕ) → j < n → (act n frame p).x j ≡ a.0 j
      word j l = ap (λ r. r.x j) undone ∙ element-x n F.graph F.simple a.0 j l

-- ---- the code's products
pub generator-times : (p g : Generator) (s : Bool)
    → (mul 64 (row i⁰ p.z p.x) (row i⁰ g.z g.x)).phase ≡ minus s
    → signed_row (not (beq (not (beq p.minus g.minus)) s)) (bit_xor p.z g.z)
    (bit_xor p.x g.x)
    ≡ mul 64 (generator_of p) (generator_of g)
generator-times p g s h =
    ap (λ b. signed_row b (bit_xor p.z g.z) (bit_xor p.x g.x))
    (unequal (not (beq p.minus g.minus)) s ∙ ap (λ b. b ⊕ s) (unequal p.minus g.minus))
    ∙ sym (signed_mul 64 p.z p.x g.z g.x p.minus g.minus s h)

-- ---- the product at the end
-- the letters of an image do not depend on the sign
act-x : (n : ℕ) (c : ℕ → Clifford) (p r : Pauli) → p.z ≡ r.z → p.x ≡ r.x → (act n c p).x ≡ (act n c r).x
unfolding act
act-x n c p r hz hx = λ i q. x_bit (image (c q) (letter (hz i q) (hx i q)))

pub guessed : (n : ℕ) (l : n ≤ 64) (rows : ℕ → Pauli) (frame : ℕ
    → Clifford) (F : Framed n rows frame) (p s : Pauli)
    → s ≡ act 64 frame p → (i : ℕ) (h : Pauli) → n ≤ i
    → Multiplied n rows s.x i h → Guessed n rows p h
guessed n l rows frame F p s e i h k M =
    record {
      element = (s.x, whole);
      right = λ a. whole ∙ ap (λ w. product n n w rows) (ap (λ r. r.x) (e
          ∙ act-wide n 64 l (element-within n n rows (framed-proper n rows frame F).within a) frame))
          ∙ sym (element-word n rows frame F p a);
      negative = λ a. whole ∙ ap (λ w. product n n w rows) (ap (λ r. r.x) (e
          ∙ act-wide n 64 l (again (element-within n n rows (framed-proper n rows frame F).within a)) frame)
          ∙ letters) ∙ sym (element-word n rows frame F (scaled i² p) a);
    }
  where
    again : Within n (scaled i² p) → Within n p
    again W = record { no-x = W.no-x; no-z = W.no-z }

    letters : (act n frame p).x ≡ (act n frame (scaled i² p)).x
    letters = act-x n frame p (scaled i² p) refl refl

    whole : h ≡ product n n s.x rows
    whole = all-multiplied n rows s.x i h k M

-- ---- a choice works if it sends the generators into the other group
pub carried-all : (n : ℕ) (rows others : ℕ → Pauli) → Proper n rows → Proper n others → (c : ℕ → Clifford)
    → ((j : ℕ) → j < n → InGroup n n others (act n c (rows j))) → is_carrying n c rows others ≡ true
carried-all n rows others P P' c h =
    (carries-is n c rows others P.within P'.within).1
    ((carries_same n c rows others).1
    (inclusion-same n (λ j. act n c (rows j)) others (act-proper n c rows P) P' h))
