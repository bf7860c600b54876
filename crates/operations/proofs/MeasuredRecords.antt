-- Measuring a record: the Pauli is determined exactly if its qubit has no neighbours and the code there sends X to
-- it; the sign is then that of this image.
use mathlib.Core.Bool.{◌&&◌, Bool, false, false≢true, true, true≢false}
use mathlib.Core.Logic.{inl, inr, ◌↔◌, ◌≢◌}
use mathlib.Core.Path.{ap, ap₂, refl, subst, sym, ◌∙◌, ◌≡◌}
use Prim.Native.Nat.{◌<◌, suc, zero, ℕ}
use native.Mathlib.Decide.{ℕ_discrete}
use native.Mathlib.Nat.{not-suc-le-zero}
use lib.Dec.{eqb}
use Rattle.clifford.specs.Clifford.{
  Class,
  Clifford,
  XY,
  XZ,
  YX,
  YZ,
  ZX,
  ZY,
  image,
  image_phase,
  image_x,
  image_z,
}
use Rattle.clifford.specs.Vectors.{act}
use Rattle.record.specs.Graph.{Graph, Simple}
use Rattle.pauli.proofs.PauliLaws.{Pauli-path, letter-bits}
use Rattle.pauli.proofs.PhaseLaws.{phase_monoid}
use Rattle.pauli.specs.Pauli.{◌+ᵖ◌, Pauli, anticommute, clash, i⁰, letter, letter_at, x_bit, z_bit}
use Rattle.pauli.specs.declared.Letter.{Letter}
use Rattle.pauli.specs.declared.Letter.TheVariants.{I, X, Y, Z}
use Rattle.record.proofs.ReducedRecords.{record-proper}
use Rattle.record.specs.Records.{GraphRecord, rows_of}
use Rattle.stabilizer.proofs.GroupLaws.{in_row}
use Rattle.stabilizer.specs.Groups.{InGroup}
use Rattle.words.proofs.Places.{other_place, same_place}
use Rattle.words.proofs.Sums.{bit_monoid, fold-one, lt-or-ge}
use Rattle.words.specs.Bits.{◌⊕◌}
use Rattle.operations.proofs.Determined.{determined-commutes, determined-sign}
use Rattle.operations.specs.Measurement.{is_determined, outcome, pauli_letter, single}

-- a letter other than I
abbrev pub acts : Letter → Bool
acts I = false
acts X = true
acts Y = true
acts Z = true

pub pauli-acts : (k : ℕ) → 0 < k → acts (pauli_letter k) ≡ true
pauli-acts zero l = absurd (not-suc-le-zero l)
pauli-acts (suc zero) l = refl
pauli-acts (suc (suc zero)) l = refl
pauli-acts (suc (suc (suc k))) l = refl

clash-I : (a : Letter) → clash a I ≡ false
clash-I I = refl
clash-I X = refl
clash-I Y = refl
clash-I Z = refl

-- letters that act and commute are equal
same-letter : (a b : Letter) → acts a ≡ true → acts b ≡ true → clash a b ≡ false → a ≡ b
same-letter I b h k e = absurd (false≢true h)
same-letter X I h k e = absurd (false≢true k)
same-letter X X h k e = refl
same-letter X Y h k e = absurd (true≢false e)
same-letter X Z h k e = absurd (true≢false e)
same-letter Y I h k e = absurd (false≢true k)
same-letter Y X h k e = absurd (true≢false e)
same-letter Y Y h k e = refl
same-letter Y Z h k e = absurd (true≢false e)
same-letter Z I h k e = absurd (false≢true k)
same-letter Z X h k e = absurd (true≢false e)
same-letter Z Y h k e = absurd (true≢false e)
same-letter Z Z h k e = refl

-- X goes to a letter other than I, and so does every letter but I
pub image-acts : (k : Class) → acts (image_x k) ≡ true
image-acts XZ = refl
image-acts YZ = refl
image-acts ZX = refl
image-acts XY = refl
image-acts YX = refl
image-acts ZY = refl

-- X and Z go to letters that do not commute
pub images-clash : (k : Class) → clash (image_z k) (image_x k) ≡ true
images-clash XZ = refl
images-clash YZ = refl
images-clash ZX = refl
images-clash XY = refl
images-clash YX = refl
images-clash ZY = refl

-- a Pauli at one qubit: only that place counts
pub single-clash : (n : ℕ) (p : Pauli) (l : Letter) (q : ℕ) (s : Bool) → q < n
    → anticommute n p (single l q s) ≡ clash (letter_at p q) l
unfolding anticommute
single-clash n p l q s h =
    fold-one false ◌⊕◌ bit_monoid n q h
    (λ t k d. ap (λ b. clash (letter_at p t) (letter (b && z_bit l) (b && x_bit l))) (other_place d)
    ∙ clash-I (letter_at p t))
    ∙ ap (λ b. clash (letter_at p q) (letter (b && z_bit l) (b && x_bit l))) (same_place q)
    ∙ ap (clash (letter_at p q)) (letter-bits l)

module _ (n : ℕ) (r : GraphRecord) (S : Simple n r.graph) (q : ℕ) (hq : q < n) where
  abbrev θ : Graph
  θ = r.graph

  abbrev c : ℕ → Clifford
  c = r.codes

  -- the generator of a vertex without neighbours
  pub alone-row : ((j : ℕ) → r.graph q j ≡ false)
      → rows_of n r q ≡ single (image (r.codes q) X) q (r.codes q).sx
  unfolding act
  alone-row h =
      Pauli-path
      (fold-one i⁰ ◌+ᵖ◌ phase_monoid n q hq
      (λ t k d. ap₂ (λ z x. image_phase (c t) (letter z x)) (h t) (other_place d))
      ∙ ap₂ (λ z x. image_phase (c q) (letter z x)) (h q) (same_place q))
      (λ t. bit_at z_bit refl t (ℕ_discrete t q)) (λ t. bit_at x_bit refl t (ℕ_discrete t q))
    where
      bit_at : (f : Letter → Bool) → f I ≡ false → (t : ℕ) → Dec (t ≡ q)
          → f (image (c t) (letter (θ q t) (eqb t q))) ≡ (eqb t q && f (image (c q) X))
      bit_at f none t (yes e) = subst (λ v. f (image (c v) (letter (θ q v) (eqb v q)))
          ≡ (eqb v q && f (image (c q) X))) (sym e)
          (ap₂ (λ z x. f (image (c q) (letter z x))) (h q) (same_place q)
          ∙ ap (λ b. b && f (image (c q) X)) (sym (same_place q)))
      bit_at f none t (no d) = ap₂ (λ z x. f (image (c t) (letter z x))) (h t) (other_place d) ∙ none
          ∙ ap (λ b. b && f (image (c q) X)) (sym (other_place d))

  module _ (l : Letter) (la : acts l ≡ true) where
    -- a determined Pauli commutes with every generator, at the one place where it acts
    place : is_determined n (rows_of n r) l q ≡ true → (j : ℕ) → j < n
        → clash (image (c q) (letter (θ j q) (eqb q j))) l ≡ false
    unfolding act
    place e j k = ap (λ b. clash b l) (sym (letter-bits (image (c q) (letter (θ j q) (eqb q j)))))
        ∙ sym (single-clash n (rows_of n r j) l q false hq)
        ∙ (determined-commutes n (rows_of n r) (record-proper n r S) l q hq).0 e j k

    own-image : is_determined n (rows_of n r) l q ≡ true → image (c q) X ≡ l
    own-image e = same-letter (image (c q) X) l (image-acts (c q).class) la
        (sym (ap₂ (λ z x. clash (image (c q) (letter z x)) l) (S.loopless q) (same_place q)) ∙ place e q hq)

    alone : is_determined n (rows_of n r) l q ≡ true → (j : ℕ) → θ q j ≡ false
    alone e j = elim (lt-or-ge j n) [
      | inr k ↦ S.below q j k
      | inl k ↦ S.symmetric q j ∙ elim (ℕ_discrete j q) [
        | yes d ↦ ap (λ v. θ v q) d ∙ S.loopless q
        | no d ↦ edge j k d (θ j q) refl
      ]
    ]
      where
        edge : (j : ℕ) → j < n → j ≢ q → (b : Bool) → θ j q ≡ b → b ≡ false
        edge j k d false h = refl
        edge j k d true h = absurd (true≢false (sym (ap (clash (image (c q) Z)) (sym (own-image e))
            ∙ images-clash (c q).class)
            ∙ sym (ap₂ (λ z x. clash (image (c q) (letter z x)) l) h (other_place (λ f. d (sym f))))
            ∙ place e j k))

    -- the generator of the vertex is then the Pauli with a sign, and the outcome is that sign
    reading : image (c q) X ≡ l → ((j : ℕ) → θ q j ≡ false)
        → (is_determined n (rows_of n r) l q ≡ true) × ((b : Bool) → outcome n (rows_of n r) l q b ≡ (c q).sx)
    reading e h = determined-sign n (rows_of n r) (record-proper n r S) l q hq (c q).sx
        (subst (InGroup n n (rows_of n r)) (alone-row h ∙ ap (λ a. single a q (c q).sx) e)
        (in_row n n (rows_of n r) q hq))

    pub determined-alone : (is_determined n (rows_of n r) l q ≡ true)
        ↔ ((image (r.codes q) X ≡ l) × ((j : ℕ) → r.graph q j ≡ false))
    determined-alone = ((λ e. (own-image e, alone e)), λ h. (reading h.0 h.1).0)

    pub outcome-alone : is_determined n (rows_of n r) l q ≡ true → (b : Bool)
        → outcome n (rows_of n r) l q b ≡ (r.codes q).sx
    outcome-alone e = (reading (own-image e) (alone e)).1
