-- Codes that keep the letters: the image of a graph under them is the graph with signs.
use mathlib.Core.Bool.{◌&&◌, Bool, and_comm, cond, false, true≢false}
use mathlib.Core.Logic.{inl, inr, ◌⊎◌}
use mathlib.Core.Path.{ap, ap₂, refl, sym, ◌∙◌, ◌≡◌}
use Prim.Native.Nat.{◌<◌, ℕ, ◌≤◌}
use native.Mathlib.Omega.{arith}
use lib.Dec.{eqb}
use Rattle.clifford.specs.Clifford.{
  Class,
  Clifford,
  XY,
  XZ,
  YX,
  YZ,
  ZX,
  ZY,
  bit_c,
  image,
  image_phase,
  image_x,
  image_z,
}
use Rattle.clifford.specs.Vectors.{act}
use Rattle.record.proofs.GraphGroups.{no_loop}
use Rattle.record.specs.Graph.{Graph, Simple, graph_generator}
use Rattle.pauli.proofs.PauliLaws.{Pauli-path}
use Rattle.pauli.proofs.PhaseLaws.{+ᵖ-zero, minus-⊕, phases}
use Rattle.pauli.specs.Pauli.{◌+ᵖ◌, i⁰, letter, minus, scaled, x_bit, z_bit}
use Rattle.pauli.specs.declared.Letter.{Letter}
use Rattle.pauli.specs.declared.Letter.TheVariants.{X}
use Rattle.record.specs.Records.{record_row}
use Rattle.words.proofs.Finite.{bits}
use Rattle.words.proofs.Places.{other_place, parity-at}
use Rattle.words.proofs.Sums.{fold-ext, fold-hom, lt-or-ge, parity-add}
use Rattle.words.specs.Bits.{Word, parity, ◌⊕◌}
use Rattle.image.specs.Image.{is_y}

-- X goes to X or minus X, Z to Z or minus Z
abbrev pub signs_only : Bool → Bool → Clifford
signs_only a b = record { class = XZ; sx = a; sz = b }

-- minus at vertex j: the sign of X at j, and those of Z at the neighbours of j
abbrev pub minus_at : ℕ → Graph → (ℕ → Clifford) → Word
minus_at n θ c j = (c j).sx ⊕ parity n (λ q. θ j q && (c q).sz)

signs-phase : (a b z x : Bool) → (z && x) ≡ false →
    image_phase (signs_only a b) (letter z x) ≡ minus (x && a) +ᵖ minus (z && b)
signs-phase a b z x e =
    ap (λ v. cond v (minus (x && a) +ᵖ minus (z && b)) (image_phase (signs_only a b) (letter z x))) (sym e)
    ∙ phases 4
    (λ a b z x. cond (z && x) (minus (x && a) +ᵖ minus (z && b)) (image_phase (signs_only a b) (letter z x)))
    (λ a b z x. minus (x && a) +ᵖ minus (z && b)) tt a b z x

-- C = 0, and X does not go to Y: the code keeps the letters
pub keeps-letters : (k : Clifford) → bit_c k ≡ false → is_y (image k X) ≡ false → k ≡ signs_only k.sx k.sz
keeps-letters k c y = go k.class refl
  where
    go : (m : Class) → k.class ≡ m → k ≡ signs_only k.sx k.sz
    go XZ e = λ i. record { class = e i; sx = k.sx; sz = k.sz }
    go YZ e = absurd (true≢false (sym (ap (λ m. is_y (image_x m)) e) ∙ y))
    go ZX e = absurd (true≢false (sym (ap (λ m. x_bit (image_z m)) e) ∙ c))
    go XY e = absurd (true≢false (sym (ap (λ m. x_bit (image_z m)) e) ∙ c))
    go YX e = absurd (true≢false (sym (ap (λ m. x_bit (image_z m)) e) ∙ c))
    go ZY e = absurd (true≢false (sym (ap (λ m. x_bit (image_z m)) e) ∙ c))

module _ (n : ℕ) (θ : Graph) (S : Simple n θ) (c : ℕ → Clifford) (keeps : (q : ℕ) → q < n
    → c q ≡ signs_only (c q).sx (c q).sz) where
  abbrev kept : ℕ → Clifford
  kept q = signs_only (c q).sx (c q).sz

  kept_row : (j : ℕ) → j < n
      → act n kept (graph_generator θ j) ≡ scaled (minus (minus_at n θ c j)) (graph_generator θ j)
  unfolding act
  kept_row j l =
      Pauli-path
      (fold-ext i⁰ ◌+ᵖ◌ n (λ q k. signs-phase (c q).sx (c q).sz (θ j q) (eqb q j)
      (and_comm (θ j q) (eqb q j) ∙ no_loop n θ S j q)
      ∙ sym (minus-⊕ (eqb q j && (c q).sx) (θ j q && (c q).sz)))
      ∙ sym (fold-hom false ◌⊕◌ i⁰ ◌+ᵖ◌ minus refl minus-⊕ n (λ q. (eqb q j && (c q).sx)
      ⊕ (θ j q && (c q).sz)))
      ∙ ap minus (parity-add n (λ q. eqb q j && (c q).sx) (λ q. θ j q && (c q).sz)
      ∙ ap (λ v. v ⊕ parity n (λ q. θ j q && (c q).sz))
      (fold-ext false ◌⊕◌ n (λ q k. and_comm (eqb q j) (c q).sx) ∙ parity-at n (λ q. (c q).sx) j l))
      ∙ sym (+ᵖ-zero _))
      (λ q. bits 4 (λ a b z x. z_bit (image (signs_only a b) (letter z x))) (λ a b z x. z) tt (c q).sx
      (c q).sz
      (θ j q) (eqb q j))
      (λ q. bits 4 (λ a b z x. x_bit (image (signs_only a b) (letter z x))) (λ a b z x. x) tt (c q).sx
      (c q).sz
      (θ j q) (eqb q j))

  -- generator j of the image is plus or minus generator j of the graph
  pub signed-row : (j : ℕ) → j < n → record_row n θ c j ≡ scaled (minus (minus_at n θ c j)) (graph_generator θ j)
  unfolding act
  signed-row j l =
      Pauli-path
      (fold-ext i⁰ ◌+ᵖ◌ n (λ q k. ap (λ k. image_phase k (letter (θ j q) (eqb q j))) (keeps q k)))
      (λ q. place z_bit q (lt-or-ge q n))
      (λ q. place x_bit q (lt-or-ge q n))
      ∙ kept_row j l
    where
      place : (f : Letter → Bool) (q : ℕ) → (q < n) ⊎ (n ≤ q) →
          f (image (c q) (letter (θ j q) (eqb q j))) ≡ f (image (kept q) (letter (θ j q) (eqb q j)))
      place f q (inl k) = ap (λ k. f (image k (letter (θ j q) (eqb q j)))) (keeps q k)
      place f q (inr k) =
          ap₂ (λ z x. f (image (c q) (letter z x))) (S.below j q k) off
          ∙ sym (ap₂ (λ z x. f (image (kept q) (letter z x))) (S.below j q k) off)
        where
          off : eqb q j ≡ false
          off = other_place {i = q} {j = j} (λ e. absurd (omega (arith, e, k, l)))
