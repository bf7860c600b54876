-- Rows that act on one side of a set of qubits alone: what they commute with, and the rows of records without an edge
-- between the sides.
use mathlib.Core.Bool.{◌&&◌, Bool, and-false, false, false≢true, not, true}
use mathlib.Core.Logic.{inl, inr, ◌≢◌, ◌⊎◌}
use mathlib.Core.Path.{ap, ap₂, refl, sym, ◌∙◌, ◌≡◌}
use Prim.Native.Nat.{◌<◌, ◌≤◌, ℕ}
use native.Mathlib.Omega.{arith}
use lib.Dec.{eqb}
use Rattle.clifford.specs.Clifford.{Clifford, image, image_phase}
use Rattle.clifford.specs.Vectors.{act}
use Rattle.record.specs.Graph.{Simple, graph_generator}
use Rattle.operations.specs.Measurement.{single}
use Rattle.pauli.proofs.PauliLaws.{Pauli-path}
use Rattle.pauli.specs.Pauli.{◌+ᵖ◌, Pauli, anticommute, i⁰, letter, letter_at, x_bit, z_bit}
use Rattle.pauli.specs.declared.Letter.{Letter}
use Rattle.pauli.specs.declared.Letter.TheVariants.{I}
use Rattle.record.specs.Records.{GraphRecord, rows_of}
use Rattle.stabilizer.proofs.Products.{anticommute-form}
use Rattle.words.proofs.Places.{other_place}
use Rattle.words.proofs.Sums.{bit_monoid, fold-ext, fold-unit, lt-or-ge}
use Rattle.words.specs.Bits.{Word, ◌⊕◌}
use Rattle.parties.specs.internal.Sides.{Free, Split}

-- ---- sides
pub side : (x b : Bool) → (x ≡ b) ⊎ (x ≡ not b)
side false false = inl refl
side false true = inr refl
side true false = inr refl
side true true = inl refl

pub not-both : (b : Bool) → b ≡ not b → ⊥
not-both false e = false≢true e
not-both true e = false≢true (sym e)

-- qubits of different sides are different
pub apart : (s : Word) (b : Bool) {i j : ℕ} → s i ≡ b → s j ≡ not b → j ≢ i
apart s b e f h = not-both b (sym e ∙ ap s (sym h) ∙ f)

module _ (n : ℕ) (s : Word) (b : Bool) where
  -- rows of different sides commute
  pub free-commute : (p r : Pauli) → Free n s b p → Free n s (not b) r → anticommute n p r ≡ false
  free-commute p r F G =
      anticommute-form n p r
      ∙ ap₂ ◌⊕◌ (fold-unit false ◌⊕◌ bit_monoid n (λ q l. at q (p.z q) (r.x q) (F.no-z q l) (G.no-x q l)))
      (fold-unit false ◌⊕◌ bit_monoid n (λ q l. at q (p.x q) (r.z q) (F.no-x q l) (G.no-z q l)))
    where
      at : (q : ℕ) (x y : Bool) → (s q ≡ b → x ≡ false) → (s q ≡ not b → y ≡ false) → (x && y) ≡ false
      at q x y f g = elim (side (s q) b) [
        | inl e ↦ ap (λ v. v && y) (f e)
        | inr e ↦ ap (λ v. x && v) (g e) ∙ and-false x
      ]

  -- a Pauli at one qubit
  pub single-free : (l : Letter) (q : ℕ) (m : Bool) → s q ≡ b → Free n s (not b) (single l q m)
  single-free l q m e =
      record {
        no-x = λ t k f. ap (λ v. v && x_bit l) (other_place (apart s b e f));
        no-z = λ t k f. ap (λ v. v && z_bit l) (other_place (apart s b e f));
      }

  -- ---- the row of a vertex: it has I on the other side, and reads the codes of its own side alone
  module _ (r : GraphRecord) (S : Simple n r.graph) (X : Split s r.graph) (j : ℕ) (hj : j < n)
      (own : s j ≡ b) where
    away : (q : ℕ) → s q ≡ not b → letter_at (graph_generator r.graph j) q ≡ I
    away q e = ap₂ letter (X.none b j q own e) (other_place (apart s b own e))

    past : (q : ℕ) → n ≤ q → letter_at (graph_generator r.graph j) q ≡ I
    past q l = ap₂ letter (S.below j q l) (other_place {i = q} {j = j} (λ e. absurd (omega (arith, e))))

    pub row-free : Free n s (not b) (rows_of n r j)
    unfolding act
    row-free =
        record {
          no-x = λ q l e. ap (λ a. x_bit (image (r.codes q) a)) (away q e);
          no-z = λ q l e. ap (λ a. z_bit (image (r.codes q) a)) (away q e);
        }

    module _ (t : GraphRecord) (edges : (q : ℕ) → r.graph j q ≡ t.graph j q)
        (codes : (q : ℕ) → q < n → s q ≡ b → r.codes q ≡ t.codes q) where
      place : {A : Type 0} (f : Clifford → Letter → A) → ((k d : Clifford) → f k I ≡ f d I) → (q : ℕ)
          → f (r.codes q) (letter_at (graph_generator r.graph j) q)
          ≡ f (t.codes q) (letter_at (graph_generator t.graph j) q)
      place f none q = go (lt-or-ge q n) (side (s q) b)
          ∙ ap (λ v. f (t.codes q) (letter v (eqb q j))) (edges q)
        where
          unread : letter_at (graph_generator r.graph j) q ≡ I
              → f (r.codes q) (letter_at (graph_generator r.graph j) q)
              ≡ f (t.codes q) (letter_at (graph_generator r.graph j) q)
          unread h = ap (f (r.codes q)) h ∙ none (r.codes q) (t.codes q) ∙ sym (ap (f (t.codes q)) h)

          go : (q < n) ⊎ (n ≤ q) → (s q ≡ b) ⊎ (s q ≡ not b)
              → f (r.codes q) (letter_at (graph_generator r.graph j) q)
              ≡ f (t.codes q) (letter_at (graph_generator r.graph j) q)
          go (inl l) (inl e) = ap (λ k. f k (letter_at (graph_generator r.graph j) q)) (codes q l e)
          go (inl l) (inr e) = unread (away q e)
          go (inr l) d = unread (past q l)

      -- so records with the same edges there and the same codes on its side have the same row
      pub row-alike : rows_of n r j ≡ rows_of n t j
      unfolding act
      row-alike =
          Pauli-path
          (ap (λ v. i⁰ +ᵖ v) (fold-ext i⁰ ◌+ᵖ◌ n (λ q l. place image_phase (λ k d. refl) q)))
          (place (λ k a. z_bit (image k a)) (λ k d. refl))
          (place (λ k a. x_bit (image k a)) (λ k d. refl))
