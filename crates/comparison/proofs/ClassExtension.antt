-- Classes that satisfy the equations of the first qubits extend to classes that solve all: a solution that is
-- invertible at one qubit is invertible at all, since the first graph is connected. And what solves all sends each
-- generator into the second group, up to a sign.
use mathlib.Core.Bool.{◌&&◌, Bool, false, true}
use mathlib.Core.List.{List}
use mathlib.Core.Logic.{inl, inr, ◌⊎◌}
use mathlib.Core.Path.{ap, ap₂, refl, sym, ◌∙◌, ◌≡◌}
use Prim.Native.Nat.{◌*◌, ◌<◌, ◌^◌, ◌≤◌, ℕ}
use native.Mathlib.Nat.{le_trans, lt_of_le_of_lt, lt_of_lt_of_le, not-suc-le-zero}
use lib.Bits.{and_le_l, bit_and}
use lib.ListN.{get_or}
use Rattle.clifford.proofs.VectorLaws.{act-imaginary}
use Rattle.clifford.specs.Clifford.{Class, Clifford, class_number, class_with, image_x, image_z}
use Rattle.clifford.specs.Clifford.Class.{XZ, YZ, ZX, XY, YX, ZY}
use Rattle.clifford.specs.Vectors.{act}
use Rattle.pauli.proofs.PauliLaws.{anticommute-swap}
use Rattle.pauli.specs.Pauli.{Pauli, anticommute, letter, x_bit, z_bit}
use Rattle.pauli.specs.internal.Rows.{generator_of}
use Rattle.pauli.specs.declared.Generator.{Generator}
use Rattle.record.proofs.Maximality.{maximal-list}
use Rattle.record.specs.Records.{GraphRecord, rows_of}
use Rattle.stabilizer.proofs.Products.{anticommute-form}
use Rattle.stabilizer.proofs.Within.{act-within}
use Rattle.stabilizer.specs.Groups.{Proper, Within}
use Rattle.words.proofs.BitLaws.{bit-and, bit-word_of}
use Rattle.words.proofs.Finite.{bits}
use Rattle.words.proofs.OnesLaws.{parity-ones}
use Rattle.words.proofs.Places.{⊕-cancel}
use Rattle.words.proofs.Sums.{fold-ext, parity-add}
use Rattle.words.specs.Bits.{bit, parity, ◌⊕◌}
use Rattle.words.specs.internal.Bits.{dot}
use Rattle.comparison.proofs.ClassEquations.{anticommute-classes, class-terms, x-word-lt, z-word-lt}
use Rattle.comparison.proofs.Determinants.{Matrices, det, det-closed, send_by}
use Rattle.comparison.proofs.EquationLaws.{SameBelow, fails-below}
use Rattle.comparison.proofs.EquationTables.{class-short}
use Rattle.comparison.proofs.Extension.{extended}
use Rattle.comparison.proofs.RecordElements.{framed-proper}
use Rattle.comparison.specs.Choices.{class_key}
use Rattle.comparison.specs.internal.Equations.{
  Assignment,
  Equation,
  Solves,
  class_assignment,
  class_equation,
  equation_at,
  fails,
}
use Rattle.comparison.specs.internal.Searches.{ClassTable, Extendable, SentUpToSign}
use Rattle.comparison.specs.internal.Setting.{Setting, without_signs, generators_of, no_generator}

-- ---- the class of a matrix
abbrev class_for : Bool → Bool → Bool → Bool → Class
class_for a b c d = class_with (letter b d) (letter a c)

abbrev det_of : Bool → Bool → Bool → Bool → Bool
det_of a b c d = (a && d) ⊕ (b && c)

-- an invertible matrix is that of its class
invertible : (f : Class → Bool) (a b c d x : Bool) → (det_of a b c d && (f (class_for a b c d) ⊕ x)) ≡ false
    → det_of a b c d ≡ true → f (class_for a b c d) ≡ x
invertible f a b c d x h e = ⊕-cancel _ _ (ap (λ t. t && (f (class_for a b c d) ⊕ x)) (sym e) ∙ h)

module _ (a b c d : Bool) (e : det_of a b c d ≡ true) where
  entry-a : z_bit (image_z (class_for a b c d)) ≡ a
  entry-a = invertible (λ k. z_bit (image_z k)) a b c d a
      (bits 4 (λ a b c d. det_of a b c d && (z_bit (image_z (class_for a b c d)) ⊕ a)) (λ a b c d. false) tt a b c d) e

  entry-b : z_bit (image_x (class_for a b c d)) ≡ b
  entry-b = invertible (λ k. z_bit (image_x k)) a b c d b
      (bits 4 (λ a b c d. det_of a b c d && (z_bit (image_x (class_for a b c d)) ⊕ b)) (λ a b c d. false) tt a b c d) e

  entry-c : x_bit (image_z (class_for a b c d)) ≡ c
  entry-c = invertible (λ k. x_bit (image_z k)) a b c d c
      (bits 4 (λ a b c d. det_of a b c d && (x_bit (image_z (class_for a b c d)) ⊕ c)) (λ a b c d. false) tt a b c d) e

  entry-d : x_bit (image_x (class_for a b c d)) ≡ d
  entry-d = invertible (λ k. x_bit (image_x k)) a b c d d
      (bits 4 (λ a b c d. det_of a b c d && (x_bit (image_x (class_for a b c d)) ⊕ d)) (λ a b c d. false) tt a b c d) e

-- a class has an invertible matrix, and is the class of it
class_back : (k : Class) → class_for (z_bit (image_z k)) (z_bit (image_x k)) (x_bit (image_z k)) (x_bit (image_x k)) ≡ k
class_back XZ = refl
class_back YZ = refl
class_back ZX = refl
class_back XY = refl
class_back YX = refl
class_back ZY = refl

class-det : (k : Class) → det_of (z_bit (image_z k)) (z_bit (image_x k)) (x_bit (image_z k)) (x_bit (image_x k)) ≡ true
class-det XZ = refl
class-det YZ = refl
class-det ZX = refl
class-det XY = refl
class-det YX = refl
class-det ZY = refl

-- ---- the matrices of an assignment
abbrev matrices_of : Assignment → Matrices
matrices_of w = record { a = bit w.a; b = bit w.b; c = bit w.c; d = bit w.d }

module _ (n : ℕ) (w : Assignment) (g h : Generator) (W : Within n (generator_of g)) where
  matrices-equation : anticommute n (send_by (matrices_of w) (generator_of g)) (generator_of h)
      ≡ fails (class_equation g h) w
  unfolding fails dot
  matrices-equation =
      anticommute-form n (send_by (matrices_of w) (generator_of g)) (generator_of h)
      ∙ sym (parity-add n _ _)
      ∙ fold-ext false ◌⊕◌ n (λ q l. class-terms (bit w.a q) (bit w.b q) (bit w.c q) (bit w.d q)
      (bit g.z q) (bit g.x q) (bit h.z q) (bit h.x q))
      ∙ parity-add n _ _ ∙ ap₂ ◌⊕◌ (parity-add n _ _) (parity-add n _ _)
      ∙ ap₂ ◌⊕◌ (ap₂ ◌⊕◌ (word g.z h.x w.a gz) (word g.x h.x w.b gx))
      (ap₂ ◌⊕◌ (word g.z h.z w.c gz) (word g.x h.z w.d gx))
    where
      gz : g.z < 2 ^ n
      gz = z-word-lt n g W

      gx : g.x < 2 ^ n
      gx = x-word-lt n g W

      word : (u v t : ℕ) → u < 2 ^ n → parity n (λ q. (bit u q && bit v q) && bit t q) ≡ dot (bit_and u v) t
      word u v t l =
          fold-ext false ◌⊕◌ n (λ q k. ap (λ b. b && bit t q) (sym (bit-and u v q)) ∙ sym (bit-and (bit_and u v) t q))
          ∙ sym (parity-ones n (bit_and (bit_and u v) t) (lt_of_le_of_lt
          (le_trans (and_le_l (bit_and u v) t) (and_le_l u v)) l))

-- ---- the solutions of the table
module _ (n : ℕ) (first second : List Generator) (frame : List ℕ) (S : Setting n first second frame)
    (table : List Equation) (T : ClassTable n first second n 0 table) where
  abbrev source : GraphRecord
  source = record { graph = S.joined.graph; codes = S.joined.codes }

  abbrev target : GraphRecord
  target = record { graph = S.framed.graph; codes = S.framed.codes }

  abbrev gen : ℕ → Generator
  gen i = get_or first i no_generator

  abbrev other : ℕ → Generator
  other j = get_or second j no_generator

  asked : (w : Assignment) → Solves table w → (i j : ℕ) → i < n → j < n
      → fails (class_equation (gen i) (other j)) w ≡ false
  asked w s i j k l = T.asks w s _ (i, j, l, inl k, refl)

  images-commute : (w : Assignment) → Solves table w → (i j : ℕ) → i < n → j < n
      → anticommute n (rows_of n target j) (send_by (matrices_of w) (rows_of n source i)) ≡ false
  images-commute w s i j k l =
      anticommute-swap n (rows_of n target j) (send_by (matrices_of w) (rows_of n source i))
      ∙ ap₂ (λ p h. anticommute n (send_by (matrices_of w) p) h) (sym (S.joined.generators i k))
      (sym (S.framed.generators j l))
      ∙ matrices-equation n w (gen i) (other j) (S.proper.within i k) ∙ asked w s i j k l

  -- invertible at qubit 0, invertible everywhere
  everywhere : (w : Assignment) → Solves table w → det (matrices_of w) 0 ≡ true → (q : ℕ) → q < n
      → det (matrices_of w) q ≡ true
  everywhere w s h =
      S.joined.connected (det (matrices_of w))
      (det-closed n source target S.joined.simple S.framed.simple (matrices_of w) (images-commute w s)) h

  choice_for : Assignment → ℕ → Clifford
  choice_for w q =
      record { class = class_for (bit w.a q) (bit w.b q) (bit w.c q) (bit w.d q); sx = false; sz = false }

  module _ (w : Assignment) (s : Solves table w) (h : det (matrices_of w) 0 ≡ true) where
    same-matrices : SameBelow n w (class_assignment n (choice_for w))
    unfolding class_assignment choice_for
    same-matrices =
        record {
          a = λ q l. sym (bit-word_of n _ q l
              ∙ entry-a (bit w.a q) (bit w.b q) (bit w.c q) (bit w.d q) (everywhere w s h q l));
          b = λ q l. sym (bit-word_of n _ q l
              ∙ entry-b (bit w.a q) (bit w.b q) (bit w.c q) (bit w.d q) (everywhere w s h q l));
          c = λ q l. sym (bit-word_of n _ q l
              ∙ entry-c (bit w.a q) (bit w.b q) (bit w.c q) (bit w.d q) (everywhere w s h q l));
          d = λ q l. sym (bit-word_of n _ q l
              ∙ entry-d (bit w.a q) (bit w.b q) (bit w.c q) (bit w.d q) (everywhere w s h q l));
        }

    choice-solves : Solves table (class_assignment n (choice_for w))
    choice-solves = T.kept (class_assignment n (choice_for w)) (λ e a. go e a.0 a.1 a.2 a.3 a.4)
      where
        go : (e : Equation) (i j : ℕ) → j < n → (i < n) ⊎ ((i ≡ n) × (j < 0))
            → e ≡ class_equation (gen i) (other j) → fails e (class_assignment n (choice_for w)) ≡ false
        go e i j l (inl k) p =
            ap (λ e. fails e (class_assignment n (choice_for w))) p
            ∙ sym (fails-below (class_equation (gen i) (other j)) n
            (class-short n (gen i) (other j) (S.proper.within i k)) w (class_assignment n (choice_for w)) same-matrices)
            ∙ asked w s i j k l
        go e i j l (inr k) p = absurd (not-suc-le-zero k.1)

  -- the entries of an assignment that agrees with a choice's
  entries : (c : ℕ → Clifford) (q : ℕ) → q ≤ n → (w : Assignment) → SameBelow q w (class_assignment n c) → (u : ℕ) → u <
      q
      → (bit w.a u ≡ z_bit (image_z (c u).class)) × (bit w.b u ≡ z_bit (image_x (c u).class))
      × (bit w.c u ≡ x_bit (image_z (c u).class)) × (bit w.d u ≡ x_bit (image_x (c u).class))
  unfolding class_assignment
  entries c q l w s u k = (
    s.a u k ∙ bit-word_of n _ u (lt_of_lt_of_le k l),
    s.b u k ∙ bit-word_of n _ u (lt_of_lt_of_le k l),
    s.c u k ∙ bit-word_of n _ u (lt_of_lt_of_le k l),
    s.d u k ∙ bit-word_of n _ u (lt_of_lt_of_le k l),
  )

  pub classes-extend : Extendable (class_assignment n) class_key 1 n table
  unfolding choice_for
  classes-extend c q more l h = (
    choice_for w,
    (λ u k. let E = entries c q l w R.1 u k in
        ap class_number ((λ i. class_for (E.0 i) (E.1 i) (E.2 i) (E.3 i)) ∙ class_back (c u).class)),
    choice-solves w R.2 (let E = entries c q l w R.1 0 more in
        (λ i. det_of (E.0 i) (E.1 i) (E.2 i) (E.3 i)) ∙ class-det (c 0).class),
  )
    where
      R : (w : Assignment) × SameBelow q w (class_assignment n c) × Solves table w
      R = extended table T.triangular q (le_trans l S.few) (class_assignment n c) h

      w : Assignment
      w = R.0

  -- classes that satisfy the equations of all qubits
  pub classes-send : (c : ℕ → Clifford) → ((i : ℕ) → i < 4 * n → fails (equation_at table i) (class_assignment n c) ≡
      false)
      → SentUpToSign n first second c
  unfolding class_assignment
  classes-send c h i k =
      maximal-list n (generators_of second) proper p
      (act-imaginary n (λ q. without_signs (c q)) (generators_of first i) ∙ S.proper.commuting.signed i k)
      (act-within n n (λ q. without_signs (c q)) (S.proper.within i k))
      (λ j l. anticommute-swap n (generators_of second j) p
      ∙ anticommute-classes n (λ q. without_signs (c q)) (gen i) (other j) (S.proper.within i k)
      ∙ sym (fails-below (class_equation (gen i) (other j)) n
      (class-short n (gen i) (other j) (S.proper.within i k)) R.0 (class_assignment n c) R.1)
      ∙ asked R.0 R.2 i j k l)
    where
      p : Pauli
      p = act n (λ q. without_signs (c q)) (generators_of first i)

      proper : Proper n (generators_of second)
      proper = framed-proper n (generators_of second) _ S.framed

      R : (w : Assignment) × SameBelow n w (class_assignment n c) × Solves table w
      R = extended table T.triangular n S.few (class_assignment n c) h
