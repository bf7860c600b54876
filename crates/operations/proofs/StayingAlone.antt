-- A vertex without neighbours that a call does not name: its Pauli stays in the group, so in the new record it has no
-- neighbour and the code that it had.
use mathlib.Core.Bool.{◌&&◌, Bool, and-false, cond, false, not, true}
use mathlib.Core.Logic.{◌≢◌}
use mathlib.Core.Path.{ap, ap₂, refl, subst, sym, ◌∙◌, ◌≡◌}
use Prim.Native.Nat.{◌<◌, ℕ}
use lib.Dec.{eqb}
use Rattle.clifford.specs.Clifford.{Clifford, clifford_of, code_of, image, then}
use Rattle.operations.proofs.CzLaws.{cz-fixed}
use Rattle.operations.proofs.Determined.{determined-kept, measured-group}
use Rattle.operations.proofs.MeasuredRecords.{image-acts, single-clash}
use Rattle.operations.specs.Cz.{cz}
use Rattle.operations.specs.Measurement.Measured.{kept}
use Rattle.operations.specs.Measurement.{is_determined, measured_rows, single}
use Rattle.pauli.specs.Pauli.{Pauli, clash, letter, x_bit, z_bit}
use Rattle.pauli.specs.declared.Letter.{Letter}
use Rattle.pauli.specs.declared.Letter.TheVariants.{X}
use Rattle.record.specs.Records.{GraphRecord, complement_record}
use Rattle.record.specs.Reduced.{reduced}
use Rattle.stabilizer.specs.Groups.{InGroup, Proper}
use Rattle.words.proofs.Places.{other_place}
use Rattle.words.specs.Bits.{◌⊕◌}
use Rattle.operations.proofs.AloneVertices.{Low, alone-code, alone-graph, low-number}

-- a list whose group has the Pauli of a code at q: so has its reduced record, alone
module _ (n : ℕ) (rows : ℕ → Pauli) (P : Proper n rows) (q : ℕ) (hq : q < n) (k : Clifford)
    (h : InGroup n n rows (single (image k X) q k.sx)) where
  pub kept-graph : (j : ℕ) → (reduced n rows).graph q j ≡ false
  kept-graph = alone-graph n rows P (image k X) (image-acts k.class) q hq k.sx h

  pub kept-code : Low k → code_of ((reduced n rows).codes q) ≡ code_of k
  kept-code low =
      alone-code n rows P (image k X) (image-acts k.class) q hq k.sx h ∙ sym (low-number k low)

-- CZ of two other qubits fixes a Pauli at one qubit
pub cz-single : (a b q : ℕ) (l : Letter) (s : Bool) → q ≢ a → q ≢ b → cz a b (single l q s) ≡ single l q s
cz-single a b q l s qa qb =
    cz-fixed a b (single l q s) (ap (λ e. e && x_bit l) (other_place (λ e. qa (sym e))))
    (ap (λ e. e && x_bit l) (other_place (λ e. qb (sym e))))

-- a measurement of another qubit keeps it in the group
pub measured-single : (n : ℕ) (rows : ℕ → Pauli) → Proper n rows → (m : Letter) (a : ℕ) → a < n → (b : Bool)
    (q : ℕ) (l : Letter) (s : Bool) → q ≢ a → InGroup n n rows (single l q s)
    → InGroup n n (measured_rows n rows m a b) (single l q s)
measured-single n rows P m a ha b q l s qa h = go (is_determined n rows m a) refl
  where
    go : (d : Bool) → is_determined n rows m a ≡ d → InGroup n n (measured_rows n rows m a b) (single l q s)
    go true e = subst (λ R. InGroup n n R (single l q s)) (sym (determined-kept n rows P m a ha e b)) h
    go false e = (measured-group n rows P m a ha e b (single l q s)).1
        (kept h (single-clash n (single l q s) m a b ha
        ∙ ap (λ e. clash (letter (e && z_bit l) (e && x_bit l)) m) (other_place (λ e. qa (sym e)))))

-- ---- complements: no edge at q, from either side
pub record AloneAt (r : GraphRecord) (q : ℕ) : Type 0 where
  pub out : (j : ℕ) → r.graph q j ≡ false
  pub into : (j : ℕ) → r.graph j q ≡ false

-- complementing at another vertex leaves it alone, and its code as it is
pub complement-alone : (r : GraphRecord) (a q : ℕ) → q ≢ a → AloneAt r q
    → AloneAt (complement_record r a) q × ((complement_record r a).codes q ≡ r.codes q)
complement-alone r a q qa A = (
  record {
    out = λ j. ap₂ (λ e f. e ⊕ ((f && r.graph a j) && not (eqb j q))) (A.out j) (A.into a);
    into = λ j. ap₂ (λ e f. e ⊕ ((r.graph a j && f) && not (eqb q j))) (A.into j) (A.into a)
        ∙ ap (λ e. e && not (eqb q j)) (and-false (r.graph a j));
  },
  ap₂ (λ e f. cond e (then (clifford_of 13) (r.codes q)) (cond f (then (clifford_of 6) (r.codes q)) (r.codes q)))
      (other_place qa) (A.into a),
)
