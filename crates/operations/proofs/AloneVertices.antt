-- A Pauli at one qubit that is in the group: in the reduced record the qubit's vertex has no neighbour, and its code is
-- the one of 0, 2, 4, 6, 8 and 10 that sends X to this Pauli.
use mathlib.Core.Bool.{Bool, false, true}
use mathlib.Core.Path.{◌≡◌, ap, refl, subst, sym, ◌∙◌}
use native.Mathlib.Omega.{arith}
use Prim.Native.Nat.{ℕ, ◌*◌, ◌+◌, ◌<◌, suc, zero}
use Rattle.clifford.proofs.CliffordLaws.{clifford_of-code_of}
use Rattle.clifford.specs.Clifford.{Clifford, clifford_of, code_of, image}
use Rattle.pauli.specs.Pauli.{Pauli}
use Rattle.pauli.specs.declared.Letter.{Letter}
use Rattle.pauli.specs.declared.Letter.TheVariants.{I, X, Y, Z}
use Rattle.record.proofs.ReducedCodes.{reduced-codes-among}
use Rattle.record.proofs.ReducedRecords.{record-proper, reduced-is}
use Rattle.record.specs.Records.{GraphRecord, rows_of}
use Rattle.record.specs.Reduced.{ReductionOf, reduced}
use Rattle.stabilizer.specs.Groups.{InGroup, Proper}
use Rattle.words.specs.Bits.{digit}
use Rattle.operations.proofs.Determined.{determined-sign}
use Rattle.operations.proofs.MeasuredRecords.{acts, determined-alone, outcome-alone}
use Rattle.operations.specs.Measurement.{is_determined, outcome, single}

-- one of 0, 2, 4, 6, 8 and 10
abbrev pub Low : Clifford → Type 0
Low k = (i : ℕ) × (i < 6) × (code_of k ≡ 2 * i)

-- the number among 0, 2, 4, 6, 8, 10 of the code that sends X to the letter with this sign
abbrev pub alone_code : Letter → Bool → ℕ
alone_code I s = 0
alone_code X s = 2 * digit s
alone_code Y s = 4 + 2 * digit s
alone_code Z s = 8 + 2 * digit s

low-code : (i : ℕ) → i < 6 → 2 * i ≡ alone_code (image (clifford_of (2 * i)) X) (clifford_of (2 * i)).sx
low-code zero h = refl
low-code (suc zero) h = refl
low-code (suc (suc zero)) h = refl
low-code (suc (suc (suc zero))) h = refl
low-code (suc (suc (suc (suc zero)))) h = refl
low-code (suc (suc (suc (suc (suc zero))))) h = refl
low-code (suc (suc (suc (suc (suc (suc i)))))) h = absurd (omega (arith, h))

pub low-number : (k : Clifford) → Low k → code_of k ≡ alone_code (image k X) k.sx
low-number k (i, h, e) = e ∙ subst (λ c. 2 * i ≡ alone_code (image c X) c.sx)
    (ap clifford_of (sym e) ∙ clifford_of-code_of k) (low-code i h)

module _ (n : ℕ) (rows : ℕ → Pauli) (P : Proper n rows) (l : Letter) (la : acts l ≡ true) (q : ℕ) (hq : q < n)
    (s : Bool) (h : InGroup n n rows (single l q s)) where
  abbrev r : GraphRecord
  r = reduced n rows

  R : ReductionOf n rows r
  R = reduced-is n rows P

  D : (is_determined n (rows_of n r) l q ≡ true) × ((b : Bool) → outcome n (rows_of n r) l q b ≡ s)
  D = determined-sign n (rows_of n r) (record-proper n r R.simple) l q hq s (R.group.there (single l q s) h)

  pub alone-graph : (j : ℕ) → (reduced n rows).graph q j ≡ false
  alone-graph = ((determined-alone n r R.simple q hq l la).0 D.0).1

  pub alone-letter : image ((reduced n rows).codes q) X ≡ l
  alone-letter = ((determined-alone n r R.simple q hq l la).0 D.0).0

  pub alone-sign : ((reduced n rows).codes q).sx ≡ s
  alone-sign = sym (outcome-alone n r R.simple q hq l la D.0 false) ∙ D.1 false

  pub alone-code : code_of ((reduced n rows).codes q) ≡ alone_code l s
  alone-code = low-number ((reduced n rows).codes q) (reduced-codes-among n rows P q)
      ∙ ap (λ a. alone_code a ((reduced n rows).codes q).sx) alone-letter ∙ ap (alone_code l) alone-sign
