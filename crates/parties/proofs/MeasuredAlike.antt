-- Records that have the same row and the same code at a qubit answer a measurement of it alike.
use mathlib.Core.Bool.{◌&&◌, Bool, cond, false, true}
use mathlib.Core.Path.{ap, ap₂, refl, sym, ◌∙◌, ◌≡◌}
use Prim.Native.Nat.{◌<◌, ℕ}
use Rattle.clifford.specs.Clifford.{image}
use Rattle.record.specs.Graph.{Simple}
use Rattle.operations.proofs.MeasuredRecords.{acts, determined-alone, outcome-alone}
use Rattle.operations.specs.Measurement.{contradicts, is_determined, measured_outcome, outcome, single}
use Rattle.operations.specs.declared.Outcome.TheVariants.{Chosen, Determined}
use Rattle.pauli.specs.declared.Letter.{Letter}
use Rattle.pauli.specs.declared.Letter.TheVariants.{X}
use Rattle.record.specs.Records.{GraphRecord, rows_of}
use Rattle.stabilizer.specs.Membership.{member}
use Rattle.words.proofs.Flags.{same-by-both}
use Rattle.words.specs.Bits.{◌⊕◌}

-- where it is determined in one it is in the other
determined-there : (n : ℕ) (r t : GraphRecord) → Simple n r.graph → Simple n t.graph → (q : ℕ) → q < n
    → r.codes q ≡ t.codes q → ((j : ℕ) → r.graph q j ≡ t.graph q j) → (l : Letter) → acts l ≡ true
    → is_determined n (rows_of n r) l q ≡ true → is_determined n (rows_of n t) l q ≡ true
determined-there n r t S T q hq code row l la e =
    let h = (determined-alone n r S q hq l la).0 e in
    (determined-alone n t T q hq l la).1 (ap (λ c. image c X) (sym code) ∙ h.0, λ j. sym (row j) ∙ h.1 j)

module _ (n : ℕ) (r t : GraphRecord) (S : Simple n r.graph) (T : Simple n t.graph) (q : ℕ) (hq : q < n)
    (code : r.codes q ≡ t.codes q) (row : (j : ℕ) → r.graph q j ≡ t.graph q j) (l : Letter)
    (la : acts l ≡ true) where
  pub determined-alike : is_determined n (rows_of n r) l q ≡ is_determined n (rows_of n t) l q
  determined-alike = same-by-both _ _ (determined-there n r t S T q hq code row l la)
      (determined-there n t r T S q hq (sym code) (λ j. sym (row j)) l la)

  pub outcome-alike : (b : Bool) → outcome n (rows_of n r) l q b ≡ outcome n (rows_of n t) l q b
  outcome-alike b = go (is_determined n (rows_of n r) l q) refl
    where
      go : (d : Bool) → is_determined n (rows_of n r) l q ≡ d
          → outcome n (rows_of n r) l q b ≡ outcome n (rows_of n t) l q b
      go true e =
          outcome-alone n r S q hq l la e b ∙ ap (λ c. c.sx) code
          ∙ sym (outcome-alone n t T q hq l la (sym determined-alike ∙ e) b)
      go false e =
          ap (λ d. cond d (member n (rows_of n r) (single l q true)) b) e
          ∙ sym (ap (λ d. cond d (member n (rows_of n t) (single l q true)) b) (sym determined-alike ∙ e))

  pub contradicts-alike : (b : Bool) → contradicts n (rows_of n r) l q b ≡ contradicts n (rows_of n t) l q b
  contradicts-alike b = ap₂ (λ d o. d && (o ⊕ b)) determined-alike (outcome-alike b)

  pub answer-alike : (b : Bool) → measured_outcome n (rows_of n r) l q b ≡ measured_outcome n (rows_of n t) l q b
  answer-alike b = ap₂ (λ d o. cond d (Determined o) (Chosen o)) determined-alike (outcome-alike b)
