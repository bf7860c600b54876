-- An observation is a measurement: with the outcome that it answers as bit, that of the state where the state
-- determines it and the bit supplied otherwise, the measurement is accepted, and answers and leaves the same.
use mathlib.Core.Bool.{◌&&◌, Bool, and-false, cond, false, true, ◌||◌}
use mathlib.Core.List.{[]}
use mathlib.Core.Path.{ap, refl, sym, ◌∙◌, ◌≡◌}
use Prim.Native.Nat.{ℕ}
use lib.Dec.{eqb, leb, lit<}
use Rattle.buffers.proofs.Lines.{more-accepted, none-fits, passed}
use Rattle.buffers.specs.Refusals.{first_fitting}
use Rattle.buffers.proofs.Fitting.{none-holds}
use Rattle.operations.specs.Measurement.{
  contradicts,
  first_against,
  is_determined,
  measured_outcome,
  measured_rows,
  outcome,
  outcome_number,
  pauli_letter,
  projected,
  single,
}
use Rattle.operations.specs.Steps.{argument_lines, in_place_lines, made, measured_answer, measurement_of}
use Rattle.operations.specs.declared.Outcome.TheVariants.{Chosen, Determined}
use Rattle.pauli.specs.Pauli.{Pauli}
use Rattle.pauli.specs.declared.Letter.{Letter}
use Rattle.record.specs.Lent.{LentRecord, held_rows, record_codes}
use Rattle.record.specs.Reduced.{reduced}
use Rattle.stabilizer.specs.Membership.{member}
use Rattle.operations.proofs.UsedPassing.{in-place-counted, used-passes, with-used-passes}
use Rattle.operations.specs.Used.{UsedRecord, used_arguments_of, used_lines_of}
use Rattle.operations.specs.internal.UsedLaws.{UsedPasses}
use Rattle.words.proofs.BitLaws.{is_odd-digit}
use Rattle.words.proofs.Finite.{⊕-self}
use Rattle.words.proofs.Flags.{neither}
use Rattle.words.specs.Bits.{bit, digit, is_odd, ◌⊕◌}

-- a choice made twice
module _ {A : Type 0} (m : Bool) where
  twice : (f : Bool → A) (a : A) (d b : Bool) → cond d a (f (cond d m b)) ≡ cond d a (f b)
  twice f a true b = refl
  twice f a false b = refl

module _ (n : ℕ) (rows : ℕ → Pauli) (l : Letter) (q : ℕ) (b : Bool) where
  abbrev d : Bool
  d = is_determined n rows l q

  abbrev m : Bool
  m = member n rows (single l q true)

  same_outcome : outcome n rows l q (outcome n rows l q b) ≡ outcome n rows l q b
  same_outcome = twice m (λ s. s) m d b

  not-contradicted : contradicts n rows l q (outcome n rows l q b) ≡ false
  not-contradicted = ap (λ o. d && (o ⊕ outcome n rows l q b)) same_outcome
      ∙ ap (λ c. d && c) (⊕-self (outcome n rows l q b)) ∙ and-false d

  same_rows : measured_rows n rows l q (outcome n rows l q b) ≡ measured_rows n rows l q b
  same_rows = twice m (λ s. projected n rows (single l q s) (first_against n rows (single l q s))) rows d b

  same_answer : measured_outcome n rows l q (outcome n rows l q b) ≡ measured_outcome n rows l q b
  same_answer = ap (λ s. cond d (Determined s) (Chosen s)) same_outcome

  the_number : outcome_number (measured_outcome n rows l q b) ≡ digit (outcome n rows l q b)
  the_number = go d (outcome n rows l q b)
    where
      go : (d s : Bool) → outcome_number (cond d (Determined s) (Chosen s)) ≡ digit s
      go true s = refl
      go false s = refl

-- ---- an accepted observation
module _ (u : UsedRecord) (pauli q b : ℕ) where
  abbrev held : LentRecord
  held = u.held

  -- its outcome, in numbers
  abbrev pub answered : ℕ
  answered = outcome_number (measured_answer u.held pauli q b)

  abbrev s : Bool
  s = outcome held.n (held_rows held) (pauli_letter pauli) q (is_odd b)

  -- as a bit
  answered-digit : answered ≡ digit s
  answered-digit = the_number held.n (held_rows held) (pauli_letter pauli) q (is_odd b)

  as-bit : is_odd answered ≡ s
  as-bit = ap is_odd answered-digit ∙ is_odd-digit s

  pub observed-made : made u.held (measurement_of pauli q answered) ≡ made u.held (measurement_of pauli q b)
  observed-made = ap (reduced held.n)
      (ap (measured_rows held.n (held_rows held) (pauli_letter pauli) q) as-bit
      ∙ same_rows held.n (held_rows held) (pauli_letter pauli) q (is_odd b))

  pub observed-answer : measured_answer u.held pauli q answered ≡ measured_answer u.held pauli q b
  observed-answer = ap (measured_outcome held.n (held_rows held) (pauli_letter pauli) q) as-bit
      ∙ same_answer held.n (held_rows held) (pauli_letter pauli) q (is_odd b)

  agrees : contradicts held.n (held_rows held) (pauli_letter pauli) q (is_odd answered) ≡ false
  agrees = ap (contradicts held.n (held_rows held) (pauli_letter pauli) q) as-bit
      ∙ not-contradicted held.n (held_rows held) (pauli_letter pauli) q (is_odd b)

  -- the arguments are in order, and nothing contradicts the outcome
  pub observed-passes : first_fitting (used_arguments_of u (measurement_of pauli q b)) ≡ 0
      → UsedPasses u (measurement_of pauli q answered)
  observed-passes e =
      let W = (with-used-passes u (argument_lines held pauli q b) (in-place-counted held _ _) (bit u.used q)).0 e in
      record {
        as_before =
            more-accepted (argument_lines held pauli q answered) _
            (lit< tt, (lit< tt, (lit< tt, (lit< tt, (lit< tt, (lit< tt, tt))))))
            (ap (λ t. first_fitting (in_place_lines held (t || (eqb pauli 0 || leb 4 pauli)) (leb held.n q)))
            (small ∙ sym (bit-small W.0)) ∙ W.0)
            ∙ passed 14 [] agrees ∙ none-fits;
        no_stray = W.1;
        none-wrong = W.2;
        none_named = W.3;
      }
    where
      small : leb 2 answered ≡ false
      small = ap (leb 2) answered-digit ∙ go s
        where
          go : (s : Bool) → leb 2 (digit s) ≡ false
          go true = refl
          go false = refl

      bit-small : first_fitting (argument_lines held pauli q b) ≡ 0 → leb 2 b ≡ false
      bit-small e = (neither (leb 2 b) _ (neither (record_codes held) _
          (none-holds (argument_lines held pauli q b) refl e).1.1.1.0).1).0

  pub observed-accepted : first_fitting (used_arguments_of u (measurement_of pauli q b)) ≡ 0
      → first_fitting (used_lines_of u (measurement_of pauli q answered)) ≡ 0
  observed-accepted e = (used-passes u (measurement_of pauli q answered)).1 (observed-passes e)
