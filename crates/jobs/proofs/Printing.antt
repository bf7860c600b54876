-- What the print of a run needs: every record of it has n places and codes below 24, and each answer has small numbers.
use mathlib.Core.Bool.{Bool, cond, false, true}
use mathlib.Core.List.{List, [], ◌∷◌}
use mathlib.Core.Path.{◌∙◌, ◌≡◌, refl, subst, sym}
use Prim.Native.Nat.{◌<◌, ℕ}
use native.Mathlib.Decide.{ℕ_discrete}
use lib.Dec.{eqb, lit<}
use lib.ListN.{get_or, get_or-replicate, length, length-replicate}
use Rattle.buffers.proofs.Lines.{AllBelow, first_below}
use Rattle.buffers.proofs.Tabulate.{tabulate-at, tabulate-length}
use Rattle.buffers.specs.Refusals.{first_fitting, with_test}
use Rattle.clifford.proofs.CliffordLaws.{code_of-lt}
use Rattle.clifford.specs.Clifford.{code_of}
use Rattle.operations.specs.Measurement.{determined_number, outcome_number}
use Rattle.operations.specs.Steps.{
  Operation,
  complement_of,
  cz_on,
  gate_with,
  leaves,
  lines_of,
  made,
  measured_answer,
  measurement_of,
  pivot_of,
}
use Rattle.operations.specs.declared.Outcome.{Outcome}
use Rattle.operations.specs.declared.Outcome.TheVariants.{Chosen, Determined}
use Rattle.record.specs.Lent.{code_numbers, LentRecord, neighbour_words}
use Rattle.record.specs.Records.{GraphRecord}
use Rattle.operations.specs.Used.{UsedRecord, used_after, used_lines_of, used_step}
use Rattle.words.proofs.BitLaws.{digit_lt}
use Rattle.words.specs.Bits.{word_of}
use Rattle.jobs.specs.Asked.{
  Request,
  asked,
  carry_out,
  number_of,
  observation_of,
  renewal_of,
  request_lines,
  unused_set,
}
use Rattle.jobs.specs.Runs.{
  after_step,
  answer_of,
  determined_of,
  outcome_of,
  request_determined,
  request_leaves,
  request_outcome,
  run,
  started,
}
use Rattle.jobs.proofs.Numbers.{accepted-leaves, accepted-number, refused-keeps}
use Rattle.source.proofs.RenewedRecords.{renew-passes, renewed-accepted}
use Rattle.jobs.specs.declared.Step.{Step}

-- ---- records
-- the buffers have n places, and hold codes
pub record Sized (n : ℕ) (l : LentRecord) : Type 0 where
  pub qubits : l.n ≡ n
  pub neighbours-long : length l.neighbours ≡ n
  pub codes-long : length l.codes ≡ n
  pub codes-small : (q : ℕ) → q < n → get_or l.codes q 0 < 24

pub started-sized : (n : ℕ) → Sized n (started n).held
started-sized n =
    record {
      qubits = refl;
      neighbours-long = length-replicate n 0;
      codes-long = length-replicate n 8;
      codes-small = λ q h. subst (λ k. k < 24) (sym (get_or-replicate n q 8 0 h)) (lit< tt);
    }

module _ (n : ℕ) (l : LentRecord) (S : Sized n l) where
  -- accepted, the buffers hold a record on n vertices; refused, what they held
  operation-sized : (o : Operation) → Sized n (leaves l o)
  operation-sized o = go (eqb (first_fitting (lines_of l o)) 0)
    where
      new : GraphRecord
      new = made l o

      go : (b : Bool) → Sized n (record {
        n = l.n;
        neighbours = cond b (neighbour_words l.n new) l.neighbours;
        codes = cond b (code_numbers l.n new) l.codes;
      })
      go true =
          record {
            qubits = S.qubits;
            neighbours-long = tabulate-length l.n (λ j. word_of l.n (new.graph j)) ∙ S.qubits;
            codes-long = tabulate-length l.n (λ q. code_of (new.codes q)) ∙ S.qubits;
            codes-small = λ q h. subst (λ k. k < 24)
                (sym (tabulate-at l.n (λ q. code_of (new.codes q)) q (subst (λ m. q < m) (sym S.qubits) h)))
                (code_of-lt (new.codes q));
          }
      go false =
          record {
            qubits = S.qubits;
            neighbours-long = S.neighbours-long;
            codes-long = S.codes-long;
            codes-small = S.codes-small;
          }

-- what is asked, accepted
module _ (n : ℕ) (u : UsedRecord) (S : Sized n u.held) where
  used-sized : (o : Operation) → Sized n (used_step u o).after.held
  used-sized o = go (eqb (used_step u o).number 0)
    where
      go : (c : Bool) → Sized n (cond c (record { held = leaves u.held o; used = used_after u o }) u).held
      go true = operation-sized n u.held S o
      go false = S

  request-sized : (r : Request) → first_fitting (request_lines u r) ≡ 0 → Sized n (request_leaves u r).held
  request-sized (carry_out o) z = used-sized o
  request-sized (observation_of pauli q b) z = used-sized (measurement_of pauli q
      (outcome_number (measured_answer u.held pauli q b)))
  request-sized (renewal_of q k) z =
      let A = renewed-accepted u q k (renew-passes u q k z) in
      record {
        qubits = S.qubits;
        neighbours-long = S.neighbours-long;
        codes-long = A.codes-length ∙ S.qubits;
        codes-small = λ t h. A.codes-below t;
      }

pub step-sized : (n : ℕ) (u : UsedRecord) → Sized n u.held → (s : Step) → Sized n (after_step u s).held
step-sized n u S s = go (ℕ_discrete (number_of u s) 0)
  where
    go : Dec (number_of u s ≡ 0) → Sized n (after_step u s).held
    go (yes z) = subst (λ v. Sized n v.held) (sym (accepted-leaves u s z))
        (request-sized n u S (asked s) (accepted-number u s z))
    go (no h) = subst (λ v. Sized n v.held) (sym (refused-keeps u s h)) S

pub run-sized : (n : ℕ) (u : UsedRecord) → Sized n u.held → (steps : List Step) → Sized n (run u steps).held
unfolding run
run-sized n u S [] = S
run-sized n u S (s ∷ rest) = run-sized n (after_step u s) (step-sized n u S s) rest

-- ---- answers
below-21 : (u : UsedRecord) (b : Bool) (o : Operation) → AllBelow 21 (with_test 6 b (used_lines_of u o))
below-21 u b (gate_with q k) = (lit< tt, (lit< tt, (lit< tt, (lit< tt, (lit< tt, (lit< tt, (lit< tt, tt)))))))
below-21 u b (cz_on a c) = (lit< tt, (lit< tt, (lit< tt, (lit< tt, (lit< tt, (lit< tt, (lit< tt, tt)))))))
below-21 u b (measurement_of pauli q c) =
    (lit< tt, (lit< tt, (lit< tt, (lit< tt, (lit< tt, (lit< tt, (lit< tt, (lit< tt, tt))))))))
below-21 u b (complement_of a) = (lit< tt, (lit< tt, (lit< tt, (lit< tt, (lit< tt, (lit< tt, (lit< tt, tt)))))))
below-21 u b (pivot_of j k) = (lit< tt, (lit< tt, (lit< tt, (lit< tt, (lit< tt, (lit< tt, (lit< tt, tt)))))))

request-below : (u : UsedRecord) (b : Bool) (r : Request) → AllBelow 21 (with_test 6 b (request_lines u r))
request-below u b (carry_out o) = below-21 u b o
request-below u b (observation_of pauli q c) =
    (lit< tt, (lit< tt, (lit< tt, (lit< tt, (lit< tt, (lit< tt, (lit< tt, tt)))))))
request-below u b (renewal_of q k) = (lit< tt, (lit< tt, (lit< tt, (lit< tt, (lit< tt, (lit< tt, (lit< tt, tt)))))))

-- the refusal is one of the published numbers
pub refusal-small : (u : UsedRecord) (s : Step) → (answer_of u s).refusal < 21
refusal-small u s = first_below 21 (with_test 6 (unused_set s.op s.b s.value) (request_lines u (asked s)))
    (lit< tt) (request-below u (unused_set s.op s.b s.value) (asked s))

-- the outcome and determined are bits
outcome-digit : (r : Outcome) → (outcome_number r < 2) × (determined_number r < 2)
outcome-digit (Determined b) = (digit_lt b, lit< tt)
outcome-digit (Chosen b) = (digit_lt b, lit< tt)

outcomes-small : (l : LentRecord) (o : Operation) → (outcome_of l o < 2) × (determined_of l o < 2)
outcomes-small l (gate_with q k) = (lit< tt, lit< tt)
outcomes-small l (cz_on a b) = (lit< tt, lit< tt)
outcomes-small l (measurement_of pauli q b) = outcome-digit (measured_answer l pauli q b)
outcomes-small l (complement_of a) = (lit< tt, lit< tt)
outcomes-small l (pivot_of j k) = (lit< tt, lit< tt)

requests-small : (l : LentRecord) (r : Request) → (request_outcome l r < 2) × (request_determined l r < 2)
requests-small l (carry_out o) = outcomes-small l o
requests-small l (observation_of pauli q b) = outcome-digit (measured_answer l pauli q b)
requests-small l (renewal_of q k) = (lit< tt, lit< tt)

pub outcome-small : (u : UsedRecord) (s : Step) → ((answer_of u s).outcome < 2) × ((answer_of u s).determined < 2)
outcome-small u s = (
  go (eqb (number_of u s) 0) (requests-small u.held (asked s)).0,
  go (eqb (number_of u s) 0) (requests-small u.held (asked s)).1,
)
  where
    go : {v : ℕ} (b : Bool) → v < 2 → cond b v 0 < 2
    go true h = h
    go false h = lit< tt
