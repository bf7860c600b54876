-- The request on faster sessions: the answer of gate, CZ and measurement from the calls' contracts, once as the record
-- is rewritten, and once as its list is changed and reduced.
use mathlib.Core.Bool.{Bool, cond, false, true, ◌||◌}
use mathlib.Core.List.{List}
use mathlib.Core.Logic.{◌≢◌}
use mathlib.Core.Path.{ap, ap₂, refl, subst, sym, ◌∙◌, ◌≡◌}
use Prim.Native.Nat.{◌<◌, ℕ}
use Rattle.buffers.specs.Refusals.{first_fitting}
use Rattle.clifford.specs.Clifford.{Clifford, clifford_of}
use Rattle.clifford.specs.Vectors.{act}
use Rattle.buffers.specs.Calls.{Call}
use Rattle.calls.specs.Expansions.{expand_call}
use Rattle.calls.specs.Lists.{reduce_unused_call}
use Rattle.operations.proofs.CzGroups.{cz-proper}
use Rattle.operations.proofs.Determined.{measured-proper}
use Rattle.operations.proofs.Gating.{gated-row}
use Rattle.operations.proofs.GroupAlone.{cz-of-group, measured-of-group, reduced-of-group}
use Rattle.operations.specs.Cz.{cz_rows}
use Rattle.operations.specs.Measurement.{
  measured_outcome,
  determined_number,
  measured_rows,
  outcome_number,
  pauli_letter,
  single,
}
use Rattle.operations.specs.Steps.{Operation, cz_on, gate_with, made, measurement_of}
use Rattle.operations.specs.declared.Outcome.TheVariants.{Chosen, Determined}
use Rattle.pauli.specs.Pauli.{Pauli}
use Rattle.pauli.specs.declared.Letter.{Letter}
use Rattle.record.proofs.ExpansionBack.{ExpandedBack, expanded, expansion-back}
use Rattle.record.specs.Accepted.{AcceptedRecord}
use Rattle.record.specs.Lent.{code_numbers, held_record, held_rows, neighbour_words}
use Rattle.record.specs.Reduced.{reduced}
use Rattle.stabilizer.proofs.Accepted.{accepted-list}
use Rattle.stabilizer.proofs.Carried.{act-same}
use Rattle.stabilizer.proofs.GroupLaws.{same-trans}
use Rattle.stabilizer.proofs.Independence.{act-proper}
use Rattle.stabilizer.proofs.ReadBack.{back_passes, back-same, rows_back}
use Rattle.stabilizer.proofs.SharedTests.{length-passes}
use Rattle.stabilizer.specs.Groups.{Proper, SameGroup}
use Rattle.stabilizer.specs.Lists.{list_lines, rows}
use Rattle.operations.specs.Used.{UsedRecord}
use Rattle.words.specs.Bits.{is_odd}
use Rattle.claims.proofs.LinesExactly.{three-fit}
use Rattle.claims.proofs.SecondDemandLists.{holds-expanded}
use Rattle.claims.proofs.SessionNumbers.{expanded-rows, member-equal}
use Rattle.claims.proofs.UsedExactly.{used-cz, used-exactly, used-gate, used-measure}
use Rattle.claims.specs.Arguments.{IsRecord}
use Rattle.claims.specs.families.Records.{MeasureFits}
use Rattle.claims.specs.SessionDemand.{
  ByExpanding,
  CzByExpanding,
  GatesByExpanding,
  MeasurementsByExpanding,
  ReducesTo,
  changed,
  cz_change,
  gate_change,
  list_in,
  measure_change,
}

-- ---- changes: lists go to lists, and equal groups to equal groups
record OfGroups (n : ℕ) (f : (ℕ → Pauli) → ℕ → Pauli) : Type 0 where
  proper : (R : ℕ → Pauli) → Proper n R → Proper n (f R)
  group : (R S : ℕ → Pauli) → Proper n R → Proper n S → SameGroup n n R S → SameGroup n n (f R) (f S)

codes-of-groups : (n : ℕ) (c : ℕ → Clifford) → OfGroups n (λ R j. act n c (R j))
codes-of-groups n c =
    record { proper = λ R P. act-proper n c R P; group = λ R S P Q E. act-same n n c R S E }

cz-of-groups : (n a b : ℕ) → a < n → b < n → a ≢ b → OfGroups n (cz_rows a b)
cz-of-groups n a b ha hb ab =
    record {
      proper = λ R P. cz-proper n a b ha hb ab R P;
      group = λ R S P Q E. cz-of-group n a b ha hb ab R S E;
    }

measured-of-groups : (n : ℕ) (L : Letter) (q : ℕ) (b : Bool) → q < n → OfGroups n (λ R. measured_rows n R L q b)
measured-of-groups n L q b hq =
    record {
      proper = λ R P. measured-proper n R P L q hq b;
      group = λ R S P Q E. measured-of-group n L q hq R S P Q E b;
    }

-- ---- a record's list, changed and reduced
module _ (u : UsedRecord) (I : IsRecord u) (f : (ℕ → Pauli) → ℕ → Pauli) (O : OfGroups u.held.n f) (o : Operation)
    (is : made u.held o ≡ reduced u.held.n (f (held_rows u.held))) (nb' cs' : List ℕ)
    (neighbours-held : nb' ≡ neighbour_words u.held.n (made u.held o))
    (codes-held : cs' ≡ code_numbers u.held.n (made u.held o))
  where
    abbrev n : ℕ
    n = u.held.n

    abbrev S : ℕ → Pauli
    S = rows (expanded u.held)

    A : AcceptedRecord u.held
    A = I.held

    X : ExpandedBack u.held
    X = expansion-back u.held A

    P : Proper n (f S)
    P = O.proper S X.list.proper

    equal-all : (s z x nb cs nb₂ cs₂ : List ℕ) (used used₂ : ℕ) → SameGroup n n (f S) (rows (list_in n s z x)) →
        Call (reduce_unused_call (list_in n s z x) nb cs used nb₂ cs₂ used₂) 0 → (nb₂ ≡ nb') × (cs₂ ≡ cs')
    equal-all s z x nb cs nb₂ cs₂ used used₂ G D = (
      D.held.1.0 ∙ ap (neighbour_words n) same ∙ sym neighbours-held,
      D.held.1.1.0 ∙ ap (code_numbers n) same ∙ sym codes-held,
    )
      where
        same : reduced n (rows (list_in n s z x)) ≡ made u.held o
        same = sym (is ∙ reduced-of-group n (f (held_rows u.held)) (rows (list_in n s z x))
            (O.proper (held_rows u.held) A.proper) (accepted-list (list_in n s z x) _ (sym D.number)).proper
            (same-trans (O.group (held_rows u.held) S A.proper X.list.proper X.group) G))

    reduces-to : ReducesTo (expanded u.held) f nb' cs'
    reduces-to =
        record {
          generators = rows_back n (f S) P;
          accepted = λ nb cs e d. ap (λ t. first_fitting (list_lines (changed f (expanded u.held)) t))
              (ap₂ ◌||◌ (length-passes n nb e) (length-passes n cs d))
              ∙ back_passes n (f S) P A.positive A.upto;
          equal = λ nb cs nb₂ cs₂ used used₂ D. let t = changed f (expanded u.held) in
              equal-all t.signs t.z t.x nb cs nb₂ cs₂ used used₂ (back-same n (f S) P) D;
          equal-all = equal-all;
        }

    by-expanding : ByExpanding u f nb' cs'
    by-expanding =
        record {
          accepted = λ s z x d e g. (used-exactly u _ false false).1
              (I, (three-fit n n n s z x).1 (d, e, g), refl, refl);
          equal = λ s z x s' z' x' D. subst (λ m. ReducesTo m f nb' cs') (sym (holds-expanded u s z x s' z' x' D))
              reduces-to;
        }

-- ---- gates and CZ
pub gates-by-expanding : GatesByExpanding
gates-by-expanding u q k nb' cs' C =
    by-expanding u ((used-gate u q k).0 (sym C.number)).0 (gate_change u.held.n q k)
    (codes-of-groups u.held.n _)
    (gate_with q k)
    (λ i. reduced u.held.n (λ j. gated-row u.held.n (held_record u.held) q (clifford_of k) j i)) nb' cs'
    C.held.0 C.held.1.0

pub cz-by-expanding : CzByExpanding
cz-by-expanding u a b nb' cs' C =
    let F = (used-cz u a b).0 (sym C.number) in
    by-expanding u F.0 (cz_change a b) (cz-of-groups u.held.n a b F.1.0 F.2.0 F.3)
    (cz_on a b) refl nb' cs' C.held.0 C.held.1.0

-- ---- measurements
-- lists with the same rows below n answer alike
answered-equal : (n : ℕ) (R S : ℕ → Pauli) → ((j : ℕ) → j < n → R j ≡ S j) → (L : Letter) (q : ℕ) (b : Bool) →
    measured_outcome n R L q b ≡ measured_outcome n S L q b
answered-equal n R S h L q b =
    ap₂ (λ u v. cond (u || v) (Determined (cond (u || v) v b)) (Chosen (cond (u || v) v b)))
    (member-equal n R S h (single L q false)) (member-equal n R S h (single L q true))

pub measurements-by-expanding : MeasurementsByExpanding
measurements-by-expanding u pauli q b answer determined nb' cs' used' answer' determined' C =
    record {
      left = by-expanding u F.held (measure_change u.held.n pauli q b)
          (measured-of-groups u.held.n (pauli_letter pauli) q (is_odd b) F.qubit.0)
          (measurement_of pauli q b) refl nb' cs' C.held.1.1.1.0 C.held.1.1.1.1.0;
      outcome = λ s z x s' z' x' D. C.held.1.0 ∙ ap outcome_number (read s z x s' z' x' D);
      determined = λ s z x s' z' x' D. C.held.1.1.0 ∙ ap determined_number (read s z x s' z' x' D);
    }
  where
    F : MeasureFits u pauli q b
    F = (used-measure u pauli q b).0 (sym C.number)

    read : (s z x s' z' x' : List ℕ) → Call (expand_call u s z x s' z' x') 0 →
        measured_outcome u.held.n (held_rows u.held) (pauli_letter pauli) q (is_odd b)
        ≡ measured_outcome u.held.n (rows (list_in u.held.n s' z' x')) (pauli_letter pauli) q (is_odd b)
    read s z x s' z' x' D = answered-equal u.held.n (held_rows u.held) (rows (list_in u.held.n s' z' x'))
        (expanded-rows u F.held.held s z x s' z' x' D) (pauli_letter pauli) q (is_odd b)
