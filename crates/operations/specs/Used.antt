-- Records with a word of used qubits (02, §8): their lines, and what a call leaves.
use Rattle.std.specs.Prelude.{◌&&◌, Bool, cond, false, not, ◌||◌, List, ◌≡◌, ◌^◌, ℕ, eqb, leb, ltb, get_or}
use Rattle.buffers.specs.Refusals.{Refusal, first_fitting, inserted_after, line, with_test}
use Rattle.operations.specs.Steps.{
  Operation,
  arguments_of,
  complement_of,
  cz_on,
  gate_with,
  leaves,
  lines_of,
  measurement_of,
  pivot_of,
}
use Rattle.record.specs.Lent.{LentRecord, lent_record, record_lines}
use Rattle.words.specs.Bits.{bit, is_odd, word_of}
use Rattle.words.specs.Search.{some}

-- "A record gains a word of used qubits"
pub record UsedRecord : Type 0 where
  pub held : LentRecord
  pub used : ℕ

-- the record that these four arguments of a call are
abbrev pub used_record : ℕ → List ℕ → List ℕ → ℕ → UsedRecord
used_record n neighbours codes used = record { held = lent_record n neighbours codes; used = used }

-- "its code is 0, 2, 4, 6, 8 or 10"
abbrev pub used_code : ℕ → Bool
used_code c = ltb c 12 && not (is_odd c)

-- 7: "A used vertex has no neighbour, and its code is .."
unfoldable pub used_wrong : UsedRecord → Bool
used_wrong u = some u.held.n (λ q. bit u.used q
    && (not (eqb (get_or u.held.neighbours q 0) 0) || not (used_code (get_or u.held.codes q 0))))

-- "a used bit at or above n gives 5"
abbrev pub used_stray : UsedRecord → Bool
used_stray u = leb (2 ^ u.held.n) u.used

-- the lines of the record in checking order; `others`: a further buffer has a wrong length; `five`, `six`: line 5 or 6
-- holds of a further argument
abbrev pub used_lines : UsedRecord → Bool → Bool → Bool → List Refusal
used_lines u others five six =
    with_test 7 (used_wrong u) (with_test 5 (used_stray u || five) (record_lines u.held others six))

-- no line of the record refuses it
pub record UsedUnrefused (u : UsedRecord) : Type 0 where
  pub no_line : first_fitting (used_lines u false false false) ≡ 0

-- 16: "the call names a used qubit"
abbrev pub names_used : UsedRecord → Operation → Bool
names_used u (gate_with q k) = bit u.used q
names_used u (cz_on a b) = bit u.used a || bit u.used b
names_used u (measurement_of pauli q b) = bit u.used q
names_used u (complement_of a) = bit u.used a
names_used u (pivot_of j k) = bit u.used j || bit u.used k

-- lines as they stand with the tests of used qubits; `named`: the call names one. 16 is "checked directly after 8"
abbrev pub with_used : UsedRecord → Bool → List Refusal → List Refusal
with_used u named lines =
    inserted_after 8 (line 16 named) (with_test 7 (used_wrong u) (with_test 5 (used_stray u) lines))

-- those of an operation
abbrev pub used_lines_of : UsedRecord → Operation → List Refusal
used_lines_of u o = with_used u (names_used u o) (lines_of u.held o)

-- those of its arguments; a measurement has 14 after these
abbrev pub used_arguments_of : UsedRecord → Operation → List Refusal
used_arguments_of u o = with_used u (names_used u o) (arguments_of u.held o)

-- "an accepted measurement sets the qubit's bit"; "gates, cz and rewritings copy it"
abbrev pub used_after : UsedRecord → Operation → ℕ
used_after u (gate_with q k) = u.used
used_after u (cz_on a b) = u.used
used_after u (measurement_of pauli q b) = word_of u.held.n (λ t. bit u.used t || eqb t q)
used_after u (complement_of a) = u.used
used_after u (pivot_of j k) = u.used

-- what a step leaves: its number, and the record and the used word after it
pub record UsedStep : Type 0 where
  pub number : ℕ
  pub after : UsedRecord

-- a step on a record with its used word
abbrev pub used_step : UsedRecord → Operation → UsedStep
used_step u o =
    record {
      number = first_fitting (used_lines_of u o);
      after = cond (eqb (first_fitting (used_lines_of u o)) 0)
          (record { held = leaves u.held o; used = used_after u o }) u;
    }
