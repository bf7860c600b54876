-- Records rewritten where they are lent so that they keep their group: what the steps on two buffers promise.
use Rattle.std.specs.Prelude.{◌&&◌, Bool, not, ◌||◌, List, ◌≡◌, ◌/◌, ◌<◌, ◌^◌, ℕ, eqb, leb, get_or, length}
use Rattle.clifford.specs.Clifford.{image}
use Rattle.clifford.specs.Vectors.{codes_of}
use Rattle.operations.specs.internal.InPlace.{Rewritten, Unrefused, record_in}
use Rattle.operations.specs.Measurement.{measured_rows}
use Rattle.pauli.specs.Pauli.{Pauli}
use Rattle.pauli.specs.declared.Letter.{Letter}
use Rattle.pauli.specs.declared.Letter.TheVariants.{Z}
use Rattle.record.specs.Lent.{held_record, held_rows}
use Rattle.record.specs.Records.{rows_of}
use Rattle.record.specs.Reduced.{reduced}
use Rattle.stabilizer.specs.Groups.{SameGroup}
use Rattle.words.specs.Bits.{is_odd}
use Rattle.operations.specs.internal.ReducedForms.{ReducedForm}
use Rattle.operations.specs.internal.Settling.{distance}

-- two buffers held a record, and hold one with the same group, which no line refuses
pub record GroupKept (words codes words' codes' : List ℕ) : Type 0 where
  pub long : length words' ≡ length words
  pub unrefused : Unrefused (record_in words' codes')
  pub group : SameGroup (length words) (length words) (held_rows (record_in words codes))
      (rows_of (length words) (held_record (record_in words' codes')))

-- a vertex out of place: its code is 12 or more, or odd, or it is 8 or more and the vertex has a larger neighbour
abbrev pub unsettled : List ℕ → List ℕ → ℕ → Bool
unsettled words codes j =
    leb 12 (get_or codes j 0)
    || (is_odd (get_or codes j 0) || (leb 8 (get_or codes j 0) && not (eqb (get_or words j 0 / 2 ^ j) 0)))

-- one step towards the reduced form
pub record Nearer (words codes words' codes' : List ℕ) : Type 0 where
  pub kept : GroupKept words codes words' codes'
  pub less : distance (length words) (held_record (record_in words' codes'))
      < distance (length words) (held_record (record_in words codes))

-- the reduced form is reached: the buffers hold the reduced record of the group
pub record Normalised (words codes words' codes' : List ℕ) : Type 0 where
  pub kept : GroupKept words codes words' codes'
  pub form : ReducedForm (length words) (held_record (record_in words' codes'))
  pub after : Rewritten words codes (λ g. reduced (length words) (rows_of (length words) g)) words' codes'

-- the code at q sends Z to plus or minus this letter
pub record BroughtToZ (words codes : List ℕ) (q : ℕ) (l : Letter) (words' codes' : List ℕ) : Type 0 where
  pub kept : GroupKept words codes words' codes'
  pub sends-z : image (codes_of codes' q) Z ≡ l

-- two buffers held a record, and hold one with the group after a measurement of l at q
pub record GroupMeasured (words codes : List ℕ) (l : Letter) (q : ℕ) (b : Bool) (words' codes' : List ℕ) : Type 0 where
  pub long : length words' ≡ length words
  pub unrefused : Unrefused (record_in words' codes')
  pub group : SameGroup (length words) (length words)
      (measured_rows (length words) (held_rows (record_in words codes)) l q b)
      (rows_of (length words) (held_record (record_in words' codes')))

-- two buffers hold a record, which no line refuses, with the group of a list on n qubits
pub record GroupHeld (n : ℕ) (rows : ℕ → Pauli) (words codes : List ℕ) : Type 0 where
  pub long : length words ≡ n
  pub unrefused : Unrefused (record_in words codes)
  pub group : SameGroup n n rows (rows_of n (held_record (record_in words codes)))
