-- What the scanner of a job text does with each byte. Its scan says what the next byte must be and holds n, the step
-- and the number being read; a step that is read to its newline goes to an array of 4,096 places.
use Rattle.std.specs.Prelude.{◌≡◌, ◌↔◌, Bool, true, false, ◌&&◌, cond, List, [], ◌∷◌, ◌++◌, ℕ, ◌+◌, ◌-◌, ◌*◌, min, eqb, ltb, length, get_or, set, take, replicate}
use Rattle.buffers.specs.Refusals.{first_fitting}
use Rattle.jobs.specs.declared.Op.{Op}
use Rattle.jobs.specs.declared.Op.TheVariants.{Gate, Cz, Measure, Complement, Pivot, Observe, Renew}
use Rattle.jobs.specs.declared.Step.{Step}
use Rattle.text.specs.internal.Feeding.{fed_bytes}
use Rattle.jobs.specs.internal.Lines.{text_lines}
use Rattle.jobs.specs.Text.{qubits_line, step_names, HasJobForm, JobTextOf}
use Rattle.jobs.specs.declared.scan.Field.{Field}
use Rattle.jobs.specs.declared.scan.Field.TheVariants.{N, A, B, Value}
use Rattle.jobs.specs.declared.scan.Place.{Place}
use Rattle.jobs.specs.declared.scan.Place.TheVariants.{Head, Word, First, More, Broken}
use Rattle.jobs.specs.declared.scan.Scan.{Scan}

-- a scan with the first 4,096 steps
pub record Reading : Type 0 where
  pub scan : Scan
  pub steps : List Step

-- the scan at another place
abbrev pub moved : Scan → Place → Scan
moved s p = record { place = p; n = s.n; op = s.op; a = s.a; b = s.b; number = s.number; count = s.count }

-- .. with another operation
abbrev pub with_op : Scan → Op → Place → Scan
with_op s op p =
    record { place = p; n = s.n; op = op; a = s.a; b = s.b; number = s.number; count = s.count }

-- .. with another number
abbrev pub with_number : Scan → ℕ → Place → Scan
with_number s v p = record { place = p; n = s.n; op = s.op; a = s.a; b = s.b; number = v; count = s.count }

-- the bytes of the head that are the same in every job
abbrev pub head_bytes : List ℕ
head_bytes = qubits_line ++ step_names

-- at byte k of them; n follows the first line
unfoldable pub head_step : ℕ → ℕ → Place
head_step k b =
    cond (ltb k 20 && eqb b (get_or head_bytes k 0))
    (cond (eqb k 6) (First N) (cond (eqb k 19) (Word 0) (Head (k + 1))))
    Broken

-- an operation and the space after it, filled up to 11 bytes
abbrev pub letters : Op → List ℕ
letters Gate = 103 ∷ 97 ∷ 116 ∷ 101 ∷ 32 ∷ 0 ∷ 0 ∷ 0 ∷ 0 ∷ 0 ∷ 0 ∷ []
letters Cz = 99 ∷ 122 ∷ 32 ∷ 0 ∷ 0 ∷ 0 ∷ 0 ∷ 0 ∷ 0 ∷ 0 ∷ 0 ∷ []
letters Measure = 109 ∷ 101 ∷ 97 ∷ 115 ∷ 117 ∷ 114 ∷ 101 ∷ 32 ∷ 0 ∷ 0 ∷ 0 ∷ []
letters Complement = 99 ∷ 111 ∷ 109 ∷ 112 ∷ 108 ∷ 101 ∷ 109 ∷ 101 ∷ 110 ∷ 116 ∷ 32 ∷ []
letters Pivot = 112 ∷ 105 ∷ 118 ∷ 111 ∷ 116 ∷ 32 ∷ 0 ∷ 0 ∷ 0 ∷ 0 ∷ 0 ∷ []
letters Observe = 111 ∷ 98 ∷ 115 ∷ 101 ∷ 114 ∷ 118 ∷ 101 ∷ 32 ∷ 0 ∷ 0 ∷ 0 ∷ []
letters Renew = 114 ∷ 101 ∷ 110 ∷ 101 ∷ 119 ∷ 32 ∷ 0 ∷ 0 ∷ 0 ∷ 0 ∷ 0 ∷ []

-- the operation of texts that can begin with the letter b
unfoldable pub first_op : ℕ → Op
first_op b = cond (eqb b 103) Gate (cond (eqb b 99) Cz (cond (eqb b 109) Measure Pivot))

-- c and o begin another operation than c alone
abbrev pub after_o : Op → Op
after_o Gate = Gate
after_o Cz = Complement
after_o Measure = Measure
after_o Complement = Complement
after_o Pivot = Pivot
after_o Observe = Observe
after_o Renew = Renew

-- the operation whose letter k the byte b can be
unfoldable pub op_for : ℕ → Op → ℕ → Op
op_for k op b = cond (eqb k 0) (first_op b) (cond (eqb k 1 && eqb b 111) (after_o op) op)

-- after k letters of the operation
unfoldable pub word_step : ℕ → Scan → ℕ → Scan
word_step k s b =
    cond (ltb k 11 && eqb b (get_or (letters (op_for k s.op b)) k 0))
    (with_op s (op_for k s.op b) (cond (eqb b 32) (First A) (Word (k + 1))))
    (moved s Broken)

-- the value of a decimal digit; 10 for any other byte
unfoldable pub digit_value : ℕ → ℕ
digit_value b = cond (ltb b 48) 10 (cond (ltb b 58) (b - 48) 10)

-- at the first digit of a field
unfoldable pub first_step : Field → Scan → ℕ → Scan
first_step f s b =
    cond (ltb (digit_value b) 10) (with_number s (digit_value b) (More f)) (moved s Broken)

-- the byte behind a field
abbrev pub separator : Field → ℕ
separator N = 10
separator A = 32
separator B = 32
separator Value = 10

-- one step more, of which no more than 4,097 are counted: more than 4,096 is refusal 15
unfoldable pub one_more : ℕ → ℕ
one_more n = cond (ltb n 4097) (n + 1) n

-- a field has ended
abbrev pub ended : Field → Scan → Scan
ended N s =
    record {
      place = Head 7;
      n = s.number;
      op = s.op;
      a = s.a;
      b = s.b;
      number = s.number;
      count = s.count;
    }
ended A s =
    record {
      place = First B;
      n = s.n;
      op = s.op;
      a = s.number;
      b = s.b;
      number = s.number;
      count = s.count;
    }
ended B s =
    record {
      place = First Value;
      n = s.n;
      op = s.op;
      a = s.a;
      b = s.number;
      number = s.number;
      count = s.count;
    }
ended Value s =
    record {
      place = Word 0;
      n = s.n;
      op = s.op;
      a = s.a;
      b = s.b;
      number = s.number;
      count = one_more s.count;
    }

-- after a digit of a field: another one, unless the number is 0 or has three digits, or the byte behind it
unfoldable pub more_step : Field → Scan → ℕ → Scan
more_step f s b =
    cond (ltb (digit_value b) 10)
    (cond (ltb 0 s.number && ltb s.number 100)
    (with_number s (s.number * 10 + digit_value b) (More f))
    (moved s Broken))
    (cond (eqb b (separator f)) (ended f s) (moved s Broken))

-- at each place
abbrev pub step_at : Place → Scan → ℕ → Scan
step_at (Head k) s b = moved s (head_step k b)
step_at (Word k) s b = word_step k s b
step_at (First f) s b = first_step f s b
step_at (More f) s b = more_step f s b
step_at Broken s b = s

-- the scan after one more byte
unfoldable pub scan_byte : Scan → ℕ → Scan
scan_byte s b = step_at s.place s b

-- the scan of the empty text
unfoldable pub begin : Scan
begin = record { place = Head 0; n = 0; op = Gate; a = 0; b = 0; number = 0; count = 0 }

abbrev pub as_reading : Scan → List Step → Reading
as_reading s steps = record { scan = s; steps = steps }

-- before a text is read
abbrev pub no_step : Step
no_step = record { op = Gate; a = 0; b = 0; value = 0 }

unfoldable pub empty : Reading
empty = as_reading begin (replicate 4096 no_step)

-- the step that the scan holds
abbrev pub step_of : Scan → Step
step_of s = record { op = s.op; a = s.a; b = s.b; value = s.number }

-- it is stored behind the steps before it
abbrev pub stored : Reading → Scan → Reading
stored w next = as_reading next (set w.steps w.scan.count (step_of w.scan))

-- one more byte: where it ends one of the first 4,096 steps, that step is stored
abbrev pub feed_next : Reading → Scan → Reading
feed_next w next =
    cond (ltb w.scan.count next.count && ltb w.scan.count 4096)
    (stored w next)
    (as_reading next w.steps)

unfoldable pub feed : Reading → ℕ → Reading
feed w b = feed_next w (scan_byte w.scan b)

-- one more byte after the other
abbrev pub fed : Reading → List ℕ → Reading
fed w t = fed_bytes feed w t

-- whether the next byte would start a step
abbrev pub at_line : Place → Bool
at_line (Head k) = false
at_line (Word k) = eqb k 0
at_line (First f) = false
at_line (More f) = false
at_line Broken = false

-- the text ends: it has the form where the next byte would start a step. The number of the first line that holds
unfoldable pub verdict : Scan → ℕ
verdict s = first_fitting (text_lines (at_line s.place) s.n s.count)

-- n is kept, the steps are counted, up to 4,097, and the first 4,096 of them stand at the start of the array
pub record StepsKept (n : ℕ) (ss : List Step) (w : Reading) : Type 0 where
  pub qubits : w.scan.n ≡ n
  pub count : w.scan.count ≡ min (length ss) 4097
  pub steps : take (length ss) w.steps ≡ take 4096 ss

-- the scan of the text t is right: its place says whether t has the form, and then the job is kept
pub record Judged (t : List ℕ) (w : Reading) : Type 0 where
  pub form : (at_line w.scan.place ≡ true) ↔ HasJobForm t
  pub job : (n : ℕ) (steps : List Step) → JobTextOf n steps t → StepsKept n steps w
