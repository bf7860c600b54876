-- The text of a job, as a list of bytes: 10 ends a line, 32 is the space, 48 the digit 0, 97 the letter a.
use Rattle.std.specs.Prelude.{◌≡◌, Bool, false, true, List, [], ◌∷◌, ◌++◌, ℕ, ◌<◌}
use Rattle.jobs.specs.declared.Op.{Op}
use Rattle.jobs.specs.declared.Op.TheVariants.{Gate, Cz, Measure, Complement, Pivot, Observe, Renew}
use Rattle.jobs.specs.declared.Step.{Step}
use Rattle.text.specs.Text.{digits, space, newline}

-- "A field has one to three decimal digits and no leading zero"
abbrev pub field : ℕ → List ℕ
field v = digits 3 v

-- "The op is gate, cz, measure, complement or pivot": a text has no other
abbrev pub in_texts : Op → Bool
in_texts Gate = true
in_texts Cz = true
in_texts Measure = true
in_texts Complement = true
in_texts Pivot = true
in_texts Observe = false
in_texts Renew = false

-- the name of an operation
unfoldable pub op_word : Op → List ℕ
op_word Gate = 103 ∷ 97 ∷ 116 ∷ 101 ∷ []
op_word Cz = 99 ∷ 122 ∷ []
op_word Measure = 109 ∷ 101 ∷ 97 ∷ 115 ∷ 117 ∷ 114 ∷ 101 ∷ []
op_word Complement = 99 ∷ 111 ∷ 109 ∷ 112 ∷ 108 ∷ 101 ∷ 109 ∷ 101 ∷ 110 ∷ 116 ∷ []
op_word Pivot = 112 ∷ 105 ∷ 118 ∷ 111 ∷ 116 ∷ []
op_word Observe = 111 ∷ 98 ∷ 115 ∷ 101 ∷ 114 ∷ 118 ∷ 101 ∷ []
op_word Renew = 114 ∷ 101 ∷ 110 ∷ 101 ∷ 119 ∷ []

-- an operation of texts, and numbers of at most three digits
pub record StepFits (s : Step) : Type 0 where
  pub op : in_texts s.op ≡ true
  pub a : s.a < 1000
  pub b : s.b < 1000
  pub value : s.value < 1000

-- each step has them
abbrev pub EachStepFits : List Step → Type 0
EachStepFits [] = Unit
EachStepFits (s ∷ ss) = StepFits s × EachStepFits ss

-- "the line `op a b value` and one line per step"; "layout .. as for `reduce`": "fields parted by one space, every
-- line ended by a newline"
unfoldable pub step_text : Step → List ℕ
step_text s =
    op_word s.op ++ space ++ field s.a ++ space ++ field s.b ++ space ++ field s.value ++ newline

-- one line after the other
unfoldable pub steps_text : List Step → List ℕ
steps_text [] = []
steps_text (s ∷ ss) = step_text s ++ steps_text ss

-- "First the line `qubits` and a line with n, then the line `op a b value`"
abbrev pub qubits_line : List ℕ
qubits_line = 113 ∷ 117 ∷ 98 ∷ 105 ∷ 116 ∷ 115 ∷ 10 ∷ []

-- "then the line `op a b value`"
abbrev pub step_names : List ℕ
step_names = 111 ∷ 112 ∷ 32 ∷ 97 ∷ 32 ∷ 98 ∷ 32 ∷ 118 ∷ 97 ∷ 108 ∷ 117 ∷ 101 ∷ 10 ∷ []

-- the three lines before the steps
unfoldable pub job_head : ℕ → List ℕ
job_head n = qubits_line ++ field n ++ newline ++ step_names

-- the text of the job of these steps on n qubits
unfoldable pub job_text : ℕ → List Step → List ℕ
job_text n steps = job_head n ++ steps_text steps

-- t is the text of this job
pub record JobTextOf (n : ℕ) (steps : List Step) (t : List ℕ) : Type 0 where
  pub few : n < 1000
  pub fit : EachStepFits steps
  pub text : t ≡ job_text n steps

-- the text has the form; refusal 1 is that it has not
abbrev pub HasJobForm : List ℕ → Type 0
HasJobForm t = (n : ℕ) × (steps : List Step) × JobTextOf n steps t
