-- What is known of the text so far at each place of the scan: it is a job's text and the part of a line that the scan
-- holds.
use mathlib.Core.Path.{◌≡◌, ap, ◌∙◌}
use mathlib.Core.Bool.{cond}
use mathlib.Core.List.{List, [], ◌∷◌, ◌++◌, append_assoc}
use Prim.Native.Nat.{ℕ, ◌-◌, ◌≤◌, ◌<◌}
use lib.Dec.{ltb}
use lib.ListN.{length, take}
use Rattle.jobs.specs.declared.Op.{Op}
use Rattle.jobs.specs.declared.Step.{Step}
use Rattle.text.specs.Text.{space, newline}
use Rattle.jobs.specs.Text.{field, op_word, EachStepFits, qubits_line, step_names}
use Rattle.jobs.specs.Text.{job_text}
use Rattle.jobs.specs.declared.scan.Field.{Field}
use Rattle.jobs.specs.declared.scan.Field.TheVariants.{N, A, B, Value}
use Rattle.jobs.specs.declared.scan.Place.{Place}
use Rattle.jobs.specs.declared.scan.Place.TheVariants.{Head, Word, First, More, Broken}
use Rattle.jobs.specs.declared.scan.Scan.{Scan}

-- the text t is that of a job on n qubits, with part behind it
pub record Upto (n : ℕ) (t part : List ℕ) : Type 0 where
  pub steps : List Step
  pub few : n < 1000
  pub fit : EachStepFits steps
  pub text : t ≡ job_text n steps ++ part

-- the part of a line before each field
abbrev pub a_part : Op → List ℕ
a_part op = op_word op ++ space

abbrev pub b_part : Op → ℕ → List ℕ
b_part op a = a_part op ++ field a ++ space

abbrev pub value_part : Op → ℕ → ℕ → List ℕ
value_part op a b = b_part op a ++ field b ++ space

-- the text t ends directly before the field f
abbrev pub Before : Field → ℕ → Op → ℕ → ℕ → List ℕ → Type 0
Before N n op a b t = t ≡ qubits_line
Before A n op a b t = Upto n t (a_part op)
Before B n op a b t = Upto n t (b_part op a) × (a < 1000)
Before Value n op a b t = Upto n t (value_part op a b) × (a < 1000) × (b < 1000)

-- .. or with the field's digits so far behind that, whose number is v
pub record Inside (f : Field) (n : ℕ) (op : Op) (a b v : ℕ) (t : List ℕ) : Type 0 where
  pub start : List ℕ
  pub before : Before f n op a b start
  pub small : v < 1000
  pub text : t ≡ start ++ field v

-- the head up to byte k of those that are the same in every job
abbrev pub head_part : ℕ → ℕ → List ℕ
head_part k n = cond (ltb k 7) (take k qubits_line) (qubits_line ++ field n ++ newline ++ take (k - 7) step_names)

pub record AtHead (k n : ℕ) (t : List ℕ) : Type 0 where
  pub inside : k < 20
  pub few : n < 1000
  pub text : t ≡ head_part k n

-- k letters of an operation
pub record AtWord (k n : ℕ) (op : Op) (t : List ℕ) : Type 0 where
  pub inside : k ≤ length (op_word op)
  pub upto : Upto n t (take k (a_part op))

-- what is known of the text t where the scan s is at a place
abbrev pub Sofar : Place → Scan → List ℕ → Type 0
Sofar (Head k) s t = AtHead k s.n t
Sofar (Word k) s t = AtWord k s.n s.op t
Sofar (First f) s t = Before f s.n s.op s.a s.b t
Sofar (More f) s t = Inside f s.n s.op s.a s.b s.number t
Sofar Broken s t = Unit

-- one more byte in the part
pub upto-more : {n : ℕ} {t part : List ℕ} (b : ℕ) (part' : List ℕ) → part ++ b ∷ [] ≡ part' → Upto n t part
    → Upto n (t ++ b ∷ []) part'
upto-more {n} {t} {part} b part' e u = record {
  steps = u.steps;
  few = u.few;
  fit = u.fit;
  text =
      ap (λ l. l ++ b ∷ []) u.text ∙ append_assoc (job_text n u.steps) part (b ∷ [])
      ∙ ap (λ l. job_text n u.steps ++ l) e;
}

-- a field and one more byte behind the part
pub upto-field : {n : ℕ} {t start part : List ℕ} (v b : ℕ) → t ≡ start ++ field v → Upto n start part
    → Upto n (t ++ b ∷ []) (part ++ field v ++ b ∷ [])
upto-field {n} {t} {start} {part} v b e u = record {
  steps = u.steps;
  few = u.few;
  fit = u.fit;
  text =
      ap (λ l. l ++ b ∷ []) (e ∙ ap (λ l. l ++ field v) u.text
      ∙ append_assoc (job_text n u.steps) part (field v))
      ∙ append_assoc (job_text n u.steps) (part ++ field v) (b ∷ []);
}
