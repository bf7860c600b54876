-- A text is the text of one job only.
use mathlib.Core.Path.{◌≡◌, refl, sym, ap, ap₂, ◌∙◌}
use mathlib.Core.Bool.{false≢true, true}
use mathlib.Core.List.{List, [], ◌∷◌, ◌++◌, append_assoc}
use Prim.Native.Nat.{ℕ, ◌<◌}
use native.Mathlib.Omega.{arith}
use lib.Dec.{lit<}
use lib.ListN.{length, get_or, drop, length-append}
use Rattle.jobs.specs.declared.Op.{Op}
use Rattle.jobs.specs.declared.Op.TheVariants.{Gate, Cz, Measure, Complement, Pivot, Observe, Renew}
use Rattle.jobs.specs.declared.Step.{Step}
use Rattle.text.proofs.DigitLaws.{read_decimal}
use Rattle.text.specs.Text.{space, newline}
use Rattle.jobs.specs.Text.{
  field,
  in_texts,
  op_word,
  StepFits,
  EachStepFits,
  step_text,
  steps_text,
  qubits_line,
  step_names,
}
use Rattle.jobs.specs.Text.{job_head, job_text, JobTextOf}
use Rattle.jobs.specs.internal.Scan.{first_op, op_for}
use Rattle.text.proofs.NumeralLaws.{digits-back}
use Rattle.jobs.proofs.OpLaws.{op-without}
use Rattle.jobs.proofs.Separators.{parts_at, digits-without}

-- the operation of a word, by its first two letters
op_of : List ℕ → Op
op_of w = op_for 1 (first_op (get_or w 0 0)) (get_or w 1 0)

op-back : (op : Op) → in_texts op ≡ true → op_of (op_word op) ≡ op
unfolding op_of op_for first_op op_word
op-back Gate t = refl
op-back Cz t = refl
op-back Measure t = refl
op-back Complement t = refl
op-back Pivot t = refl
op-back Observe t = absurd (false≢true t)
op-back Renew t = absurd (false≢true t)

-- a field and the byte behind it
field-parts : (x : ℕ) → x < 48 → (u v : ℕ) (s t : List ℕ) → u < 1000 → v < 1000
    → field u ++ x ∷ s ≡ field v ++ x ∷ t → (u ≡ v) × (s ≡ t)
field-parts x small u v s t hu hv e =
    let p = parts_at x (field u) s (field v) t (digits-without x small 3 u) (digits-without x small 3 v) e in
    (sym (digits-back 3 u hu) ∙ ap (read_decimal 0) p.0 ∙ digits-back 3 v hv, p.1)

-- a line with a text behind it, from field to field
unfolded : (s : Step) (t : List ℕ)
    → step_text s ++ t
    ≡ op_word s.op ++ 32 ∷ (field s.a ++ 32 ∷ (field s.b ++ 32 ∷ (field s.value ++ 10 ∷ t)))
unfolding step_text
unfolded s t = simp append_assoc

line-parts : (s r : Step) (t u : List ℕ) → StepFits s → StepFits r → step_text s ++ t ≡ step_text r ++ u
    → (s ≡ r) × (t ≡ u)
line-parts s r t u fs fr e =
    let ops = parts_at 32 (op_word s.op) _ (op_word r.op) _ (op-without s.op) (op-without r.op)
    (sym (unfolded s t) ∙ e ∙ unfolded r u) in
    let left = field-parts 32 (lit< tt) s.a r.a _ _ fs.a fr.a ops.1 in
    let right = field-parts 32 (lit< tt) s.b r.b _ _ fs.b fr.b left.1 in
    let values = field-parts 10 (lit< tt) s.value r.value t u fs.value fr.value right.1 in
    let op = sym (op-back s.op fs.op) ∙ ap op_of ops.0 ∙ op-back r.op fr.op in
    (λ i. record { op = op i; a = left.0 i; b = right.0 i; value = values.0 i }, values.1)

some_bytes : (s : Step) (t : List ℕ) → 0 < length (step_text s ++ t)
unfolding step_text
some_bytes s t =
    let fields = op_word s.op ++ space ++ field s.a ++ space ++ field s.b ++ space ++ field s.value in
    omega (arith, length-append (fields ++ newline) t, length-append fields newline)

steps-injective : (ss rs : List Step) → EachStepFits ss → EachStepFits rs → steps_text ss ≡ steps_text rs → ss ≡ rs
unfolding steps_text
steps-injective [] [] f g e = refl
steps-injective [] (r ∷ rs) f g e = absurd (omega (arith, some_bytes r (steps_text rs), ap length e))
steps-injective (s ∷ ss) [] f g e = absurd (omega (arith, some_bytes s (steps_text ss), ap length e))
steps-injective (s ∷ ss) (r ∷ rs) f g e =
    let p = line-parts s r (steps_text ss) (steps_text rs) f.0 g.0 e in
    ap₂ (λ h l. h ∷ l) p.0 (steps-injective ss rs f.1 g.1 p.1)

-- the head with a text behind it
head-unfolded : (n : ℕ) (t : List ℕ) → job_head n ++ t ≡ qubits_line ++ (field n ++ 10 ∷ (step_names ++ t))
unfolding job_head
head-unfolded n t = simp append_assoc

-- two jobs with one text are equal
pub job-unique : (n m : ℕ) (ss rs : List Step) (t : List ℕ) → JobTextOf n ss t → JobTextOf m rs t
    → (n ≡ m) × (ss ≡ rs)
unfolding job_text
job-unique n m ss rs t p q =
    let same = sym (head-unfolded n (steps_text ss)) ∙ sym p.text ∙ q.text ∙ head-unfolded m (steps_text rs) in
    let ns = field-parts 10 (lit< tt) n m (step_names ++ steps_text ss) (step_names ++ steps_text rs) p.few q.few
    (ap (drop 7) same) in
    (ns.0, steps-injective ss rs p.fit q.fit (ap (drop 13) ns.1))
