-- The line of a step, part by part: an operation with its space, two numbers with theirs, the value and the newline.
use mathlib.Core.Path.{◌≡◌, refl, sym, ap, ◌∙◌, subst}
use mathlib.Core.List.{List, [], ◌∷◌, ◌++◌, append_assoc}
use Prim.Native.Nat.{ℕ, ◌+◌, ◌/◌, ◌%◌, ◌≤◌}
use native.Mathlib.Omega.{arith}
use lib.Dec.{lit≤, ltb}
use lib.ListN.{length, length-append, take}
use Rattle.jobs.specs.internal.Shapes.{Small}
use Rattle.text.proofs.NumeralLaws.{two-places}
use Rattle.jobs.specs.internal.Scan.{letters}
use Rattle.jobs.specs.Text.{op_word, step_text}
use Rattle.jobs.specs.declared.Op.{Op}
use Rattle.jobs.specs.declared.Op.TheVariants.{Gate, Cz, Measure, Complement, Pivot, Observe, Renew}
use Rattle.jobs.specs.declared.Step.{Step}
use Rattle.buffers.proofs.Writing.{and_then}
use Rattle.text.specs.Text.{decimal, newline, space}
use Rattle.buffers.specs.Writing.{Printed}
use Rattle.words.proofs.Flags.{by-test}

-- the letters of an operation without what fills them up
op-taken : (op : Op) → take (length (op_word op ++ space)) (letters op) ≡ op_word op ++ space
unfolding op_word
op-taken Gate = refl
op-taken Cz = refl
op-taken Measure = refl
op-taken Complement = refl
op-taken Pivot = refl
op-taken Observe = refl
op-taken Renew = refl

op-inside : (op : Op) → length (op_word op ++ space) ≤ length (letters op)
unfolding op_word
op-inside Gate = lit≤ tt
op-inside Cz = lit≤ tt
op-inside Measure = lit≤ tt
op-inside Complement = lit≤ tt
op-inside Pivot = lit≤ tt
op-inside Observe = lit≤ tt
op-inside Renew = lit≤ tt

module _ (op : Op) (ls : List ℕ) (k : ℕ) (held : ls ≡ letters op) (counted : k ≡ length (op_word op ++ space)) where
  pub letters-taken : take k ls ≡ op_word op ++ space
  letters-taken = ap (λ l. take k l) held ∙ ap (λ j. take j (letters op)) counted ∙ op-taken op

  pub letters-inside : k ≤ length ls
  letters-inside = omega (arith, op-inside op, ap length held)

some-digit : (v : ℕ) → 1 ≤ length (decimal v)
unfolding decimal
some-digit v =
    by-test (λ l. 1 ≤ length l) (ltb v 10) ((48 + v) ∷ []) ((48 + v / 10) ∷ (48 + v % 10) ∷ [])
    (λ _. lit≤ tt) (λ _. lit≤ tt)

-- an operation, or a number, with the space behind it
abbrev pub op_part : Step → List ℕ
op_part s = op_word s.op ++ space

abbrev pub part : ℕ → List ℕ
part v = decimal v ++ space

-- a step is written at place at of the buffer o: what room each part has
pub record Rooms (s : Step) (at : ℕ) (o : List ℕ) : Type 0 where
  pub op : at + length (op_part s) ≤ length o
  pub a : at + length (op_part s) + 3 ≤ length o
  pub b : at + length (op_part s) + length (part s.a) + 3 ≤ length o
  pub value : at + length (op_part s) + length (part s.a) + length (part s.b) + 2 ≤ length o
  pub newline :
      at + length (op_part s) + length (part s.a) + length (part s.b) + length (decimal s.value) + 1
      ≤ length o

module _ (s : Step) (small : Small s) where
  step-parts : op_part s ++ part s.a ++ part s.b ++ decimal s.value ++ newline ≡ step_text s
  unfolding step_text
  step-parts =
      simp (
        append_assoc,
        two-places 1 s.a small.a,
        two-places 1 s.b small.b,
        two-places 1 s.value small.value,
      )

  long :
      length (op_part s) + length (part s.a) + length (part s.b) + length (decimal s.value) + 1
      ≡ length (step_text s)
  long = sym (simp length-append) ∙ ap length step-parts

  module _ (at : ℕ) (o : List ℕ) (room : at + length (step_text s) ≤ length o) where
    pub rooms : Rooms s at o
    rooms =
        let a = length-append (decimal s.a) space in
        let b = length-append (decimal s.b) space in
        let digit-a = some-digit s.a in
        let digit-b = some-digit s.b in
        let digit_value = some-digit s.value in
        record {
          op = omega (arith, long);
          a = omega (arith, long);
          b = omega (arith, long);
          value = omega (arith, long);
          newline = omega (arith, long);
        }

    -- one part behind the other
    pub step-printed : {o₁ o₂ o₃ o₄ o₅ : List ℕ} {r₁ r₂ r₃ r₄ r₅ : ℕ} → Printed (op_part s) at o o₁ r₁
        → Printed (part s.a) r₁ o₁ o₂ r₂ → Printed (part s.b) r₂ o₂ o₃ r₃
        → Printed (decimal s.value) r₃ o₃ o₄ r₄ → Printed newline r₄ o₄ o₅ r₅
        → Printed (step_text s) at o o₅ r₅
    step-printed {o₁} {o₂} {o₃} {o₄} {o₅} {r₁} {r₂} {r₃} {r₄} {r₅} p q t u v =
        let two = length-append (op_part s) (part s.a) in
        let three = length-append (op_part s ++ part s.a) (part s.b) in
        let four = length-append (op_part s ++ part s.a ++ part s.b) (decimal s.value) in
        let h = rooms in
        subst (λ l. Printed l at o o₅ r₅) step-parts
        (and_then (omega (arith, h.newline)) (and_then (omega (arith, h.value))
        (and_then (omega (arith, h.b)) (and_then h.op p q) t) u) v)
