-- What the scanner does with the bytes of a step's line, field by field.
use mathlib.Core.Path.{◌≡◌, refl, ap, ◌∙◌}
use mathlib.Core.Bool.{false≢true, true}
use mathlib.Core.List.{List, [], ◌∷◌, ◌++◌}
use Prim.Native.Nat.{ℕ, zero, suc, ◌+◌, ◌*◌, ◌/◌, ◌%◌, ◌^◌, ◌<◌}
use native.Mathlib.Omega.{arith}
use lib.Dec.{ltb}
use borrow.Author.Tests.{lt-ltb, ltb-true, ltb-false}
use Rattle.jobs.specs.declared.Op.{Op}
use Rattle.jobs.specs.declared.Op.TheVariants.{Gate, Cz, Measure, Complement, Pivot, Observe, Renew}
use Rattle.jobs.specs.declared.Step.{Step}
use Rattle.text.specs.Text.{digits, space}
use Rattle.words.proofs.Flags.{by-test}
use Rattle.jobs.specs.Text.{field, in_texts, op_word, StepFits, step_text}
use Rattle.text.proofs.Feeding.{fed-append, fed-one}
use Rattle.text.specs.internal.Feeding.{fed_bytes}
use Rattle.jobs.specs.internal.Scan.{
  digit_value,
  first_op,
  first_step,
  more_step,
  one_more,
  op_for,
  Reading,
  scan_byte,
  word_step,
}
use Rattle.jobs.specs.internal.Scan.{as_reading, feed_next, feed, fed}
use Rattle.jobs.specs.declared.scan.Field.{Field}
use Rattle.jobs.specs.declared.scan.Field.TheVariants.{A, B, Value}
use Rattle.jobs.specs.declared.scan.Place.{Place}
use Rattle.jobs.specs.declared.scan.Place.TheVariants.{Word, First, More}
use Rattle.jobs.specs.declared.scan.Scan.{Scan}
use Rattle.text.proofs.NumeralLaws.{fewer_digits}
use Rattle.jobs.proofs.Digits.{value-digit}
use Rattle.jobs.proofs.OneByte.{feed-keeps, quiet-fed}

-- a scan at the place p
abbrev pub scan_at : ℕ → ℕ → Place → Op → ℕ → ℕ → ℕ → Scan
scan_at n c p op a b v = record { place = p; n = n; op = op; a = a; b = b; number = v; count = c }

module _ (S : List Step) (n c : ℕ) where
  abbrev pub reading_at : Place → Op → ℕ → ℕ → ℕ → Reading
  reading_at p op a b v = as_reading (scan_at n c p op a b v) S

  -- a digit of a field
  module _ (f : Field) (op : Op) (a b : ℕ) where
    first_read : (v d : ℕ) → d < 10 → feed (reading_at (First f) op a b v) (48 + d) ≡ reading_at (More f) op a b d
    unfolding scan_byte first_step
    first_read v d small =
        feed-keeps (reading_at (First f) op a b v) (48 + d) (scan_at n c (More f) op a b d)
        (simp (value-digit d small, lt-ltb d 10 small)) refl

    more-read : (v d : ℕ) → 0 < v → v < 100 → d < 10
        → feed (reading_at (More f) op a b v) (48 + d) ≡ reading_at (More f) op a b (v * 10 + d)
    unfolding scan_byte more_step
    more-read v d some small one =
        feed-keeps (reading_at (More f) op a b v) (48 + d) (scan_at n c (More f) op a b (v * 10 + d))
        (simp (value-digit d one, lt-ltb d 10 one, lt-ltb 0 v some, lt-ltb v 100 small)) refl

    digits-read : (k u v : ℕ) → v < 10 ^ suc k → v < 1000
        → fed (reading_at (First f) op a b u) (digits (suc k) v) ≡ reading_at (More f) op a b v
    unfolding digits fed_bytes
    digits-read zero u v few small =
        by-test (λ l. fed (reading_at (First f) op a b u) l ≡ reading_at (More f) op a b v) (ltb v 10)
        ((48 + v) ∷ []) (digits 0 (v / 10) ++ (48 + v % 10) ∷ [])
        (λ one. first_read u v (ltb-true v 10 one))
        (λ more. absurd (omega (arith, ltb-false v 10 more)))
    digits-read (suc k) u v few small =
        by-test (λ l. fed (reading_at (First f) op a b u) l ≡ reading_at (More f) op a b v) (ltb v 10)
        ((48 + v) ∷ []) (digits (suc k) (v / 10) ++ (48 + v % 10) ∷ [])
        (λ one. first_read u v (ltb-true v 10 one))
        (λ more.
        let long = ltb-false v 10 more in
        let whole : v / 10 * 10 + v % 10 ≡ v = omega arith in
        fed-one feed (reading_at (First f) op a b u) (digits (suc k) (v / 10)) (48 + v % 10)
        ∙ ap (λ w. feed w (48 + v % 10))
        (digits-read k u (v / 10) (fewer_digits (suc k) v few) (omega arith))
        ∙ more-read (v / 10) (v % 10) (omega arith) (omega arith) (omega arith)
        ∙ ap (reading_at (More f) op a b) whole)

    -- a field
    pub field-read : (u v : ℕ) → v < 1000
        → fed (reading_at (First f) op a b u) (field v) ≡ reading_at (More f) op a b v
    field-read u v small = digits-read 2 u v small small

  -- an operation and the space after it
  op-read : (op o : Op) (a b v : ℕ) → in_texts op ≡ true
      → fed (reading_at (Word 0) o a b v) (op_word op ++ space) ≡ reading_at (First A) op a b v
  unfolding op_word fed_bytes scan_byte word_step op_for first_op
  op-read Gate o a b v t =
      quiet-fed (op_word Gate ++ space) (scan_at n c (Word 0) o a b v) S
      (refl, (refl, (refl, (refl, (refl, tt)))))
  op-read Cz o a b v t =
      quiet-fed (op_word Cz ++ space) (scan_at n c (Word 0) o a b v) S (refl, (refl, (refl, tt)))
  op-read Measure o a b v t =
      quiet-fed (op_word Measure ++ space) (scan_at n c (Word 0) o a b v) S
      (refl, (refl, (refl, (refl, (refl, (refl, (refl, (refl, tt))))))))
  op-read Complement o a b v t =
      quiet-fed (op_word Complement ++ space) (scan_at n c (Word 0) o a b v) S
      (refl, (refl, (refl, (refl, (refl, (refl, (refl, (refl, (refl, (refl, (refl, tt)))))))))))
  op-read Pivot o a b v t =
      quiet-fed (op_word Pivot ++ space) (scan_at n c (Word 0) o a b v) S
      (refl, (refl, (refl, (refl, (refl, (refl, tt))))))
  op-read Observe o a b v t = absurd (false≢true t)
  op-read Renew o a b v t = absurd (false≢true t)

  a-ends : (op : Op) (a b v : ℕ) → feed (reading_at (More A) op a b v) 32 ≡ reading_at (First B) op v b v
  unfolding scan_byte more_step digit_value
  a-ends op a b v = feed-keeps (reading_at (More A) op a b v) 32 (scan_at n c (First B) op v b v) refl refl

  b-ends : (op : Op) (a b v : ℕ) → feed (reading_at (More B) op a b v) 32 ≡ reading_at (First Value) op a v v
  unfolding scan_byte more_step digit_value
  b-ends op a b v = feed-keeps (reading_at (More B) op a b v) 32 (scan_at n c (First Value) op a v v) refl refl

  line-ends : (op : Op) (a b v : ℕ)
      → feed (reading_at (More Value) op a b v) 10
      ≡ feed_next (reading_at (More Value) op a b v) (scan_at n (one_more c) (Word 0) op a b v)
  unfolding feed scan_byte more_step digit_value
  line-ends op a b v = refl

  -- the reading after a whole line
  pub line_read : (op : Op) (a b v : ℕ) (s : Step) → StepFits s
      → fed (reading_at (Word 0) op a b v) (step_text s)
      ≡ feed_next (reading_at (More Value) s.op s.a s.b s.value)
      (scan_at n (one_more c) (Word 0) s.op s.a s.b s.value)
  unfolding step_text
  line_read op a b v s fit =
      let w = reading_at (Word 0) op a b v in
      let upto-op = op_word s.op ++ space in
      let upto-a = upto-op ++ field s.a in
      let upto-b = upto-a ++ space ++ field s.b in
      let upto-value = upto-b ++ space ++ field s.value in
      let to-op : fed w upto-op ≡ reading_at (First A) s.op a b v = op-read s.op op a b v fit.op in
      let to-a : fed w upto-a ≡ reading_at (More A) s.op a b s.a =
      fed-append feed w upto-op (field s.a) ∙ ap (λ r. fed r (field s.a)) to-op
      ∙ field-read A s.op a b v s.a fit.a
      in
      let to-b : fed w upto-b ≡ reading_at (More B) s.op s.a b s.b =
      fed-append feed w (upto-a ++ space) (field s.b)
      ∙ ap (λ r. fed r (field s.b))
      (fed-one feed w upto-a 32 ∙ ap (λ r. feed r 32) to-a ∙ a-ends s.op a b s.a)
      ∙ field-read B s.op s.a b s.a s.b fit.b
      in
      let to-value : fed w upto-value ≡ reading_at (More Value) s.op s.a s.b s.value =
      fed-append feed w (upto-b ++ space) (field s.value)
      ∙ ap (λ r. fed r (field s.value))
      (fed-one feed w upto-b 32 ∙ ap (λ r. feed r 32) to-b ∙ b-ends s.op s.a b s.b)
      ∙ field-read Value s.op s.a s.b s.b s.value fit.value
      in
      fed-one feed w upto-value 10 ∙ ap (λ r. feed r 10) to-value ∙ line-ends s.op s.a s.b s.value
