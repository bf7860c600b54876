-- The letters of an operation, one after the other.
use mathlib.Core.Path.{◌≡◌, refl, sym, ap, ◌∙◌}
use mathlib.Core.Logic.{⊎_elim}
use mathlib.Core.Bool.{◌&&◌, true, and-eq-true_iff, cond}
use mathlib.Core.List.{◌++◌}
use Prim.Native.Nat.{ℕ, ◌-◌, ◌≤◌}
use native.Mathlib.Nat.{eq-or-lt_of_le}
use native.Mathlib.Omega.{arith}
use lib.Dec.{eqb, lit≤}
use lib.ListN.{length, get_or, take, replicate, length-append, get_or-append}
use borrow.Author.Tests.{eqb-true}
use Rattle.jobs.specs.declared.Op.{Op}
use Rattle.jobs.specs.declared.Op.TheVariants.{Gate, Cz, Measure, Complement, Pivot, Observe, Renew}
use Rattle.text.specs.Text.{space}
use Rattle.words.proofs.Flags.{by-test}
use Rattle.jobs.specs.Text.{in_texts, op_word}
use Rattle.jobs.specs.internal.Scan.{letters, first_op, after_o, op_for}
use Rattle.jobs.proofs.Separators.{without, without_at}

-- no space is in a word
pub op-without : (op : Op) → without 32 (op_word op) ≡ true
unfolding op_word
op-without Gate = refl
op-without Cz = refl
op-without Measure = refl
op-without Complement = refl
op-without Pivot = refl
op-without Observe = refl
op-without Renew = refl

-- its letters are those of its word and the space
letters-word : (op : Op) → letters op ≡ (op_word op ++ space) ++ replicate (10 - length (op_word op)) 0
unfolding op_word
letters-word Gate = refl
letters-word Cz = refl
letters-word Measure = refl
letters-word Complement = refl
letters-word Pivot = refl
letters-word Observe = refl
letters-word Renew = refl

pub letter_at : (op : Op) (k : ℕ) → k ≤ length (op_word op)
    → get_or (letters op) k 0 ≡ get_or (op_word op ++ space) k 0
letter_at op k inside =
    ap (λ l. get_or l k 0) (letters-word op)
    ∙ get_or-append (op_word op ++ space) (replicate (10 - length (op_word op)) 0) 0 k
    (omega (arith, length-append (op_word op) space))

-- the space is the last of them
pub space-last : (op : Op) (k : ℕ) → k ≤ length (op_word op) → get_or (op_word op ++ space) k 0 ≡ 32
    → k ≡ length (op_word op)
space-last op k inside e = ⊎_elim (λ same. same)
    (λ less. absurd (without_at 32 (op_word op) k (op-without op) less
    (sym (get_or-append (op_word op) space 0 k less) ∙ e)))
    (eq-or-lt_of_le inside)

one-letter : (op : Op) → take 1 (op_word op ++ space) ≡ take 1 (op_word (after_o op) ++ space)
unfolding op_word
one-letter Gate = refl
one-letter Cz = refl
one-letter Measure = refl
one-letter Complement = refl
one-letter Pivot = refl
one-letter Observe = refl
one-letter Renew = refl

some-letter : (op : Op) → 1 ≤ length (op_word op)
unfolding op_word
some-letter Gate = lit≤ tt
some-letter Cz = lit≤ tt
some-letter Measure = lit≤ tt
some-letter Complement = lit≤ tt
some-letter Pivot = lit≤ tt
some-letter Observe = lit≤ tt
some-letter Renew = lit≤ tt

-- another operation that begins with the same letters
pub same_start : (k : ℕ) (op : Op) (b : ℕ) → k ≤ length (op_word op)
    → (take k (op_word op ++ space) ≡ take k (op_word (op_for k op b) ++ space)) × (k ≤ length (op_word (op_for k op b)))
unfolding op_for
same_start k op b inside =
    by-test Same (eqb k 0) (first_op b) (cond (eqb k 1 && eqb b 111) (after_o op) op)
    (λ none. let e = eqb-true k 0 none in
    (ap (λ m. take m (op_word op ++ space)) e ∙ sym (ap (λ m. take m (op_word (first_op b) ++ space)) e), omega arith))
    (λ _. by-test Same (eqb k 1 && eqb b 111) (after_o op) op
    (λ both. let e = eqb-true k 1 ((and-eq-true_iff (eqb k 1) (eqb b 111)).0 both).0 in (
      ap (λ m. take m (op_word op ++ space)) e ∙ one-letter op ∙ sym (ap (λ m. take m (op_word (after_o op) ++ space)) e),
      omega (arith, some-letter (after_o op)),
    ))
    (λ _. (refl, inside)))
  where
    Same : Op → Type 0
    Same o = (take k (op_word op ++ space) ≡ take k (op_word o ++ space)) × (k ≤ length (op_word o))

-- the scan holds an operation of texts, whatever the next letter
after-in-texts : (op : Op) → in_texts op ≡ true → in_texts (after_o op) ≡ true
after-in-texts Gate e = e
after-in-texts Cz e = refl
after-in-texts Measure e = e
after-in-texts Complement e = e
after-in-texts Pivot e = e
after-in-texts Observe e = e
after-in-texts Renew e = e

first-in-texts : (b : ℕ) → in_texts (first_op b) ≡ true
unfolding first_op
first-in-texts b =
    by-test (λ o. in_texts o ≡ true) (eqb b 103) Gate (cond (eqb b 99) Cz (cond (eqb b 109) Measure Pivot)) (λ _. refl)
    (λ _. by-test (λ o. in_texts o ≡ true) (eqb b 99) Cz (cond (eqb b 109) Measure Pivot) (λ _. refl)
    (λ _. by-test (λ o. in_texts o ≡ true) (eqb b 109) Measure Pivot (λ _. refl) (λ _. refl)))

pub next-in-texts : (k : ℕ) (op : Op) (b : ℕ) → in_texts op ≡ true → in_texts (op_for k op b) ≡ true
unfolding op_for
next-in-texts k op b e =
    by-test (λ o. in_texts o ≡ true) (eqb k 0) (first_op b) (cond (eqb k 1 && eqb b 111) (after_o op) op)
    (λ _. first-in-texts b)
    (λ _. by-test (λ o. in_texts o ≡ true) (eqb k 1 && eqb b 111) (after_o op) op (λ _. after-in-texts op e) (λ _. e))
