-- The calls on generator lists, from what the functions below them answer.
use mathlib.Core.Bool.{Bool, cond, false, not, true, ◌||◌}
use mathlib.Core.List.{List}
use mathlib.Core.Path.{ap, refl, sym, ◌∙◌, ◌≡◌}
use Prim.Native.Nat.{◌<◌, ℕ}
use lib.ListN.{length}
use borrow.Author.Tests.{not-false, not-true}
use Rattle.buffers.proofs.Lines.{more-refused}
use Rattle.buffers.specs.Refusals.{first_fitting, other_than}
use Rattle.buffers.proofs.Calling.{done, kept-all, refused, written_all}
use Rattle.buffers.proofs.Fitting.{first-is, none-holds, passing}
use Rattle.buffers.specs.Answers.{here, later, none}
use Rattle.buffers.specs.Calls.{Call}
use Rattle.record.specs.Lent.{code_numbers, neighbour_words}
use Rattle.record.specs.Reduced.{reduced}
use Rattle.record_reduction.proofs.Loading.{early-reducible}
use Rattle.record_reduction.specs.internal.Reducible.{Reducible}
use Rattle.stabilizer.proofs.Accepted.{early-accepted, early-form}
use Rattle.stabilizer.proofs.Pairs.{letters_of}
use Rattle.stabilizer.proofs.SharedTests.{has-length}
use Rattle.stabilizer.specs.Groups.{Within}
use Rattle.stabilizer.specs.Lists.{GeneratorList, dependent, early_lines, list_lengths, list_lines, rows}
use Rattle.words.proofs.Flags.{neither}
use Rattle.calls.specs.Lists.{reduce_lines, reduce_unused_call}
use Rattle.calls.specs.internal.Reductions.{reduce_call}

-- ---- the early lines, and dependence after them
module _ (l : GeneratorList) (others : Bool) (k : ℕ) (e : k ≡ first_fitting (early_lines l others)) where
  -- a number that is not 0 is the answer
  pub refused-early : (k ≡ 0 → ⊥) → k ≡ first_fitting (list_lines l others)
  refused-early h = e ∙ sym (more-refused (early_lines l others) _ (λ z. h (e ∙ z)))

  module _ (z : k ≡ 0) where
    pub reducible : Reducible l
    reducible = early-reducible l (early-accepted l others (sym e ∙ z))

    pub no-others : others ≡ false
    no-others = (neither (list_lengths l) others (early-form l others (sym e ∙ z)).lengths).1

    -- what the test of line 10 asks for
    pub rows-within : (j : ℕ) → j < l.n → Within l.n (letters_of l.z l.x j)
    rows-within j h = let W = reducible.within j h in record { no-x = W.no-x; no-z = W.no-z }

    -- dependence decides
    module _ (b : Bool) (d : b ≡ not (dependent l.n (rows l))) where
      pub accepted-last : b ≡ true → 0 ≡ first_fitting (list_lines l others)
      accepted-last t = first-is (passing (early_lines l others) (none-holds (early_lines l others) refl (sym e ∙ z))
          (later (not-true (dependent l.n (rows l)) (sym d ∙ t)) none))

      pub refused-last : b ≡ false → 10 ≡ first_fitting (list_lines l others)
      refused-last t = first-is (passing (early_lines l others) (none-holds (early_lines l others) refl (sym e ∙ z))
          (here (not-false (dependent l.n (rows l)) (sym d ∙ t))))

-- ---- sukhlent_reduce: its two answer buffers
module _ (l : GeneratorList) (nb cs : List ℕ) (others : Bool)
    (o : others ≡ (other_than l.n nb || other_than l.n cs)) (k : ℕ)
    (e : k ≡ first_fitting (early_lines l others)) where
  at-lines : {r : ℕ} → r ≡ first_fitting (list_lines l others) → r ≡ first_fitting (reduce_lines l nb cs)
  at-lines p = p ∙ ap (λ b. first_fitting (list_lines l b)) o

  pub reduce-refused : (k ≡ 0 → ⊥) → Call (reduce_call l nb cs nb cs) k
  reduce-refused h = refused _ (at-lines (refused-early l others k e h)) h (refl, (refl, tt))

  module _ (z : k ≡ 0) where
    both-fit : (other_than l.n nb || other_than l.n cs) ≡ false
    both-fit = sym o ∙ no-others l others k e z

    pub neighbours-fit : length nb ≡ l.n
    neighbours-fit = has-length l.n nb (neither (other_than l.n nb) (other_than l.n cs) both-fit).0

    pub codes-fit : length cs ≡ l.n
    codes-fit = has-length l.n cs (neither (other_than l.n nb) (other_than l.n cs) both-fit).1

    module _ (b : Bool) (d : b ≡ not (dependent l.n (rows l))) (nb' cs' : List ℕ)
        (en : nb' ≡ cond b (neighbour_words l.n (reduced l.n (rows l))) nb)
        (ec : cs' ≡ cond b (code_numbers l.n (reduced l.n (rows l))) cs) where
      pub reduce-accepted : b ≡ true → Call (reduce_call l nb cs nb' cs') 0
      reduce-accepted t =
          record { number = at-lines (accepted-last l others k e z b d t); held = (simp t at en, (simp t at ec, tt)) }

      pub reduce-dependent : b ≡ false → Call (reduce_call l nb cs nb' cs') 10
      reduce-dependent t =
          record { number = at-lines (refused-last l others k e z b d t); held = (simp t at en, (simp t at ec, tt)) }

-- ---- with the used word
module _ (l : GeneratorList) (nb cs : List ℕ) (used : ℕ) {nb' cs' : List ℕ} {r : ℕ} where
  pub unused-refused : Call (reduce_call l nb cs nb' cs') r → (r ≡ 0 → ⊥)
      → Call (reduce_unused_call l nb cs used nb' cs' used) r
  unused-refused C h = refused _ C.number h (refl, kept-all C h)

  pub unused-done : Call (reduce_call l nb cs nb' cs') r → r ≡ 0 → Call (reduce_unused_call l nb cs used nb' cs' 0) 0
  unused-done C z = done _ C.number z (refl, written_all C z)
