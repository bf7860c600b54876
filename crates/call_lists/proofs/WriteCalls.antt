-- The call that writes, from what the functions below it answer.
use mathlib.Core.Bool.{false, or-true, true, ◌||◌}
use mathlib.Core.List.{List}
use mathlib.Core.Path.{ap, refl, sym, ◌∙◌, ◌≡◌}
use Prim.Native.Nat.{ℕ, ◌≤◌}
use native.Mathlib.Omega.{arith}
use lib.ListN.{length}
use Rattle.buffers.specs.Refusals.{bad_count, first_fitting, other_than}
use Rattle.buffers.proofs.Calling.{done, no_line, refused}
use Rattle.buffers.proofs.Fitting.{first-is}
use Rattle.buffers.specs.Answers.{here, later}
use Rattle.buffers.specs.Calls.{Call}
use Rattle.calls.specs.Lists.{check_call}
use Rattle.stabilizer.proofs.Accepted.{accepted-list}
use Rattle.stabilizer.proofs.SharedTests.{has-length}
use Rattle.stabilizer.specs.Lists.{GeneratorList, list_lengths, list_lines, rows}
use Rattle.text.specs.Reading.{write_lines}
use Rattle.text.specs.Strings.{strings_text, text_size}
use Rattle.calls.specs.Strings.{write_strings_call}

module _ (l : GeneratorList) (text : List ℕ) where
  pub write-count : bad_count l.n ≡ true → Call (write_strings_call l text text) 2
  write-count h = refused _ (first-is (here h)) (λ e. absurd (omega arith)) (refl, tt)

  pub write-size : bad_count l.n ≡ false → other_than (text_size l.n) text ≡ true →
      Call (write_strings_call l text text) 4
  write-size h e =
      refused _ (first-is (later h (here (ap (λ b. list_lengths l || b) e ∙ or-true (list_lengths l)))))
      (λ e. absurd (omega arith)) (refl, tt)

  -- the buffer has the text's size: the lines are those of the list
  module _ (e : other_than (text_size l.n) text ≡ false) {k : ℕ} (C : Call (check_call l) k) where
    as-checked : k ≡ first_fitting (write_lines l text)
    as-checked = C.number ∙ ap (λ b. first_fitting (list_lines l b)) (sym e)

    pub write-refused : (k ≡ 0 → ⊥) → Call (write_strings_call l text text) k
    write-refused h = refused _ as-checked h (refl, tt)

    module _ (z : k ≡ 0) where
      pub write-room : ((l.n ≤ 64) × (length l.signs ≡ l.n) × (length l.z ≡ l.n) × (length l.x ≡ l.n))
          × (length text ≡ text_size l.n)
      write-room =
          let F = (accepted-list l false (no_line C z)).formed in
          ((F.upto, F.signs-length, F.z-length, F.x-length), has-length (text_size l.n) text e)

      pub write_done : {text' : List ℕ} → text' ≡ strings_text l.n (rows l) → Call (write_strings_call l text text') 0
      write_done p = done _ as-checked z (p, tt)
