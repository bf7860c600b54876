-- The call that reads, from what the functions below it answer. Lines 5 and 6 hold of no list that is read.
use mathlib.Core.Bool.{false, true, ◌||◌}
use mathlib.Core.List.{◌++◌, List}
use mathlib.Core.Path.{ap, refl, subst, sym, ◌∙◌, ◌≡◌}
use Prim.Native.Nat.{ℕ, ◌≤◌}
use lib.ListN.{length, take}
use borrow.Author.Tests.{not-false}
use Rattle.calls.proofs.ListedNumbers.{listed-number}
use Rattle.buffers.specs.Buffers.{tabulate}
use Rattle.buffers.specs.Refusals.{bad_count, first_fitting, other_than}
use Rattle.buffers.proofs.Calling.{done, refused}
use Rattle.buffers.proofs.Fitting.{NoneHolds, decides, fits-at, none-holds, stays}
use Rattle.buffers.specs.Calls.{Call}
use Rattle.calls.specs.Lists.{check_call}
use Rattle.stabilizer.proofs.SharedTests.{counted, has-length}
use Rattle.stabilizer.specs.Lists.{list_lines, list_of}
use Rattle.text.proofs.BackLaws.{buffers, same-buffers}
use Rattle.text.proofs.StringsFormLaws.{form-lines, form-size}
use Rattle.text.specs.Reading.{byte_at, formed_lines, judged_lines, line_count, row_of, string_form, string_list}
use Rattle.text.specs.Strings.{text_size}
use Rattle.text_strings.specs.internal.Generators.{LinesFit}
use Rattle.words.proofs.Flags.{neither}
use Rattle.calls.specs.Strings.{read_strings_call}

-- what it means that lines 1, 2 and 4 do not hold of a text, which has n lines
pub record Formed (t signs zs xs : List ℕ) (n : ℕ) : Type 0 where
  pub few : n ≤ 64
  pub size : length t ≡ text_size n
  pub fit : LinesFit t n
  pub signs-fit : length signs ≡ n
  pub z-fit : length zs ≡ n
  pub x-fit : length xs ≡ n

-- ---- the call: a text t that has n lines if it has the form, and what the first lines answer
module _ (t signs zs xs : List ℕ) (n : ℕ) (c : string_form t ≡ true → n ≡ line_count t) {k : ℕ}
    (e : k ≡ first_fitting (formed_lines t signs zs xs)) where
  pub read-refused : (k ≡ 0 → ⊥) → Call (read_strings_call t signs zs xs signs zs xs) k
  read-refused h = refused _ (stays (formed_lines t signs zs xs) _ e h) h (refl, (refl, (refl, tt)))

  module _ (z : k ≡ 0) where
    passed : NoneHolds (formed_lines t signs zs xs)
    passed = none-holds (formed_lines t signs zs xs) refl (sym e ∙ z)

    form : string_form t ≡ true
    form = not-false (string_form t) passed.0

    lines : n ≡ line_count t
    lines = c form

    good-count : bad_count n ≡ false
    good-count = ap bad_count lines ∙ passed.1.0

    fitting : (other_than n signs || (other_than n zs || other_than n xs)) ≡ false
    fitting = ap (λ m. other_than m signs || (other_than m zs || other_than m xs)) lines ∙ passed.1.1.0

    pub read-formed : Formed t signs zs xs n
    read-formed =
        let h = neither (other_than n signs) _ fitting in
        let g = neither (other_than n zs) _ h.1 in
        record {
          few = (counted n good-count).1;
          size = form-size t form ∙ ap text_size (sym lines);
          fit = subst (LinesFit t) (sym lines) (form-lines t form);
          signs-fit = has-length n signs h.0;
          z-fit = has-length n zs g.0;
          x-fit = has-length n xs g.1;
        }

    -- the arrays that hold the list, and the number of the check
    module _ (s₁ z₁ x₁ : List ℕ) (es : take n s₁ ≡ (list_of n (λ j. row_of (byte_at n t j))).signs)
        (ez : take n z₁ ≡ (list_of n (λ j. row_of (byte_at n t j))).z)
        (ex : take n x₁ ≡ (list_of n (λ j. row_of (byte_at n t j))).x) {v : ℕ}
        (C : Call (check_call (buffers n (take n s₁) (take n z₁) (take n x₁))) v) where
      same : buffers n (take n s₁) (take n z₁) (take n x₁) ≡ list_of n (λ j. row_of (byte_at n t j))
      same = same-buffers n es ez ex

      number : v ≡ first_fitting (judged_lines (string_list t))
      number =
          C.number ∙ ap (λ l. first_fitting (list_lines l false)) same
          ∙ listed-number n (λ j. row_of (byte_at n t j)) good-count
          ∙ ap (λ m. first_fitting (judged_lines (list_of m (λ j. row_of (byte_at m t j))))) lines

      at_call : v ≡ first_fitting (formed_lines t signs zs xs ++ judged_lines (string_list t))
      at_call = decides (formed_lines t signs zs xs) refl e z (fits-at (judged_lines (string_list t)) number)

      pub read-judged : (v ≡ 0 → ⊥) → Call (read_strings_call t signs zs xs signs zs xs) v
      read-judged h = refused _ at_call h (refl, (refl, (refl, tt)))

      -- a copy of the array's first places
      copied : (old array : List ℕ) (f : ℕ → ℕ) {new : List ℕ} → length old ≡ n → take n array ≡ tabulate n f →
          new ≡ take (length old) array → new ≡ tabulate n f
      copied old array f l h p = p ∙ ap (λ m. take m array) l ∙ h

      pub read_done : v ≡ 0 → {s' z' x' : List ℕ} → s' ≡ take (length signs) s₁ →
          z' ≡ take (length zs) z₁ → x' ≡ take (length xs) x₁ →
          Call (read_strings_call t signs zs xs s' z' x') 0
      read_done y {s'} {z'} {x'} ps pz px =
          done _ at_call y (
            copied signs s₁ _ read-formed.signs-fit es ps
                ∙ ap (λ m. (list_of m (λ j. row_of (byte_at m t j))).signs) lines,
            (
              copied zs z₁ _ read-formed.z-fit ez pz ∙ ap (λ m. (list_of m (λ j. row_of (byte_at m t j))).z) lines,
              (
                copied xs x₁ _ read-formed.x-fit ex px ∙ ap (λ m. (list_of m (λ j. row_of (byte_at m t j))).x) lines,
                tt,
              ),
            ),
          )
