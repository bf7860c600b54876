-- The lines of the results: their parts and their lengths.
use mathlib.Core.Path.{◌≡◌, sym, ap, ◌∙◌, subst}
use mathlib.Core.List.{List, [], ◌∷◌, ◌++◌, append_assoc}
use Prim.Native.Nat.{ℕ, zero, suc, ◌+◌, ◌*◌, ◌/◌, ◌%◌, ◌≤◌, ◌<◌}
use native.Mathlib.Numerals.{add-one}
use native.Mathlib.Omega.{arith}
use lib.Dec.{ltb}
use lib.ListN.{length, length-append}
use Rattle.text.proofs.HexLaws.{length-decimal, length-field}
use Rattle.text.specs.Text.{digits, decimal, space, newline}
use Rattle.words.proofs.Flags.{by-test}
use Rattle.text.proofs.NumeralLaws.{two-places, digits_last}
use Rattle.jobs.specs.Results.{Result, result_line, result_lines}

-- a number below 10,000, of two digits or of more
pub number_short : (v : ℕ) → v < 100 → decimal v ≡ digits 4 v
number_short v small = sym (two-places 2 v small)

pub number-long : (v : ℕ) → 100 ≤ v → v < 10000
    → decimal (v / 100) ++ (48 + v / 10 % 10) ∷ [] ++ (48 + v % 10) ∷ [] ≡ digits 4 v
number-long v long small =
    sym (digits_last 3 v (omega arith)
    ∙ ap (λ l. l ++ (48 + v % 10) ∷ [])
    (digits_last 2 (v / 10) (omega arith)
    ∙ ap (λ l. l ++ (48 + v / 10 % 10) ∷ []) (ap (digits 2) (omega arith) ∙ two-places 0 (v / 100) (omega arith))))

pub length_digits : (k v : ℕ) → length (digits k v) ≤ k
unfolding digits
length_digits zero v = omega arith
length_digits (suc k) v =
    by-test (λ l. length l ≤ suc k) (ltb v 10) ((48 + v) ∷ []) (digits k (v / 10) ++ (48 + v % 10) ∷ [])
    (λ _. omega arith)
    (λ _. omega (arith, length-append (digits k (v / 10)) ((48 + v % 10) ∷ []), length_digits k (v / 10)))

pub length-step : (k : ℕ) → length (digits 4 k ++ space) ≤ 5
length-step k = omega (arith, length-append (digits 4 k) space, length_digits 4 k)

-- a line is three fields with a space behind each, the last number and the newline
module _ (k : ℕ) (r : Result) where
  abbrev pub three_fields : List ℕ
  three_fields = (digits 4 k ++ space) ++ (decimal r.refusal ++ space) ++ (decimal r.outcome ++ space)

  pub line-parts : three_fields ++ decimal r.determined ++ newline ≡ result_line k r
  unfolding result_line
  line-parts =
      ap (λ l. l ++ decimal r.determined ++ newline)
      (ap (λ l. l ++ (decimal r.outcome ++ space))
      (sym (append_assoc (digits 4 k ++ space) (decimal r.refusal) space))
      ∙ sym (append_assoc (digits 4 k ++ space ++ decimal r.refusal ++ space) (decimal r.outcome) space))

  pub length_three : length three_fields ≤ 11
  length_three =
      omega (
        arith,
        length-append ((digits 4 k ++ space) ++ (decimal r.refusal ++ space)) (decimal r.outcome ++ space),
        length-append (digits 4 k ++ space) (decimal r.refusal ++ space),
        length-step k,
        length-field r.refusal,
        length-field r.outcome,
      )

  pub length-result : length (result_line k r) ≤ 14
  length-result =
      subst (λ l. length l ≤ 14) line-parts
      (omega (
        arith,
        length-append (three_fields ++ decimal r.determined) newline,
        length-append three_fields (decimal r.determined),
        length_three,
        length-decimal r.determined,
      ))

-- the lines of the first k steps
pub length-results : (k : ℕ) (results : ℕ → Result) → length (result_lines k results) ≤ k * 14
unfolding result_lines
length-results zero results = omega arith
length-results (suc k) results =
    simp length-append (omega (arith, length-results k results, length-result k (results k)))

-- one line more
pub results-more : (k : ℕ) (results : ℕ → Result)
    → result_lines k results ++ result_line k (results k) ≡ result_lines (k + 1) results
unfolding result_lines
results-more k results = sym (ap (λ m. result_lines m results) (add-one k))
