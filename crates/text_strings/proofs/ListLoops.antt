-- The loop that reads the lines of a text into three arrays, and the list at their start.
use mathlib.Core.List.{List}
use mathlib.Core.Path.{ap, subst, sym, ◌∙◌, ◌≡◌}
use Prim.Native.Nat.{◌*◌, ◌+◌, ◌<◌, suc, zero-le, ℕ, ◌≤◌}
use native.Mathlib.Nat.{lt_of_lt_of_le, zero-mul}
use native.Mathlib.Omega.{arith}
use lib.ListN.{get_or, length, set, take}
use lib.Seq.{get_or-take}
use Rattle.buffers.proofs.Filling.{Filled, fill_start, fill_step}
use Rattle.buffers.proofs.Parts.{part-long}
use Rattle.buffers.proofs.Tabulate.{tabulate-is}
use Rattle.buffers.specs.Buffers.{tabulate}
use Rattle.pauli.specs.Pauli.{sign_bit}
use Rattle.pauli.specs.declared.Generator.{Generator}
use Rattle.stabilizer.specs.Lists.{list_of}
use Rattle.text.proofs.LineLaws.{line-parts}
use Rattle.text.specs.Reading.{byte_at, is_letter, row_of}
use Rattle.words.proofs.SearchLaws.{every-at}
use Rattle.words.specs.Bits.{digit, word_of}
use Rattle.text.proofs.SizeLaws.{next-line}
use Rattle.text_strings.specs.internal.Generators.{LettersFit, LinesFit, generator_in}

-- an array whose first n places are filled
filled-part : (n : ℕ) (f : ℕ → ℕ) (array : List ℕ) → n ≤ 64 → Filled 64 f array n → take n array ≡ tabulate n f
filled-part n f array few F =
    tabulate-is n f (take n array) (part-long n array few F.long)
    (λ i l. get_or-take n array i 0 l ∙ F.done i l)

-- the letters of a line
pub letters-of : (t : List ℕ) (n j : ℕ) → LinesFit t n → j < n → {from : ℕ} → from ≡ j * (n + 2) → LettersFit t from n
letters-of t n j F l {from} e q k =
    ap (λ i. is_letter (get_or t (i + suc q) 0)) e
    ∙ every-at n (λ q. is_letter (byte_at n t j (suc q))) (line-parts n (byte_at n t j) (F j l)).1 q k

-- the first j lines are read, the next starts at a place
pub record RowsRead (t : List ℕ) (n : ℕ) (signs z x : List ℕ) (from j : ℕ) : Type 0 where
  pub upto : j ≤ n
  pub place : from ≡ j * (n + 2)
  pub signs-read : Filled 64 (λ k. digit (sign_bit (row_of (byte_at n t k)).phase)) signs j
  pub z-read : Filled 64 (λ k. word_of n (row_of (byte_at n t k)).z) z j
  pub x-read : Filled 64 (λ k. word_of n (row_of (byte_at n t k)).x) x j

module _ (t : List ℕ) (n : ℕ) where
  pub no_rows : (signs z x : List ℕ) → length signs ≡ 64 → length z ≡ 64 → length x ≡ 64 →
      RowsRead t n signs z x 0 0
  no_rows signs z x ls lz lx =
      record {
        upto = zero-le;
        place = sym (zero-mul (n + 2));
        signs-read = fill_start 64 _ signs ls;
        z-read = fill_start 64 _ z lz;
        x-read = fill_start 64 _ x lx;
      }

  pub one-row : (signs z x : List ℕ) (from j : ℕ) → RowsRead t n signs z x from j → j < n → n ≤ 64 → (g : Generator) →
      g ≡ generator_in n (row_of (λ c. get_or t (from + c) 0)) → {s : ℕ} → s ≡ digit g.minus →
      RowsRead t n (set signs j s) (set z j g.z) (set x j g.x) (from + (n + 2)) (j + 1)
  one-row signs z x from j L l few g e {s} es =
      record {
        upto = omega arith;
        place = ap (λ k. k + (n + 2)) L.place ∙ next-line n j;
        signs-read = fill_step 64 _ signs j s L.signs-read inside (es ∙ ap (λ g. digit g.minus) read);
        z-read = fill_step 64 _ z j g.z L.z-read inside (ap (λ g. g.z) read);
        x-read = fill_step 64 _ x j g.x L.x-read inside (ap (λ g. g.x) read);
      }
    where
      inside : j < 64
      inside = lt_of_lt_of_le l few

      read : g ≡ generator_in n (row_of (byte_at n t j))
      read = e ∙ ap (λ k. generator_in n (row_of (λ c. get_or t (k + c) 0))) L.place

  pub all-rows : (signs z x : List ℕ) {from j : ℕ} → RowsRead t n signs z x from j → n ≤ j → n ≤ 64 →
      (take n signs ≡ (list_of n (λ j. row_of (byte_at n t j))).signs)
      × ((take n z ≡ (list_of n (λ j. row_of (byte_at n t j))).z)
      × (take n x ≡ (list_of n (λ j. row_of (byte_at n t j))).x))
  all-rows signs z x {from} {j} L l few =
      let all : j ≡ n = omega (arith, L.upto) in (
        filled-part n _ signs few (subst (Filled 64 _ signs) all L.signs-read),
        (
          filled-part n _ z few (subst (Filled 64 _ z) all L.z-read),
          filled-part n _ x few (subst (Filled 64 _ x) all L.x-read),
        ),
      )
