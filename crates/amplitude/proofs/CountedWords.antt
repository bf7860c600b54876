-- As many words are supported as the rank of the x words says: 2 ^ rank. So the rank depends on the group alone, and on
-- a reduced form it counts the vertices without a Hadamard.
use mathlib.Core.Bool.{◌&&◌, Bool, ◌||◌, and-true, false, not, true}
use mathlib.Core.Logic.{inl, inr, ◌⊎◌}
use mathlib.Core.Path.{◌∙◌, ◌≡◌, ap, ap₂, refl, sym}
use Prim.Native.Nat.{◌+◌, ◌<◌, ◌^◌, suc, zero, ℕ, ◌≤◌}
use native.Mathlib.Numerals.{add-one}
use native.Mathlib.Nat.{add-zero, le_refl, lt_irrefl, one-mul, two-pow-succ}
use native.Mathlib.Omega.{arith}
use lib.Bits.{bit_xor, xor_shifted}
use lib.Dec.{eqb}
use lib.Pow.{pow-lt}
use Rattle.clifford.specs.Clifford.{bit_c}
use Rattle.cut.proofs.Counting.{count_add, count-ext}
use Rattle.cut.specs.Kernel.{count}
use Rattle.cut.specs.Rank.{rank}
use Rattle.record.specs.Graph.{Simple}
use Rattle.operations.specs.internal.ReducedForms.{ReducedForm}
use Rattle.pauli.specs.Pauli.{Pauli}
use Rattle.record.proofs.ColumnLaws.{column-dependent}
use Rattle.record.proofs.ReducedRecords.{record-proper, reduced-is}
use Rattle.record.specs.Columns.{is_column_dependent}
use Rattle.record.specs.Records.{GraphRecord, rows_of}
use Rattle.record.specs.Reduced.{ReductionOf, reduced, x_words}
use Rattle.stabilizer.specs.Groups.{Proper, SameGroup}
use Rattle.words.proofs.BitLaws.{bit-above, bit-single, bit-xor}
use Rattle.words.proofs.Flags.{same-by-both, same_bit-true, true-same_bit}
use Rattle.words.proofs.Places.{other_place, same_place}
use Rattle.words.proofs.SearchLaws.{every-at, every_in}
use Rattle.words.proofs.Sums.{bit_monoid, fold-ext, fold_more, lt-or-ge}
use Rattle.words.specs.Bits.{Word, ◌⊕◌, bit, digit, fold, parity, same_bit}
use Rattle.words.specs.Search.{every}
use Rattle.amplitude.proofs.Answers.{of-group}
use Rattle.operations.proofs.FormOfReduced.{code-c-of, form-of-reduced}
use Rattle.amplitude.proofs.FormWords.{Solves, solves-supported, supported-solves}
use Rattle.amplitude.proofs.Support.{supported-exactly}
use Rattle.amplitude.specs.internal.KeptTurns.{fits_at}
use Rattle.amplitude.specs.Plotting.{plotted}
use Rattle.amplitude.specs.Ratios.{is_supported, plot_at}
use Rattle.amplitude.specs.Vectors.{WordsCount}

-- ---- numbers and tests
-- one bit more, above the others
set-bit : (b v : ℕ) → v < 2 ^ b → (t : ℕ) → bit (2 ^ b + v) t ≡ eqb t b ⊕ bit v t
set-bit b v l t =
    ap (λ u. bit u t) (ap (λ p. p + v) (sym (one-mul (2 ^ b))) ∙ sym (xor_shifted 1 b v l)
    ∙ ap (λ p. bit_xor p v) (one-mul (2 ^ b)))
    ∙ bit-xor (2 ^ b) v t ∙ ap (λ c. c ⊕ bit v t) (bit-single b t)

every-ext : (b : ℕ) (f g : ℕ → Bool) → ((i : ℕ) → i < b → f i ≡ g i) → every b f ≡ every b g
unfolding every
every-ext zero f g h = refl
every-ext (suc b) f g h = ap₂ ◌&&◌ (every-ext b f g (λ i l. h i (omega arith))) (h b (omega arith))

-- those of f without and with g
count-split : (b : ℕ) (f g : ℕ → Bool) → count b (λ v. f v && not (g v)) + count b (λ v. f v && g v) ≡ count b f
unfolding fold
count-split zero f g = refl
count-split (suc b) f g = go (f b) (g b) (count-split b f g)
  where
    go : (s t : Bool) → count b (λ v. f v && not (g v)) + count b (λ v. f v && g v) ≡ count b f
        → (count b (λ v. f v && not (g v)) + digit (s && not t)) + (count b (λ v. f v && g v) + digit (s && t))
        ≡ count b f + digit s
    go false t h = omega arith
    go true false h = omega arith
    go true true h = omega arith

module _ (n : ℕ) (r : GraphRecord) (S : Simple n r.graph) (F : ReducedForm n r) where
  abbrev rotated : ℕ → Bool
  rotated q = bit_c (r.codes q)

  -- what the equation of a vertex asks for, by the bits before it
  abbrev value : ℕ → ℕ → Bool
  value j y = (r.codes j).sx ⊕ parity j (λ q. r.graph j q && bit y q)

  -- the equations of the vertices below b
  abbrev good : ℕ → ℕ → Bool
  good b y = every b (fits_at r y)

  module _ (b v : ℕ) (l : v < 2 ^ b) where
    kept-bit : (t : ℕ) → t < b → bit (2 ^ b + v) t ≡ bit v t
    kept-bit t k = set-bit b v l t ∙ ap (λ c. c ⊕ bit v t) (other_place {i = t} {j = b} (λ e. lt_irrefl b (rw e at k)))

    same-value : (j : ℕ) → j ≤ b → value j (2 ^ b + v) ≡ value j v
    same-value j k = ap (λ c. (r.codes j).sx ⊕ c)
        (fold-ext false ◌⊕◌ j (λ q m. ap (λ c. r.graph j q && c) (kept-bit q (omega arith))))

    same_good : good b (2 ^ b + v) ≡ good b v
    same_good = every-ext b _ _ (λ j k. ap₂ (λ c d. not (rotated j) || same_bit c d) (kept-bit j k)
        (same-value j (omega arith)))

    lower : good (suc b) v ≡ (good b v && (not (rotated b) || not (value b v)))
    unfolding every
    lower = ap (λ c. good b v && (not (rotated b) || c))
        (ap (λ c. same_bit c (value b v)) (bit-above b v l b (le_refl b)) ∙ none (value b v))
      where
        none : (a : Bool) → same_bit false a ≡ not a
        none false = refl
        none true = refl

    upper : good (suc b) (2 ^ b + v) ≡ (good b v && (not (rotated b) || value b v))
    unfolding every
    upper = ap₂ (λ c d. c && (not (rotated b) || d)) same_good
        (ap₂ same_bit (set-bit b v l b ∙ ap₂ ◌⊕◌ (same_place b) (bit-above b v l b (le_refl b)))
        (same-value b (le_refl b)) ∙ one (value b v))
      where
        one : (a : Bool) → same_bit true a ≡ a
        one false = refl
        one true = refl

  counted : (b : ℕ) → count (2 ^ b) (good b) ≡ 2 ^ count b (λ q. not (rotated q))
  unfolding fold every
  counted zero = refl
  counted (suc b) =
      ap (λ m. count m (good (suc b))) (two-pow-succ b) ∙ count_add (2 ^ b) (2 ^ b) (good (suc b))
      ∙ ap₂ ◌+◌ (count-ext (2 ^ b) _ _ (lower b)) (count-ext (2 ^ b) _ _ (upper b))
      ∙ go (rotated b) (counted b)
    where
      go : (c : Bool) → count (2 ^ b) (good b) ≡ 2 ^ count b (λ q. not (rotated q))
          → count (2 ^ b) (λ v. good b v && (not c || not (value b v)))
          + count (2 ^ b) (λ v. good b v && (not c || value b v)) ≡ 2 ^ (count b (λ q. not (rotated q)) + digit (not c))
      go true h = count-split (2 ^ b) (good b) (value b) ∙ h ∙ ap (λ k. 2 ^ k) (sym (add-zero _))
      go false h =
          ap₂ ◌+◌ (count-ext (2 ^ b) _ (good b) (λ v l. and-true (good b v)))
          (count-ext (2 ^ b) _ (good b) (λ v l. and-true (good b v)))
          ∙ ap₂ ◌+◌ h h ∙ sym (two-pow-succ _) ∙ ap (λ k. 2 ^ k) (sym (add-one _))

  -- ---- the equations are the support
  -- a vertex with a Hadamard has smaller neighbours only
  earlier : (j : ℕ) → j < n → rotated j ≡ true → (y : Word)
      → parity n (λ q. r.graph j q && y q) ≡ parity j (λ q. r.graph j q && y q)
  earlier j hj c y = fold_more false ◌⊕◌ bit_monoid j n (omega arith)
      (λ q l. go q l (r.graph j q) refl)
    where
      go : (q : ℕ) → j ≤ q → (b : Bool) → r.graph j q ≡ b → (b && y q) ≡ false
      go q l false e = refl
      go q l true e = absurd (omega (arith, F.smaller j q hj c e, l))

  pub support-fits : (y : ℕ) → is_supported n (rows_of n r) y ≡ every n (fits_at r y)
  support-fits y = same-by-both (is_supported n (rows_of n r) y) (good n y)
      (λ e. every_in n _ (λ j l. there (supported-solves n r S F (bit y) ((supported-exactly n (rows_of n r) y).0 e)) j l
      (rotated j) refl))
      (λ e. (supported-exactly n (rows_of n r) y).1 (solves-supported n r S F (bit y)
      (λ j l c. back j l c (every-at n _ e j l))))
    where
      there : Solves n r S F (bit y) → (j : ℕ) → j < n → (c : Bool) → rotated j ≡ c
          → (not c || same_bit (bit y j) (value j y)) ≡ true
      there H j l false e = refl
      there H j l true e = same_bit-true (H j l e ∙ ap (λ b. (r.codes j).sx ⊕ b) (earlier j l e (bit y)))

      back : (j : ℕ) → j < n → rotated j ≡ true → fits_at r y j ≡ true
          → bit y j ≡ (r.codes j).sx ⊕ parity n (λ q. r.graph j q && bit y q)
      back j l c e = true-same_bit (bit y j) (value j y)
          (ap (λ b. not b || same_bit (bit y j) (value j y)) (sym c) ∙ e)
          ∙ ap (λ b. (r.codes j).sx ⊕ b) (sym (earlier j l c (bit y)))

-- ---- for every list
pub words_count : (n : ℕ) (R : ℕ → Pauli) → Proper n R → WordsCount n R
words_count n R P =
    count-ext (2 ^ n) _ _ (λ y l. (of-group n R (rows_of n r) P (record-proper n r D.simple) D.group).support y
    ∙ support-fits n r D.simple (form-of-reduced n R P) y)
    ∙ counted n r D.simple (form-of-reduced n R P) n
    ∙ ap (λ k. 2 ^ k) (count-ext n _ _ (λ q l. ap not (dependent q l)))
  where
    r : GraphRecord
    r = reduced n R

    D : ReductionOf n R (reduced n R)
    D = reduced-is n R P

    dependent : (q : ℕ) → q < n → bit_c ((reduced n R).codes q) ≡ is_column_dependent n (x_words R) q
    dependent q l = same-by-both (bit_c ((reduced n R).codes q)) (is_column_dependent n (x_words R) q)
        (λ e. (column-dependent n (x_words R) q).1 ((D.rotated q l).0 (sym (c q) ∙ e)))
        (λ e. c q ∙ (D.rotated q l).1 ((column-dependent n (x_words R) q).0 e))
      where
        c : (q : ℕ) → bit_c ((reduced n R).codes q) ≡ D.hadamards q
        c q = code-c-of n R (reduced n R) D q

-- ---- the rank by the words
same-exponent : (a b : ℕ) → 2 ^ a ≡ 2 ^ b → a ≡ b
same-exponent a b e = go (lt-or-ge a b) (lt-or-ge b a)
  where
    go : (a < b) ⊎ (b ≤ a) → (b < a) ⊎ (a ≤ b) → a ≡ b
    go (inl l) k = absurd (omega (arith, pow-lt l, e))
    go (inr l) (inl k) = absurd (omega (arith, pow-lt k, e))
    go (inr l) (inr k) = omega arith

pub form-rank : (n : ℕ) (r : GraphRecord) → Simple n r.graph → ReducedForm n r
    → count n (λ q. not (bit_c (r.codes q))) ≡ rank n n (x_words (rows_of n r))
form-rank n r S F = same-exponent _ _ (sym (counted n r S F n)
    ∙ count-ext (2 ^ n) _ _ (λ y l. sym (support-fits n r S F y)) ∙ words_count n (rows_of n r) (record-proper n r S))

pub rank-of-group : (n : ℕ) (R S : ℕ → Pauli) → Proper n R → Proper n S → SameGroup n n R S
    → rank n n (x_words R) ≡ rank n n (x_words S)
rank-of-group n R S P Q E = same-exponent _ _ (sym (words_count n R P)
    ∙ count-ext (2 ^ n) _ _ (λ y l. (of-group n R S P Q E).support y) ∙ words_count n S Q)

-- a line of the plot depends on the group alone
pub plot-of-group : (n : ℕ) (R S : ℕ → Pauli) → Proper n R → Proper n S → SameGroup n n R S → (y : ℕ)
    → plot_at n R y ≡ plot_at n S y
plot-of-group n R S P Q E y = ap₂ plotted ((of-group n R S P Q E).answer y) (rank-of-group n R S P Q E)
