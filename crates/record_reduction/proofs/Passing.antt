-- A pass over the columns: the rows stay loaded, and the code's step is the definition's.
use mathlib.Core.Bool.{◌&&◌, Bool, and-false, false, not, true, true≢false}
use mathlib.Core.List.{List}
use mathlib.Core.Logic.{inl, inr, ◌⊎◌}
use mathlib.Core.Path.{ap, fun_ext, subst, sym, ◌∙◌, ◌≡◌}
use Prim.Native.Nat.{◌<◌, ◌^◌, suc, ℕ, ◌≤◌}
use native.Mathlib.Nat.{le_trans, lt_irrefl, lt_of_lt_of_le}
use native.Mathlib.Omega.{arith}
use lib.Bits.{bit_and, bit_xor}
use lib.Count.{count_trailing_zeros}
use lib.Dec.{eqb, ltb}
use borrow.Author.Tests.{lt-ltb}
use Rattle.pauli.proofs.PauliLaws.{anticommute-swap, mul-identity}
use Rattle.pauli.specs.Pauli.{Pauli, anticommute, imaginary, mul}
use Rattle.record.proofs.FirstPass.{unused-bit}
use Rattle.record_reduction.specs.internal.Relative.{relative}
use Rattle.stabilizer.proofs.Products.{anticommute-identity}
use Rattle.stabilizer.proofs.RowOperations.{clear_self, lend-self, shear-commuting}
use Rattle.stabilizer.proofs.Within.{anticommute-wide, chosen-within, mul_wide, mul-within}
use Rattle.stabilizer.specs.internal.Elimination.{clear, lend, pivot_on}
use Rattle.stabilizer.specs.Elimination.{shear}
use Rattle.stabilizer.specs.Groups.{Commuting, chosen}
use Rattle.words.proofs.BitLaws.{bit-and, bit-xor, lt-of-bits, zero_bit}
use Rattle.words.proofs.Finite.{bits}
use Rattle.words.proofs.Places.{other_place}
use Rattle.words.proofs.Sums.{lt-or-ge}
use Rattle.words.proofs.Trailing.{trailing-set}
use Rattle.words.specs.Bits.{Word, bit, put, ◌⊕◌}
use Rattle.record_reduction.specs.internal.Passes.{Eliminated, Loaded, PivotReady, pivot, pivoted, skip, start}

-- ---- at 64 qubits and rows instead of n
module _ (n : ℕ) (l : n ≤ 64) (R : ℕ → Pauli) (L : Loaded n R) where
  pub shear-wide : (a : ℕ) (s : Word) (j : ℕ) → shear 64 R a s j ≡ shear n R a s j
  shear-wide a s j = mul_wide n 64 l (L.within j) (chosen-within n (s j) (L.within a))

  pub commuting-wide : ((j : ℕ) → imaginary (R j).phase ≡ false) → Commuting 64 64 R
  commuting-wide signed =
      record { signed = λ j _. signed j; commute = λ i j _ _. go i j (lt-or-ge i n) (lt-or-ge j n) }
    where
      go : (i j : ℕ) → (i < n) ⊎ (n ≤ i) → (j < n) ⊎ (n ≤ j) → anticommute 64 (R i) (R j) ≡ false
      go i j (inl hi) (inl hj) =
          anticommute-wide n 64 l (L.within i) (L.within j) ∙ L.commuting.commute i j hi hj
      go i j (inr hi) hj = ap (λ p. anticommute 64 p (R j)) (L.beyond i hi) ∙ anticommute-identity 64 (R j)
      go i j (inl hi) (inr hj) =
          anticommute-swap 64 (R i) (R j) ∙ ap (λ p. anticommute 64 p (R i)) (L.beyond j hj)
          ∙ anticommute-identity 64 (R i)

  -- a row that is not named stays as it is
  stays : (b : Bool) (j a : ℕ) → b ≡ false → mul n (R j) (chosen b (R a)) ≡ R j
  stays b j a e = ap (λ b. mul n (R j) (chosen b (R a))) e ∙ mul-identity n (R j)

  loaded-shear : (a : ℕ) → a < n → (s : Word) → s a ≡ false → ((j : ℕ) → n ≤ j → s j ≡ false) →
      Loaded n (shear n R a s)
  loaded-shear a ha s sa far =
      record {
        commuting = shear-commuting n n R L.commuting a ha s sa;
        within = λ j. mul-within n n (L.within j) (chosen-within n (s j) (L.within a));
        beyond = λ j h. stays (s j) j a (far j h) ∙ L.beyond j h;
      }

module _ (n : ℕ) (l : n ≤ 64) (R : ℕ → Pauli) (L : Loaded n R) (q i : ℕ) (hq : q < n) (hi : i < n)
    (has : (R i).x q ≡ true) where
  loaded-lent : Loaded n (shear n R i (lend R q))
  loaded-lent =
      loaded-shear n l R L i hi (lend R q) (lend-self n R q i hq hi has)
      (λ j h. ap (λ b. b && not ((R q).x q))
      (other_place {i = j} {j = q} (λ e. lt_irrefl n (omega (arith, hq, e)))))

  loaded-pivot : Loaded n (pivot_on n R q i)
  loaded-pivot =
      loaded-shear n l (shear n R i (lend R q)) loaded-lent q hq (clear (shear n R i (lend R q)) q)
      (clear_self n R q i hq hi has)
      (λ j h. ap (λ p. not (eqb j q) && p.x q) (loaded-lent.beyond j h) ∙ and-false (not (eqb j q)))

  pub pivot-wide : (j : ℕ) → pivot_on 64 R q i j ≡ pivot_on n R q i j
  pivot-wide j =
      ap (λ f. shear 64 f q (clear f q) j) (fun_ext (shear-wide n l R L i (lend R q)))
      ∙ shear-wide n l (shear n R i (lend R q)) loaded-lent q (clear (shear n R i (lend R q)) q) j

pub eliminated-loaded : (n : ℕ) → n ≤ 64 → {R₀ : ℕ → Pauli} {w₀ : Word} {R : ℕ → Pauli} {w : Word} {q : ℕ} →
    Loaded n R₀ → Eliminated n R₀ w₀ R w q → Loaded n R
eliminated-loaded n l L start = L
eliminated-loaded n l L (pivoted E hq e) = eliminated-loaded n l L E
eliminated-loaded n l L (skip E hq none) = eliminated-loaded n l L E
eliminated-loaded n l L (pivot {R = R} {w = w} {q = q} E hq i hi e) =
    loaded-pivot n l R (eliminated-loaded n l L E) q i hq hi (unused-bit (w i) ((R i).x q) e)

-- ---- the code's column
module _ (n q : ℕ) (l : n ≤ 64) (hq : q < n) (R : ℕ → Pauli) (L : Loaded n R) (holders pivots free : ℕ)
    (h : (j : ℕ) → bit holders j ≡ (ltb j n && (R j).x q))
    (f : free ≡ bit_xor holders (bit_and holders pivots)) where
  -- the word of the column names exactly the rows with the bit
  pub holders-are : (j : ℕ) → bit holders j ≡ (R j).x q
  holders-are j = h j ∙ go (lt-or-ge j n)
    where
      go : (j < n) ⊎ (n ≤ j) → (ltb j n && (R j).x q) ≡ (R j).x q
      go (inl k) = ap (λ b. b && (R j).x q) (lt-ltb j n k)
      go (inr k) =
          ap (λ b. ltb j n && b) (ap (λ p. p.x q) (L.beyond j k)) ∙ and-false (ltb j n)
          ∙ sym (ap (λ p. p.x q) (L.beyond j k))

  -- the free rows: unused, with the bit
  free-are : (j : ℕ) → bit free j ≡ (not (bit pivots j) && (R j).x q)
  free-are j =
      ap (λ v. bit v j) f ∙ bit-xor holders (bit_and holders pivots) j
      ∙ ap (λ b. bit holders j ⊕ b) (bit-and holders pivots j)
      ∙ bits 2 (λ a b. a ⊕ (a && b)) (λ a b. not b && a) tt (bit holders j) (bit pivots j)
      ∙ ap (λ b. not (bit pivots j) && b) (holders-are j)

  pub none_free : free ≡ 0 → (i : ℕ) → i < n → (not (bit pivots i) && (R i).x q) ≡ false
  none_free e i k = sym (free-are i) ∙ ap (λ v. bit v i) e ∙ zero_bit i

  pub record FreeRow (i : ℕ) : Type 0 where
    pub below : i < n
    pub unused : (not (bit pivots i) && (R i).x q) ≡ true
    pub has : (R i).x q ≡ true

  -- no free row at or above n
  none_above : (j : ℕ) → n ≤ j → bit free j ≡ false
  none_above j k =
      free-are j ∙ ap (λ p. not (bit pivots j) && p.x q) (L.beyond j k) ∙ and-false (not (bit pivots j))

  pub free-row : (free ≡ 0 → ⊥) → (i : ℕ) → i ≡ count_trailing_zeros 64 free → FreeRow i
  free-row nonzero i e =
      record {
        below = inside (lt-or-ge i n);
        unused = unused;
        has =
            unused-bit (bit pivots i) ((R i).x q) unused;
      }
    where
      small : free < 2 ^ 64
      small = lt-of-bits 64 free (λ j k. none_above j (le_trans l k))

      unused : (not (bit pivots i) && (R i).x q) ≡ true
      unused = sym (free-are i) ∙ ap (bit free) e ∙ (trailing-set 64 free small nonzero).passes

      inside : (i < n) ⊎ (n ≤ i) → i < n
      inside (inl k) = k
      inside (inr k) =
          absurd (true≢false (sym (unused-bit (bit pivots i) ((R i).x q) unused)
          ∙ ap (λ p. p.x q) (L.beyond i k)))

  pub pivot-ready : (i : ℕ) → FreeRow i → ((j : ℕ) → imaginary (R j).phase ≡ false)
      → PivotReady R q i holders
  pivot-ready i F signed =
      record {
        column = lt_of_lt_of_le hq l;
        lender = lt_of_lt_of_le F.below l;
        commuting = commuting-wide n l R L signed;
        holds = holders-are;
        has = F.has;
      }

  -- one more column: passed over, or with its pivot
  pub column-skipped : free ≡ 0 → (R₀ : ℕ → Pauli) (w₀ : Word) → Eliminated n R₀ w₀ R (bit pivots) q →
      Eliminated n R₀ w₀ R (bit pivots) (suc q)
  column-skipped e R₀ w₀ E = skip E hq (none_free e)

  pub column-pivoted : (i : ℕ) → FreeRow i → (R' : ℕ → Pauli) → ((j : ℕ) → R' j ≡ pivot_on 64 R q i j)
      → (pivots' : ℕ) →
      ((j : ℕ) → bit pivots' j ≡ put (bit pivots) q true j) → (R₀ : ℕ → Pauli) (w₀ : Word) →
      Eliminated n R₀ w₀ R (bit pivots) q → Eliminated n R₀ w₀ R' (bit pivots') (suc q)
  column-pivoted i F R' r pivots' p R₀ w₀ E =
      subst (λ f. Eliminated n R₀ w₀ f (bit pivots') (suc q))
      (sym (fun_ext (λ j. r j ∙ pivot-wide n l R L q i hq F.below F.has j)))
      (subst (λ w. Eliminated n R₀ w₀ (pivot_on n R q i) w (suc q)) (sym (fun_ext p))
      (pivot E hq i F.below F.unused))

-- the column counted another way
pub eliminated-at : {n : ℕ} {R₀ : ℕ → Pauli} {w₀ : Word} {R : ℕ → Pauli} {w : Word} {q q' : ℕ} → q ≡ q' →
    Eliminated n R₀ w₀ R w q → Eliminated n R₀ w₀ R w q'
eliminated-at {n} {R₀} {w₀} {R} {w} e E = subst (Eliminated n R₀ w₀ R w) e E

-- the same array and words under other names
pub same-state : {n : ℕ} {R₀ : ℕ → Pauli} {w₀ : Word} {pivots pivots' q signs signs' : ℕ}
    {rows rows' : List (List ℕ)} →
    signs' ≡ signs → pivots' ≡ pivots → rows' ≡ rows →
    Eliminated n R₀ w₀ (relative (bit signs) rows) (bit pivots) q
    → Eliminated n R₀ w₀ (relative (bit signs') rows') (bit pivots') q
same-state {n} {R₀} {w₀} {pivots} {pivots'} {q} {signs} {signs'} {rows} {rows'} es ep er E =
    subst (λ p. Eliminated n R₀ w₀ (relative (bit signs') rows') (bit p) q) (sym ep)
    (subst (λ s. Eliminated n R₀ w₀ (relative (bit s) rows') (bit pivots) q) (sym es)
    (subst (λ v. Eliminated n R₀ w₀ (relative (bit signs) v) (bit pivots) q) (sym er) E))
