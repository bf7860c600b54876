-- A lent list loaded into the tableau, and what an accepted list gives the elimination.
use mathlib.Core.Bool.{Bool, cond, false, not}
use mathlib.Core.List.{List, [], ◌∷◌}
use mathlib.Core.Logic.{inl, inr, ◌⊎◌}
use mathlib.Core.Path.{ap, ap₂, fun_ext, refl, subst, sym, ◌∙◌, ◌≡◌}
use Prim.Native.Nat.{◌<◌, zero-le, ℕ, ◌≤◌}
use native.Mathlib.Nat.{le_trans, not-suc-le-zero}
use lib.ListN.{get_or-eq_default, get_or, get_or-replicate, length, length-replicate, replicate}
use Rattle.pauli.proofs.PauliLaws.{Pauli-path}
use Rattle.pauli.specs.Pauli.{Pauli, identity, signed_row}
use Rattle.record.specs.Lent.{code_numbers, neighbour_words}
use Rattle.record.specs.Reduced.{reduced}
use Rattle.stabilizer.proofs.Accepted.{EarlyAccepted}
use Rattle.stabilizer.proofs.Within.{identity-within}
use Rattle.stabilizer.specs.Groups.{Within}
use Rattle.stabilizer.specs.Lists.{GeneratorList, dependent, rows}
use Rattle.stabilizer.specs.internal.Tableau.{tableau}
use Rattle.words.proofs.BitLaws.{zero_bit}
use Rattle.words.proofs.Sums.{lt-or-ge}
use Rattle.words.specs.Bits.{bit, is_odd}
use Rattle.record_reduction.specs.internal.Passes.{Loaded}
use Rattle.record_reduction.specs.internal.Reducible.{Reducible}

abbrev blank_row : List ℕ
blank_row = 0 ∷ 0 ∷ []

-- a row without letters and with sign plus is the identity
blank : signed_row false 0 0 ≡ identity
blank = Pauli-path refl zero_bit zero_bit

-- past its buffers a list has the identity
pub list-beyond : (l : GeneratorList) → length l.signs ≡ l.n → length l.z ≡ l.n → length l.x ≡ l.n
    →
    (j : ℕ) → l.n ≤ j → rows l j ≡ identity
list-beyond l es ez ex j k =
    ap (λ v. signed_row (is_odd v) (get_or l.z j 0) (get_or l.x j 0)) (past l.signs es)
    ∙ ap₂ (signed_row false) (past l.z ez) (past l.x ex) ∙ blank
  where
    past : (buffer : List ℕ) → length buffer ≡ l.n → get_or buffer j 0 ≡ 0
    past buffer e = get_or-eq_default buffer 0 (subst (λ m. m ≤ j) (sym e) k)

-- ---- row after row
module _ (l : GeneratorList) where
  pub record LoadedBelow (loaded : List (List ℕ)) (minuses i : ℕ) : Type 0 where
    pub long : length loaded ≡ 64
    pub upto : i ≤ l.n
    pub done : (j : ℕ) → j < i → tableau minuses loaded j ≡ rows l j
    pub rest : (j : ℕ) → i ≤ j → tableau minuses loaded j ≡ identity
    pub plus : (j : ℕ) → i ≤ j → bit minuses j ≡ false

  pub load-start : (loaded : List (List ℕ)) (minuses : ℕ) → loaded ≡ replicate 64 blank_row → minuses ≡ 0 →
      LoadedBelow loaded minuses 0
  load-start loaded minuses el em =
      record {
        long = ap length el ∙ length-replicate 64 blank_row;
        upto = zero-le;
        done = λ j k. absurd (not-suc-le-zero k);
        rest = λ j k. ap₂ (λ m v. tableau m v j) em el
            ∙ ap (λ b. signed_row b (get_or (get_or (replicate 64 blank_row) j []) 0 0)
            (get_or (get_or (replicate 64 blank_row) j []) 1 0))
            (zero_bit j) ∙ zeros j (lt-or-ge j 64);
        plus = λ j k. ap (λ m. bit m j) em ∙ zero_bit j;
      }
    where
      zeros : (j : ℕ) → (j < 64) ⊎ (64 ≤ j) →
          signed_row false (get_or (get_or (replicate 64 blank_row) j []) 0 0)
          (get_or (get_or (replicate 64 blank_row) j []) 1 0) ≡ identity
      zeros j (inl k) =
          ap (λ (v : List ℕ). signed_row false (get_or v 0 0) (get_or v 1 0)) (get_or-replicate 64 j blank_row [] k)
          ∙ blank
      zeros j (inr k) =
          ap (λ (v : List ℕ). signed_row false (get_or v 0 0) (get_or v 1 0))
          (get_or-eq_default (replicate 64 blank_row) []
          (subst (λ m. m ≤ j) (sym (length-replicate 64 blank_row)) k)) ∙ blank

  pub load-end : (loaded : List (List ℕ)) (minuses i : ℕ) → LoadedBelow loaded minuses i → l.n ≤ i →
      length l.signs ≡ l.n → length l.z ≡ l.n → length l.x ≡ l.n → (j : ℕ) →
      tableau minuses loaded j ≡ rows l j
  load-end loaded minuses i D h es ez ex j = go (lt-or-ge j i)
    where
      go : (j < i) ⊎ (i ≤ j) → tableau minuses loaded j ≡ rows l j
      go (inl k) = D.done j k
      go (inr k) = D.rest j k ∙ sym (list-beyond l es ez ex j (le_trans h k))

-- ---- a list that can be reduced
pub loaded-list : (l : GeneratorList) → Reducible l → Loaded l.n (rows l)
loaded-list l A =
    record {
      commuting = A.commuting;
      within = λ j. go j (lt-or-ge j l.n);
      beyond = list-beyond l A.signs-length A.z-length A.x-length;
    }
  where
    go : (j : ℕ) → (j < l.n) ⊎ (l.n ≤ j) → Within l.n (rows l j)
    go j (inl k) = A.within j k
    go j (inr k) =
        subst (Within l.n) (sym (list-beyond l A.signs-length A.z-length A.x-length j k))
        (identity-within l.n)

-- the same of rows that are the list's
pub loaded-rows : (l : GeneratorList) → Reducible l → (R : ℕ → Pauli) → ((j : ℕ) → R j ≡ rows l j)
    → Loaded l.n R
loaded-rows l A R h = subst (Loaded l.n) (sym (fun_ext h)) (loaded-list l A)

-- a list that passes the early lines can be reduced
pub early-reducible : (l : GeneratorList) → EarlyAccepted l → Reducible l
early-reducible l A =
    record {
      positive = A.formed.positive;
      upto = A.formed.upto;
      signs-length = A.formed.signs-length;
      z-length = A.formed.z-length;
      x-length = A.formed.x-length;
      commuting = A.commuting;
      within = A.within;
    }

-- what the reduction of the rows answers, said of the list
pub answered : (n : ℕ) (R R' : ℕ → Pauli) → ((j : ℕ) → R j ≡ R' j) → (r : Bool) (nb nb' cs cs' : List ℕ) →
    r ≡ not (dependent n R) → nb' ≡ cond r (neighbour_words n (reduced n R)) nb →
    cs' ≡ cond r (code_numbers n (reduced n R)) cs →
    (r ≡ not (dependent n R'))
    × ((nb' ≡ cond r (neighbour_words n (reduced n R')) nb) × (cs' ≡ cond r (code_numbers n (reduced n R')) cs))
answered n R R' h r nb nb' cs cs' er en ec = (
  er ∙ ap (λ f. not (dependent n f)) (fun_ext h),
  (
    en ∙ ap (λ f. cond r (neighbour_words n (reduced n f)) nb) (fun_ext h),
    ec ∙ ap (λ f. cond r (code_numbers n (reduced n f)) cs) (fun_ext h),
  ),
)
