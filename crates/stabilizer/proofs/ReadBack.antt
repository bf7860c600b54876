-- A list written into buffers and read back: its rows, its group and its lines.
use mathlib.Core.Bool.{false, true≢false}
use mathlib.Core.Logic.{inl, inr}
use mathlib.Core.Path.{ap, refl, subst, sym, ◌∙◌, ◌≡◌}
use Prim.Native.Nat.{◌<◌, ◌^◌, ℕ, ◌≤◌}
use lib.ListN.{get_or-eq_default, get_or}
use Rattle.buffers.proofs.Tabulate.{tabulate-at, tabulate-length}
use Rattle.buffers.specs.Buffers.{tabulate}
use Rattle.buffers.specs.Refusals.{first_fitting}
use Rattle.pauli.proofs.PauliLaws.{Pauli-path}
use Rattle.pauli.specs.Pauli.{Pauli, Phase, identity, imaginary, i², i³, i¹, i⁰, minus, sign_bit}
use Rattle.words.proofs.BitLaws.{bit-above, bit-word_of, digit_lt, word_of-lt, zero_bit}
use Rattle.words.proofs.Sums.{lt-or-ge}
use Rattle.words.specs.Bits.{Word, bit, digit, is_odd, word_of}
use Rattle.stabilizer.proofs.Accepted.{WellFormed, formed-passes}
use Rattle.stabilizer.proofs.EqualRows.{proper-equal, same-group-equal}
use Rattle.stabilizer.specs.Groups.{Proper, SameGroup, Within}
use Rattle.stabilizer.specs.Lists.{list_lines, list_of, rows}

-- a word written and read
pub word_back : (n : ℕ) (f : Word) → ((q : ℕ) → n ≤ q → f q ≡ false) → (q : ℕ) → bit (word_of n f) q ≡ f q
word_back n f h q = elim (lt-or-ge q n) [
  | inl l ↦ bit-word_of n f q l
  | inr l ↦ bit-above n (word_of n f) (word_of-lt n f) q l ∙ sym (h q l)
]

-- a sign written and read
sign-back : (t : Phase) → imaginary t ≡ false → minus (is_odd (digit (sign_bit t))) ≡ t
sign-back i⁰ e = refl
sign-back i¹ e = absurd (true≢false e)
sign-back i² e = refl
sign-back i³ e = absurd (true≢false e)

-- past a buffer
pub table-past : (n : ℕ) (f : ℕ → ℕ) (j : ℕ) → n ≤ j → get_or (tabulate n f) j 0 ≡ 0
table-past n f j l = get_or-eq_default (tabulate n f) 0 (subst (λ m. m ≤ j) (sym (tabulate-length n f)) l)

module _ (n : ℕ) (R : ℕ → Pauli) where
  pub row_back : (j : ℕ) → j < n → imaginary (R j).phase ≡ false → Within n (R j)
      → rows (list_of n R) j ≡ R j
  row_back j l e W =
      Pauli-path
      (ap (λ k. minus (is_odd k)) (tabulate-at n (λ j. digit (sign_bit (R j).phase)) j l)
      ∙ sign-back (R j).phase e)
      (λ q. ap (λ w. bit w q) (tabulate-at n (λ j. word_of n (R j).z) j l)
      ∙ word_back n (R j).z W.no-z q)
      (λ q. ap (λ w. bit w q) (tabulate-at n (λ j. word_of n (R j).x) j l)
      ∙ word_back n (R j).x W.no-x q)

  pub row-past : (j : ℕ) → n ≤ j → rows (list_of n R) j ≡ identity
  row-past j l =
      Pauli-path (ap (λ k. minus (is_odd k)) (table-past n (λ j. digit (sign_bit (R j).phase)) j l))
      (λ q. ap (λ w. bit w q) (table-past n (λ j. word_of n (R j).z) j l) ∙ zero_bit q)
      (λ q. ap (λ w. bit w q) (table-past n (λ j. word_of n (R j).x) j l) ∙ zero_bit q)

  module _ (P : Proper n R) where
    pub rows_back : (j : ℕ) → j < n → rows (list_of n R) j ≡ R j
    rows_back j l = row_back j l (P.commuting.signed j l) (P.within j l)

    pub back-proper : Proper n (rows (list_of n R))
    back-proper = proper-equal n R (rows (list_of n R)) (λ j l. sym (rows_back j l)) P

    pub back-same : SameGroup n n R (rows (list_of n R))
    back-same = same-group-equal n R (rows (list_of n R)) (λ j l. sym (rows_back j l))

    module _ (positive : 1 ≤ n) (upto : n ≤ 64) where
      pub back-formed : WellFormed (list_of n R)
      back-formed =
          record {
            positive = positive;
            upto = upto;
            signs-length = tabulate-length n _;
            z-length = tabulate-length n _;
            x-length = tabulate-length n _;
            signs-below = λ j l. subst (λ k. k < 2) (sym (tabulate-at n _ j l))
                (digit_lt (sign_bit (R j).phase));
            z-below = λ j l. subst (λ k. k < 2 ^ n) (sym (tabulate-at n _ j l)) (word_of-lt n (R j).z);
            x_below = λ j l. subst (λ k. k < 2 ^ n) (sym (tabulate-at n _ j l)) (word_of-lt n (R j).x);
          }

      -- it is refused by no line
      pub back_passes : first_fitting (list_lines (list_of n R) false) ≡ 0
      back_passes = formed-passes (list_of n R) back-formed back-proper
