-- A record written place by place passes its lines: words below 2 ^ n, codes below 24, a simple graph, and used
-- vertices that are alone and have one of the six codes.
use mathlib.Core.Bool.{false, true, true≢false, ◌||◌}
use mathlib.Core.Logic.{inl, inr, ◌⊎◌}
use mathlib.Core.Path.{ap, sym, ◌∙◌, ◌≡◌}
use Prim.Native.Nat.{◌<◌, ◌^◌, ℕ, ◌≤◌}
use lib.ListN.{get_or}
use borrow.Author.Tests.{lt-leb}
use Rattle.buffers.proofs.Tabulate.{tabulate-at, tabulate-length}
use Rattle.buffers.specs.Buffers.{tabulate}
use Rattle.buffers.specs.Refusals.{first_fitting}
use Rattle.record.proofs.AcceptedRecords.{none-refuses}
use Rattle.record.proofs.SimpleVerdict.{SimpleBelow}
use Rattle.record.specs.Lent.{held_record, record_lines}
use Rattle.stabilizer.proofs.SharedTests.{table-passes}
use Rattle.operations.proofs.LeftRecords.{all-good}
use Rattle.operations.proofs.UsedPassing.{lines-pass}
use Rattle.operations.specs.Used.{used_code, used_lines, UsedRecord, used_record}
use Rattle.words.proofs.BitLaws.{bit-above, bit-word_of, word_of-lt}
use Rattle.words.proofs.Sums.{lt-or-ge}
use Rattle.words.specs.Bits.{Word, bit, word_of}

-- the record with these words, codes and used vertices
abbrev pub tabled : ℕ → (ℕ → ℕ) → (ℕ → ℕ) → Word → UsedRecord
tabled n f c w =
    used_record n (tabulate n f) (tabulate n c) (word_of n w)

pub record Tabled (n : ℕ) (f c : ℕ → ℕ) (w : Word) : Type 0 where
  pub positive : 1 ≤ n
  pub upto : n ≤ 64
  pub words : (j : ℕ) → j < n → f j < 2 ^ n
  pub codes : (q : ℕ) → q < n → c q < 24
  pub symmetric : (i j : ℕ) → i < n → j < n → bit (f i) j ≡ bit (f j) i
  pub loopless : (i : ℕ) → i < n → bit (f i) i ≡ false
  pub used : (q : ℕ) → q < n → w q ≡ true → (f q ≡ 0) × (used_code (c q) ≡ true)

module _ (n : ℕ) (f c : ℕ → ℕ) (w : Word) (T : Tabled n f c w) where
  simple : SimpleBelow n (held_record (tabled n f c w).held).graph
  simple =
      record {
        symmetric = λ i j k l. ap (λ v. bit v j) (tabulate-at n f i k) ∙ T.symmetric i j k l
            ∙ sym (ap (λ v. bit v i) (tabulate-at n f j l));
        loopless = λ i k. ap (λ v. bit v i) (tabulate-at n f i k) ∙ T.loopless i k;
      }

  held-lines : first_fitting (record_lines (tabled n f c w).held false false) ≡ 0
  held-lines =
      none-refuses (tabled n f c w).held T.positive T.upto (tabulate-length n f) (tabulate-length n c)
      (table-passes (2 ^ n) n f T.words) (table-passes 24 n c T.codes) simple

  pub tabled-passes : first_fitting (used_lines (tabled n f c w) false false false) ≡ 0
  tabled-passes =
      (lines-pass (tabled n f c w) false false false).1 (
        held-lines,
        ap (λ b. b || false) (lt-leb (2 ^ n) (word_of n w) (word_of-lt n w)),
        all-good (tabled n f c w) (λ t h. at t h (lt-or-ge t n)),
      )
    where
      at : (t : ℕ) → bit (word_of n w) t ≡ true → (t < n) ⊎ (n ≤ t)
          → (get_or (tabulate n f) t 0 ≡ 0) × (used_code (get_or (tabulate n c) t 0) ≡ true)
      at t h (inr l) = absurd (true≢false (sym h ∙ bit-above n (word_of n w) (word_of-lt n w) t l))
      at t h (inl l) =
          let good = T.used t l (sym (bit-word_of n w t l) ∙ h) in
          (tabulate-at n f t l ∙ good.0, ap used_code (tabulate-at n c t l) ∙ good.1)
