-- A party's vertices alone: what the record with the others masked holds, and that it passes, with no edge between the
-- parties, where the whole record does.
use mathlib.Core.Bool.{◌&&◌, Bool, and-false, cond, false, true}
use mathlib.Core.Logic.{inl, inr}
use mathlib.Core.Path.{ap, ap₂, refl, sym, ◌∙◌, ◌≡◌}
use Prim.Native.Nat.{◌<◌, ◌^◌, ℕ}
use lib.Dec.{lit<}
use lib.ListN.{get_or}
use lib.Pow.{pow_pos}
use borrow.Author.Tests.{leb-false}
use Rattle.buffers.proofs.Tabulate.{tabulate-at}
use Rattle.buffers.specs.Refusals.{first_fitting}
use Rattle.record.proofs.AcceptedRecords.{held-above}
use Rattle.record.specs.Accepted.{AcceptedRecord}
use Rattle.record.specs.Lent.{held_record}
use Rattle.stabilizer.proofs.ReadBack.{table-past}
use Rattle.store.proofs.PassingStores.{held-record}
use Rattle.operations.proofs.UsedPassing.{lines-pass}
use Rattle.operations.proofs.UsedStaying.{used-code, used-word}
use Rattle.operations.specs.Used.{UsedRecord, used_code, used_lines, used_stray, used_wrong}
use Rattle.words.proofs.BitLaws.{bit-above, bit-cond, bit-word_of, word_of-lt, zero_bit}
use Rattle.words.proofs.Flags.{both_true, by-test, neither}
use Rattle.words.proofs.Sums.{lt-or-ge}
use Rattle.words.specs.Bits.{Word, bit}
use Rattle.parties.specs.Masks.{in_party, masked}
use Rattle.parties.specs.internal.Apart.{Apart}
use Rattle.parties.proofs.Edges.{crosses-not, edge-inside, none-crosses}
use Rattle.parties.proofs.TabledRecords.{tabled-passes}

-- ---- a record that passes
module _ (word : ℕ) (u : UsedRecord) (H : Apart word u) where
  pub apart-record : AcceptedRecord u.held
  apart-record = held-record u H.passes

  pub apart-stray : used_stray u ≡ false
  apart-stray = (neither (used_stray u) false ((lines-pass u false false false).0 H.passes).1).0

  pub apart-wrong : used_wrong u ≡ false
  apart-wrong = ((lines-pass u false false false).0 H.passes).2

-- ---- what the masked record holds
module _ (s : Word) (u : UsedRecord) where
  pub masked-word : (q : ℕ) → q < u.held.n
      → get_or (masked s u).held.neighbours q 0 ≡ cond (s q) (get_or u.held.neighbours q 0) 0
  masked-word q l = tabulate-at u.held.n _ q l

  pub masked-code : (q : ℕ) → q < u.held.n
      → get_or (masked s u).held.codes q 0 ≡ cond (s q) (get_or u.held.codes q 0) 8
  masked-code q l = tabulate-at u.held.n _ q l

  pub masked-graph : AcceptedRecord u.held → (i j : ℕ)
      → (held_record (masked s u).held).graph i j ≡ (s i && (held_record u.held).graph i j)
  masked-graph A i j = elim (lt-or-ge i u.held.n) [
    | inl l ↦ ap (λ w. bit w j) (masked-word i l) ∙ bit-cond (s i) (get_or u.held.neighbours i 0) j
    | inr l ↦ ap (λ w. bit w j) (table-past u.held.n _ i l) ∙ zero_bit j
        ∙ sym (ap (λ b. s i && b) (held-above u.held A.neighbours-length i j l) ∙ and-false (s i))
  ]

  pub masked-used : used_stray u ≡ false → (t : ℕ) → bit (masked s u).used t ≡ (s t && bit u.used t)
  masked-used e t = elim (lt-or-ge t u.held.n) [
    | inl l ↦ bit-word_of u.held.n _ t l
    | inr l ↦ bit-above u.held.n (masked s u).used (word_of-lt u.held.n _) t l
        ∙ sym (ap (λ b. s t && b) (bit-above u.held.n u.used (leb-false (2 ^ u.held.n) u.used e) t l)
        ∙ and-false (s t))
  ]

-- ---- it passes, and no edge crosses in it
module _ (word g : ℕ) (u : UsedRecord) (H : Apart word u) where
  A : AcceptedRecord u.held
  A = apart-record word u H

  abbrev s : Word
  s = in_party word g

  abbrev θ : ℕ → ℕ → Bool
  θ = (held_record u.held).graph

  inside : (i j : ℕ) → θ i j ≡ true → s i ≡ s j
  inside = edge-inside word g u A H.no-crossing

  -- an edge is kept from both its ends
  kept : (i j : ℕ) → (s i && θ i j) ≡ (s j && θ j i)
  kept i j = go (θ i j) refl
    where
      go : (b : Bool) → θ i j ≡ b → (s i && θ i j) ≡ (s j && θ j i)
      go true e = ap₂ ◌&&◌ (inside i j e) (A.simple.symmetric i j)
      go false e = ap (λ b. s i && b) e ∙ and-false (s i)
          ∙ sym (ap (λ b. s j && b) (A.simple.symmetric j i ∙ e) ∙ and-false (s j))

  pub masked-passes : first_fitting (used_lines (masked (in_party word g) u) false false false) ≡ 0
  masked-passes =
      tabled-passes u.held.n _ _ _ (record {
        positive = A.positive;
        upto = A.upto;
        words = λ j l. by-test (λ v. v < 2 ^ u.held.n) (s j) _ _ (λ _. A.words-below j)
            (λ _. pow_pos u.held.n);
        codes = λ q l. by-test (λ v. v < 24) (s q) _ _ (λ _. A.codes-below q) (λ _. lit< tt);
        symmetric = λ i j k l. bit-cond (s i) (get_or u.held.neighbours i 0) j ∙ kept i j
            ∙ sym (bit-cond (s j) (get_or u.held.neighbours j 0) i);
        loopless = λ i l. bit-cond (s i) (get_or u.held.neighbours i 0) i
            ∙ ap (λ b. s i && b) (A.simple.loopless i) ∙ and-false (s i);
        used = λ q l e. good q (both_true (s q) (bit u.used q) e);
      })
    where
      good : (q : ℕ) → (s q ≡ true) × (bit u.used q ≡ true)
          → (cond (s q) (get_or u.held.neighbours q 0) 0 ≡ 0)
          × (used_code (cond (s q) (get_or u.held.codes q 0) 8) ≡ true)
      good q h = (
        ap (λ b. cond b (get_or u.held.neighbours q 0) 0) h.0
            ∙ used-word u (apart-wrong word u H) (apart-stray word u H) q h.1,
        ap (λ b. used_code (cond b (get_or u.held.codes q 0) 8)) h.0
            ∙ used-code u (apart-wrong word u H) (apart-stray word u H) q h.1,
      )

  pub masked-apart : Apart word (masked (in_party word g) u)
  masked-apart =
      record {
        count = H.count;
        passes = masked-passes;
        no-crossing = none-crosses word (masked s u) (λ j k hj hk t. crosses-not word u H.no-crossing j k hj hk
            (both_true (s j) (θ j k) (sym (masked-graph s u A j k) ∙ t)).1);
      }
