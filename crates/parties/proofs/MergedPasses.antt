-- A party's vertices put back into the record: it passes and has no edge between the parties, where no edge of what is
-- put back reaches out of the party. So the parties stay apart under the calls of each.
use mathlib.Core.Bool.{Bool, cond, false, true, true≢false}
use mathlib.Core.Path.{ap, refl, subst, sym, ◌∙◌, ◌≡◌}
use Prim.Native.Nat.{◌<◌, ◌^◌, ℕ}
use lib.ListN.{get_or}
use Rattle.buffers.proofs.Tabulate.{tabulate-at}
use Rattle.buffers.specs.Refusals.{first_fitting}
use Rattle.operations.specs.Steps.{Operation}
use Rattle.record.specs.Accepted.{AcceptedRecord}
use Rattle.record.specs.Lent.{held_record}
use Rattle.store.proofs.PassingStores.{held-record}
use Rattle.operations.proofs.LeftRecords.{used-left}
use Rattle.operations.proofs.UsedPassing.{lines-pass}
use Rattle.operations.proofs.UsedStaying.{used-code, used-word}
use Rattle.operations.specs.Used.{UsedRecord, used_code, used_lines, used_step, used_stray}
use Rattle.words.proofs.BitLaws.{zero_bit}
use Rattle.words.proofs.Flags.{by-test, neither, never_true}
use Rattle.words.specs.Bits.{Word, bit}
use Rattle.parties.specs.PartyLines.{party_after, party_lines, names_other}
use Rattle.parties.specs.Masks.{in_party, masked, merged, reaches_out}
use Rattle.parties.specs.internal.Apart.{Apart, PartyOp}
use Rattle.parties.proofs.Edges.{
  crosses-not,
  edge-inside,
  edge-within,
  none-crosses,
  none-reaches-out,
  same-party-bits,
}
use Rattle.parties.proofs.PartyNumbers.{masked-number}
use Rattle.parties.proofs.PartyPassing.{party-passes}
use Rattle.parties.proofs.MaskedRecords.{apart-record}
use Rattle.parties.proofs.OutsideStays.{after-outside}
use Rattle.parties.proofs.TabledRecords.{tabled-passes}

-- a used vertex of a record that passes
used-good : (u : UsedRecord) → first_fitting (used_lines u false false false) ≡ 0 → (q : ℕ) → bit u.used q ≡ true
    → (get_or u.held.neighbours q 0 ≡ 0) × (used_code (get_or u.held.codes q 0) ≡ true)
used-good u e q m =
    let P = (lines-pass u false false false).0 e in
    let stray = (neither (used_stray u) false P.1).0 in
    (used-word u P.2 stray q m, used-code u P.2 stray q m)

module _ (word g : ℕ) (u a : UsedRecord) (H : Apart word u) (n64 : a.held.n ≡ 64)
    (passes : first_fitting (used_lines a false false false) ≡ 0) (within : reaches_out (in_party word g) a ≡ false) where
  abbrev s : Word
  s = in_party word g

  abbrev θ : ℕ → ℕ → Bool
  θ = (held_record u.held).graph

  abbrev φ : ℕ → ℕ → Bool
  φ = (held_record a.held).graph

  abbrev n : ℕ
  n = u.held.n

  A : AcceptedRecord u.held
  A = apart-record word u H

  B : AcceptedRecord a.held
  B = held-record a passes

  same-n : a.held.n ≡ n
  same-n = n64 ∙ sym H.count

  -- the edges put together
  abbrev joined : ℕ → ℕ → Bool
  joined i j = bit (cond (s i) (get_or a.held.neighbours i 0) (get_or u.held.neighbours i 0)) j

  joined-own : (i j : ℕ) → s i ≡ true → joined i j ≡ φ i j
  joined-own i j h = ap (λ b. bit (cond b (get_or a.held.neighbours i 0) (get_or u.held.neighbours i 0)) j) h

  joined-other : (i j : ℕ) → s i ≡ false → joined i j ≡ θ i j
  joined-other i j h = ap (λ b. bit (cond b (get_or a.held.neighbours i 0) (get_or u.held.neighbours i 0)) j) h

  -- none has an end in the party and one outside
  no_own : (i j : ℕ) → s j ≡ false → φ i j ≡ false
  no_own i j h = never_true (φ i j) (λ t. true≢false (sym (edge-within s a B within i j t) ∙ h))

  no_other : (i j : ℕ) → s i ≡ false → s j ≡ true → θ i j ≡ false
  no_other i j h k = never_true (θ i j) (λ t. true≢false
      (sym k ∙ sym (edge-inside word g u A H.no-crossing i j t) ∙ h))

  symmetric : (i j : ℕ) → joined i j ≡ joined j i
  symmetric i j = go (s i) (s j) refl refl
    where
      go : (b c : Bool) → s i ≡ b → s j ≡ c → joined i j ≡ joined j i
      go true true h k = joined-own i j h ∙ B.simple.symmetric i j ∙ sym (joined-own j i k)
      go false false h k = joined-other i j h ∙ A.simple.symmetric i j ∙ sym (joined-other j i k)
      go true false h k = joined-own i j h ∙ no_own i j k ∙ sym (joined-other j i k ∙ no_other j i k h)
      go false true h k = joined-other i j h ∙ no_other i j h k ∙ sym (joined-own j i k ∙ no_own j i h)

  merged-passes : first_fitting (used_lines (merged s a u) false false false) ≡ 0
  merged-passes =
      tabled-passes n _ _ _ (record {
        positive = A.positive;
        upto = A.upto;
        words = λ j l. by-test (λ v. v < 2 ^ n) (s j) _ _
            (λ _. subst (λ m. get_or a.held.neighbours j 0 < 2 ^ m) same-n (B.words-below j))
            (λ _. A.words-below j);
        codes = λ q l. by-test (λ v. v < 24) (s q) _ _ (λ _. B.codes-below q) (λ _. A.codes-below q);
        symmetric = λ i j k l. symmetric i j;
        loopless = λ i l. by-test (λ v. bit v i ≡ false) (s i) _ _ (λ _. B.simple.loopless i)
            (λ _. A.simple.loopless i);
        used = λ q l. good q (s q);
      })
    where
      good : (q : ℕ) (b : Bool) → cond b (bit a.used q) (bit u.used q) ≡ true
          → (cond b (get_or a.held.neighbours q 0) (get_or u.held.neighbours q 0) ≡ 0)
          × (used_code (cond b (get_or a.held.codes q 0) (get_or u.held.codes q 0)) ≡ true)
      good q true m = used-good a passes q m
      good q false m = used-good u H.passes q m

  pub merged-apart : Apart word (merged (in_party word g) a u)
  merged-apart =
      record {
        count = H.count;
        passes = merged-passes;
        no-crossing = none-crosses word (merged s a u) (λ j k hj hk t. at j k hj hk (s j) refl
            (sym (ap (λ w. bit w k) (tabulate-at n _ j hj)) ∙ t));
      }
    where
      at : (j k : ℕ) → j < n → k < n → (b : Bool) → s j ≡ b → joined j k ≡ true → bit word j ≡ bit word k
      at j k hj hk true h t = same-party-bits word g j k
          (h ∙ sym (edge-within s a B within j k (sym (joined-own j k h) ∙ t)))
      at j k hj hk false h t = crosses-not word u H.no-crossing j k hj hk (sym (joined-other j k h) ∙ t)

-- ---- after a party's call
module _ (word g : ℕ) (u : UsedRecord) (H : Apart word u) (o : Operation) (O : PartyOp o)
    (own : names_other (in_party word g) 64 o ≡ false) (e : (used_step (masked (in_party word g) u) o).number ≡ 0) where
  abbrev left : UsedRecord
  left = (used_step (masked (in_party word g) u) o).after

  left-count : left.held.n ≡ 64
  left-count = ap (λ r. r.n) (used-left (masked (in_party word g) u) o e).held ∙ H.count

  left-passes : first_fitting (used_lines left false false false) ≡ 0
  left-passes = (used-left (masked (in_party word g) u) o e).passes

  -- nothing reaches out of the party
  pub after-within : reaches_out (in_party word g) (used_step (masked (in_party word g) u) o).after ≡ false
  after-within = none-reaches-out (in_party word g) left (λ j k hj hk t. at j k (subst (λ m. k < m) left-count hk) t
      (in_party word g k) refl)
    where
      at : (j k : ℕ) → k < 64 → (held_record left.held).graph j k ≡ true → (b : Bool) → in_party word g k ≡ b
          → b ≡ true
      at j k hk t true h = refl
      at j k hk t false h = absurd (true≢false (sym t ∙ (held-record left left-passes).simple.symmetric j k
          ∙ ap (λ w. bit w j) (after-outside word g u H o O own e k hk h).0 ∙ zero_bit j))

  after-apart : Apart word (party_after word g u o)
  after-apart = merged-apart word g u left H left-count left-passes after-within

pub party-apart : (word g : ℕ) (u : UsedRecord) → Apart word u → (o : Operation) → PartyOp o
    → first_fitting (party_lines word g u o) ≡ 0 → Apart word (party_after word g u o)
party-apart word g u H o O e =
    let P = party-passes word g u o e in
    after-apart word g u H o O P.own (sym (masked-number word g u H o O P.own) ∙ P.lines)
