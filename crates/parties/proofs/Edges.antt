-- Edges between the parties: none crosses exactly if the ends of each edge are of one party; and edges out of a set.
use mathlib.Core.Bool.{◌&&◌, Bool, false, not, true, true≢false}
use mathlib.Core.Logic.{inl, inr}
use mathlib.Core.Path.{ap, refl, sym, ◌∙◌, ◌≡◌}
use Prim.Native.Nat.{◌<◌, ℕ}
use lib.Dec.{eqb}
use lib.ListN.{get_or}
use borrow.Author.Tests.{not-false}
use Rattle.record.specs.Accepted.{AcceptedRecord}
use Rattle.record.specs.Lent.{LentRecord, held_record}
use Rattle.operations.specs.Used.{UsedRecord}
use Rattle.words.proofs.Flags.{same_bit-true, true-same_bit}
use Rattle.words.proofs.SearchLaws.{some-false, some-none}
use Rattle.words.proofs.Sums.{lt-or-ge}
use Rattle.words.specs.Bits.{Word, bit, same_bit}
use Rattle.words.specs.Search.{some}
use Rattle.parties.specs.Masks.{crosses, in_party, reaches_out}

-- a search over pairs of vertices for an edge with a test
paired : (u : UsedRecord) (f : ℕ → ℕ → Bool)
    → some u.held.n (λ j. some u.held.n (λ k. bit (get_or u.held.neighbours j 0) k && f j k)) ≡ false
    → (j k : ℕ) → j < u.held.n → k < u.held.n → bit (get_or u.held.neighbours j 0) k ≡ true → f j k ≡ false
paired u f e j k hj hk t =
    ap (λ b. b && f j k) (sym t)
    ∙ some-false u.held.n (λ k. bit (get_or u.held.neighbours j 0) k && f j k)
    (some-false u.held.n (λ j. some u.held.n (λ k. bit (get_or u.held.neighbours j 0) k && f j k)) e j hj)
    k hk

unpaired : (u : UsedRecord) (f : ℕ → ℕ → Bool)
    → ((j k : ℕ) → j < u.held.n → k < u.held.n → bit (get_or u.held.neighbours j 0) k ≡ true → f j k ≡ false)
    → some u.held.n (λ j. some u.held.n (λ k. bit (get_or u.held.neighbours j 0) k && f j k)) ≡ false
unpaired u f h =
    some-none u.held.n _ (λ j hj. some-none u.held.n _ (λ k hk.
    at (bit (get_or u.held.neighbours j 0) k) (f j k) (h j k hj hk)))
  where
    at : (a b : Bool) → (a ≡ true → b ≡ false) → (a && b) ≡ false
    at true b h = h refl
    at false b h = refl

module _ (word : ℕ) (u : UsedRecord) where
  pub crosses-not : crosses word u ≡ false → (j k : ℕ) → j < u.held.n → k < u.held.n
      → (held_record u.held).graph j k ≡ true → bit word j ≡ bit word k
  unfolding crosses
  crosses-not e j k hj hk t = true-same_bit (bit word j) (bit word k) (not-false (same_bit (bit word j) (bit word k))
      (paired u (λ j k. not (same_bit (bit word j) (bit word k))) e j k hj hk t))

  pub none-crosses : ((j k : ℕ) → j < u.held.n → k < u.held.n → (held_record u.held).graph j k ≡ true
      → bit word j ≡ bit word k) → crosses word u ≡ false
  unfolding crosses
  none-crosses h = unpaired u (λ j k. not (same_bit (bit word j) (bit word k)))
      (λ j k hj hk t. ap not (same_bit-true (h j k hj hk t)))

module _ (s : Word) (u : UsedRecord) where
  pub reaches-out-not : reaches_out s u ≡ false → (j k : ℕ) → j < u.held.n → k < u.held.n
      → (held_record u.held).graph j k ≡ true → s k ≡ true
  unfolding reaches_out
  reaches-out-not e j k hj hk t = not-false (s k) (paired u (λ j k. not (s k)) e j k hj hk t)

  pub none-reaches-out : ((j k : ℕ) → j < u.held.n → k < u.held.n → (held_record u.held).graph j k ≡ true
      → s k ≡ true) → reaches_out s u ≡ false
  unfolding reaches_out
  none-reaches-out h = unpaired u (λ j k. not (s k)) (λ j k hj hk t. ap not (h j k hj hk t))

-- qubits of one party, and of the parties' word
pub same-party-bits : (word g j k : ℕ) → in_party word g j ≡ in_party word g k → bit word j ≡ bit word k
same-party-bits word g j k e = go (bit word j) (bit word k) (eqb g 1) e
  where
    go : (a b c : Bool) → same_bit a c ≡ same_bit b c → a ≡ b
    go false false c e = refl
    go true true c e = refl
    go false true false e = absurd (true≢false e)
    go false true true e = absurd (true≢false (sym e))
    go true false false e = absurd (true≢false (sym e))
    go true false true e = absurd (true≢false e)

-- ---- in a record that passes, every edge is between vertices below n
pub edge-below : (l : LentRecord) → AcceptedRecord l → (j k : ℕ) → (held_record l).graph j k ≡ true
    → (j < l.n) × (k < l.n)
edge-below l A j k t = (at k j (A.simple.symmetric k j ∙ t), at j k t)
  where
    at : (i q : ℕ) → (held_record l).graph i q ≡ true → q < l.n
    at i q t = elim (lt-or-ge q l.n) [
      | inl h ↦ h
      | inr h ↦ absurd (true≢false (sym t ∙ A.simple.below i q h))
    ]

-- the ends of an edge are both in a party or both outside
pub edge-inside : (word g : ℕ) (u : UsedRecord) → AcceptedRecord u.held → crosses word u ≡ false → (j k : ℕ)
    → (held_record u.held).graph j k ≡ true → in_party word g j ≡ in_party word g k
edge-inside word g u A e j k t =
    let b = edge-below u.held A j k t in
    ap (λ b. same_bit b (eqb g 1)) (crosses-not word u e j k b.0 b.1 t)

-- no edge reaches out of s: each end is in s
pub edge-within : (s : Word) (u : UsedRecord) → AcceptedRecord u.held → reaches_out s u ≡ false → (j k : ℕ)
    → (held_record u.held).graph j k ≡ true → s k ≡ true
edge-within s u A e j k t =
    let b = edge-below u.held A j k t in
    reaches-out-not s u e j k b.0 b.1 t
