-- The records of the definitions, read from their buffers: the masked record is put together of the vertices of s and
-- blank ones, the merged one of the vertices of s as one record has them and the others as the other has. And no edge
-- leaves the party.
use mathlib.Core.Bool.{Bool, cond, false, not, true, true≢false}
use mathlib.Core.Logic.{inl, inr}
use mathlib.Core.Path.{◌≡◌, ap, refl, sym, ◌∙◌}
use Prim.Native.Nat.{ℕ, ◌≤◌}
use lib.ListN.{get_or}
use Rattle.buffers.proofs.Tabulate.{tabulate-at}
use Rattle.buffers.specs.Buffers.{tabulate}
use Rattle.clifford.specs.Clifford.{clifford_of}
use Rattle.record.proofs.AcceptedRecords.{held-above}
use Rattle.record.specs.Accepted.{AcceptedRecord}
use Rattle.record.specs.Lent.{held_record}
use Rattle.stabilizer.proofs.ReadBack.{table-past}
use Rattle.operations.specs.Used.{UsedRecord}
use Rattle.words.proofs.BitLaws.{zero_bit}
use Rattle.words.proofs.Flags.{never_true}
use Rattle.words.proofs.Sums.{lt-or-ge}
use Rattle.words.specs.Bits.{Word, bit}
use Rattle.parties.proofs.Edges.{edge-inside, edge-within}
use Rattle.parties.proofs.MaskedRecords.{apart-record, masked-apart}
use Rattle.parties.proofs.SameGroupsRows.{not-both}
use Rattle.parties.specs.Masks.{in_party, masked, merged, reaches_out}
use Rattle.parties.specs.internal.Apart.{Apart}
use Rattle.parties.specs.internal.Sides.{MaskOf, PutTogether, Split, blank}

-- a value of one of two numbers
of-cond : {A : Type 0} (f : ℕ → A) (b : Bool) (x y : ℕ) → f (cond b x y) ≡ cond b (f x) (f y)
of-cond f true x y = refl
of-cond f false x y = refl

-- one of two equal values
either_way : {A : Type 0} (b : Bool) {x y z : A} → x ≡ z → y ≡ z → cond b x y ≡ z
either_way true e f = e
either_way false e f = f

module _ (s : Word) (u : UsedRecord) (A : AcceptedRecord u.held) where
  abbrev n : ℕ
  n = u.held.n

  -- words of two buffers, at and above n too
  together-words : (f g : ℕ → ℕ) (i j : ℕ) → (n ≤ i → bit (f i) j ≡ false) → (n ≤ i → bit (g i) j ≡ false)
      → bit (get_or (tabulate n (λ q. cond (s q) (f q) (g q))) i 0) j ≡ cond (s i) (bit (f i) j) (bit (g i) j)
  together-words f g i j e h = elim (lt-or-ge i n) [
    | inl l ↦ ap (λ w. bit w j) (tabulate-at n _ i l) ∙ of-cond (λ w. bit w j) (s i) (f i) (g i)
    | inr l ↦ ap (λ w. bit w j) (table-past n _ i l) ∙ zero_bit j ∙ sym (either_way (s i) (e l) (h l))
  ]

  above : (i j : ℕ) → n ≤ i → (held_record u.held).graph i j ≡ false
  above i j l = held-above u.held A.neighbours-length i j l

  pub masked-together : PutTogether n s (held_record u.held) blank (held_record (masked s u).held)
  masked-together =
      record {
        edges = λ i j. together-words (λ q. get_or u.held.neighbours q 0) (λ q. 0) i j (above i j) (λ l. zero_bit j)
            ∙ ap (cond (s i) ((held_record u.held).graph i j)) (zero_bit j);
        codes = λ q l. ap clifford_of (tabulate-at n _ q l) ∙ of-cond clifford_of (s q) (get_or u.held.codes q 0) 8;
      }

  pub merged-together : (a : UsedRecord) → ((i j : ℕ) → n ≤ i → (held_record a.held).graph i j ≡ false)
      → PutTogether n s (held_record a.held) (held_record u.held) (held_record (merged s a u).held)
  merged-together a past =
      record {
        edges = λ i j. together-words (λ q. get_or a.held.neighbours q 0) (λ q. get_or u.held.neighbours q 0) i j
            (past i j) (above i j);
        codes = λ q l. ap clifford_of (tabulate-at n _ q l)
            ∙ of-cond clifford_of (s q) (get_or a.held.codes q 0) (get_or u.held.codes q 0);
      }

-- ---- no edge between the sides
-- of a record in which the ends of each edge are of one party
pub apart-split : (word g : ℕ) (u : UsedRecord) → Apart word u
    → Split (in_party word g) (held_record u.held).graph
apart-split word g u H =
    record {
      none = λ b i j e f. never_true _ (λ t. not-both b
          (sym e ∙ edge-inside word g u (apart-record word u H) H.no-crossing i j t ∙ f));
    }

-- of one in which no edge reaches out of s
pub within-split : (s : Word) (a : UsedRecord) → AcceptedRecord a.held → reaches_out s a ≡ false
    → Split s (held_record a.held).graph
within-split s a A h = record { none = go }
  where
    outside : (i j : ℕ) → s j ≡ false → (held_record a.held).graph i j ≡ false
    outside i j f = never_true _ (λ t. true≢false (sym (edge-within s a A h i j t) ∙ f))

    go : (b : Bool) (i j : ℕ) → s i ≡ b → s j ≡ not b → (held_record a.held).graph i j ≡ false
    go true i j e f = outside i j f
    go false i j e f = A.simple.symmetric i j ∙ outside j i e

-- the party's vertices alone
pub mask-of : (word g : ℕ) (u : UsedRecord) → Apart word u
    → MaskOf u.held.n (in_party word g) (held_record u.held) (held_record (masked (in_party word g) u).held)
mask-of word g u H =
    let A = apart-record word u H in
    record {
      simple = A.simple;
      split = apart-split word g u H;
      own-simple = (apart-record word (masked (in_party word g) u) (masked-apart word g u H)).simple;
      put = masked-together (in_party word g) u A;
    }
