-- The states held in a party's four places: each has 64 qubits, and which have a neighbour outside a word.
use mathlib.Core.Bool.{◌&&◌, Bool, false, not, true}
use mathlib.Core.List.{List, []}
use mathlib.Core.Path.{◌∙◌, ◌≡◌, ap, ap₂, refl, sym}
use Prim.Native.Nat.{◌*◌, ◌+◌, ◌-◌, ◌<◌, ℕ}
use lib.Dec.{eqb}
use lib.ListN.{drop, take}
use borrow.Author.Tests.{eqb-true, not-false}
use Rattle.parties.specs.PartyStores.{held_out, other_count}
use Rattle.parties.specs.Masks.{reaches_out}
use Rattle.parties_impl.proofs.OwnWords.{reaches-own, reaches-reads}
use Rattle.store.specs.Places.{Store, count_at, is_held, part_at, place_at}
use Rattle.store_impl.proofs.Parts.{from_place}
use Rattle.words.proofs.SearchLaws.{some-ext, some-false}
use Rattle.words.specs.Bits.{Word, bit, word_of}
use Rattle.operations.specs.Used.{used_record}

module _ (own : Store) (few : other_count own ≡ false) where
  -- a held state has 64 qubits
  pub held-count : (i : ℕ) → i < 4 → is_held own.heads i ≡ true → count_at own.heads i ≡ 64
  held-count i l h = eqb-true (count_at own.heads i) 64 (not-false (eqb (count_at own.heads i) 64)
      (sym (ap (λ b. b && not (eqb (count_at own.heads i) 64)) h)
      ∙ some-false 4 (λ j. is_held own.heads j && not (eqb (count_at own.heads j) 64)) few i l))

  -- two tests of a held state that agree on 64 qubits
  by-held : (i : ℕ) → i < 4 → (a b : Bool) → (count_at own.heads i ≡ 64 → a ≡ b)
      → (is_held own.heads i && a) ≡ (is_held own.heads i && b)
  by-held i l a b e = go (is_held own.heads i) refl
    where
      go : (h : Bool) → is_held own.heads i ≡ h → (h && a) ≡ (h && b)
      go true h = e (held-count i l h)
      go false h = refl

  -- the words of a party's qubits stand for them
  pub out-own : (w : ℕ) (s : Word) → w ≡ word_of 64 s → held_out (bit w) own ≡ held_out s own
  out-own w s e = some-ext 4 _ _ (λ i l. by-held i l _ _ (λ c. reaches-own w s e (place_at own i) c))

-- the test at place i: its n, and its 64 neighbour words
pub out-here : (s : Word) (heads nb : List ℕ)
    → other_count (record { heads = heads; neighbours = nb; codes = [] }) ≡ false
    → (i n : ℕ) → i < 4 → n ≡ count_at heads i → (b : Bool) → b ≡ reaches_out s
    (used_record 64 (take (64 * i + 64 - 64 * i) (drop (64 * i) nb)) [] 0) → (not (eqb n 0) && b)
    ≡ (is_held heads i && reaches_out s (place_at (record { heads = heads; neighbours = nb; codes = [] }) i))
out-here s heads nb few i n l en b eb =
    ap₂ (λ m c. not (eqb m 0) && c) en eb
    ∙ by-held (record { heads = heads; neighbours = nb; codes = [] }) few i l _ _
    (λ c. reaches-reads _ _ (sym c)
    (from_place (64 * i) 64 nb ∙ ap (λ m. part_at i m nb) (sym c)) s)
