-- The tests of a party's calls decide the sentences of their lines.
use mathlib.Core.Bool.{Bool, false, not, true, true≢false, ◌||◌}
use mathlib.Core.Logic.{◌≢◌}
use mathlib.Core.Path.{refl, sym, ◌≡◌}
use Prim.Native.Nat.{◌<◌, ◌≤◌, suc, zero, ℕ}
use native.Mathlib.Omega.{arith}
use lib.Dec.{eqb, ltb}
use lib.ListN.{get_or}
use borrow.Author.Tests.{ltb-false}
use Rattle.buffers.proofs.SentenceLaws.{
  Decides,
  Matches,
  above,
  and-decides,
  and-line,
  bad-count,
  equal,
  itself,
  not-decides,
  or-decides,
  or-none,
  some-decides,
}
use Rattle.buffers.specs.Refusals.{inserted_before, line}
use Rattle.operations.specs.Steps.{in_place_lines}
use Rattle.record.proofs.RecordInWords.{misfits}
use Rattle.record.specs.Lent.{record_codes}
use Rattle.store.proofs.StoreInWords.{held, not-held, of-2, of-4, of-5, of-6, of-7, others-held, store-misfits, twice}
use Rattle.store.specs.Places.{Store, count_at, is_held, place_at}
use Rattle.store.specs.StoreLines.{holds_line, of_record}
use Rattle.operations.proofs.UsedInWords.{no_record, stray-bit}
use Rattle.operations.specs.Used.{UsedRecord, with_used}
use Rattle.words.proofs.Flags.{neither, same_bit-true, true-same_bit}
use Rattle.words.specs.Bits.{bit, digit, same_bit}
use Rattle.parties.specs.PartyLines.{outsider, with_party}
use Rattle.parties.specs.PartyStores.{
  party_named_lines,
  party_save_lines,
  held_out,
  other_count,
  own_lines,
  own_places,
  shared_lines,
}
use Rattle.parties.specs.PartySentences.{
  EdgeBetween,
  Elsewhere,
  OtherParties,
  NeighbourOutside,
  party_named_sentences,
  party_save_sentences,
  party_sentences,
  shared_sentences,
}
use Rattle.parties.specs.Masks.{crosses, in_party, reaches_out}

-- ---- the party of a qubit
pub elsewhere : (word g q : ℕ) → ltb 1 g ≡ false → Decides (not (in_party word g q)) (Elsewhere word g q)
elsewhere word g q low = go (bit word q) g (ltb-false 1 g low)
  where
    go : (b : Bool) (g : ℕ) → g ≤ 1 → Decides (not (same_bit b (eqb g 1))) (digit b ≢ g)
    go false zero h = ((λ e z. absurd (true≢false (sym e))), (λ k. absurd (k refl)))
    go true zero h = ((λ e z. omega (arith, z)), (λ k. refl))
    go false (suc zero) h = ((λ e z. omega (arith, z)), (λ k. refl))
    go true (suc zero) h = ((λ e z. absurd (true≢false (sym e))), (λ k. absurd (k refl)))
    go b (suc (suc g)) h = absurd (omega (arith, h))

pub other-parties : (word g : ℕ) (u : UsedRecord) (q : ℕ) → ltb 1 g ≡ false
    → Decides (outsider (in_party word g) u.held.n q) (OtherParties word g u q)
other-parties word g u q low = and-decides (above q u.held.n) (elsewhere word g q low)

pub edge-between : (word : ℕ) (u : UsedRecord) → Decides (crosses word u) (EdgeBetween word u)
unfolding crosses
edge-between word u = some-decides u.held.n _ _ (λ j. some-decides u.held.n _ _ (λ k.
    and-decides (itself {a = bit (get_or u.held.neighbours j 0) k})
    (not-decides (true-same_bit (bit word j) (bit word k), same_bit-true))))

reaches-out : (word g : ℕ) (u : UsedRecord) → ltb 1 g ≡ false
    → Decides (reaches_out (in_party word g) u) (NeighbourOutside word g u)
unfolding reaches_out
reaches-out word g u low = some-decides u.held.n _ _ (λ j. some-decides u.held.n _ _ (λ k.
    and-decides (itself {a = bit (get_or u.held.neighbours j 0) k}) (elsewhere word g k low)))

-- ---- a party's gate, cz, measurement and complementation, whose own lines are in PartyCallsInWords
module _ (word g : ℕ) (u : UsedRecord) where
  pub party-in-words : (six eight named other : Bool) (Six Nineteen Eight Sixteen : Type 0)
      → Decides (record_codes u.held || six) Six → (ltb 1 g ≡ false → Decides other Nineteen) → Decides eight Eight
      → Decides named Sixteen
      → Matches (inserted_before 8 (line 19 (crosses word u || other))
      (with_party g u.held.n (with_used u named (in_place_lines u.held six eight))))
      (party_sentences word g u Six Nineteen Eight Sixteen)
  party-in-words six eight named other Six Nineteen Eight Sixteen D O E F = (
    refl,
    (
      or-decides (or-none (or-none (or-none (bad-count u.held.n)))) (not-decides (equal u.held.n 64)),
      λ e. (
        refl,
        (
          or-none (or-none (or-none (or-none (or-none (misfits u.held))))),
          λ e. (
            refl,
            (
              or-none (or-none (or-none (stray-bit u))),
              λ e. (
                refl,
                (
                  or-none (or-decides (or-none (or-none D)) (above 1 g)),
                  λ e6. (
                    refl,
                    (
                      or-none (or-none (no_record u)),
                      λ e. (
                        refl,
                        (
                          or-decides (edge-between word u) (O
                              (low (((record_codes u.held || six) || false) || false) e6)),
                          λ e. (
                            refl,
                            (or-none (or-none (or-none (or-none E))), λ e. (refl, (or-none (or-none F), λ e. tt))),
                          ),
                        ),
                      ),
                    ),
                  ),
                ),
              ),
            ),
          ),
        ),
      ),
    ),
  )
    where
      -- no line 6: the party is 0 or 1
      low : (a : Bool) → ((a || ltb 1 g) || false) ≡ false → ltb 1 g ≡ false
      low a e = (neither a (ltb 1 g) (neither (a || ltb 1 g) false e).0).1

-- ---- a party's save, return and forget
module _ (word g : ℕ) (u : UsedRecord) (st : Store) where
  abbrev own : Store
  own = own_places g st

  other-count : Decides (other_count own) ((i : ℕ) × (i < 4) ×
      ((is_held own.heads i ≡ true) × (count_at own.heads i ≢ 64)))
  other-count = some-decides 4 _ _ (λ i. and-decides (itself {a = is_held own.heads i})
      (not-decides (equal (count_at own.heads i) 64)))

  held_out_lem : ltb 1 g ≡ false → Decides (held_out (in_party word g) own)
      ((i : ℕ) × (i < 4) × ((is_held own.heads i ≡ true) × NeighbourOutside word g (place_at own i)))
  held_out_lem low = some-decides 4 _ _ (λ i. and-decides (itself {a = is_held own.heads i})
      (reaches-out word g (place_at own i) low))

  shared-in-words : Matches (shared_lines word g u st) (shared_sentences word g u st)
  shared-in-words = (
    refl,
    (
      or-decides (or-none (or-decides (of-2 u)
          (or-none (or-none (or-none (or-decides (held 4 own 2 _ of-2) other-count))))))
          (not-decides (equal u.held.n 64)),
      λ e. (
        refl,
        (
          or-none (or-none (or-decides (of-4 u)
              (or-none (or-none (or-decides (or-none (held 4 own 4 _ of-4)) (store-misfits 8 st)))))),
          λ e. (
            refl,
            (
              or-none (or-none (or-decides (of-5 u) (or-none (or-none (or-none (or-none (held 4 own 5 _ of-5))))))),
              λ e. (
                refl,
                (
                  or-none (or-decides (or-decides (of-6 u)
                      (or-none (or-none (or-none (or-none (held 4 own 6 _ of-6)))))) (above 1 g)),
                  λ e6. (
                    refl,
                    (
                      or-none (or-none (or-decides (of-7 u) (or-none
                          (or-decides (or-none (or-none (held 4 own 7 _ of-7)))
                          (or-decides (twice 4 own.heads)
                          (held_out_lem (low (of_record u 6 || holds_line 6 (own_lines (in_party word g) g st)) e6))))))),
                      λ e. (refl, (edge-between word u, λ e. tt)),
                    ),
                  ),
                ),
              ),
            ),
          ),
        ),
      ),
    ),
  )
    where
      low : (a : Bool) → ((a || ltb 1 g) || false) ≡ false → ltb 1 g ≡ false
      low a e = (neither a (ltb 1 g) (neither (a || ltb 1 g) false e).0).1

  pub save-in-words : (name : ℕ) → Matches (party_save_lines word g u name st) (party_save_sentences word g u name st)
  save-in-words name = and-line (shared_lines word g u st) (shared_sentences word g u st) 18 shared-in-words
      (λ e. others-held 4 own.heads name)

  pub named-in-words : (name : ℕ) → Matches (party_named_lines word g u name st) (party_named_sentences word g u name st)
  named-in-words name = and-line (shared_lines word g u st) (shared_sentences word g u st) 17 shared-in-words
      (λ e. not-held 4 own.heads name)
