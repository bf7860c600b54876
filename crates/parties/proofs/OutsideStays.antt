-- After an accepted call on a party's vertices alone, each vertex outside the party is as it was: no neighbour, code 8,
-- not used. For with the outside marked as used the call is accepted too, and used vertices stay.
use mathlib.Core.Bool.{◌&&◌, Bool, cond, false, not, true, true≢false, ◌||◌}
use mathlib.Core.Logic.{inl, inr, ◌⊎◌}
use mathlib.Core.Path.{ap, ap₂, refl, subst, sym, ◌∙◌, ◌≡◌}
use Prim.Native.Nat.{◌<◌, ◌^◌, ℕ, ◌≤◌}
use lib.ListN.{get_or}
use borrow.Author.Tests.{lt-leb}
use Rattle.operations.specs.Steps.{Operation}
use Rattle.operations.proofs.AcceptedSteps.{measure-arguments}
use Rattle.operations.proofs.LeftRecords.{all-good, used-left}
use Rattle.operations.proofs.MeasuringMarks.{measured-marks}
use Rattle.operations.proofs.UsedPassing.{used-passes}
use Rattle.operations.proofs.UsedStaying.{stays_after, used-code, used-word}
use Rattle.operations.specs.Used.{UsedRecord, names_used, used_after, used_code, used_step, used_wrong}
use Rattle.operations.specs.internal.UsedLaws.{UsedPasses}
use Rattle.words.proofs.BitLaws.{bit-above, bit-word_of, word_of-lt}
use Rattle.words.proofs.Flags.{neither}
use Rattle.words.proofs.Places.{other_place}
use Rattle.words.proofs.Sums.{lt-or-ge}
use Rattle.words.specs.Bits.{Word, bit, word_of}
use Rattle.parties.specs.PartyLines.{names_other, outsider}
use Rattle.parties.specs.Masks.{in_party, masked}
use Rattle.parties.specs.internal.Apart.{Apart, PartyOp, complement-op, cz-op, gate-op, measure-op}
use Rattle.parties.proofs.PartyNumbers.{in-party}
use Rattle.parties.proofs.MaskedRecords.{apart-stray, masked-code, masked-used, masked-word}

-- no neighbour, code 8, not used
abbrev pub AloneIn : UsedRecord → ℕ → Type 0
AloneIn a q = (get_or a.held.neighbours q 0 ≡ 0) × (get_or a.held.codes q 0 ≡ 8) × (bit a.used q ≡ false)

module _ (word g : ℕ) (u : UsedRecord) (H : Apart word u) (o : Operation) (O : PartyOp o)
    (own : names_other (in_party word g) 64 o ≡ false) (e : (used_step (masked (in_party word g) u) o).number ≡ 0) where
  abbrev s : Word
  s = in_party word g

  abbrev v : UsedRecord
  v = masked (in_party word g) u

  abbrev n : ℕ
  n = u.held.n

  P : UsedPasses v o
  P = (used-passes v o).0 e

  -- the party's vertices with all others marked as used
  abbrev marked : UsedRecord
  marked = record { held = v.held; used = word_of n (λ q. not (s q) || bit v.used q) }

  outside-word : (q : ℕ) → q < n → s q ≡ false → get_or v.held.neighbours q 0 ≡ 0
  outside-word q l h = masked-word s u q l ∙ ap (λ b. cond b (get_or u.held.neighbours q 0) 0) h

  outside-code : (q : ℕ) → q < n → s q ≡ false → get_or v.held.codes q 0 ≡ 8
  outside-code q l h = masked-code s u q l ∙ ap (λ b. cond b (get_or u.held.codes q 0) 8) h

  -- ---- the call is accepted there
  marked-good : used_wrong marked ≡ false
  marked-good = all-good marked (λ t h. at t h (lt-or-ge t n))
    where
      side : (t : ℕ) → t < n → (b : Bool) → s t ≡ b → (not b || bit v.used t) ≡ true
          → (get_or v.held.neighbours t 0 ≡ 0) × (used_code (get_or v.held.codes t 0) ≡ true)
      side t l false h k = (outside-word t l h, ap used_code (outside-code t l h))
      side t l true h k = (used-word v P.none-wrong P.no_stray t k, used-code v P.none-wrong P.no_stray t k)

      at : (t : ℕ) → bit marked.used t ≡ true → (t < n) ⊎ (n ≤ t)
          → (get_or v.held.neighbours t 0 ≡ 0) × (used_code (get_or v.held.codes t 0) ≡ true)
      at t h (inr l) = absurd (true≢false (sym h ∙ bit-above n marked.used (word_of-lt n _) t l))
      at t h (inl l) = side t l (s t) refl (sym (bit-word_of n _ t l) ∙ h)

  -- a named qubit is not marked
  unmarked : (q : ℕ) → outsider s 64 q ≡ false → bit v.used q ≡ false → bit marked.used q ≡ false
  unmarked q h k = elim (lt-or-ge q n) [
    | inl l ↦ bit-word_of n _ q l ∙ ap₂ (λ a b. not a || b) (in-party word g u H q h l) k
    | inr l ↦ bit-above n marked.used (word_of-lt n _) q l
  ]

  none-marked : names_used marked o ≡ false
  none-marked = go o O own P.none_named
    where
      go : (o : Operation) → PartyOp o → names_other s 64 o ≡ false → names_used v o ≡ false → names_used marked o ≡ false
      go o (gate-op q k) h f = unmarked q h f
      go o (cz-op a b) h f =
          let hs = neither (outsider s 64 a) (outsider s 64 b) h in
          let fs = neither (bit v.used a) (bit v.used b) f in
          ap₂ ◌||◌ (unmarked a hs.0 fs.0) (unmarked b hs.1 fs.1)
      go o (measure-op pauli q b) h f = unmarked q h f
      go o (complement-op a) h f = unmarked a h f

  accepted-marked : UsedPasses marked o
  accepted-marked =
      record {
        as_before = P.as_before;
        no_stray = lt-leb (2 ^ n) marked.used (word_of-lt n _);
        none-wrong = marked-good;
        none_named = none-marked;
      }

  -- ---- the outside stays
  not-used : (q : ℕ) → q < n → s q ≡ false → bit (used_after v o) q ≡ false
  not-used q l h = go o O own P
    where
      before : bit v.used q ≡ false
      before = masked-used s u (apart-stray word u H) q ∙ ap (λ b. b && bit u.used q) h

      go : (o : Operation) → PartyOp o → names_other s 64 o ≡ false → UsedPasses v o → bit (used_after v o) q ≡ false
      go o (gate-op a c) k P = before
      go o (cz-op a b) k P = before
      go o (complement-op a) k P = before
      go o (measure-op pauli a b) k P =
          measured-marks v pauli a b P q ∙ ap₂ ◌||◌ before (other_place (λ e. true≢false
          (sym (in-party word g u H a k (measure-arguments v.held pauli a b P.as_before).below)
          ∙ ap s (sym e) ∙ h)))

  pub after-outside : (q : ℕ) → q < 64 → in_party word g q ≡ false
      → AloneIn (used_step (masked (in_party word g) u) o).after q
  after-outside q below h =
      let l = subst (λ m. q < m) (sym H.count) below in
      let L = used-left v o e in
      let S = stays_after marked o accepted-marked in
      let m = bit-word_of n (λ q. not (s q) || bit v.used q) q l ∙ ap (λ b. not b || bit v.used q) h in (
        ap (λ r. get_or r.neighbours q 0) L.held ∙ S.word q m,
        ap (λ r. get_or r.codes q 0) L.held ∙ S.code q m ∙ outside-code q l h,
        ap (λ w. bit w q) L.used ∙ not-used q l h,
      )
