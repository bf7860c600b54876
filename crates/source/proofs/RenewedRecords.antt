-- The record after a renewal: its buffers hold the old record with another code at one vertex, no line refuses it, and
-- it is of reduced form where the old one was.
use mathlib.Core.Bool.{◌&&◌, and-true, false, not, or-false, true, true≢false}
use mathlib.Core.Logic.{◌≢◌, inl, inr}
use mathlib.Core.Path.{ap, ap₂, refl, subst, sym, ◌∙◌, ◌≡◌}
use Prim.Native.Nat.{◌<◌, ◌^◌, ℕ}
use native.Mathlib.Decide.{ℕ_discrete}
use native.Mathlib.Omega.{arith}
use lib.Bits.{bit_xor}
use lib.Dec.{eqb, lit<, ltb}
use lib.ListN.{get_or, length, length-set, set}
use lib.Seq.{get_or-set_other, get_or-set_same}
use borrow.Author.Tests.{eqb-false, leb-false, lt-leb, ltb-true, not-false, not-true}
use Rattle.buffers.specs.Refusals.{first_fitting}
use Rattle.clifford.specs.Clifford.{bit_c, clifford_of, code_of}
use Rattle.clifford.specs.Vectors.{codes_of}
use Rattle.buffers.proofs.Lines.{none-of-all, not-held}
use Rattle.buffers.proofs.Fitting.{none-holds}
use Rattle.operations.specs.internal.ReducedForms.{ReducedForm}
use Rattle.record.proofs.AcceptedRecords.{accepted-passes, accepted-record}
use Rattle.record.proofs.ReducedRecords.{record-proper}
use Rattle.record.proofs.Unique.{record-path}
use Rattle.record.specs.Accepted.{AcceptedRecord}
use Rattle.record.specs.Lent.{held_record, record_codes, record_lines}
use Rattle.record.specs.Records.{GraphRecord}
use Rattle.operations.proofs.LeftRecords.{all-good}
use Rattle.operations.proofs.UsedPassing.{lines-pass}
use Rattle.operations.proofs.UsedStaying.{used-code, used_low, used-word}
use Rattle.operations.specs.Used.{UsedRecord, used_code, used_lines, used_stray, used_wrong}
use Rattle.words.proofs.BitLaws.{bit-above, bit-ext∞, bit-flip, bit-word_of, word_of-lt, zero_bit}
use Rattle.words.proofs.Finite.{⊕-zero}
use Rattle.words.proofs.Flags.{both_true, neither}
use Rattle.words.proofs.Places.{other_place, put_other, put_same, same_place}
use Rattle.words.proofs.Sums.{lt-or-ge}
use Rattle.words.specs.Bits.{bit, is_odd, put, ◌⊕◌}
use Rattle.source.specs.Renewal.{renew_lines, renewed, unmarked}
use Rattle.source.specs.internal.Renewal.{recoded_at}

-- no line of a renewal holds: the record, its used word, the code, the qubit
pub record RenewFits (u : UsedRecord) (q k : ℕ) : Type 0 where
  pub held : AcceptedRecord u.held
  pub no_stray : used_stray u ≡ false
  pub none-wrong : used_wrong u ≡ false
  pub code : used_code k ≡ true
  pub below : q < u.held.n
  pub marked : bit u.used q ≡ true

module _ (u : UsedRecord) (q k : ℕ) where
  pub renew-passes : first_fitting (renew_lines u q k) ≡ 0 → RenewFits u q k
  renew-passes e =
      let p = none-of-all (used_lines u false false (not (used_code k))) _
      (lit< tt, (lit< tt, (lit< tt, (lit< tt, (lit< tt, tt))))) e in
      let t = (lines-pass u false false (not (used_code k))).0 p.0 in
      let six = (none-holds (record_lines u.held false (not (used_code k))) refl t.0).1.1.1.0 in
      let eight = not-held 7 _ _ p.1 in
      record {
        held = accepted-record u.held false (not (used_code k)) t.0;
        no_stray = (neither (used_stray u) false t.1).0;
        none-wrong = t.2;
        code = not-false (used_code k) (neither (record_codes u.held) (not (used_code k)) six).1;
        below = leb-false u.held.n q eight.0;
        marked = not-false (bit u.used q) (not-held 19 _ _ eight.1).0;
      }

-- ---- the record left
module _ (u : UsedRecord) (q k : ℕ) (F : RenewFits u q k) where
  abbrev n : ℕ
  n = u.held.n

  abbrev old : GraphRecord
  old = held_record u.held

  abbrev after : UsedRecord
  after = renewed u q k

  at_place : q < length u.held.codes
  at_place = subst (λ m. q < m) (sym F.held.codes-length) F.below

  pub alone : (j : ℕ) → (held_record u.held).graph q j ≡ false
  alone j = ap (λ w. bit w j) (used-word u F.none-wrong F.no_stray q F.marked) ∙ zero_bit j

  -- each place of the codes
  code-own : get_or (set u.held.codes q k) q 0 ≡ k
  code-own = get_or-set_same u.held.codes q k 0 at_place

  code_other : (t : ℕ) → t ≢ q → get_or (set u.held.codes q k) t 0 ≡ get_or u.held.codes t 0
  code_other t d = get_or-set_other u.held.codes q t k 0 d

  pub holds-recoded : held_record (renewed u q k).held ≡ recoded_at (held_record u.held) q (clifford_of k)
  holds-recoded = record-path _ _ (record { neighbours = λ i j. refl; code = λ t. at t (ℕ_discrete t q) })
    where
      at : (t : ℕ) → Dec (t ≡ q) → codes_of (set u.held.codes q k) t ≡ put old.codes q (clifford_of k) t
      at t (no d) = ap clifford_of (code_other t d) ∙ sym (put_other old.codes q (clifford_of k) t d)
      at t (yes d) = ap (codes_of (set u.held.codes q k)) d ∙ ap clifford_of code-own
          ∙ sym (ap (put old.codes q (clifford_of k)) d ∙ put_same old.codes q (clifford_of k))

  -- a fact of every code
  all_codes : (P : ℕ → ℕ → Type 0) → P q k → ((t : ℕ) → P t (get_or u.held.codes t 0))
      → (t : ℕ) → P t (get_or (set u.held.codes q k) t 0)
  all_codes P own other t = at (ℕ_discrete t q)
    where
      at : Dec (t ≡ q) → P t (get_or (set u.held.codes q k) t 0)
      at (no d) = subst (P t) (sym (code_other t d)) (other t)
      at (yes d) = subst (λ v. P v (get_or (set u.held.codes q k) v 0)) (sym d) (subst (P q) (sym code-own) own)

  low : k < 12
  low = ltb-true k 12 (both_true (ltb k 12) (not (is_odd k)) F.code).0

  pub renewed-accepted : AcceptedRecord (renewed u q k).held
  renewed-accepted =
      record {
        positive = F.held.positive;
        upto = F.held.upto;
        neighbours-length = F.held.neighbours-length;
        codes-length = length-set u.held.codes q k ∙ F.held.codes-length;
        words-below = F.held.words-below;
        codes-below = all_codes (λ t c. c < 24) (omega (arith, low)) F.held.codes-below;
        simple = F.held.simple;
        proper = record-proper n (held_record after.held) F.held.simple;
      }

  -- the used word afterwards
  pub unmarked-bits : (t : ℕ) → bit (unmarked u q) t ≡ (bit u.used t && not (eqb t q))
  unmarked-bits t = elim (lt-or-ge t n) [
    | inl h ↦ bit-word_of n _ t h
    | inr h ↦ bit-above n (unmarked u q) (word_of-lt n _) t h
        ∙ sym (ap (λ b. b && not (eqb t q)) (bit-above n u.used (leb-false (2 ^ n) u.used F.no_stray) t h))
  ]

  -- as the code writes it
  pub unmarked-word : unmarked u q ≡ bit_xor u.used (2 ^ q)
  unmarked-word = bit-ext∞ (unmarked u q) (bit_xor u.used (2 ^ q)) (λ t. unmarked-bits t ∙ at t (ℕ_discrete t q)
      ∙ sym (bit-flip u.used q t))
    where
      at : (t : ℕ) → Dec (t ≡ q) → (bit u.used t && not (eqb t q)) ≡ bit u.used t ⊕ eqb t q
      at t (no d) = ap (λ e. bit u.used t && not e) (other_place d) ∙ and-true (bit u.used t)
          ∙ sym (ap (λ e. bit u.used t ⊕ e) (other_place d) ∙ ⊕-zero (bit u.used t))
      at t (yes d) =
          let on : bit u.used t ≡ true = ap (bit u.used) d ∙ F.marked in
          let here : eqb t q ≡ true = ap (λ v. eqb v q) d ∙ same_place q in
          ap₂ (λ b e. b && not e) on here ∙ sym (ap₂ (λ b e. b ⊕ e) on here)

  -- each vertex that is still used is as it was
  still : (t : ℕ) → bit (unmarked u q) t ≡ true → (get_or u.held.neighbours t 0 ≡ 0)
      × (used_code (get_or (set u.held.codes q k) t 0) ≡ true)
  still t e =
      let was = both_true (bit u.used t) (not (eqb t q)) (sym (unmarked-bits t) ∙ e) in (
        used-word u F.none-wrong F.no_stray t was.0,
        ap used_code (code_other t (eqb-false t q (not-true (eqb t q) was.1)))
            ∙ used-code u F.none-wrong F.no_stray t was.0,
      )

  pub renewed-passes : first_fitting (used_lines (renewed u q k) false false false) ≡ 0
  renewed-passes = (lines-pass after false false false).1 (
    accepted-passes after.held renewed-accepted,
    or-false (used_stray after) ∙ lt-leb (2 ^ n) (unmarked u q) (word_of-lt n _),
    all-good after still,
  )

  -- ---- the reduced form stays: the new code is low and even, and the vertex has no neighbour
  pub renewed-form : ReducedForm u.held.n (held_record u.held)
      → ReducedForm u.held.n (held_record (renewed u q k).held)
  renewed-form R =
      let six = used_low k F.code in
      record {
        low = λ t h. all_codes (λ t c. t < n → code_of (clifford_of c) < 12)
            (λ _. subst (λ c. c < 12) (sym six.1) low) R.low t h;
        even = λ t h. all_codes (λ t c. t < n → (clifford_of c).sz ≡ false)
            (λ _. not-true (is_odd k) (both_true (ltb k 12) (not (is_odd k)) F.code).1) R.even t h;
        smaller = λ t j h c e. all_codes (λ t c. bit_c (clifford_of c) ≡ true → t < n → old.graph t j ≡ true → j < t)
            (λ _ _ e. absurd (true≢false (sym e ∙ alone j))) (λ t c h e. R.smaller t j h c e) t c h e;
        above = λ t h. ap clifford_of (code_other t (λ d. absurd (omega (arith, d, h, F.below)))) ∙ R.above t h;
      }
