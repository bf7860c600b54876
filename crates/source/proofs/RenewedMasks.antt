-- A renewal on a shared record: its number, and what it leaves of each group's vertices.
use mathlib.Core.Bool.{◌&&◌, Bool, and-true, cond, false, not, true, ◌||◌}
use mathlib.Core.List.{List, [], ◌∷◌}
use mathlib.Core.Path.{ap, refl, subst, sym, ◌∙◌, ◌≡◌}
use Prim.Native.Nat.{◌<◌, ℕ}
use native.Mathlib.Decide.{ℕ_discrete}
use lib.Dec.{eqb, leb, ltb}
use lib.ListN.{get_or, length, length-set, set}
use lib.Seq.{ext_get_or, get_or-set_other, get_or-set_same}
use borrow.Author.Tests.{eq-eqb, eqb-true, not-false}
use Rattle.buffers.proofs.Tabulate.{tabulate-at, tabulate-cong, tabulate-length}
use Rattle.buffers.specs.Refusals.{bad_count, first_fitting, line}
use Rattle.buffers.proofs.Fitting.{none-holds}
use Rattle.parties.proofs.PartyNumbers.{used-alike}
use Rattle.parties.proofs.MaskedRecords.{masked-apart}
use Rattle.parties.specs.PartyLines.{outsider}
use Rattle.parties.specs.Masks.{crosses, in_party, masked}
use Rattle.parties.specs.internal.Apart.{Apart}
use Rattle.record.specs.Lent.{record_codes, record_lengths, record_lines}
use Rattle.source.proofs.RenewedRecords.{renew-passes, renewed-passes}
use Rattle.source.specs.Renewal.{renew_lines, renewed, unmarked}
use Rattle.operations.proofs.UsedPassing.{lines-pass}
use Rattle.operations.specs.Used.{used_code, UsedRecord, used_record, used_stray}
use Rattle.words.proofs.BitLaws.{bit-word_of, word-cong}
use Rattle.words.proofs.Finite.{bits}
use Rattle.words.proofs.Flags.{neither}
use Rattle.words.proofs.Places.{other_place}
use Rattle.words.specs.Bits.{Word, bit}
use Rattle.source.specs.PartySources.{party_renew_lines}
use Rattle.source.proofs.ObservedParties.{lines-number}

module _ (word g : ℕ) (u : UsedRecord) (q k : ℕ) where
  -- ---- accepted
  pub record RenewedPasses : Type 0 where
    pub count : u.held.n ≡ 64
    pub group : ltb 1 g ≡ false
    pub no-crossing : crosses word u ≡ false
    pub own : outsider (in_party word g) 64 q ≡ false
    pub lines : first_fitting (renew_lines u q k) ≡ 0

  pub renewed-passes-party : first_fitting (party_renew_lines word g u q k) ≡ 0 → RenewedPasses
  renewed-passes-party z =
      let h = none-holds (party_renew_lines word g u q k) refl z in
      let n64 = eqb-true u.held.n 64 (not-false (eqb u.held.n 64)
      (neither (((bad_count u.held.n || false) || false) || false) (not (eqb u.held.n 64)) h.0).1) in
      let six : Bool = ((record_codes u.held || not (used_code k)) || false) || false in
      let low = (neither six (ltb 1 g) (neither (six || ltb 1 g) false h.1.1.1.0).0).1 in
      let h19 = neither (crosses word u) _ h.1.1.1.1.1.0 in
      let own = sym (ap (λ m. outsider (in_party word g) m q) n64) ∙ h19.1 in
      record {
        count = n64;
        group = low;
        no-crossing = h19.0;
        own = own;
        lines = sym (lines-number word g u q (renew_lines u q k) n64 low h19.0 own) ∙ z;
      }

-- ---- the number, on a record that passes: by the arguments and the used bit alone
abbrev by_arguments : Bool → Bool → Bool → Bool → ℕ
by_arguments six nineteen eight twenty =
    first_fitting (line 6 ((((six || false) || false) || false) || false) ∷ line 19 nineteen
    ∷ line 8 ((eight || false) || false) ∷ line 20 ((twenty || false) || false) ∷ [])

passed-number : (word g : ℕ) (u : UsedRecord) (q k : ℕ) → Apart word u → ltb 1 g ≡ false
    → first_fitting (party_renew_lines word g u q k) ≡ by_arguments (not (used_code k))
    (outsider (in_party word g) u.held.n q) (leb u.held.n q) (not (bit u.used q))
unfolding first_fitting
passed-number word g u q k H low =
    let P = (lines-pass u false false false).0 H.passes in
    let h = none-holds (record_lines u.held false false) refl P.0 in
    let lengths = (neither (record_lengths u.held) false h.1.0).0 in
    let codes = (neither (record_codes u.held) false h.1.1.1.0).0 in
    let stray = (neither (used_stray u) false P.1).0 in
    λ i. first_fitting (
    line 2 ((((h.0 i || false) || false) || false) || not (eq-eqb u.held.n 64 H.count i))
    ∷ line 4 (((((lengths i || false) || false) || false) || false) || false)
    ∷ line 5 ((((h.1.1.0 i || (stray i || false)) || false) || false) || false)
    ∷ line 6 (((((codes i || not (used_code k)) || false) || false) || low i) || false)
    ∷ line 7 ((((h.1.1.1.1.0 i || false) || P.2 i) || false) || false)
    ∷ line 19 (H.no-crossing i || outsider (in_party word g) u.held.n q)
    ∷ line 8 ((leb u.held.n q || false) || false)
    ∷ line 20 ((not (bit u.used q) || false) || false) ∷ [])

-- where 19 does not hold the used bit decides; where it does, it does not matter
same-twenty : (six nineteen eight : Bool) {a b : Bool} → (nineteen ≡ false → a ≡ b)
    → by_arguments six nineteen eight a ≡ by_arguments six nineteen eight b
unfolding first_fitting
same-twenty true nineteen eight h = refl
same-twenty false true eight h = refl
same-twenty false false eight h = ap (by_arguments false false eight) (h refl)

-- a group's renewal has the same number on the group's vertices alone
pub renew-alone : (word g : ℕ) (u : UsedRecord) (q k : ℕ) → Apart word u → ltb 1 g ≡ false
    → first_fitting (party_renew_lines word g u q k)
    ≡ first_fitting (party_renew_lines word g (masked (in_party word g) u) q k)
renew-alone word g u q k H low =
    passed-number word g u q k H low
    ∙ same-twenty (not (used_code k)) (outsider (in_party word g) u.held.n q) (leb u.held.n q)
    (λ e. ap not (used-alike word g u H q (sym (ap (λ m. outsider (in_party word g) m q) H.count) ∙ e)))
    ∙ sym (passed-number word g (masked (in_party word g) u) q k (masked-apart word g u H) low)

-- ---- what is left
assoc : (a b c : Bool) → (a && (b && c)) ≡ ((a && b) && c)
assoc = bits 3 (λ a b c. a && (b && c)) (λ a b c. (a && b) && c) tt

module _ (s : Word) (u : UsedRecord) (q k : ℕ) (long : length u.held.codes ≡ u.held.n) (below : q < u.held.n)
  where
    abbrev n : ℕ
    n = u.held.n

    -- of the vertices of a group that has the qubit: the renewal of them alone
    pub renewed-own : s q ≡ true → masked s (renewed u q k) ≡ renewed (masked s u) q k
    renewed-own own = λ i. used_record n (masked s u).held.neighbours (codes i) (used i)
      where
        kept : List ℕ
        kept = (masked s u).held.codes

        at : (t : ℕ) → t < n → Dec (t ≡ q) → cond (s t) (get_or (set u.held.codes q k) t 0) 8 ≡ get_or (set kept q k) t 0
        at t l (no d) = ap (λ c. cond (s t) c 8) (get_or-set_other u.held.codes q t k 0 d) ∙ sym (tabulate-at n _ t l)
            ∙ sym (get_or-set_other kept q t k 0 d)
        at t l (yes d) =
            ap (λ b. cond b (get_or (set u.held.codes q k) t 0) 8) (ap s d ∙ own)
            ∙ ap (λ v. get_or (set u.held.codes q k) v 0) d
            ∙ get_or-set_same u.held.codes q k 0 (subst (λ m. q < m) (sym long) below)
            ∙ sym (ap (λ v. get_or (set kept q k) v 0) d
            ∙ get_or-set_same kept q k 0 (subst (λ m. q < m) (sym (tabulate-length n _)) below))

        codes : (masked s (renewed u q k)).held.codes ≡ set kept q k
        codes = ext_get_or 0 _ _ (tabulate-length n _ ∙ sym (length-set kept q k ∙ tabulate-length n _))
            (λ t l. let h = subst (λ m. t < m) (tabulate-length n _) l in tabulate-at n _ t h ∙ at t h (ℕ_discrete t q))

        used : (masked s (renewed u q k)).used ≡ unmarked (masked s u) q
        used = word-cong n _ _ (λ t l. ap (λ b. s t && b) (bit-word_of n _ t l)
            ∙ assoc (s t) (bit u.used t) (not (eqb t q))
            ∙ sym (ap (λ b. b && not (eqb t q)) (bit-word_of n _ t l)))

    -- of the other group's vertices: nothing changes
    pub renewed-other : s q ≡ false → masked s (renewed u q k) ≡ masked s u
    renewed-other other = λ i. used_record n (masked s u).held.neighbours (codes i) (used i)
      where
        at : (t : ℕ) → Dec (t ≡ q) → cond (s t) (get_or (set u.held.codes q k) t 0) 8 ≡ cond (s t)
            (get_or u.held.codes t 0) 8
        at t (no d) = ap (λ c. cond (s t) c 8) (get_or-set_other u.held.codes q t k 0 d)
        at t (yes d) = let off : s t ≡ false = ap s d ∙ other in
            ap (λ b. cond b (get_or (set u.held.codes q k) t 0) 8) off ∙ sym
            (ap (λ b. cond b (get_or u.held.codes t 0) 8) off)

        codes : (masked s (renewed u q k)).held.codes ≡ (masked s u).held.codes
        codes = tabulate-cong n _ _ (λ t l. at t (ℕ_discrete t q))

        at-bit : (t : ℕ) → Dec (t ≡ q) → (s t && (bit u.used t && not (eqb t q))) ≡ (s t && bit u.used t)
        at-bit t (no d) = ap (λ e. s t && (bit u.used t && not e)) (other_place d) ∙ ap (λ b. s t && b)
            (and-true (bit u.used t))
        at-bit t (yes d) = let off : s t ≡ false = ap s d ∙ other in
            ap (λ b. b && (bit u.used t && not (eqb t q))) off ∙ sym (ap (λ b. b && bit u.used t) off)

        used : (masked s (renewed u q k)).used ≡ (masked s u).used
        used = word-cong n _ _ (λ t l. ap (λ b. s t && b) (bit-word_of n _ t l) ∙ at-bit t (ℕ_discrete t q))

-- the groups stay apart
pub renewed-apart : (word : ℕ) (u : UsedRecord) (q k : ℕ) → Apart word u → first_fitting (renew_lines u q k) ≡ 0
    → Apart word (renewed u q k)
unfolding crosses
renewed-apart word u q k H e =
    record {
      count = H.count;
      passes = renewed-passes u q k (renew-passes u q k e);
      no-crossing = H.no-crossing;
    }
