-- The lines of lists and records, exactly: what it means that none of them holds.
use mathlib.Core.Bool.{Bool, false, ◌||◌}
use mathlib.Core.List.{◌++◌, List, [], ◌∷◌}
use mathlib.Core.Logic.{◌↔◌}
use mathlib.Core.Path.{◌≡◌, ◌∙◌, ap, ap₂, refl, subst}
use Prim.Native.Nat.{◌<◌, ◌^◌, suc, ℕ}
use lib.Dec.{leb}
use lib.ListN.{get_or, length}
use borrow.Author.Tests.{leb-false, lt-leb}
use Rattle.buffers.proofs.Lines.{Numbered, more-accepted, none-fits, none-of-all, not-held, passed}
use Rattle.buffers.specs.Refusals.{Refusal, first_fitting, line, other_than, reaching}
use Rattle.buffers.proofs.Fitting.{none-fits-of, none-holds}
use Rattle.record.proofs.AcceptedRecords.{accepted-passes, accepted-record}
use Rattle.record.proofs.RecordLines.{record-numbered}
use Rattle.record.specs.Accepted.{AcceptedRecord}
use Rattle.record.specs.Lent.{LentRecord, record_codes, record_lengths, record_lines}
use Rattle.stabilizer.proofs.Accepted.{WellFormed, accepted-list, formed-passes}
use Rattle.stabilizer.proofs.SharedTests.{below-passes, count-passes, has-length, length-passes}
use Rattle.stabilizer.specs.Lists.{GeneratorList, form_lines, list_lengths, list_lines}
use Rattle.words.proofs.Flags.{neither}
use Rattle.claims.specs.Arguments.{IsList, IsRows}

-- ---- tests
pub both-pass : {a b : Bool} → a ≡ false → b ≡ false → (a || b) ≡ false
both-pass e f = ap₂ ◌||◌ e f

pub below-exactly : (n q : ℕ) → (leb n q ≡ false) ↔ (q < n)
below-exactly n q = (leb-false n q, lt-leb n q)

pub two-fit : (n k : ℕ) (a b : List ℕ) →
    ((other_than n a || other_than k b) ≡ false) ↔ ((length a ≡ n) × (length b ≡ k))
two-fit n k a b = (
  (λ e. let h = neither (other_than n a) (other_than k b) e in (has-length n a h.0, has-length k b h.1)),
  (λ h. both-pass (length-passes n a h.0) (length-passes k b h.1)),
)

pub three-fit : (n m k : ℕ) (a b c : List ℕ) →
    ((other_than n a || (other_than m b || other_than k c)) ≡ false)
    ↔ ((length a ≡ n) × (length b ≡ m) × (length c ≡ k))
three-fit n m k a b c = (
  (λ e. let h = neither (other_than n a) (other_than m b || other_than k c) e in
      let t = (two-fit m k b c).0 h.1 in (has-length n a h.0, t.0, t.1)),
  (λ h. both-pass (length-passes n a h.0) ((two-fit m k b c).1 (h.1, h.2))),
)

-- ---- lines after others
pub more-exactly : (ls ms : List Refusal) → Numbered ls →
    (first_fitting (ls ++ ms) ≡ 0) ↔ ((first_fitting ls ≡ 0) × (first_fitting ms ≡ 0))
more-exactly ls ms n = (none-of-all ls ms n, λ h. more-accepted ls ms n h.0 ∙ h.1)

pub last-exactly : (k : ℕ) (b : Bool) → (first_fitting (line (suc k) b ∷ []) ≡ 0) ↔ (b ≡ false)
last-exactly k b = ((λ e. (not-held k b [] e).0), λ h. passed (suc k) [] h ∙ none-fits)

-- ---- records
pub record-exactly : (l : LentRecord) (others six : Bool) →
    (first_fitting (record_lines l others six) ≡ 0) ↔ (AcceptedRecord l × (others ≡ false) × (six ≡ false))
record-exactly l others six = (
  (λ e. let h = none-holds (record_lines l others six) refl e in (
    accepted-record l others six e,
    (neither (record_lengths l) others h.1.0).1,
    (neither (record_codes l) six h.1.1.1.0).1,
  )),
  (λ h. ap₂ (λ a b. first_fitting (record_lines l a b)) h.1 h.2 ∙ accepted-passes l h.0),
)

-- with one more line
pub record-and : (l : LentRecord) (six : Bool) (k : ℕ) (b : Bool) →
    (first_fitting (record_lines l false six ++ (line (suc k) b ∷ [])) ≡ 0)
    ↔ (AcceptedRecord l × (six ≡ false) × (b ≡ false))
record-and l six k b = (
  (λ e. let p = (more-exactly ls (line (suc k) b ∷ []) (record-numbered l false six)).0 e in
      let h = (record-exactly l false six).0 p.0 in (h.0, h.2, (last-exactly k b).0 p.1)),
  (λ h. (more-exactly ls (line (suc k) b ∷ []) (record-numbered l false six)).1
      ((record-exactly l false six).1 (h.0, refl, h.1), (last-exactly k b).1 h.2)),
)
  where
    ls : List Refusal
    ls = record_lines l false six

-- ---- lists
pub formed-rows : (l : GeneratorList) → WellFormed l → IsRows l
formed-rows l F =
    record {
      positive = F.positive;
      upto = F.upto;
      signs-length = F.signs-length;
      z-length = F.z-length;
      x-length = F.x-length;
      signs-below = F.signs-below;
      z-below = F.z-below;
      x_below = F.x_below;
    }

rows-formed : (l : GeneratorList) → IsRows l → WellFormed l
rows-formed l F =
    record {
      positive = F.positive;
      upto = F.upto;
      signs-length = F.signs-length;
      z-length = F.z-length;
      x-length = F.x-length;
      signs-below = F.signs-below;
      z-below = F.z-below;
      x_below = F.x_below;
    }

pub list-exactly : (l : GeneratorList) (others : Bool) →
    (first_fitting (list_lines l others) ≡ 0) ↔ (IsList l × (others ≡ false))
list-exactly l others = (
  (λ e. let A = accepted-list l others e in (
    record { formed = formed-rows l A.formed; proper = A.proper },
    (neither (list_lengths l) others (none-holds (list_lines l others) refl e).1.0).1,
  )),
  (λ h. ap (λ b. first_fitting (list_lines l b)) h.1 ∙ formed-passes l (rows-formed l h.0.formed) h.0.proper),
)

-- rows that need neither commute nor be independent
pub rows_pass : (l : GeneratorList) → IsRows l → first_fitting (form_lines l false) ≡ 0
rows_pass l F =
    none-fits-of (form_lines l false) (
      count-passes l.n F.positive F.upto,
      (
        both-pass ((three-fit l.n l.n l.n l.signs l.z l.x).1
            (F.signs-length, F.z-length, F.x-length)) refl,
        (
          both-pass (words (2 ^ l.n) l.z F.z-length F.z-below)
              (words (2 ^ l.n) l.x F.x-length F.x_below),
          (words 2 l.signs F.signs-length F.signs-below, tt),
        ),
      ),
    )
  where
    words : (b : ℕ) (ws : List ℕ) → length ws ≡ l.n → ((j : ℕ) → j < l.n → get_or ws j 0 < b) → reaching b ws ≡ false
    words b ws e h = below-passes b ws (λ j k. h j (subst (λ m. j < m) e k))
