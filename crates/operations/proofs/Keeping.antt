-- Buffers that keep their group: one step after another, and the end of all steps.
use mathlib.Core.Bool.{false}
use mathlib.Core.List.{List}
use mathlib.Core.Path.{ap, refl, subst, sym, ◌∙◌, ◌≡◌}
use Prim.Native.Nat.{◌<◌, ℕ, ◌≤◌}
use lib.ListN.{get_or, length}
use Rattle.buffers.proofs.Tabulate.{tabulate-is}
use Rattle.clifford.proofs.CliffordLaws.{code_of-clifford_of}
use Rattle.clifford.specs.Clifford.{identity_clifford}
use Rattle.record.proofs.Complement.{complement-simple}
use Rattle.record.specs.Graph.{Simple}
use Rattle.operations.proofs.GroupAlone.{reduced-of-group}
use Rattle.operations.proofs.Rewriting.{pivot-above, pivot-same, pivot-simple}
use Rattle.operations.proofs.UnrefusedRecords.{
  complement-above,
  rewritten-held,
  rewritten-length,
  rewritten-unrefused,
  unrefused-above,
  unrefused-long,
  unrefused-simple,
}
use Rattle.operations.specs.internal.InPlace.{Rewritten, Unrefused, record_in}
use Rattle.operations.specs.Steps.{pivot_record}
use Rattle.record.proofs.AcceptedRecords.{accepted-record}
use Rattle.record.proofs.Complementing.{complement-same}
use Rattle.record.proofs.ReducedRecords.{record-proper}
use Rattle.record.specs.Accepted.{AcceptedRecord}
use Rattle.record.specs.Lent.{code_numbers, held_record, neighbour_words}
use Rattle.record.specs.Records.{GraphRecord, complement_record, rows_of}
use Rattle.record.specs.Reduced.{reduced}
use Rattle.stabilizer.proofs.GroupLaws.{same_refl, same-trans}
use Rattle.stabilizer.specs.Groups.{SameGroup}
use Rattle.words.proofs.BitLaws.{word_of-bit}
use Rattle.operations.proofs.ReducedForms.{form-reduced}
use Rattle.operations.specs.internal.KeptGroups.{GroupKept, Nearer, Normalised}
use Rattle.operations.specs.internal.ReducedForms.{ReducedForm}
use Rattle.operations.specs.internal.Settling.{distance}

pub kept_refl : (words codes : List ℕ) → Unrefused (record_in words codes) → GroupKept words codes words codes
kept_refl words codes U = record { long = refl; unrefused = U; group = same_refl }

pub kept_trans : (words codes words₁ codes₁ words₂ codes₂ : List ℕ) → GroupKept words codes words₁ codes₁
    → GroupKept words₁ codes₁ words₂ codes₂ → GroupKept words codes words₂ codes₂
kept_trans words codes words₁ codes₁ words₂ codes₂ K L =
    record {
      long = L.long ∙ K.long;
      unrefused = L.unrefused;
      group = same-trans K.group
          (subst (λ n. SameGroup n n (rows_of n (held_record (record_in words₁ codes₁)))
          (rows_of n (held_record (record_in words₂ codes₂)))) K.long L.group);
    }

pub kept-codes-long : (words codes words' codes' : List ℕ) → Unrefused (record_in words codes)
    → GroupKept words codes words' codes' → length codes' ≡ length codes
kept-codes-long words codes words' codes' U K =
    unrefused-long words' codes' K.unrefused ∙ K.long ∙ sym (unrefused-long words codes U)

-- buffers rewritten by a step that keeps the group
module _ (words codes : List ℕ) (U : Unrefused (record_in words codes)) (f : GraphRecord → GraphRecord)
    (words' codes' : List ℕ) (R : Rewritten words codes f words' codes') where
  abbrev old : GraphRecord
  old = held_record (record_in words codes)

  abbrev n : ℕ
  n = length words

  module _ (S : Simple (length words) (f (held_record (record_in words codes))).graph)
      (above : (q : ℕ) → length words ≤ q → (f (held_record (record_in words codes))).codes q ≡ identity_clifford) where
    pub rewritten-kept :
        SameGroup (length words) (length words) (rows_of (length words) (held_record (record_in words codes)))
        (rows_of (length words) (f (held_record (record_in words codes)))) → GroupKept words codes words' codes'
    rewritten-kept E =
        record {
          long = rewritten-length words codes U f words' codes' R S above;
          unrefused = rewritten-unrefused words codes U f words' codes' R S above;
          group = subst (λ g. SameGroup n n (rows_of n old) (rows_of n g))
              (sym (rewritten-held words codes U f words' codes' R S above)) E;
        }

    pub rewritten-nearer :
        SameGroup (length words) (length words) (rows_of (length words) (held_record (record_in words codes)))
        (rows_of (length words) (f (held_record (record_in words codes))))
        → distance (length words) (f (held_record (record_in words codes)))
        < distance (length words) (held_record (record_in words codes)) → Nearer words codes words' codes'
    rewritten-nearer E l =
        record {
          kept = rewritten-kept E;
          less = subst (λ g. distance n g < distance n old)
              (sym (rewritten-held words codes U f words' codes' R S above)) l;
        }

-- ---- complements and pivots
module _ (words codes : List ℕ) (U : Unrefused (record_in words codes)) (words' codes' : List ℕ) where
  abbrev r : GraphRecord
  r = held_record (record_in words codes)

  simple : Simple (length words) (held_record (record_in words codes)).graph
  simple = unrefused-simple words codes U

  module _ (a : ℕ) (ha : a < length words) (R : Rewritten words codes (λ g. complement_record g a) words' codes') where
    complement-is-simple : Simple (length words) (complement_record r a).graph
    complement-is-simple = complement-simple (length words) r.graph simple a

    complement-is-above : (q : ℕ) → length words ≤ q → (complement_record r a).codes q ≡ identity_clifford
    complement-is-above = complement-above (length words) r simple a ha (unrefused-above words codes U)

    pub complement-kept : GroupKept words codes words' codes'
    complement-kept = rewritten-kept words codes U (λ g. complement_record g a) words' codes' R complement-is-simple
        complement-is-above (complement-same (length words) r simple a ha)

    pub complement-nearer : distance (length words) (complement_record (held_record (record_in words codes)) a)
        < distance (length words) (held_record (record_in words codes)) → Nearer words codes words' codes'
    complement-nearer = rewritten-nearer words codes U (λ g. complement_record g a) words' codes' R complement-is-simple
        complement-is-above (complement-same (length words) r simple a ha)

  module _ (j k : ℕ) (hj : j < length words) (hk : k < length words)
      (R : Rewritten words codes (λ g. pivot_record g j k) words' codes') where
    pivot-is-above : (q : ℕ) → length words ≤ q → (pivot_record r j k).codes q ≡ identity_clifford
    pivot-is-above = pivot-above (length words) r simple j k hj hk (unrefused-above words codes U)

    pub pivot-kept : GroupKept words codes words' codes'
    pivot-kept = rewritten-kept words codes U (λ g. pivot_record g j k) words' codes' R
        (pivot-simple (length words) r simple j k) pivot-is-above (pivot-same (length words) r simple j k hj hk)

    pub pivot-nearer : distance (length words) (pivot_record (held_record (record_in words codes)) j k)
        < distance (length words) (held_record (record_in words codes)) → Nearer words codes words' codes'
    pivot-nearer = rewritten-nearer words codes U (λ g. pivot_record g j k) words' codes' R
        (pivot-simple (length words) r simple j k) pivot-is-above (pivot-same (length words) r simple j k hj hk)

-- ---- the end: the buffers hold the reduced record
module _ (words codes : List ℕ) (U : Unrefused (record_in words codes)) where
  abbrev A : AcceptedRecord (record_in words codes)
  A = accepted-record (record_in words codes) false false U.no_line

  pub held-words : words ≡ neighbour_words (length words) (held_record (record_in words codes))
  held-words = tabulate-is (length words) _ words refl
      (λ j l. sym (word_of-bit (length words) (get_or words j 0) (A.words-below j)))

  pub held-codes : codes ≡ code_numbers (length words) (held_record (record_in words codes))
  held-codes = tabulate-is (length words) _ codes A.codes-length
      (λ q l. sym (code_of-clifford_of (get_or codes q 0) (A.codes-below q)))

pub form-normalised : (words codes words' codes' : List ℕ) → Unrefused (record_in words codes)
    → GroupKept words codes words' codes' → ReducedForm (length words) (held_record (record_in words' codes'))
    → Normalised words codes words' codes'
form-normalised words codes words' codes' U K F =
    record {
      kept = K;
      form = F;
      after =
          record {
            neighbours = held-words words' codes' K.unrefused
                ∙ ap (λ m. neighbour_words m new) K.long ∙ ap (neighbour_words n) (sym is-reduced);
            numbers = held-codes words' codes' K.unrefused
                ∙ ap (λ m. code_numbers m new) K.long ∙ ap (code_numbers n) (sym is-reduced);
          };
    }
  where
    n : ℕ
    n = length words

    old : GraphRecord
    old = held_record (record_in words codes)

    new : GraphRecord
    new = held_record (record_in words' codes')

    S : Simple n new.graph
    S = subst (λ m. Simple m new.graph) K.long (unrefused-simple words' codes' K.unrefused)

    is-reduced : reduced n (rows_of n old) ≡ new
    is-reduced = reduced-of-group n (rows_of n old) (rows_of n new) (record-proper n old (unrefused-simple words codes U))
        (record-proper n new S) K.group ∙ form-reduced n new S F
