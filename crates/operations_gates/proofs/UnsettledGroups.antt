-- Buffers that are made ready for CZ, and the groups after CZ and after a gate.
use mathlib.Core.Bool.{false, true≢false}
use mathlib.Core.List.{List}
use mathlib.Core.Logic.{◌≢◌}
use mathlib.Core.Path.{ap₂, refl, subst, sym, ◌∙◌, ◌≡◌}
use Prim.Native.Nat.{◌<◌, ℕ, ◌≤◌}
use Rattle.words.specs.Bits.{bit}
use lib.ListN.{get_or, length, set}
use Rattle.clifford.proofs.CliffordLaws.{cliffords}
use Rattle.clifford.specs.Clifford.{bit_c, clifford_of, code_of, identity_clifford, then}
use Rattle.clifford.specs.Vectors.{codes_of}
use Rattle.record.specs.Graph.{Simple}
use Rattle.operations.proofs.CzSteps.{cz-same, cz-simple, turned-above}
use Rattle.operations.proofs.Reaching.{form-ready}
use Rattle.operations.specs.internal.KeptGroups.{GroupHeld, GroupKept, Normalised}
use Rattle.operations.specs.internal.ReadyPairs.{Ready, crossed}
use Rattle.operations.specs.internal.GraphSteps.{cz_record, pauli_code}
use Rattle.operations.proofs.GroupAlone.{cz-of-group}
use Rattle.operations.proofs.UnrefusedRecords.{
  rewritten-held,
  rewritten-length,
  rewritten-unrefused,
  unrefused-above,
  unrefused-simple,
}
use Rattle.operations.specs.Cz.{cz_rows}
use Rattle.operations.specs.Gates.{gated}
use Rattle.operations.specs.internal.InPlace.{Rewritten, Unrefused, record_in}
use Rattle.operations_gates.proofs.GatedBuffers.{gated-held, gated-unrefused}
use Rattle.record.specs.Lent.{held_record, held_rows}
use Rattle.record.specs.Records.{GraphRecord, rows_of}
use Rattle.stabilizer.proofs.GroupLaws.{same_refl, same-sym, same-trans}
use Rattle.stabilizer.specs.Groups.{SameGroup}

-- ---- ready pairs
module _ (words codes : List ℕ) (U : Unrefused (record_in words codes)) (a b : ℕ) where
  module _ (e : crossed (clifford_of (get_or codes a 0)) ≡ false) (f : crossed (clifford_of (get_or codes b 0)) ≡ false) where
    pub ready-first : bit_c (clifford_of (get_or codes a 0)) ≡ false → Ready (held_record (record_in words codes)) a b
    ready-first l = record { first = e; second = f; parted = λ c d. absurd (true≢false (sym c ∙ l)) }

    pub ready-second : bit_c (clifford_of (get_or codes b 0)) ≡ false → Ready (held_record (record_in words codes)) a b
    ready-second l = record { first = e; second = f; parted = λ c d. absurd (true≢false (sym d ∙ l)) }

    pub ready-parted : bit (get_or words a 0) b ≡ false → Ready (held_record (record_in words codes)) a b
    ready-parted h = record { first = e; second = f; parted = λ c d. h }

pub kept-place : (words codes words₁ codes₁ : List ℕ) → GroupKept words codes words₁ codes₁ → (q : ℕ) → q < length words
    → q < length words₁
kept-place words codes words₁ codes₁ K q l = subst (λ k. q < k) (sym K.long) l

-- after a reduction
module _ (words codes words₁ codes₁ words' codes' : List ℕ) (K : GroupKept words codes words₁ codes₁)
    (N : Normalised words₁ codes₁ words' codes') where
  pub normalised-ready : (a b : ℕ) → a < length words → b < length words → Ready (held_record (record_in words' codes')) a
      b
  normalised-ready a b ha hb =
      form-ready (length words₁) (held_record (record_in words' codes'))
      (subst (λ m. Simple m (held_record (record_in words' codes')).graph) N.kept.long
      (unrefused-simple words' codes' N.kept.unrefused)) N.form a b
      (kept-place words codes words₁ codes₁ K a ha) (kept-place words codes words₁ codes₁ K b hb)

-- ---- the group after CZ
module _ (words codes words₁ codes₁ words₂ codes₂ : List ℕ) (K : GroupKept words codes words₁ codes₁) (a b : ℕ)
    (ha : a < length words) (hb : b < length words) (ab : a ≢ b) (P : Ready (held_record (record_in words₁ codes₁)) a b)
    (R : Rewritten words₁ codes₁ (λ g. cz_record g a b) words₂ codes₂) where
  abbrev m : ℕ
  m = length words₁

  inside : (q : ℕ) → q < length words → q < length words₁
  inside = kept-place words codes words₁ codes₁ K

  abbrev r₁ : GraphRecord
  r₁ = held_record (record_in words₁ codes₁)

  abbrev r₂ : GraphRecord
  r₂ = held_record (record_in words₂ codes₂)

  U₁ : Unrefused (record_in words₁ codes₁)
  U₁ = K.unrefused

  S₁ : Simple (length words₁) (held_record (record_in words₁ codes₁)).graph
  S₁ = unrefused-simple words₁ codes₁ U₁

  S₂ : Simple m (cz_record r₁ a b).graph
  S₂ = cz-simple m r₁ S₁ a b (inside a ha) (inside b hb) ab P

  above : (q : ℕ) → m ≤ q → (cz_record r₁ a b).codes q ≡ identity_clifford
  above q l =
      ap₂ (λ v k. then (pauli_code false v) k)
      (turned-above m r₁ S₁ a b (inside a ha) (inside b hb) ab P q l) (unrefused-above words₁ codes₁ U₁ q l)
      ∙ cliffords 0 (then (pauli_code false false) identity_clifford) identity_clifford tt

  same : SameGroup m m (cz_rows a b (rows_of m r₁)) (rows_of m r₂)
  same = subst (λ g. SameGroup m m (cz_rows a b (rows_of m r₁)) (rows_of m g))
      (sym (rewritten-held words₁ codes₁ U₁ (λ g. cz_record g a b) words₂ codes₂ R S₂ above))
      (same-sym (cz-same m r₁ S₁ a b (inside a ha) (inside b hb) ab P))

  pub cz-held : GroupHeld (length words) (cz_rows a b (held_rows (record_in words codes))) words₂ codes₂
  cz-held =
      record {
        long = rewritten-length words₁ codes₁ U₁ (λ g. cz_record g a b) words₂ codes₂ R S₂ above ∙ K.long;
        unrefused = rewritten-unrefused words₁ codes₁ U₁ (λ g. cz_record g a b) words₂ codes₂ R S₂ above;
        group = same-trans
            (cz-of-group (length words) a b ha hb ab (held_rows (record_in words codes)) (rows_of (length words) r₁)
            K.group)
            (subst (λ k. SameGroup k k (cz_rows a b (rows_of k r₁)) (rows_of k r₂)) K.long same);
      }

-- ---- the group after a gate
pub gate-held : (words codes : List ℕ) → Unrefused (record_in words codes) → (q : ℕ) → q < length words → (k : ℕ)
    → (codes' : List ℕ) → codes' ≡ set codes q (code_of (then (codes_of codes q) (clifford_of k)))
    → GroupHeld (length words) (rows_of (length words) (gated (held_record (record_in words codes)) q (clifford_of k)))
    words codes'
gate-held words codes U q hq k codes' e =
    record {
      long = refl;
      unrefused = gated-unrefused words codes U q hq k codes' e;
      group = subst (λ g. SameGroup (length words) (length words) (rows_of (length words) g)
          (rows_of (length words) (held_record (record_in words codes')))) (gated-held words codes U q hq k codes' e)
          same_refl;
    }
