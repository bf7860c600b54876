-- A gate on a buffer of codes: the buffers hold the gated record, and no line refuses it. CZ after a reduction answers
-- the reduced record of the new group.
use mathlib.Core.List.{List}
use mathlib.Core.Logic.{◌≢◌}
use mathlib.Core.Path.{ap, subst, sym, ◌∙◌, ◌≡◌}
use Prim.Native.Nat.{◌<◌, ℕ, ◌≤◌}
use native.Mathlib.Omega.{arith}
use lib.ListN.{get_or, length, length-set, set}
use lib.Seq.{get_or-set_other, get_or-set_same}
use Rattle.buffers.proofs.Tabulate.{tabulate-is}
use Rattle.clifford.proofs.CliffordLaws.{code_of-clifford_of}
use Rattle.clifford.specs.Clifford.{Clifford, clifford_of, code_of, identity_clifford, then}
use Rattle.clifford.specs.Vectors.{codes_of}
use Rattle.record.specs.Graph.{Simple}
use Rattle.operations.proofs.CzSteps.{cz-reduced-form}
use Rattle.operations.proofs.Keeping.{held-words}
use Rattle.operations.proofs.Reaching.{form-ready}
use Rattle.operations.specs.internal.KeptGroups.{Normalised}
use Rattle.operations.specs.internal.ReadyPairs.{Ready}
use Rattle.operations.specs.internal.ReducedForms.{ReducedForm}
use Rattle.operations.specs.internal.GraphSteps.{cz_record}
use Rattle.operations.proofs.CzGroups.{cz-proper}
use Rattle.operations.proofs.GroupAlone.{cz-of-group, reduced-of-group}
use Rattle.operations.proofs.UnrefusedRecords.{
  rewritten-held,
  rewritten-unrefused,
  unrefused-above,
  unrefused-codes,
  unrefused-long,
  unrefused-place,
  unrefused-simple,
}
use Rattle.operations.specs.Cz.{cz_rows}
use Rattle.operations.specs.Gates.{gated}
use Rattle.operations.specs.internal.InPlace.{Rewritten, Unrefused, record_in}
use Rattle.record.proofs.ReducedRecords.{record-proper}
use Rattle.record.specs.Lent.{code_numbers, held_record, neighbour_words}
use Rattle.record.specs.Records.{GraphRecord, rows_of}
use Rattle.record.specs.Reduced.{reduced}
use Rattle.words.proofs.Places.{put_all, put_other}
use Rattle.words.specs.Bits.{put}

-- ---- a gate
module _ (words codes : List ℕ) (U : Unrefused (record_in words codes)) (q : ℕ) (hq : q < length words) (k : ℕ)
    (codes' : List ℕ) (e : codes' ≡ set codes q (code_of (then (codes_of codes q) (clifford_of k)))) where
  abbrev n : ℕ
  n = length words

  abbrev new : Clifford
  new = then (codes_of codes q) (clifford_of k)

  hc : q < length codes
  hc = unrefused-place words codes U q hq

  gated-at : (t : ℕ) → get_or codes' t 0 ≡ code_of (put (codes_of codes) q new t)
  gated-at t = put_all (λ t c. get_or codes' t 0 ≡ code_of c) (codes_of codes) q new
      (ap (λ c. get_or c q 0) e ∙ get_or-set_same codes q (code_of new) 0 hc) t
      (λ d. ap (λ c. get_or c t 0) e ∙ get_or-set_other codes q t (code_of new) 0 d
      ∙ sym (code_of-clifford_of (get_or codes t 0) ((unrefused-codes words codes U).1 t)))

  gated-rewritten : Rewritten words codes (λ g. gated g q (clifford_of k)) words codes'
  gated-rewritten =
      record {
        neighbours = held-words words codes U;
        numbers = tabulate-is n _ codes' (ap length e ∙ length-set codes q _ ∙ unrefused-long words codes U)
            (λ t l. gated-at t);
      }

  gated-above : (t : ℕ) → n ≤ t → put (codes_of codes) q new t ≡ identity_clifford
  gated-above t l = put_other (codes_of codes) q new t (λ d. absurd (omega (arith, d)))
      ∙ unrefused-above words codes U t l

  pub gated-unrefused : Unrefused (record_in words codes')
  gated-unrefused = rewritten-unrefused words codes U (λ g. gated g q (clifford_of k)) words codes' gated-rewritten
      (unrefused-simple words codes U) gated-above

  pub gated-held : held_record (record_in words codes') ≡ gated (held_record (record_in words codes)) q (clifford_of k)
  gated-held = rewritten-held words codes U (λ g. gated g q (clifford_of k)) words codes' gated-rewritten
      (unrefused-simple words codes U) gated-above

  pub gated-reduced : (words'' codes'' : List ℕ) → Normalised words codes' words'' codes''
      → Rewritten words codes (λ g. reduced (length words) (rows_of (length words) (gated g q (clifford_of k)))) words''
      codes''
  gated-reduced words'' codes'' N =
      record {
        neighbours = N.after.neighbours ∙ ap (λ g. neighbour_words n (reduced n (rows_of n g))) gated-held;
        numbers = N.after.numbers ∙ ap (λ g. code_numbers n (reduced n (rows_of n g))) gated-held;
      }

-- ---- CZ
module _ (words codes words₁ codes₁ : List ℕ) (U : Unrefused (record_in words codes))
    (N : Normalised words codes words₁ codes₁) where
  abbrev m : ℕ
  m = length words

  -- the counts as they are after the reduction
  pub reduced-place : (a : ℕ) → a < length words → a < length words₁
  reduced-place a l = subst (λ k. a < k) (sym N.kept.long) l

  reduced-here : ReducedForm (length words₁) (held_record (record_in words₁ codes₁))
  reduced-here = subst (λ k. ReducedForm k (held_record (record_in words₁ codes₁))) (sym N.kept.long) N.form

  pub reduced-ready : (a b : ℕ) → a < length words → b < length words → Ready (held_record (record_in words₁ codes₁)) a b
  reduced-ready a b ha hb = form-ready (length words₁) (held_record (record_in words₁ codes₁))
      (unrefused-simple words₁ codes₁ N.kept.unrefused) reduced-here a b (reduced-place a ha) (reduced-place b hb)

  module _ (a b : ℕ) (ha : a < length words) (hb : b < length words) (ab : a ≢ b) where
    pub cz-answered : (words₂ codes₂ : List ℕ) → Rewritten words₁ codes₁ (λ g. cz_record g a b) words₂ codes₂
        → Rewritten words codes (λ g. reduced (length words) (cz_rows a b (rows_of (length words) g))) words₂ codes₂
    cz-answered words₂ codes₂ R =
        record {
          neighbours = R.neighbours ∙ ap (λ k. neighbour_words k (cz_record held₁ a b)) N.kept.long
              ∙ ap (neighbour_words m) is-reduced;
          numbers = R.numbers ∙ ap (λ k. code_numbers k (cz_record held₁ a b)) N.kept.long
              ∙ ap (code_numbers m) is-reduced;
        }
      where
        held : GraphRecord
        held = held_record (record_in words codes)

        held₁ : GraphRecord
        held₁ = held_record (record_in words₁ codes₁)

        S : Simple m held.graph
        S = unrefused-simple words codes U

        S₁ : Simple m held₁.graph
        S₁ = subst (λ k. Simple k held₁.graph) N.kept.long (unrefused-simple words₁ codes₁ N.kept.unrefused)

        is-reduced : cz_record held₁ a b ≡ reduced m (cz_rows a b (rows_of m held))
        is-reduced =
            sym (cz-reduced-form m held₁ S₁ N.form a b ha hb ab)
            ∙ sym (reduced-of-group m (cz_rows a b (rows_of m held)) (cz_rows a b (rows_of m held₁))
            (cz-proper m a b ha hb ab (rows_of m held) (record-proper m held S))
            (cz-proper m a b ha hb ab (rows_of m held₁) (record-proper m held₁ S₁))
            (cz-of-group m a b ha hb ab (rows_of m held) (rows_of m held₁) N.kept.group))
