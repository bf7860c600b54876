-- What the steps leave as it was: every vertex but the one of the step and its neighbours, and of their codes whether
-- they are odd, or 8 or more.
use mathlib.Core.Bool.{◌&&◌, and-false, cond, false, not, true, true≢false}
use mathlib.Core.List.{List}
use mathlib.Core.Path.{ap, ap₂, refl, subst, sym, ◌∙◌, ◌≡◌}
use Prim.Native.Nat.{◌<◌, ◌^◌, ℕ}
use lib.Bits.{bit_or, or_lt}
use lib.Dec.{eqb}
use lib.ListN.{get_or, length}
use lib.Pow.{pow-lt}
use Rattle.buffers.proofs.Tabulate.{tabulate-at}
use Rattle.clifford.proofs.CliffordLaws.{code_of-clifford_of}
use Rattle.clifford.specs.Clifford.{clifford_of, code_of, then}
use Rattle.record.specs.Graph.{Graph, Simple, complement}
use Rattle.operations.proofs.Places.{z-before}
use Rattle.operations.specs.internal.GraphSteps.{pauli_code, sign_moved}
use Rattle.operations_gates.specs.internal.Suspects.{suspect}
use Rattle.operations.proofs.UnrefusedRecords.{unrefused-simple}
use Rattle.operations.specs.internal.InPlace.{Rewritten, Unrefused, record_in}
use Rattle.operations.specs.Steps.{pivot_record}
use Rattle.record.proofs.AcceptedRecords.{accepted-record}
use Rattle.record.specs.Accepted.{AcceptedRecord}
use Rattle.record.specs.Lent.{held_record}
use Rattle.record.specs.Records.{GraphRecord, complement_record}
use Rattle.words.proofs.BitLaws.{bit-or, bit-single, word_of-bit}
use Rattle.words.proofs.Finite.{⊕-zero}
use Rattle.words.proofs.Flags.{neither}
use Rattle.words.proofs.Places.{other_place}
use Rattle.words.specs.Bits.{bit, word_of, ◌⊕◌}
use Rattle.operations_gates.specs.internal.Watching.{Elsewhere}
use Rattle.operations_gates.proofs.SuspectSteps.{complement-suspect, pivot-suspect, sign-suspect, suspect_in}

-- two records have the same neighbours and the same code at q
record SameAt (q : ℕ) (r s : GraphRecord) : Type 0 where
  row : (i : ℕ) → s.graph q i ≡ r.graph q i
  code : s.codes q ≡ r.codes q

same_then : {q : ℕ} {r s t : GraphRecord} → SameAt q r s → SameAt q s t → SameAt q r t
same_then S T = record { row = λ i. T.row i ∙ S.row i; code = T.code ∙ S.code }

complement-elsewhere : (r : GraphRecord) (a q : ℕ) → eqb q a ≡ false → r.graph a q ≡ false
    → SameAt q r (complement_record r a)
complement-elsewhere r a q d e =
    record {
      row = λ i. ap (λ b. r.graph q i ⊕ ((b && r.graph a i) && not (eqb i q))) e ∙ ⊕-zero (r.graph q i);
      code = ap₂ (λ u v. cond u (then (clifford_of 13) (r.codes q))
          (cond v (then (clifford_of 6) (r.codes q)) (r.codes q)))
          d e;
    }

-- a vertex that is joined to neither stays so
apart : (θ : Graph) (a b q : ℕ) → θ a q ≡ false → θ b q ≡ false → complement θ a b q ≡ false
apart θ a b q e f = ap₂ (λ u v. u ⊕ ((θ a b && v) && not (eqb q b))) f e
    ∙ ap (λ u. u && not (eqb q b)) (and-false (θ a b))

pivot-elsewhere : (r : GraphRecord) (j k q : ℕ) → eqb q j ≡ false → eqb q k ≡ false → r.graph j q ≡ false
    → r.graph k q ≡ false → SameAt q r (pivot_record r j k)
pivot-elsewhere r j k q dj dk ej ek =
    same_then (complement-elsewhere r j q dj ej)
    (same_then (complement-elsewhere (complement_record r j) k q dk to-k)
    (complement-elsewhere (complement_record (complement_record r j) k) j q dj
    (apart (complement r.graph j) k j q to-k (apart r.graph j j q ej ej))))
  where
    to-k : complement r.graph j k q ≡ false
    to-k = apart r.graph j k q ej ek

sign-elsewhere : (r : GraphRecord) (a q : ℕ) → eqb q a ≡ false → r.graph a q ≡ false → SameAt q r (sign_moved r a)
sign-elsewhere r a q d e =
    record {
      row = λ i. refl;
      code = ap₂ (λ u v. then (pauli_code u v) (r.codes q)) d e ∙ sym (z-before false (r.codes q));
    }

-- ---- in the buffers
module _ (words codes : List ℕ) (U : Unrefused (record_in words codes)) (words' codes' : List ℕ) where
  abbrev n : ℕ
  n = length words

  abbrev r : GraphRecord
  r = held_record (record_in words codes)

  abbrev A : AcceptedRecord (record_in words codes)
  A = accepted-record (record_in words codes) false false U.no_line

  simple : Simple (length words) (held_record (record_in words codes)).graph
  simple = unrefused-simple words codes U

  by-vertices : (f : GraphRecord → GraphRecord) (touched ends : ℕ) → touched < 2 ^ n
      → Rewritten words codes f words' codes' → ((q : ℕ) → bit touched q ≡ false → SameAt q r (f r))
      → ((q : ℕ) → bit ends q ≡ false → suspect_in (f r) q ≡ suspect_in r q)
      → Elsewhere touched ends words codes words' codes'
  by-vertices f touched ends short R S T =
      record {
        short = short;
        word = λ q l e. ap (λ w. get_or w q 0) R.neighbours ∙ tabulate-at n _ q l
            ∙ ap (word_of n) {x = (f r).graph q} {y = r.graph q} (λ i x. (S q e).row x i)
            ∙ word_of-bit n (get_or words q 0) (A.words-below q);
        code = λ q l e. held q l ∙ ap code_of (S q e).code ∙ before q;
        suspect = λ q l e. ap suspect (held q l) ∙ T q e ∙ ap suspect (before q);
      }
    where
      held : (q : ℕ) → q < n → get_or codes' q 0 ≡ code_of ((f r).codes q)
      held q l = ap (λ w. get_or w q 0) R.numbers ∙ tabulate-at n _ q l

      before : (q : ℕ) → code_of (r.codes q) ≡ get_or codes q 0
      before q = code_of-clifford_of (get_or codes q 0) (A.codes-below q)

  single-apart : (a q own : ℕ) → own ≡ 2 ^ a → bit own q ≡ false → eqb q a ≡ false
  single-apart a q own is-own e = sym (bit-single a q) ∙ ap (λ w. bit w q) (sym is-own) ∙ e

  module _ (a : ℕ) (ha : a < length words) (own : ℕ) (is-own : own ≡ 2 ^ a) where
    own-short : bit_or (get_or words a 0) own < 2 ^ n
    own-short = or_lt n (get_or words a 0) own (A.words-below a) (subst (λ w. w < 2 ^ n) (sym is-own) (pow-lt ha))

    outside : (q : ℕ) → bit (bit_or (get_or words a 0) own) q ≡ false → (r.graph a q ≡ false) × (eqb q a ≡ false)
    outside q e =
        let h = neither (r.graph a q) (bit own q) (sym (bit-or (get_or words a 0) own q) ∙ e) in
        (h.0, single-apart a q own is-own h.1)

    pub complement-touches : Rewritten words codes (λ g. complement_record g a) words' codes'
        → Elsewhere (bit_or (get_or words a 0) own) own words codes words' codes'
    complement-touches R = by-vertices (λ g. complement_record g a) (bit_or (get_or words a 0) own) own own-short R
        (λ q e. complement-elsewhere r a q (outside q e).1 (outside q e).0)
        (λ q e. complement-suspect r a q (single-apart a q own is-own e))

    pub sign-touches : Rewritten words codes (λ g. sign_moved g a) words' codes'
        → Elsewhere (bit_or (get_or words a 0) own) own words codes words' codes'
    sign-touches R = by-vertices (λ g. sign_moved g a) (bit_or (get_or words a 0) own) own own-short R
        (λ q e. sign-elsewhere r a q (outside q e).1 (outside q e).0)
        (λ q e. sign-suspect r a q (single-apart a q own is-own e))

  module _ (j k : ℕ) (joined : bit (get_or words j 0) k ≡ true) where
    -- both ends are neighbours of each other
    neighbourless : (q : ℕ) → bit (bit_or (get_or words j 0) (get_or words k 0)) q ≡ false
        → (r.graph j q ≡ false) × (r.graph k q ≡ false)
    neighbourless q e = neither (r.graph j q) (r.graph k q) (sym (bit-or (get_or words j 0) (get_or words k 0) q) ∙ e)

    pub pivot-touches : (at_j at-k : ℕ) → at_j ≡ 2 ^ j → at-k ≡ 2 ^ k
        → Rewritten words codes (λ g. pivot_record g j k) words' codes'
        → Elsewhere (bit_or (get_or words j 0) (get_or words k 0)) (bit_or at_j at-k) words codes words' codes'
    pivot-touches at_j at-k is-j is-k R = by-vertices (λ g. pivot_record g j k)
        (bit_or (get_or words j 0) (get_or words k 0)) (bit_or at_j at-k)
        (or_lt n (get_or words j 0) (get_or words k 0) (A.words-below j) (A.words-below k)) R
        (λ q e. pivot-elsewhere r j k q
        (other_place {i = q} {j = j} (λ h. true≢false (sym joined ∙ simple.symmetric j k
        ∙ ap (r.graph k) (sym h) ∙ (neighbourless q e).1)))
        (other_place {i = q} {j = k} (λ h. true≢false (sym joined ∙ ap (r.graph j) (sym h) ∙ (neighbourless q e).0)))
        (neighbourless q e).0 (neighbourless q e).1)
        (λ q e. pivot-suspect r j k q (single-apart j q at_j is-j (ends q e).0)
        (single-apart k q at-k is-k (ends q e).1))
      where
        ends : (q : ℕ) → bit (bit_or at_j at-k) q ≡ false → (bit at_j q ≡ false) × (bit at-k q ≡ false)
        ends q e = neither (bit at_j q) (bit at-k q) (sym (bit-or at_j at-k q) ∙ e)
