-- Every accepted call leaves each used vertex as it is: word 0, and its code.
use mathlib.Core.Bool.{◌&&◌, false, not, true, true≢false, ◌||◌}
use mathlib.Core.Logic.{◌≢◌, inl, inr}
use mathlib.Core.Path.{ap, subst, sym, ◌∙◌, ◌≡◌}
use Prim.Native.Nat.{◌*◌, ◌%◌, ◌/◌, ◌<◌, ◌^◌, ℕ}
use native.Mathlib.Omega.{arith}
use lib.Dec.{eqb}
use lib.ListN.{get_or}
use lib.Pow.{pow_pos}
use borrow.Author.Tests.{eqb-false, eqb-true, leb-false, ltb-true, not-false, not-true}
use Rattle.buffers.proofs.Tabulate.{tabulate-at}
use Rattle.clifford.proofs.CliffordLaws.{code_of-clifford_of}
use Rattle.clifford.specs.Clifford.{Clifford, clifford_of, code_of, image}
use Rattle.operations.proofs.MeasuredRecords.{alone-row}
use Rattle.operations.specs.Cz.{cz, cz_rows}
use Rattle.operations.specs.Gates.{gated}
use Rattle.operations.specs.Measurement.{pauli_letter, single}
use Rattle.operations.specs.Steps.{Operation, complement_of, cz_on, gate_with, leaves, made, measurement_of, pivot_of}
use Rattle.pauli.specs.Pauli.{Pauli}
use Rattle.pauli.specs.declared.Letter.TheVariants.{X}
use Rattle.record.specs.Accepted.{AcceptedRecord}
use Rattle.record.specs.Lent.{LentRecord, code_numbers, held_record, held_rows, neighbour_words}
use Rattle.record.specs.Records.{GraphRecord, complement_record, rows_of}
use Rattle.record.specs.Reduced.{reduced}
use Rattle.stabilizer.proofs.GroupLaws.{in_row}
use Rattle.stabilizer.specs.Groups.{InGroup, Proper}
use Rattle.operations.specs.internal.UsedLaws.{UsedPasses}
use Rattle.words.proofs.BitLaws.{bit-above, bit-ext, bit-word_of, word_of-lt, zero_bit}
use Rattle.words.proofs.Flags.{both_true, neither}
use Rattle.words.proofs.Places.{put_other}
use Rattle.words.proofs.SearchLaws.{some-false}
use Rattle.words.proofs.Sums.{lt-or-ge}
use Rattle.words.specs.Bits.{Word, bit, is_odd, word_of}
use Rattle.operations.specs.Used.{UsedRecord, used_code, used_stray, used_wrong}
use Rattle.operations.specs.UsedLaws.{UsedStay}
use Rattle.operations.proofs.AcceptedSteps.{
  accepted-step,
  after-made,
  cz-list,
  gate-proper,
  measure-arguments,
  measured-list,
}
use Rattle.operations.proofs.AloneVertices.{Low}
use Rattle.operations.proofs.StayingAlone.{
  AloneAt,
  complement-alone,
  cz-single,
  kept-code,
  kept-graph,
  measured-single,
}

-- a word without bits
no_bits : (n : ℕ) (f : Word) → ((q : ℕ) → f q ≡ false) → word_of n f ≡ 0
no_bits n f h = bit-ext n (word_of n f) 0 (word_of-lt n f) (pow_pos n)
    (λ q l. bit-word_of n f q l ∙ h q ∙ sym (zero_bit q))

-- a vertex without neighbours, in the buffers
pub word-alone : (n : ℕ) (r : GraphRecord) (q : ℕ) → q < n → ((j : ℕ) → r.graph q j ≡ false)
    → get_or (neighbour_words n r) q 0 ≡ 0
word-alone n r q l h = tabulate-at n _ q l ∙ no_bits n (r.graph q) h

pub code-written : (n : ℕ) (r : GraphRecord) (q : ℕ) → q < n → get_or (code_numbers n r) q 0 ≡ code_of (r.codes q)
code-written n r q l = tabulate-at n _ q l

-- "its code is 0, 2, 4, 6, 8 or 10"
pub used_low : (c : ℕ) → used_code c ≡ true → Low (clifford_of c) × (code_of (clifford_of c) ≡ c)
used_low c e =
    let h = both_true _ _ e in
    let below : c < 12 = ltb-true c 12 h.0 in
    let even = eqb-false (c % 2) 1 (not-true (is_odd c) h.1) in
    let whole : code_of (clifford_of c) ≡ c = code_of-clifford_of c (omega (arith, below)) in
    ((c / 2, omega (arith, below), whole ∙ half c even), whole)
  where
    half : (c : ℕ) → (c % 2 ≡ 1 → ⊥) → c ≡ 2 * (c / 2)
    half c h = omega (arith, h)

module _ (u : UsedRecord) (none-wrong : used_wrong u ≡ false) (no_stray : used_stray u ≡ false) (q : ℕ)
    (marked : bit u.used q ≡ true) where
  -- a used qubit is below n
  pub used-below : q < u.held.n
  used-below = elim (lt-or-ge q u.held.n) [
    | inl l ↦ l
    | inr l ↦ absurd (true≢false (sym marked ∙ bit-above u.held.n u.used
        (leb-false (2 ^ u.held.n) u.used no_stray) q l))
  ]

  good : (not (eqb (get_or u.held.neighbours q 0) 0) || not (used_code (get_or u.held.codes q 0))) ≡ false
  unfolding used_wrong
  good = ap (λ b. b && (not (eqb (get_or u.held.neighbours q 0) 0) || not (used_code (get_or u.held.codes q 0))))
      (sym marked) ∙ some-false u.held.n _ none-wrong q used-below

  -- it has word 0, and one of the six codes
  pub used-word : get_or u.held.neighbours q 0 ≡ 0
  used-word = eqb-true _ 0 (not-false _ (neither (not (eqb (get_or u.held.neighbours q 0) 0)) _ good).0)

  pub used-code : used_code (get_or u.held.codes q 0) ≡ true
  used-code = not-false _ (neither (not (eqb (get_or u.held.neighbours q 0) 0)) _ good).1

-- no neighbour, and the code that the buffers held
abbrev pub Stays : UsedRecord → GraphRecord → ℕ → Type 0
Stays u r q = ((j : ℕ) → r.graph q j ≡ false) × (code_of (r.codes q) ≡ get_or u.held.codes q 0)

module _ (u : UsedRecord) (o : Operation) (P : UsedPasses u o) (q : ℕ) (marked : bit u.used q ≡ true) where
  abbrev l : LentRecord
  l = u.held

  A : AcceptedRecord l
  A = accepted-step l o P.as_before

  hq : q < l.n
  hq = used-below u P.none-wrong P.no_stray q marked

  abbrev k : Clifford
  k = clifford_of (get_or l.codes q 0)

  low : Low k × (code_of k ≡ get_or l.codes q 0)
  low = used_low (get_or l.codes q 0) (used-code u P.none-wrong P.no_stray q marked)

  out : (j : ℕ) → (held_record l).graph q j ≡ false
  out j = ap (λ w. bit w j) (used-word u P.none-wrong P.no_stray q marked) ∙ zero_bit j

  alone : AloneAt (held_record l) q
  alone = record { out = out; into = λ j. A.simple.symmetric j q ∙ out j }

  -- its Pauli is a generator
  own_row : held_rows l q ≡ single (image k X) q k.sx
  own_row = alone-row l.n (held_record l) A.simple q hq out

  own : InGroup l.n l.n (held_rows l) (single (image k X) q k.sx)
  own = subst (InGroup l.n l.n (held_rows l)) own_row (in_row l.n l.n (held_rows l) q hq)

  -- a qubit that is not used is another one
  other : (a : ℕ) → bit u.used a ≡ false → q ≢ a
  other a h e = true≢false (sym marked ∙ ap (bit u.used) e ∙ h)

  -- a list whose group still has it
  by-group : (rows : ℕ → Pauli) → Proper l.n rows
      → InGroup l.n l.n rows (single (image k X) q k.sx) → Stays u (reduced l.n rows) q
  by-group rows G h =
      (kept-graph l.n rows G q hq k h, kept-code l.n rows G q hq k h low.0 ∙ low.1)

gate-still : (u : UsedRecord) (a c : ℕ) → UsedPasses u (gate_with a c) → (q : ℕ) → bit u.used q ≡ true
    → Stays u (made u.held (gate_with a c)) q
gate-still u a c P q m =
    let o = gate_with a c in
    let new = gated (held_record u.held) a (clifford_of c) in
    let rows = rows_of u.held.n new in
    by-group u o P q m rows (gate-proper u.held a c (A u o P q m))
    (subst (InGroup u.held.n u.held.n rows)
    (alone-row u.held.n new (A u o P q m).simple q (hq u o P q m) (out u o P q m)
    ∙ ap (λ d. single (image d X) q d.sx)
    (put_other (held_record u.held).codes a _ q (other u o P q m a P.none_named)))
    (in_row u.held.n u.held.n rows q (hq u o P q m)))

cz-still : (u : UsedRecord) (a b : ℕ) → UsedPasses u (cz_on a b) → (q : ℕ) → bit u.used q ≡ true
    → Stays u (made u.held (cz_on a b)) q
cz-still u a b P q m =
    let o = cz_on a b in
    let k = clifford_of (get_or u.held.codes q 0) in
    let rows = cz_rows a b (held_rows u.held) in
    let free = neither (bit u.used a) (bit u.used b) P.none_named in
    by-group u o P q m rows (cz-list u.held a b P.as_before)
    (subst (InGroup u.held.n u.held.n rows)
    (ap (cz a b) (own_row u o P q m)
    ∙ cz-single a b q (image k X) k.sx (other u o P q m a free.0) (other u o P q m b free.1))
    (in_row u.held.n u.held.n rows q (hq u o P q m)))

measure-still : (u : UsedRecord) (pauli a b : ℕ) → UsedPasses u (measurement_of pauli a b) → (q : ℕ)
    → bit u.used q ≡ true → Stays u (made u.held (measurement_of pauli a b)) q
measure-still u pauli a b P q m =
    let o = measurement_of pauli a b in
    let k = clifford_of (get_or u.held.codes q 0) in
    by-group u o P q m _ (measured-list u.held pauli a b P.as_before)
    (measured-single u.held.n (held_rows u.held) (A u o P q m).proper (pauli_letter pauli) a
    (measure-arguments u.held pauli a b P.as_before).below (is_odd b) q (image k X) k.sx
    (other u o P q m a P.none_named) (own u o P q m))

pub stays-made : (u : UsedRecord) (o : Operation) → UsedPasses u o → (q : ℕ) → bit u.used q ≡ true
    → Stays u (made u.held o) q
stays-made u (gate_with a c) P q m = gate-still u a c P q m
stays-made u (cz_on a b) P q m = cz-still u a b P q m
stays-made u (measurement_of pauli a b) P q m = measure-still u pauli a b P q m
stays-made u (complement_of a) P q m =
    let c = complement-alone (held_record u.held) a q (other u (complement_of a) P q m a P.none_named)
    (alone u (complement_of a) P q m) in
    (c.0.out, ap code_of c.1 ∙ (low u (complement_of a) P q m).1)
stays-made u (pivot_of i j) P q m =
    let free = neither (bit u.used i) (bit u.used j) P.none_named in
    let qi = other u (pivot_of i j) P q m i free.0 in
    let qj = other u (pivot_of i j) P q m j free.1 in
    let c = complement-alone (held_record u.held) i q qi (alone u (pivot_of i j) P q m) in
    let d = complement-alone (complement_record (held_record u.held) i) j q qj c.0 in
    let e = complement-alone (complement_record (complement_record (held_record u.held) i) j) i q qi d.0 in
    (e.0.out, ap code_of (e.1 ∙ d.1 ∙ c.1) ∙ (low u (pivot_of i j) P q m).1)

-- the buffers after an accepted call
pub stays_after : (u : UsedRecord) (o : Operation) → UsedPasses u o → UsedStay u (leaves u.held o)
stays_after u o P =
    record {
      word = λ q m. ap (λ t. get_or t.neighbours q 0) (after-made u.held o P.as_before)
          ∙ word-alone u.held.n (made u.held o) q (hq u o P q m) (stays-made u o P q m).0;
      code = λ q m. ap (λ t. get_or t.codes q 0) (after-made u.held o P.as_before)
          ∙ code-written u.held.n (made u.held o) q (hq u o P q m) ∙ (stays-made u o P q m).1;
    }
