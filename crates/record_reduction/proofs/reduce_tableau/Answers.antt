-- `reduce_tableau` meets its contract: the reduced record of the tableau's group, where its rows are independent: then
-- it is written, and the answer is true.
use mathlib.Core.Bool.{◌&&◌, beq, false, not, true}
use mathlib.Core.List.{List, [], ◌∷◌}
use mathlib.Core.Path.{◌∙◌, ◌≡◌, ap, ap₂, fun_ext, refl, subst, sym}
use Prim.Native.Nat.{◌+◌, ◌-◌, ◌/◌, ◌<◌, ◌^◌, ◌≤◌, zero-le, ℕ}
use native.Mathlib.Nat.{le_refl, lt_irrefl, lt_of_lt_of_le}
use native.Mathlib.Numerals.{add-one}
use native.Mathlib.Omega.{arith}
use lib.Bits.{and_mask, bit_and, bit_xor, mask_lt}
use lib.Count.{ones, count_trailing_zeros}
use lib.Dec.{eqb, ltb}
use lib.ListN.{get_or, length, set}
use borrow.Author.Tests.{not-true}
use Rattle.pauli.proofs.PhaseLaws.{minus-real}
use Rattle.pauli.specs.Pauli.{Pauli, anticommute}
use Rattle.record.specs.Lent.{code_numbers, neighbour_words}
use Rattle.record.specs.Reduced.{reduced}
use Rattle.record_reduction.proofs.Passing.{column-pivoted, column-skipped, eliminated-at, eliminated-loaded, free-row, pivot-ready, same-state}
use Rattle.record_reduction.proofs.Pivoting.{cleared, cleared-commutes, far-row, from_end, from-small, from_start, from_step, lent-already, lent-commutes, lent-now, pivot-not-named}
use Rattle.record_reduction.proofs.Relating.{paired-end, paired-step, related-loaded}
use Rattle.record_reduction.proofs.Rotating.{rotate-end, rotate-step}
use Rattle.record_reduction.specs.internal.Passes.{Eliminated, Loaded, PivotReady}
use Rattle.record_reduction.specs.internal.Passes.Eliminated.{pivoted, start}
use Rattle.record_reduction.proofs.Shearing.{alone-commutes, alone-long, alone-sheared, laid_on, next-commutes, next_row, shear-end, shear-start, shear-step, sign-end, sign_kept, sign-step, without_sign}
use Rattle.record_reduction.specs.internal.Relative.{half_y, relative, relative_row}
use Rattle.stabilizer.specs.Elimination.{shear}
use Rattle.stabilizer.specs.Lists.{dependent}
use Rattle.stabilizer.specs.internal.Elimination.{lend, pivot_on}
use Rattle.stabilizer.specs.internal.Tableau.{tableau}
use Rattle.words.proofs.BitLaws.{bit-xor, digit-odd, flip-less, zero_bit}
use Rattle.words.proofs.Finite.{bits}
use Rattle.words.proofs.Places.{put_other}
use Rattle.words.specs.Bits.{Word, bit, digit, is_odd, ◌⊕◌}
use Rattle.record_reduction.proofs.Rounds.{Both, Stage, both-complete, both-left-over, end-record, end-within, first_round, second-round, stage-loaded, stage-turned}
use Rattle.record_reduction.proofs.reduce_tableau.Lts as lts
use Rattle.record_reduction.proofs.reduce_tableau.Reads as reads
use Rattle.record_reduction.proofs.reduce_tableau.Tie as tie
use Rattle.record_reduction.proofs.reduce_tableau.Goals as goal
use Rattle.record_reduction.proofs.reduce_tableau.Goals.{else-not-has, else-not-has-2, else-round-eq0, then-not-has+else-loop-j-test+else-free-ne0, then-not-has+else-loop-j-test+then-free-ne0+else-loop-rest-test, then-not-has-2, then-round-eq0+else-loop-i-test}

-- where the lemmas below stand
abbrev Start : Type 0
Start = lts.Start tie.the-claims reads.Pre reads.Post goal.the-invariant-loop-k goal.the-decreases-loop-k goal.the-invariant-loop-j goal.the-decreases-loop-j goal.the-invariant-loop-rest goal.the-decreases-loop-rest goal.the-invariant-loop-q goal.the-decreases-loop-q goal.the-invariant-loop-i goal.the-decreases-loop-i goal.the-invariant-loop-round goal.the-decreases-loop-round tie.handed_clauses

-- a bit by shift and mask
low_bit : (w q : ℕ) → bit_and (w / 2 ^ q) 1 ≡ digit (bit w q)
unfolding bit
low_bit w q = and_mask (w / 2 ^ q) 1 ∙ sym (digit-odd (w / 2 ^ q))

-- ---- the places of the code that laws are about
abbrev AtLoop2 : Type 0
AtLoop2 = lts.At-loop2 tie.the-claims reads.Pre reads.Post goal.the-invariant-loop-k goal.the-decreases-loop-k goal.the-invariant-loop-j goal.the-decreases-loop-j goal.the-invariant-loop-rest goal.the-decreases-loop-rest goal.the-invariant-loop-q goal.the-decreases-loop-q goal.the-invariant-loop-i goal.the-decreases-loop-i goal.the-invariant-loop-round goal.the-decreases-loop-round tie.handed_clauses

abbrev InLoop2 : Type 0
InLoop2 = lts.In-loop2 tie.the-claims reads.Pre reads.Post goal.the-invariant-loop-k goal.the-decreases-loop-k goal.the-invariant-loop-j goal.the-decreases-loop-j goal.the-invariant-loop-rest goal.the-decreases-loop-rest goal.the-invariant-loop-q goal.the-decreases-loop-q goal.the-invariant-loop-i goal.the-decreases-loop-i goal.the-invariant-loop-round goal.the-decreases-loop-round tie.handed_clauses

abbrev InLoop3 : Type 0
InLoop3 = lts.In-loop3 tie.the-claims reads.Pre reads.Post goal.the-invariant-loop-k goal.the-decreases-loop-k goal.the-invariant-loop-j goal.the-decreases-loop-j goal.the-invariant-loop-rest goal.the-decreases-loop-rest goal.the-invariant-loop-q goal.the-decreases-loop-q goal.the-invariant-loop-i goal.the-decreases-loop-i goal.the-invariant-loop-round goal.the-decreases-loop-round tie.handed_clauses

abbrev AfterLoop4 : Type 0
AfterLoop4 = lts.After-loop4 tie.the-claims reads.Pre reads.Post goal.the-invariant-loop-k goal.the-decreases-loop-k goal.the-invariant-loop-j goal.the-decreases-loop-j goal.the-invariant-loop-rest goal.the-decreases-loop-rest goal.the-invariant-loop-q goal.the-decreases-loop-q goal.the-invariant-loop-i goal.the-decreases-loop-i goal.the-invariant-loop-round goal.the-decreases-loop-round tie.handed_clauses

abbrev Then2 : Type 0
Then2 = lts.Then2 tie.the-claims reads.Pre reads.Post goal.the-invariant-loop-k goal.the-decreases-loop-k goal.the-invariant-loop-j goal.the-decreases-loop-j goal.the-invariant-loop-rest goal.the-decreases-loop-rest goal.the-invariant-loop-q goal.the-decreases-loop-q goal.the-invariant-loop-i goal.the-decreases-loop-i goal.the-invariant-loop-round goal.the-decreases-loop-round tie.handed_clauses

abbrev AfterSmallest : Type 0
AfterSmallest = lts.After-smallest tie.the-claims reads.Pre reads.Post goal.the-invariant-loop-k goal.the-decreases-loop-k goal.the-invariant-loop-j goal.the-decreases-loop-j goal.the-invariant-loop-rest goal.the-decreases-loop-rest goal.the-invariant-loop-q goal.the-decreases-loop-q goal.the-invariant-loop-i goal.the-decreases-loop-i goal.the-invariant-loop-round goal.the-decreases-loop-round tie.handed_clauses

abbrev Then3 : Type 0
Then3 = lts.Then3 tie.the-claims reads.Pre reads.Post goal.the-invariant-loop-k goal.the-decreases-loop-k goal.the-invariant-loop-j goal.the-decreases-loop-j goal.the-invariant-loop-rest goal.the-decreases-loop-rest goal.the-invariant-loop-q goal.the-decreases-loop-q goal.the-invariant-loop-i goal.the-decreases-loop-i goal.the-invariant-loop-round goal.the-decreases-loop-round tie.handed_clauses

abbrev AfterFlipWhere2 : Type 0
AfterFlipWhere2 = lts.After-flip_where2 tie.the-claims reads.Pre reads.Post goal.the-invariant-loop-k goal.the-decreases-loop-k goal.the-invariant-loop-j goal.the-decreases-loop-j goal.the-invariant-loop-rest goal.the-decreases-loop-rest goal.the-invariant-loop-q goal.the-decreases-loop-q goal.the-invariant-loop-i goal.the-decreases-loop-i goal.the-invariant-loop-round goal.the-decreases-loop-round tie.handed_clauses

abbrev Joined3 : Type 0
Joined3 = lts.Joined3 tie.the-claims reads.Pre reads.Post goal.the-invariant-loop-k goal.the-decreases-loop-k goal.the-invariant-loop-j goal.the-decreases-loop-j goal.the-invariant-loop-rest goal.the-decreases-loop-rest goal.the-invariant-loop-q goal.the-decreases-loop-q goal.the-invariant-loop-i goal.the-decreases-loop-i goal.the-invariant-loop-round goal.the-decreases-loop-round tie.handed_clauses

abbrev AfterPutBit : Type 0
AfterPutBit = lts.After-put_bit tie.the-claims reads.Pre reads.Post goal.the-invariant-loop-k goal.the-decreases-loop-k goal.the-invariant-loop-j goal.the-decreases-loop-j goal.the-invariant-loop-rest goal.the-decreases-loop-rest goal.the-invariant-loop-q goal.the-decreases-loop-q goal.the-invariant-loop-i goal.the-decreases-loop-i goal.the-invariant-loop-round goal.the-decreases-loop-round tie.handed_clauses

abbrev AfterRowKnown : Type 0
AfterRowKnown = lts.After-row_known tie.the-claims reads.Pre reads.Post goal.the-invariant-loop-k goal.the-decreases-loop-k goal.the-invariant-loop-j goal.the-decreases-loop-j goal.the-invariant-loop-rest goal.the-decreases-loop-rest goal.the-invariant-loop-q goal.the-decreases-loop-q goal.the-invariant-loop-i goal.the-decreases-loop-i goal.the-invariant-loop-round goal.the-decreases-loop-round tie.handed_clauses

abbrev AfterSmallest2 : Type 0
AfterSmallest2 = lts.After-smallest2 tie.the-claims reads.Pre reads.Post goal.the-invariant-loop-k goal.the-decreases-loop-k goal.the-invariant-loop-j goal.the-decreases-loop-j goal.the-invariant-loop-rest goal.the-decreases-loop-rest goal.the-invariant-loop-q goal.the-decreases-loop-q goal.the-invariant-loop-i goal.the-decreases-loop-i goal.the-invariant-loop-round goal.the-decreases-loop-round tie.handed_clauses

abbrev AfterWithoutSmallest : Type 0
AfterWithoutSmallest = lts.After-without_smallest tie.the-claims reads.Pre reads.Post goal.the-invariant-loop-k goal.the-decreases-loop-k goal.the-invariant-loop-j goal.the-decreases-loop-j goal.the-invariant-loop-rest goal.the-decreases-loop-rest goal.the-invariant-loop-q goal.the-decreases-loop-q goal.the-invariant-loop-i goal.the-decreases-loop-i goal.the-invariant-loop-round goal.the-decreases-loop-round tie.handed_clauses

abbrev AfterLoop5 : Type 0
AfterLoop5 = lts.After-loop5 tie.the-claims reads.Pre reads.Post goal.the-invariant-loop-k goal.the-decreases-loop-k goal.the-invariant-loop-j goal.the-decreases-loop-j goal.the-invariant-loop-rest goal.the-decreases-loop-rest goal.the-invariant-loop-q goal.the-decreases-loop-q goal.the-invariant-loop-i goal.the-decreases-loop-i goal.the-invariant-loop-round goal.the-decreases-loop-round tie.handed_clauses

abbrev AfterLoop3 : Type 0
AfterLoop3 = lts.After-loop3 tie.the-claims reads.Pre reads.Post goal.the-invariant-loop-k goal.the-decreases-loop-k goal.the-invariant-loop-j goal.the-decreases-loop-j goal.the-invariant-loop-rest goal.the-decreases-loop-rest goal.the-invariant-loop-q goal.the-decreases-loop-q goal.the-invariant-loop-i goal.the-decreases-loop-i goal.the-invariant-loop-round goal.the-decreases-loop-round tie.handed_clauses

abbrev Then4 : Type 0
Then4 = lts.Then4 tie.the-claims reads.Pre reads.Post goal.the-invariant-loop-k goal.the-decreases-loop-k goal.the-invariant-loop-j goal.the-decreases-loop-j goal.the-invariant-loop-rest goal.the-decreases-loop-rest goal.the-invariant-loop-q goal.the-decreases-loop-q goal.the-invariant-loop-i goal.the-decreases-loop-i goal.the-invariant-loop-round goal.the-decreases-loop-round tie.handed_clauses

abbrev AfterLoop2 : Type 0
AfterLoop2 = lts.After-loop2 tie.the-claims reads.Pre reads.Post goal.the-invariant-loop-k goal.the-decreases-loop-k goal.the-invariant-loop-j goal.the-decreases-loop-j goal.the-invariant-loop-rest goal.the-decreases-loop-rest goal.the-invariant-loop-q goal.the-decreases-loop-q goal.the-invariant-loop-i goal.the-decreases-loop-i goal.the-invariant-loop-round goal.the-decreases-loop-round tie.handed_clauses

-- ---- places and what they have
abbrev start-2 : AtLoop2 → Start
start-2 c = c.before.before.before.before.before.before

abbrev start-3 : InLoop3 → Start
start-3 c = start-2 c.before.before.before

-- the column's turn
abbrev turn-4 : AfterLoop4 → InLoop3
turn-4 c = c.before.before.before.before

abbrev turn : Then2 → InLoop3
turn c = turn-4 c.before

-- the rows at its start, the rows with the bit that are free
abbrev rows_in : InLoop3 → ℕ → Pauli
rows_in c = relative (bit c.loop-q.signs) c.loop-q.rows

abbrev free_in : Then2 → ℕ
free_in c = bit_xor c.loop-j.holders (bit_and c.loop-j.holders (turn c).loop-q.pivots)

-- the rows after row q was lent the bit, by the first of them
abbrev lent-in : Then2 → ℕ → Pauli
lent-in c =
    shear 64 (rows_in (turn c)) (count_trailing_zeros 64 (free_in c))
    (lend (rows_in (turn c)) (turn c).loop-q.q)

-- the array with the row that was lent a bit
abbrev rows-lent : AfterFlipWhere2 → List (List ℕ)
rows-lent c =
    let L = (turn c.before.before.before.before.before.before.before.before.before.before.before).loop-q in
    set L.rows L.q (bit_xor (get_or (get_or L.rows L.q []) 0 0)
    (get_or (get_or L.rows c.smallest-i.result []) 0 0)
    ∷ bit_xor (get_or (get_or L.rows L.q []) 1 0) (get_or (get_or L.rows c.smallest-i.result []) 1 0) ∷ [])

-- before row q is multiplied into others: its number, the signs with its own laid on, and without
abbrev column-laid : AfterRowKnown → ℕ
column-laid c = (turn c.before.before.before.before.before.before.before.before).loop-q.q

abbrev signs-laid : AfterRowKnown → ℕ
signs-laid c = bit_xor c.if-not-has-2.signs c.where_true-signs.result

abbrev signs-before : AfterRowKnown → Word
signs-before c =
    without_sign (signs-laid c) (bit (signs-laid c) (column-laid c))
    c.put_bit-rest.result

pub loop-k-preserved : goal.loop-k-preserved
loop-k-preserved c =
    let L = c.loop-k in
    paired-step c.args.rows c.args.signs c.args.n L.signs L.k L.invariant c.loop-k-test.true
    c.odd_pairs.ensures c.flip_where-signs.ensures

related : (c : AtLoop2) (j : ℕ)
    → relative (bit c.loop-k.signs) (start-2 c).args.rows j
    ≡ tableau (start-2 c).args.signs (start-2 c).args.rows j
related c =
    let S = (start-2 c) in
    let L = c.loop-k in
    paired-end S.args.rows S.args.signs S.args.n L.signs L.k L.invariant c.loop-k-test.false
    S.requires.loaded

loaded : (c : AtLoop2) → Loaded (start-2 c).args.n (relative (bit c.loop-k.signs) (start-2 c).args.rows)
loaded c = related-loaded (start-2 c).args.n (related c) (start-2 c).requires.loaded

loaded2 : (c : InLoop2) → Loaded (start-2 c.before).args.n (relative (bit c.loop-round.signs)
    c.loop-round.rows)
loaded2 c =
    let A = c.before in
    let S = start-2 A in
    let L = A.loop-round in
    stage-loaded S.args.n S.requires.le_n.1 A.mask-all.result A.mask-all.ensures
    (relative (bit A.loop-k.signs) S.args.rows) (loaded A) (relative (bit L.signs) L.rows) L.pivots
    L.hadamards
    L.round L.invariant.0 c.loop-round-test.true

-- ---- a pass
pub loop-q-init : goal.loop-q-init
loop-q-init c = (zero-le, c.loop-round.invariant.1, start)

loaded3 : (c : InLoop3) → Loaded (start-3 c).args.n (relative (bit c.loop-q.signs)
    c.loop-q.rows)
loaded3 c =
    let I = c.before.before in
    eliminated-loaded (start-3 c).args.n (start-3 c).requires.le_n.1 (loaded2 I) c.loop-q.invariant.2

column : (c : InLoop3) → c.loop-q.q < 64
column c = lt_of_lt_of_le c.loop-q-test.true (start-3 c).requires.le_n.1

-- the rows with the x bit
pub loop-j-init : goal.loop-j-init
loop-j-init c =
    let I = c.before.before.before in
    let S = (start-3 I) in
    let L = I.loop-q in
    (le_refl S.args.n, from_start S.args.n (λ i. bit (get_or (get_or L.rows i []) 1 0) L.q))

pub overflow_mul-holders : goal.overflow_mul-holders
overflow_mul-holders c =
    let L = c.loop-j in
    let C = c.before.before.before.before.before.before in
    let S = (start-3 C) in
    omega (arith, from-small S.args.n _ L.holders L.j L.invariant.1 c.loop-j-test.true S.requires.le_n.1)

pub overflow_add-holders : goal.overflow_add-holders
overflow_add-holders c =
    let L = c.loop-j in
    let C = c.before.before.before.before.before.before in
    let S = (start-3 C) in
    omega (
      arith,
      from-small S.args.n _ L.holders L.j L.invariant.1 c.loop-j-test.true S.requires.le_n.1,
      mask_lt (get_or (get_or C.loop-q.rows (L.j - 1) []) 1 0 / 2 ^ C.loop-q.q) 1,
    )

pub loop-j-preserved : goal.loop-j-preserved
loop-j-preserved c =
    let L = c.loop-j in
    let C = c.before.before.before.before.before.before in
    let S = (start-3 C) in
    let q = C.loop-q.q in (
      omega arith,
      from_step S.args.n (λ i. bit (get_or (get_or C.loop-q.rows i []) 1 0) q) L.holders L.j
          L.invariant.1
          c.loop-j-test.true _ (low_bit _ q),
    )

holders : (c : AfterLoop4) (j : ℕ) → bit c.loop-j.holders j
    ≡ (ltb j (start-3 (turn-4 c)).args.n && bit (get_or (get_or (turn-4 c).loop-q.rows j []) 1 0) (turn-4 c).loop-q.q)
holders c =
    let C = (turn-4 c) in
    let L = c.loop-j in
    from_end (start-3 C).args.n (λ i. bit (get_or (get_or C.loop-q.rows i []) 1 0) C.loop-q.q)
    L.holders L.j
    L.invariant.1 (omega (arith, c.loop-j-test.false))

-- row i, free, may lend its bit
ready : (c : Then2) (i : ℕ) → i ≡ count_trailing_zeros 64 (free_in c)
    → PivotReady (rows_in (turn c)) (turn c).loop-q.q i c.loop-j.holders
ready c i e =
    let C = (turn c) in
    let S = (start-3 C) in
    let L = C.loop-q in
    pivot-ready S.args.n L.q S.requires.le_n.1 C.loop-q-test.true (rows_in C) (loaded3 C)
    c.loop-j.holders
    L.pivots _ (holders c.before) refl i
    (free-row S.args.n L.q S.requires.le_n.1 C.loop-q-test.true (rows_in C) (loaded3 C)
    c.loop-j.holders
    L.pivots _ (holders c.before) refl c.if-free-ne0.true i e)
    (λ j. minus-real (bit L.signs j ⊕ half_y (get_or (get_or L.rows j []) 0 0) (get_or (get_or L.rows j []) 1 0)))

lender : (c : AfterSmallest) → c.smallest-i.result < 64
lender c = (ready c.before.before.before c.smallest-i.result c.smallest-i.ensures.0).lender

pub bounds-rows-i : goal.bounds-rows-i
bounds-rows-i c = omega (arith, lender c.before)

pub bounds-rows-i-then-not-has-2 : goal.bounds-rows-i-then-not-has-2
bounds-rows-i-then-not-has-2 c = omega (arith, lender c.before.before)

pub has-requires-then-not-has-2 : goal.has-requires-then-not-has-2
has-requires-then-not-has-2 c = lender c.before.before.before.before.before.before.before

lacks : (c : Then3) → bit c.loop-j.holders
    (turn c.before.before).loop-q.q ≡
    false
lacks c = sym c.has-then-free-ne0.ensures ∙ not-true _ c.if-not-has-2.true-raw

lending : (c : AfterSmallest) (k : ℕ) → bit (2 ^ (turn c.before.before.before).loop-q.q) k ≡ true
    → anticommute 64 ((rows_in (turn c.before.before.before)) k) ((rows_in (turn c.before.before.before))
    c.smallest-i.result) ≡ false
lending c =
    let D = c.before.before.before in
    let C = (turn D) in
    lent-commutes (rows_in C) C.loop-q.q c.smallest-i.result D.loop-j.holders
    (ready D c.smallest-i.result c.smallest-i.ensures.0) (lacks c.before) (2 ^ C.loop-q.q) refl

pub minus_word-requires : goal.minus_word-requires
minus_word-requires c =
    let M = c.before.before.before.before.before in
    let C = (turn M.before.before.before) in
    let L = C.loop-q in
    alone-commutes L.rows L.signs M.smallest-i.result L.q L.invariant.1 (column C) (lending M)

-- row q with the bit that it was lent
lent-long : (c : AfterFlipWhere2) → length (rows-lent c) ≡ 64
lent-long c =
    let M = c.before.before.before.before.before.before.before.before in
    let C = (turn M.before.before.before) in
    let L = C.loop-q in
    alone-long L.rows L.signs M.smallest-i.result L.q L.invariant.1 (column C) (lending M) _
    c.flip_where-signs-then-not-has-2.result c.has-then-not-has-2.result (is_odd (ones c.minus_word.result)) c.has-then-not-has-2.ensures
    c.minus_word.ensures
    refl (λ k. c.flip_where-signs-then-not-has-2.ensures k
    ∙ ap (λ v. bit L.signs k ⊕ (eqb k L.q && not (beq c.has-then-not-has-2.result v))) c.odd-minus.ensures)

lent_row : (c : AfterFlipWhere2) (j : ℕ)
    → relative (bit c.flip_where-signs-then-not-has-2.result) (rows-lent c) j
    ≡ (lent-in c.before.before.before.before.before.before.before.before.before.before.before) j
lent_row c j =
    let M = c.before.before.before.before.before.before.before.before in
    let C = (turn M.before.before.before) in
    let L = C.loop-q in
    alone-sheared L.rows L.signs M.smallest-i.result L.q L.invariant.1 (column C) (lending M) _
    c.flip_where-signs-then-not-has-2.result c.has-then-not-has-2.result (is_odd (ones c.minus_word.result)) c.has-then-not-has-2.ensures
    c.minus_word.ensures
    refl (λ k. c.flip_where-signs-then-not-has-2.ensures k
    ∙ ap (λ v. bit L.signs k ⊕ (eqb k L.q && not (beq c.has-then-not-has-2.result v))) c.odd-minus.ensures) j
    ∙ lent-now (rows_in C) L.q M.smallest-i.result M.loop-j.holders
    (ready M.before.before.before M.smallest-i.result M.smallest-i.ensures.0) (lacks M.before) (2 ^ L.q)
    refl
    j
    ∙ ap (λ v. shear 64 (rows_in C) v (lend (rows_in C) L.q) j) M.smallest-i.ensures.0

-- where the arms meet: row q has the bit, lent or its own
long : (c : Joined3) → length c.if-not-has-2.rows ≡ 64
long c =
    elim c.if-not-has-2.branch [
      | then-not-has-2 w ↦ ap length w.rows-is ∙ lent-long (record {
        before = record {
          before =
              record {
                before = record {
                  before = record {
                    before = record {
                      before = record {
                        before =
                            record {
                              before = record {
                                before = record { before = c.before; if-not-has-2 = w.if-not-has-2 };
                                smallest-i = w.smallest-i;
                              };
                              z2-1 = w.z2-1;
                            };
                        x2-1 = w.x2-1;
                      };
                      z-then-not-has-2-1 = w.z-then-not-has-2-1;
                    };
                    x-then-not-has-2-1 = w.x-then-not-has-2-1;
                  };
                  minus_word = w.minus_word;
                };
                odd-minus = w.odd-minus;
              };
          has-then-not-has-2 = w.has-then-not-has-2;
        };
        flip_where-signs-then-not-has-2 = w.flip_where-signs-then-not-has-2;
      })
      | else-not-has-2 w ↦ ap length w.rows-is ∙ (turn c.before.before).loop-q.invariant.1
    ]

lent : (c : Joined3) (j : ℕ) → relative (bit c.if-not-has-2.signs) c.if-not-has-2.rows j
    ≡ (lent-in c.before.before) j
lent c j =
    let D = c.before.before in
    let C = (turn D) in
    elim c.if-not-has-2.branch [
      | then-not-has-2 w ↦ ap₂ (λ m v. relative (bit m) v j) w.signs-is w.rows-is ∙ lent_row (record {
        before =
            record {
              before = record {
                before = record {
                  before = record {
                    before = record {
                      before =
                          record {
                            before = record {
                              before = record {
                                before = record {
                                  before = c.before;
                                  if-not-has-2 = w.if-not-has-2;
                                };
                                smallest-i = w.smallest-i;
                              };
                              z2-1 = w.z2-1;
                            };
                            x2-1 = w.x2-1;
                          };
                      z-then-not-has-2-1 = w.z-then-not-has-2-1;
                    };
                    x-then-not-has-2-1 = w.x-then-not-has-2-1;
                  };
                  minus_word = w.minus_word;
                };
                odd-minus = w.odd-minus;
              };
              has-then-not-has-2 = w.has-then-not-has-2;
            };
        flip_where-signs-then-not-has-2 = w.flip_where-signs-then-not-has-2;
      })
          j
      | else-not-has-2 w ↦ ap₂ (λ m v. relative (bit m) v j) w.signs-is w.rows-is
          ∙ lent-already (rows_in C) C.loop-q.q (count_trailing_zeros 64 (free_in D)) D.loop-j.holders
          (ready D _ refl) (sym c.has-then-free-ne0.ensures ∙ w.if-not-has-2.false) j
    ]

not_named : (c : AfterPutBit) → bit c.put_bit-rest.result (turn c.before.before.before.before.before).loop-q.q
    ≡
    false
not_named c =
    let J = c.before.before.before in
    let D = J.before.before in
    let C = (turn D) in
    pivot-not-named (rows_in C) C.loop-q.q (count_trailing_zeros 64 (free_in D)) D.loop-j.holders
    (ready D _ refl) _ (lent J) c.put_bit-rest.result c.put_bit-rest.ensures

-- the sign of row q is the one that is laid on the rows named
same_sign : (c : AfterRowKnown) → c.has-then-free-ne0-2.result ≡ bit (signs-laid c) (column-laid c)
same_sign c =
    let P = c.before.before.before in
    c.has-then-free-ne0-2.ensures
    ∙ sym (bit-xor _ c.where_true-signs.result (column-laid c)
    ∙ ap (λ v. bit P.if-not-has-2.signs (column-laid c) ⊕ v)
    (c.where_true-signs.ensures (column-laid c) ∙ ap (λ v. c.has-then-free-ne0-2.result && v) (not_named P))
    ∙ bits 2 (λ u v. u ⊕ (v && false)) (λ u v. u) tt (bit P.if-not-has-2.signs (column-laid c))
    c.has-then-free-ne0-2.result)

lent_laid : (c : AfterRowKnown) (j : ℕ) → relative (signs-before c)
    c.if-not-has-2.rows j
    ≡ (lent-in c.before.before.before.before.before.before.before.before) j
lent_laid c j =
    let J = c.before.before.before.before.before.before in
    ap (λ b. relative_row b (get_or J.if-not-has-2.rows j []))
    (laid_on J.if-not-has-2.signs (signs-laid c) c.put_bit-rest.result c.where_true-signs.result (bit (signs-laid c)
    (column-laid c))
    (λ k. c.where_true-signs.ensures k ∙ ap (λ v. v && bit c.put_bit-rest.result k) (same_sign c)) refl j)
    ∙ lent J j

commutes : (c : AfterRowKnown) (j : ℕ) → bit c.put_bit-rest.result j ≡ true
    → anticommute 64 (relative (signs-before c) c.if-not-has-2.rows j) (relative
    (signs-before c) c.if-not-has-2.rows (column-laid c)) ≡ false
commutes c =
    let D = c.before.before.before.before.before.before.before.before in
    let C = (turn D) in
    cleared-commutes (rows_in C) C.loop-q.q (count_trailing_zeros 64 (free_in D))
    D.loop-j.holders
    (ready D _ refl) _ (lent_laid c) c.put_bit-rest.result c.put_bit-rest.ensures
    (far-row C.loop-q.rows (bit C.loop-q.signs) C.loop-q.q C.loop-q.invariant.1)

named-far : (c : AfterRowKnown) (t : ℕ) → 64 ≤ t → bit c.put_bit-rest.result t ≡ false
named-far c t l =
    let D = c.before.before.before.before.before.before.before.before in
    let C = (turn D) in
    c.put_bit-rest.ensures t
    ∙ put_other (bit D.loop-j.holders) C.loop-q.q false t
    (λ p. lt_irrefl 64 (omega (arith, column C, l, p)))
    ∙ (ready D _ refl).holds t
    ∙ far-row C.loop-q.rows (bit C.loop-q.signs) C.loop-q.q C.loop-q.invariant.1
    t l

-- ---- row q multiplied into the rows named
pub loop-rest-init : goal.loop-rest-init
loop-rest-init c =
    let J = c.before.before.before.before.before.before.before in
    shear-start J.if-not-has-2.rows (signs-before c.before) (column-laid c.before) c.put_bit-rest.result (long J)

next : (c : AfterSmallest2) → (c.smallest-i-in-loop-rest.result < 64) × (bit c.loop-rest.rest c.smallest-i-in-loop-rest.result
    ≡
    true)
next c =
    let L = c.loop-rest in
    let K = c.before.before.before in
    next_row K.if-not-has-2.rows (signs-before K) (column-laid K) K.put_bit-rest.result L.rows
    (without_sign L.signs (bit (signs-laid K) (column-laid K)) L.rest) L.rest L.invariant (named-far K)
    c.loop-rest-test.true
    c.smallest-i-in-loop-rest.ensures.0

pub bounds-rows-i-in-loop-rest : goal.bounds-rows-i-in-loop-rest
bounds-rows-i-in-loop-rest c = omega (arith, (next c.before).0)

pub minus_word-minus-requires : goal.minus_word-minus-requires
minus_word-minus-requires c =
    let N = c.before.before.before in
    let L = N.loop-rest in
    let K = N.before.before.before in
    next-commutes K.if-not-has-2.rows (signs-before K) (column-laid K) K.put_bit-rest.result L.rows
    (without_sign L.signs (bit (signs-laid K) (column-laid K)) L.rest) L.rest N.smallest-i-in-loop-rest.result L.invariant
    (next N).1 (next N).0
    (commutes K)

pub bounds-rows-i-in-loop-rest-2 : goal.bounds-rows-i-in-loop-rest-2
bounds-rows-i-in-loop-rest-2 c = omega (arith, (next c.before.before).0)

pub bounds-rows-i-in-loop-rest-3 : goal.bounds-rows-i-in-loop-rest-3
bounds-rows-i-in-loop-rest-3 c = omega (arith, (next c.before.before.before.before).0)

pub flip_odd-signs-requires : goal.flip_odd-signs-requires
flip_odd-signs-requires c = (next c.before.before.before.before).0

pub loop-rest-smaller : goal.loop-rest-smaller
loop-rest-smaller c =
    let N = c.before.before.before.before.before.before in
    let L = N.loop-rest in
    subst (λ v. v < L.rest) (sym c.without_smallest-rest.ensures)
    (flip-less L.rest _ (sym (ap (bit L.rest) N.smallest-i-in-loop-rest.ensures.0) ∙ (next N).1))

fewer : (c : AfterWithoutSmallest) → c.without_smallest-rest.result
    ≡ bit_xor c.loop-rest.rest (2 ^
    c.smallest-i-in-loop-rest.result)
fewer c =
    c.without_smallest-rest.ensures ∙ ap (λ k. bit_xor c.loop-rest.rest (2 ^ k))
    (sym c.smallest-i-in-loop-rest.ensures.0)

pub loop-rest-preserved : goal.loop-rest-preserved
loop-rest-preserved c =
    let N = c.before.before.before.before.before.before in
    let L = N.loop-rest in
    let K = N.before.before.before in
    let P = K.before.before.before in
    shear-step P.if-not-has-2.rows (signs-before K) (column-laid K) P.put_bit-rest.result L.rows
    (without_sign L.signs (bit (signs-laid K) (column-laid K)) L.rest) L.rest N.smallest-i-in-loop-rest.result L.invariant
    (next N).1 (next N).0
    (commutes K) _
    (without_sign c.flip_odd-signs.result (bit (signs-laid K) (column-laid K)) c.without_smallest-rest.result) _
    (is_odd (ones c.minus_word-minus.result)) c.minus_word-minus.ensures refl
    (sign-step L.signs c.flip_odd-signs.result L.rest c.without_smallest-rest.result N.smallest-i-in-loop-rest.result
    (bit (signs-laid K) (column-laid K)) ((signs-before K) (column-laid K)) (is_odd (ones c.minus_word-minus.result))
    (sign_kept (signs-laid K) (column-laid K) P.put_bit-rest.result (bit (signs-laid K) (column-laid K)) (not_named P))
    c.flip_odd-signs.ensures (fewer c.before)) (fewer c.before)

-- column q has its pivot
pivot-done : (c : AfterLoop5) (j : ℕ) → relative (bit c.loop-rest.signs) c.loop-rest.rows j
    ≡ pivot_on 64 (rows_in (turn c.before.before.before.before.before.before.before.before.before.before)) (turn c.before.before.before.before.before.before.before.before.before.before).loop-q.q
    (count_trailing_zeros 64 (free_in c.before.before.before.before.before.before.before.before.before.before)) j
pivot-done c j =
    let L = c.loop-rest in
    let K = c.before.before in
    let D = K.before.before.before.before.before.before.before.before in
    let C = (turn D) in
    ap (λ b. relative_row b (get_or L.rows j [])) (sym (sign-end L.signs L.rest
    (bit (signs-laid K) (column-laid K))
    c.loop-rest-test.false j))
    ∙ shear-end K.if-not-has-2.rows (signs-before K) (column-laid K) K.put_bit-rest.result L.rows
    (without_sign L.signs (bit (signs-laid K) (column-laid K)) L.rest) L.rest L.invariant
    (λ k. ap (λ v. bit v k) c.loop-rest-test.false ∙ zero_bit k) j
    ∙ cleared (rows_in C) C.loop-q.q (count_trailing_zeros 64 (free_in D)) D.loop-j.holders
    (ready D _ refl) _ (lent_laid K) K.put_bit-rest.result K.put_bit-rest.ensures j

-- ---- the next column
pub loop-q-preserved : goal.loop-q-preserved
loop-q-preserved c =
    let C = c.before.before.before in
    let S = (start-3 C) in
    let L = C.loop-q in (
      omega arith,
      elim c.if-not-has.branch [
        | then-not-has+else-loop-j-test+then-free-ne0+else-loop-rest-test w ↦ ap length w.rows-is ∙ w.loop-rest.invariant.long
        | then-not-has+else-loop-j-test+else-free-ne0 w ↦ ap length w.rows-is ∙ L.invariant.1
        | else-not-has w ↦ ap length w.rows-is ∙ L.invariant.1
      ],
      eliminated-at (sym (add-one L.q))
          (elim c.if-not-has.branch [
            | then-not-has+else-loop-j-test+then-free-ne0+else-loop-rest-test w ↦ column-pivoted S.args.n L.q S.requires.le_n.1 C.loop-q-test.true (rows_in C) (loaded3 C)
                w.loop-j.holders
                L.pivots _ (holders (record {
                  before = record {
                    before = record { before = c.before.before; if-not-has = w.if-not-has };
                    loop-j = w.loop-j;
                  };
                  loop-j-test = w.loop-j-test;
                })) refl _
                (free-row S.args.n L.q S.requires.le_n.1 C.loop-q-test.true (rows_in C) (loaded3 C) w.loop-j.holders
                L.pivots _ (holders (record {
                  before = record {
                    before = record { before = c.before.before; if-not-has = w.if-not-has };
                    loop-j = w.loop-j;
                  };
                  loop-j-test = w.loop-j-test;
                })) refl w.if-free-ne0.true _ refl) _
                (λ j. ap₂ (λ m v. relative (bit m) v j) w.signs-is w.rows-is ∙ pivot-done (record {
                  before =
                      record {
                        before = record {
                          before = record {
                            before = record {
                              before = record {
                                before =
                                    record {
                                      before = record {
                                        before = record {
                                          before = record {
                                            before = record {
                                              before =
                                                  record {
                                                    before = record {
                                                      before = record {
                                                        before = c.before.before;
                                                        if-not-has = w.if-not-has;
                                                      };
                                                      loop-j = w.loop-j;
                                                    };
                                                    loop-j-test = w.loop-j-test;
                                                  };
                                              if-free-ne0 = w.if-free-ne0;
                                            };
                                            has-then-free-ne0 = w.has-then-free-ne0;
                                          };
                                          if-not-has-2 = w.if-not-has-2;
                                        };
                                        by_z-1 = w.by_z-1;
                                      };
                                      by_x-1 = w.by_x-1;
                                    };
                                put_bit-rest = w.put_bit-rest;
                              };
                              has-then-free-ne0-2 = w.has-then-free-ne0-2;
                            };
                            where_true-signs = w.where_true-signs;
                          };
                          row_known-1 = w.row_known-1;
                        };
                        loop-rest = w.loop-rest;
                      };
                  loop-rest-test = w.loop-rest-test;
                }) j) _
                (λ j. ap (λ v. bit v j) w.pivots-is ∙ w.put_bit-pivots.ensures j) _ _ L.invariant.2
            | then-not-has+else-loop-j-test+else-free-ne0 w ↦ same-state w.signs-is w.pivots-is w.rows-is
                (column-skipped S.args.n L.q S.requires.le_n.1 C.loop-q-test.true (rows_in C) (loaded3 C)
                w.loop-j.holders
                L.pivots _ (holders (record {
                  before = record {
                    before = record { before = c.before.before; if-not-has = w.if-not-has };
                    loop-j = w.loop-j;
                  };
                  loop-j-test = w.loop-j-test;
                })) refl w.if-free-ne0.false _ _ L.invariant.2)
            | else-not-has w ↦ same-state w.signs-is w.pivots-is w.rows-is
                (pivoted L.invariant.2 C.loop-q-test.true (sym c.has.ensures ∙ w.if-not-has.false))
          ]),
    )

-- ---- the Hadamards
passed : (c : AfterLoop3) → Eliminated (start-2 c.before.before.before).args.n (relative (bit
    c.loop-round.signs) c.loop-round.rows)
    (bit c.loop-round.pivots) (relative (bit c.loop-q.signs) c.loop-q.rows)
    (bit c.loop-q.pivots) (start-2 c.before.before.before).args.n
passed c =
    let L = c.loop-q in
    let done : L.q ≡ (start-2 c.before.before.before).args.n = omega (arith, L.invariant.0, c.loop-q-test.false) in
    eliminated-at done L.invariant.2

few : (c : Then4) → bit_xor c.mask-all.result
    c.loop-q.pivots < 2 ^ 64
few c =
    let A = c.before.before.before.before in
    let S = start-2 A in
    let L = A.loop-round in
    stage-turned S.args.n S.requires.le_n.1 A.mask-all.result A.mask-all.ensures
    (relative (bit A.loop-k.signs) S.args.rows) (loaded A) (relative (bit L.signs) L.rows) L.pivots
    L.hadamards
    L.round L.invariant.0 c.if-round-eq0.true _ c.loop-q.pivots (passed c.before)

pub loop-i-preserved : goal.loop-i-preserved
loop-i-preserved c =
    let L = c.loop-i in
    let F = c.before.before.before.before.before.before.before in
    let S = (start-2 F.before.before.before.before) in
    rotate-step F.loop-q.rows F.loop-q.signs S.args.n _ L.rows L.signs L.i L.invariant
    c.loop-i-test.true
    S.requires.le_n.1 (few F) _ _ _ c.odd-minus-in-loop-i.ensures refl c.flip_where-signs-in-loop-i.ensures

-- ---- the next round
pub loop-round-preserved : goal.loop-round-preserved
loop-round-preserved c =
    let A = c.before.before.before.before.before in
    let S = start-2 A in
    let L = A.loop-round in
    let P = c.loop-q in (
      elim c.if-round-eq0.branch [
        | then-round-eq0+else-loop-i-test w ↦ subst (λ h. Stage S.args.n A.mask-all.result (relative (bit A.loop-k.signs) S.args.rows)
            (relative (bit c.if-round-eq0.signs) c.if-round-eq0.rows) P.pivots h (L.round + 1)) (sym w.hadamards-is)
            (first_round S.args.n S.requires.le_n.1 A.mask-all.result A.mask-all.ensures
            (relative (bit A.loop-k.signs) S.args.rows) (loaded A) (relative (bit L.signs) L.rows) L.pivots
            L.hadamards
            L.round L.invariant.0 w.if-round-eq0.true (relative (bit P.signs) P.rows) P.pivots (passed c.before.before) _
            refl
            (relative (bit c.if-round-eq0.signs) c.if-round-eq0.rows)
            (λ j. ap₂ (λ m v. relative (bit m) v j) w.signs-is w.rows-is
            ∙ rotate-end P.rows P.signs S.args.n _ w.loop-i.rows w.loop-i.signs w.loop-i.i w.loop-i.invariant w.loop-i-test.false
            (eliminated-loaded S.args.n S.requires.le_n.1 (loaded2 c.before.before.before.before)
            (passed c.before.before)).beyond
            j))
        | else-round-eq0 w ↦ subst (λ h. Stage S.args.n A.mask-all.result (relative (bit A.loop-k.signs) S.args.rows)
            (relative (bit c.if-round-eq0.signs) c.if-round-eq0.rows) P.pivots h (L.round + 1)) (sym w.hadamards-is)
            (second-round S.args.n S.requires.le_n.1 A.mask-all.result A.mask-all.ensures
            (relative (bit A.loop-k.signs) S.args.rows) (loaded A) (relative (bit L.signs) L.rows) L.pivots
            L.hadamards
            L.round L.invariant.0 c.loop-round-test.true w.if-round-eq0.false
            (relative (bit c.if-round-eq0.signs)
            c.if-round-eq0.rows)
            P.pivots
            (subst (λ f. Eliminated S.args.n (relative (bit L.signs) L.rows) (bit L.pivots) f
            (bit P.pivots)
            S.args.n)
            (ap₂ (λ m v. relative (bit m) v) (sym w.signs-is) (sym w.rows-is)) (passed c.before.before)))
      ],
      elim c.if-round-eq0.branch [
        | then-round-eq0+else-loop-i-test w ↦ ap length w.rows-is ∙ w.loop-i.invariant.long
        | else-round-eq0 w ↦ ap length w.rows-is ∙ P.invariant.1
      ],
    )

-- ---- the end
ended : (c : AfterLoop2) → Both (start-2 c.before).args.n c.mask-all.result
    (relative (bit c.loop-k.signs) (start-2 c.before).args.rows)
    (relative (bit c.loop-round.signs) c.loop-round.rows) c.loop-round.pivots
    c.loop-round.hadamards
ended c =
    let L = c.loop-round in
    L.invariant.0.both (omega (arith, L.invariant.0.upto, c.loop-round-test.false))

pub returns-then-pivots-all : goal.returns-then-pivots-all
returns-then-pivots-all c =
    let E = c.before.before in
    let A = E.before in
    let S = start-2 A in
    let L = A.loop-round in
    let bad = both-left-over S.args.n S.requires.le_n.1 A.mask-all.result A.mask-all.ensures
    (relative (bit A.loop-k.signs) S.args.rows) (loaded A) L.rows L.signs L.pivots L.hadamards (ended E)
    c.if-pivots-all.true in record { value = sym (ap not (ap (dependent S.args.n) (sym (fun_ext (related A))) ∙ bad)); neighbours_after = refl; codes_after = refl }

pub write_record-requires : goal.write_record-requires
write_record-requires c =
    let E = c.before.before.before in
    let A = E.before in
    let S = start-2 A in
    let L = A.loop-round in record {
      n_bound = (S.requires.le_n.1, S.requires.le_n.2, S.requires.le_n.3);
      by_index = λ j _. end-within S.args.n S.requires.le_n.1 A.mask-all.result A.mask-all.ensures
          (relative (bit A.loop-k.signs) S.args.rows) (loaded A) L.rows L.signs L.pivots L.hadamards
          (ended E)
          c.if-pivots-all.false j;
    }

pub returns : goal.returns
returns c =
    let E = c.before.before.before.before.before.before.before.before.before in
    let A = E.before in
    let S = start-2 A in
    let L = A.loop-round in
    let good = both-complete S.args.n S.requires.le_n.1 A.mask-all.result A.mask-all.ensures
    (relative (bit A.loop-k.signs) S.args.rows) (loaded A) L.rows L.signs L.pivots L.hadamards (ended E)
    c.if-pivots-all.false in
    let r = end-record S.args.n S.requires.le_n.1 A.mask-all.result A.mask-all.ensures
    (relative (bit A.loop-k.signs) S.args.rows) (loaded A) L.rows L.signs L.pivots L.hadamards (ended E)
    c.if-pivots-all.false ∙ ap (reduced S.args.n) (fun_ext (related A)) in record { value = sym (ap not (ap (dependent S.args.n) (sym (fun_ext (related A))) ∙ good)); neighbours_after = c.write_record.ensures.neighbours_after ∙ ap (neighbour_words S.args.n) r; codes_after = c.write_record.ensures.codes_after ∙ ap (code_numbers S.args.n) r }
