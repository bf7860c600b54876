-- The generators of a record, changed by a row that is not determined: they can be reduced, and their reduced record is
-- that of the group after the measurement.
use mathlib.Core.Bool.{Bool, ◌&&◌, cond, false, not, true}
use mathlib.Core.List.{List}
use mathlib.Core.Path.{ap, ap₂, subst, sym, ◌∙◌, ◌≡◌}
use Prim.Native.Nat.{◌<◌, ◌^◌, ℕ}
use native.Mathlib.Decide.{ℕ_discrete}
use native.Mathlib.Omega.{arith}
use lib.Dec.{eqb}
use lib.ListN.{get_or, length}
use borrow.Author.Tests.{eq-eqb}
use Rattle.buffers.proofs.Tabulate.{tabulate-length}
use Rattle.expectation.proofs.ReadWords.{row-of-words}
use Rattle.operations.proofs.GroupAlone.{reduced-of-group}
use Rattle.operations.specs.Measurement.{first_against, projected}
use Rattle.pauli.proofs.PauliLaws.{anticommute-letters}
use Rattle.pauli.specs.Pauli.{Pauli, anticommute, i⁰, minus, mul, row, signed_row}
use Rattle.record.specs.Accepted.{AcceptedRecord}
use Rattle.record.specs.Lent.{LentRecord, code_numbers, held_rows, neighbour_words}
use Rattle.record.specs.Reduced.{reduced}
use Rattle.record_reduction.specs.internal.Reducible.{Reducible}
use Rattle.stabilizer.proofs.EqualRows.{proper-equal, same-group-equal}
use Rattle.stabilizer.proofs.ReadBack.{rows_back}
use Rattle.stabilizer.proofs.Verdicts.{independent-exactly}
use Rattle.stabilizer.proofs.Within.{anticommute-wide, chosen-within, mul_wide}
use Rattle.stabilizer.specs.Groups.{Proper, Within, chosen}
use Rattle.stabilizer.specs.Lists.{GeneratorList, dependent, list_of, rows}
use Rattle.words.proofs.Places.{put_other, put_same}
use Rattle.words.proofs.SearchLaws.{first-unique}
use Rattle.words.specs.Bits.{is_odd}
use Rattle.words.specs.Search.{IsFirst, first}
use Rattle.parity.proofs.RowGroups.{row-against, row-projected, row-proper}
use Rattle.parity.specs.RowMeasurement.{row_measured, row_value}
use Rattle.parity.specs.internal.Lists.{Changed, list_in}

module _ (l : LentRecord) (A : AcceptedRecord l) (z x : ℕ) (hz : z < 2 ^ l.n) (hx : x < 2 ^ l.n)
    (open-yet : eqb (row_value l.n (held_rows l) z x) 2 ≡ true) (b : Bool) (old : GeneratorList)
    (es : length old.signs ≡ l.n) (ez : length old.z ≡ l.n) (ex : length old.x ≡ l.n)
    (same : (i : ℕ) → i < l.n → rows old i ≡ held_rows l i) where
  abbrev n : ℕ
  n = l.n

  abbrev R : ℕ → Pauli
  R = held_rows l

  abbrev P : Pauli
  P = signed_row b z x

  F : IsFirst n (λ i. anticommute n (R i) P) (first_against n R P)
  F = row-against n R A.proper z x hz hx open-yet b

  within : (i : ℕ) → i < n → Within n (R i)
  within = A.proper.within

  row_within : Within n P
  row_within = row-of-words n z x b hz hx

  -- ---- the first generator that does not commute with the row
  clash_read : (i : ℕ) → i < n
      → anticommute 64 (row i⁰ (get_or old.z i 0) (get_or old.x i 0)) (row i⁰ z x) ≡ anticommute n (R i) P
  clash_read i h =
      sym (anticommute-letters 64 (row i⁰ (get_or old.z i 0) (get_or old.x i 0)) (row i⁰ z x)
      (minus (is_odd (get_or old.signs i 0))) (minus b))
      ∙ ap (λ p. anticommute 64 p P) (same i h) ∙ anticommute-wide n 64 A.upto (within i h) row_within

  module _ (g : ℕ) (is : g ≡ first (length old.z) (λ i. anticommute 64
      (row i⁰ (get_or old.z i 0) (get_or old.x i 0)) (row i⁰ z x))) where
    found : g ≡ first_against l.n (held_rows l) (signed_row b z x)
    found = is
        ∙ ap (λ m. first m (λ i. anticommute 64 (row i⁰ (get_or old.z i 0) (get_or old.x i 0)) (row i⁰ z x))) ez
        ∙ first-unique n _ (first_against n R P) (record {
          below = F.below;
          passes = clash_read (first_against n R P) F.below ∙ F.passes;
          least = λ j k. clash_read j (omega (arith, k, F.below)) ∙ F.least j k;
        })

    found_below : g < l.n
    found_below = subst (λ m. m < n) (sym found) F.below

    -- the generators commute
    others-commute : (i : ℕ) → i < length old.signs → anticommute 64 (rows old i) (rows old g) ≡ false
    others-commute i h =
        let k = subst (λ m. i < m) es h in
        ap₂ (anticommute 64) (same i k) (same g found_below) ∙ anticommute-wide n 64 A.upto (within i k)
        (within g found_below)
        ∙ A.proper.commuting.commute i g k found_below

    -- ---- the list afterwards
    module _ (new : GeneratorList) (C : Changed z x b g old new) where
      narrow : (i : ℕ) → i < n → projected 64 (rows old) P g i ≡ projected n R P g i
      narrow i h = at (ℕ_discrete i g)
        where
          at : Dec (i ≡ g) → projected 64 (rows old) P g i ≡ projected n R P g i
          at (yes e) = subst (λ v. projected 64 (rows old) P g v ≡ projected n R P g v) (sym e)
              (put_same _ g P ∙ sym (put_same _ g P))
          at (no d) = put_other _ g P i d
              ∙ ap₂ (λ p r. mul 64 p (chosen (anticommute 64 p P && not (eqb i g)) r)) (same i h) (same g found_below)
              ∙ mul_wide n 64 A.upto (within i h) (chosen-within n (anticommute 64 (R i) P && not (eqb i g))
              (within g found_below))
              ∙ ap (λ t. mul n (R i) (chosen (t && not (eqb i g)) (R g)))
              (anticommute-wide n 64 A.upto (within i h) row_within)
              ∙ sym (put_other _ g P i d)

      changed_row : (i : ℕ) → i < n → rows new i ≡ row_measured n R z x b i
      changed_row i h = C.row i (subst (λ m. i < m) (sym es) h) ∙ narrow i h
          ∙ ap (λ v. projected n R P v i) found ∙ ap (λ S. S i)
          (sym (row-projected n R A.proper z x hz hx open-yet b))

      before : Proper n (row_measured n R z x b)
      before = row-proper n R A.proper z x hz hx b

      proper : Proper n (rows new)
      proper = proper-equal n (row_measured n R z x b) (rows new) (λ i h. sym (changed_row i h)) before

      changed-reducible : Reducible (record { n = l.n; signs = new.signs; z = new.z; x = new.x })
      changed-reducible =
          record {
            positive = A.positive;
            upto = A.upto;
            signs-length = C.long.signs-length ∙ es;
            z-length = C.long.z-length ∙ ez;
            x-length = C.long.x-length ∙ ex;
            commuting = proper.commuting;
            within = proper.within;
          }

      changed-reduced : reduced l.n (rows new) ≡ reduced l.n (row_measured l.n (held_rows l) z x b)
      changed-reduced = reduced-of-group n (rows new) (row_measured n R z x b) proper before
          (same-group-equal n (rows new) (row_measured n R z x b) changed_row)

      changed-independent : dependent l.n (rows new) ≡ false
      changed-independent = (independent-exactly n (rows new)).1 proper.independent

      -- what the reduction of the list writes
      changed-written : (r : Bool) (nb cs nb' cs' : List ℕ) → r ≡ not (dependent l.n (rows new))
          → nb' ≡ cond r (neighbour_words l.n (reduced l.n (rows new))) nb
          → cs' ≡ cond r (code_numbers l.n (reduced l.n (rows new))) cs
          → (nb' ≡ neighbour_words l.n (reduced l.n (row_measured l.n (held_rows l) z x b)))
          × (cs' ≡ code_numbers l.n (reduced l.n (row_measured l.n (held_rows l) z x b)))
      changed-written r nb cs nb' cs' er en ec =
          let done = er ∙ ap not changed-independent in (
            en ∙ ap₂ (λ d g. cond d (neighbour_words n g) nb) done changed-reduced,
            ec ∙ ap₂ (λ d g. cond d (code_numbers n g) cs) done changed-reduced,
          )

-- ---- from what the functions answer: the generators are expanded, g is found, and the list is changed
module _ (l : LentRecord) (A : AcceptedRecord l) (z x : ℕ) (hz : z < 2 ^ l.n) (hx : x < 2 ^ l.n)
    (open-yet : row_value l.n (held_rows l) z x ≡ 2) (b : Bool) (signs zs xs : List ℕ)
    (es : signs ≡ (list_of l.n (held_rows l)).signs) (ez : zs ≡ (list_of l.n (held_rows l)).z)
    (ex : xs ≡ (list_of l.n (held_rows l)).x) where
  signs-long : length signs ≡ l.n
  signs-long = ap length es ∙ tabulate-length l.n _

  zs-long : length zs ≡ l.n
  zs-long = ap length ez ∙ tabulate-length l.n _

  xs-long : length xs ≡ l.n
  xs-long = ap length ex ∙ tabulate-length l.n _

  -- the generators of the record
  same : (i : ℕ) → i < l.n → rows (list_in signs zs xs) i ≡ held_rows l i
  same i h = ap (λ v. signed_row (is_odd (get_or v i 0)) (get_or zs i 0) (get_or xs i 0)) es
      ∙ ap₂ (λ v w. signed_row (is_odd (get_or (list_of l.n (held_rows l)).signs i 0)) (get_or v i 0) (get_or w i 0)) ez ex
      ∙ rows_back l.n (held_rows l) A.proper i h

  is_open : eqb (row_value l.n (held_rows l) z x) 2 ≡ true
  is_open = eq-eqb (row_value l.n (held_rows l) z x) 2 open-yet

  pub search-ready : length xs ≡ length zs
  search-ready = xs-long ∙ sym zs-long

  module _ (g : ℕ) (is : g ≡ first (length zs) (λ i. anticommute 64 (row i⁰ (get_or zs i 0) (get_or xs i 0)) (row i⁰ z x)))
    where
      pub change-ready : ((length zs ≡ length signs) × (length xs ≡ length signs) × (g < length signs))
          × ((i : ℕ) → i < length signs
          → anticommute 64 (rows (list_in signs zs xs) i) (rows (list_in signs zs xs) g) ≡ false)
      change-ready = (
        (
          zs-long ∙ sym signs-long,
          xs-long ∙ sym signs-long,
          subst (λ m. g < m) (sym signs-long)
              (found_below l A z x hz hx is_open b (list_in signs zs xs) signs-long zs-long xs-long same g is),
        ),
        others-commute l A z x hz hx is_open b (list_in signs zs xs) signs-long zs-long xs-long same g is,
      )

      module _ (signs' zs' xs' : List ℕ) (C : Changed z x b g (list_in signs zs xs) (list_in signs' zs' xs')) where
        pub reduce-ready : Reducible (record { n = l.n; signs = signs'; z = zs'; x = xs' })
        reduce-ready = changed-reducible l A z x hz hx is_open b (list_in signs zs xs) signs-long zs-long xs-long same g is
            (list_in signs' zs' xs') C

        pub reduced-written : (r : Bool) (nb cs nb' cs' : List ℕ) → r ≡ not
            (dependent l.n (rows (list_in signs' zs' xs')))
            → nb' ≡ cond r (neighbour_words l.n (reduced l.n (rows (list_in signs' zs' xs')))) nb
            → cs' ≡ cond r (code_numbers l.n (reduced l.n (rows (list_in signs' zs' xs')))) cs
            → (nb' ≡ neighbour_words l.n (reduced l.n (row_measured l.n (held_rows l) z x b)))
            × (cs' ≡ code_numbers l.n (reduced l.n (row_measured l.n (held_rows l) z x b)))
        reduced-written = changed-written l A z x hz hx is_open b (list_in signs zs xs) signs-long zs-long xs-long same g
            is
            (list_in signs' zs' xs') C
