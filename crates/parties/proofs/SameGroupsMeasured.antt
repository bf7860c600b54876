-- A measurement at a qubit of s: what it does to the party of a record follows from what it does to the party of the
-- vertices of s.
use mathlib.Core.Bool.{Bool, false, true}
use mathlib.Core.Path.{refl, subst, sym, ◌∙◌, ◌≡◌}
use Prim.Native.Nat.{◌<◌, ℕ}
use Rattle.operations.proofs.Determined.{determined-kept, measured-group}
use Rattle.operations.proofs.MeasuredRecords.{acts}
use Rattle.operations.specs.Measurement.{Measured, is_determined, joined, kept, measured_rows, single}
use Rattle.pauli.proofs.PauliLaws.{mul-x, mul-z}
use Rattle.pauli.specs.Pauli.{Pauli, mul}
use Rattle.pauli.specs.declared.Letter.{Letter}
use Rattle.record.proofs.ReducedRecords.{record-proper}
use Rattle.record.specs.Records.{GraphRecord, rows_of}
use Rattle.stabilizer.proofs.GroupLaws.{in_row}
use Rattle.stabilizer.specs.Groups.{InGroup, Proper}
use Rattle.words.proofs.Places.{⊕-cancel}
use Rattle.words.specs.Bits.{Word}
use Rattle.parties.proofs.MeasuredAlike.{determined-alike}
use Rattle.parties.proofs.SameGroupsRows.{free-commute, row-free, single-free}
use Rattle.parties.proofs.SameGroupsTogether.{code-own, edges-own, mask-inner}
use Rattle.parties.specs.internal.Sides.{Followed, Free, MaskOf, blank}

-- a product with a row of s has I outside s only where the other factor has
factor-free : (n : ℕ) (s : Word) (p r : Pauli) → Free n s false r → Free n s false (mul n p r) → Free n s false p
factor-free n s p r F G =
    record {
      no-x = λ q l e. ⊕-cancel (p.x q) (r.x q) (sym (mul-x n p r q) ∙ G.no-x q l e) ∙ F.no-x q l e;
      no-z = λ q l e. ⊕-cancel (p.z q) (r.z q) (sym (mul-z n p r q) ∙ G.no-z q l e) ∙ F.no-z q l e;
    }

module _ (n : ℕ) (s : Word) (r m : GraphRecord) (K : MaskOf n s r m) (l : Letter) (la : acts l ≡ true) (q : ℕ)
    (hq : q < n) (own : s q ≡ true) where
  abbrev all : ℕ → Pauli
  all = rows_of n r

  abbrev part : ℕ → Pauli
  part = rows_of n m

  whole : Proper n all
  whole = record-proper n r K.simple

  alone : Proper n part
  alone = record-proper n m K.own-simple

  -- determined in both or in none: the qubit has its row and its code
  alike : is_determined n all l q ≡ is_determined n part l q
  alike = determined-alike n r m K.simple K.own-simple q hq (sym (code-own n s r blank m K.put q hq own))
      (λ j. sym (edges-own n s r blank m K.put q j own)) l la

  module _ (b : Bool) where
    abbrev P : Pauli
    P = single l q b

    at-s : Free n s false P
    at-s = single-free n s true l q b own

    -- a row that has I on s stays in the party
    unmeasured : (j : ℕ) → j < n → Free n s true (all j) → InGroup n n (measured_rows n all l q b) (all j)
    unmeasured j k F = go (is_determined n all l q) refl
      where
        go : (d : Bool) → is_determined n all l q ≡ d → InGroup n n (measured_rows n all l q b) (all j)
        go true e = subst (λ A. InGroup n n A (all j)) (sym (determined-kept n all whole l q hq e b))
            (in_row n n all j k)
        go false e = (measured-group n all whole l q hq e b (all j)).1
            (kept (in_row n n all j k) (free-commute n s true (all j) P F at-s))

    -- the two kinds of element
    moved : (p : Pauli) → Free n s false p → Measured n part P p → Measured n all P p
    moved p F (kept i c) = kept (mask-inner n s r m K p i F) c
    moved p F (joined i c) = joined (mask-inner n s r m K _ i (factor-free n s _ P at-s F)) c

    measured-inner : (p : Pauli) → InGroup n n (measured_rows n part l q b) p → Free n s false p
        → InGroup n n (measured_rows n all l q b) p
    measured-inner p i F = go (is_determined n part l q) refl
      where
        go : (d : Bool) → is_determined n part l q ≡ d → InGroup n n (measured_rows n all l q b) p
        go true e = subst (λ A. InGroup n n A p) (sym (determined-kept n all whole l q hq (alike ∙ e) b))
            (mask-inner n s r m K p
            (subst (λ A. InGroup n n A p) (determined-kept n part alone l q hq e b) i) F)
        go false e = (measured-group n all whole l q hq (alike ∙ e) b p).1
            (moved p F ((measured-group n part alone l q hq e b p).0 i))

    pub measured-followed : Followed n s (rows_of n r) (measured_rows n (rows_of n r) l q b)
        (measured_rows n (rows_of n m) l q b)
    measured-followed =
        record {
          inner = measured-inner;
          outer = λ j k e. unmeasured j k (row-free n s false r K.simple K.split j k e);
        }
