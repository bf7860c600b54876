-- The reduced record of the new list of s alone, put together with the other vertices as they were, stands for the new
-- party of the whole record.
use mathlib.Core.Bool.{Bool, false, true}
use mathlib.Core.Path.{refl, subst, sym, ◌≡◌}
use Prim.Native.Nat.{◌<◌, ℕ}
use Rattle.record.specs.Graph.{Simple}
use Rattle.pauli.specs.Pauli.{Pauli}
use Rattle.record.proofs.Maximality.{inclusion-same}
use Rattle.record.proofs.ReducedRecords.{record-proper, reduced-is, same-group}
use Rattle.record.specs.Records.{GraphRecord, rows_of}
use Rattle.record.specs.Reduced.{reduced}
use Rattle.stabilizer.proofs.GroupLaws.{in_row, same-trans}
use Rattle.stabilizer.specs.Groups.{InGroup, Proper, SameGroup}
use Rattle.words.specs.Bits.{Word}
use Rattle.parties.proofs.SameGroupsRows.{row-free}
use Rattle.parties.proofs.SameGroupsTogether.{row_other, row-own}
use Rattle.parties.specs.internal.Sides.{Followed, PutTogether, Split}

module _ (n : ℕ) (s : Word) (r : GraphRecord) (R : Simple n r.graph) (X : Split s r.graph)
    (new left : ℕ → Pauli) (P : Proper n new) (Q : Proper n left) (F : Followed n s (rows_of n r) new left)
    (Y : Split s (reduced n left).graph) (t : GraphRecord) (S : Simple n t.graph)
    (T : PutTogether n s (reduced n left) r t) where
  abbrev a : GraphRecord
  a = reduced n left

  A : Simple n a.graph
  A = (reduced-is n left Q).simple

  in-new : (j : ℕ) → j < n → (b : Bool) → s j ≡ b → InGroup n n new (rows_of n t j)
  in-new j l true e =
      subst (InGroup n n new) (sym (row-own n s a r t T A Y j l e))
      (F.inner (rows_of n a j) ((same-group n left Q).back (rows_of n a j) (in_row n n (rows_of n a) j l))
      (row-free n s true a A Y j l e))
  in-new j l false e = subst (InGroup n n new) (sym (row_other n s a r t T R X j l e)) (F.outer j l e)

  pub followed_same : SameGroup n n (rows_of n t) (rows_of n (reduced n new))
  followed_same =
      same-trans (inclusion-same n (rows_of n t) new (record-proper n t S) P (λ j l. in-new j l (s j) refl))
      (same-group n new P)
