-- A graph under the codes that a choice induces: buffers that the image rule takes.
use mathlib.Core.List.{List}
use mathlib.Core.Logic.{inl, inr, ◌⊎◌}
use mathlib.Core.Path.{ap, subst, sym, ◌∙◌, ◌≡◌}
use Prim.Native.Nat.{◌<◌, ℕ, ◌≤◌}
use lib.Dec.{lit<}
use lib.ListN.{get_or, length}
use Rattle.buffers.proofs.Tabulate.{tabulate-at, tabulate-length}
use Rattle.buffers.specs.Buffers.{tabulate}
use Rattle.clifford.proofs.CliffordLaws.{code_of-lt}
use Rattle.clifford.specs.Clifford.{inverse, then}
use Rattle.clifford.specs.Vectors.{codes_of}
use Rattle.comparison.specs.internal.Compared.{induced_code}
use Rattle.image_impl.specs.internal.Answer.{IsImageList}
use Rattle.record.proofs.ReducedRecords.{record-proper}
use Rattle.record.specs.Accepted.{AcceptedRecord}
use Rattle.record.specs.Lent.{held_record, lent_record}
use Rattle.stabilizer.proofs.ReadBack.{table-past}
use Rattle.words.proofs.Sums.{lt-or-ge}

module _ (n : ℕ) (nb cs choice cs₂ : List ℕ)
    (A : AcceptedRecord (lent_record n nb cs))
  where
    induced-accepted : AcceptedRecord
        (lent_record n nb (tabulate n (induced_code cs choice cs₂)))
    induced-accepted =
        record {
          positive = A.positive;
          upto = A.upto;
          neighbours-length = A.neighbours-length;
          codes-length = tabulate-length n (induced_code cs choice cs₂);
          words-below = A.words-below;
          codes-below = λ q. below q (lt-or-ge q n);
          simple = A.simple;
          proper = record-proper n
              (held_record (lent_record n nb (tabulate n (induced_code cs choice cs₂))))
              A.simple;
        }
      where
        below : (q : ℕ) → (q < n) ⊎ (n ≤ q) → get_or (tabulate n (induced_code cs choice cs₂)) q 0 < 24
        below q (inl l) = subst (λ v. v < 24) (sym (tabulate-at n (induced_code cs choice cs₂) q l))
            (code_of-lt (then (then (codes_of cs q) (codes_of choice q)) (inverse (codes_of cs₂ q))))
        below q (inr l) = subst (λ v. v < 24) (sym (table-past n (induced_code cs choice cs₂) q l)) (lit< tt)

    -- the code writes them into a buffer of n places
    module _ (room made : List ℕ) (long : length room ≡ n)
        (e : made ≡ tabulate (length room) (induced_code cs choice cs₂)) where
      made-is : made ≡ tabulate n (induced_code cs choice cs₂)
      made-is = e ∙ ap (λ m. tabulate m (induced_code cs choice cs₂)) long

      pub made-accepted : AcceptedRecord (lent_record n nb made)
      made-accepted =
          subst (λ v. AcceptedRecord (lent_record n nb v)) (sym made-is)
          induced-accepted

      pub made-answer : (vertices : List ℕ) (k : ℕ) → IsImageList n (held_record (lent_record n nb made)) vertices k
          → IsImageList n (held_record (lent_record n nb (tabulate n (induced_code cs choice cs₂)))) vertices k
      made-answer vertices k =
          subst (λ v. IsImageList n (held_record (lent_record n nb v)) vertices k) made-is
