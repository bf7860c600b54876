-- Document 01's sentences on lists, groups and reduced records, from the calls' contracts.
use mathlib.Core.Bool.{◌&&◌, Bool, false, true}
use mathlib.Core.Path.{◌≡◌, ◌∙◌, ap, refl, subst, sym}
use Prim.Native.Nat.{◌<◌, ℕ}
use lib.Dec.{eqb}
use borrow.Author.Tests.{eqb-true}
use Rattle.clifford.specs.Vectors.{act}
use Rattle.pauli.proofs.PauliLaws.{Pauli-path}
use Rattle.pauli.specs.Pauli.{Pauli}
use Rattle.record.proofs.AcceptedRecords.{accepted-record}
use Rattle.record.proofs.PlainRows.{
  hadamards-last,
  hadamards-twice,
  plain-determined,
  plain-phase,
  plain-x,
  plain-z,
  plain_row,
}
use Rattle.record.proofs.ReducedRecords.{reduced-is}
use Rattle.record.proofs.Unique.{record-path}
use Rattle.record.proofs.WrittenRecords.{reduced-back, reduced-passes, written_record}
use Rattle.record.specs.Records.{GraphRecord, rows_of}
use Rattle.record.specs.Reduced.{ReductionOf, hadamard_where, reduced}
use Rattle.stabilizer.proofs.Accepted.{accepted-list}
use Rattle.stabilizer.proofs.Carried.{act-same, same_rows}
use Rattle.stabilizer.proofs.Generation.{in-group-generated}
use Rattle.stabilizer.proofs.GroupLaws.{in_row, same-trans}
use Rattle.stabilizer.proofs.NumbersTrue.{list-numbers}
use Rattle.stabilizer.proofs.Verdicts.{clashing-pair, dependent-not}
use Rattle.stabilizer.specs.Groups.{InGroup, SameGroup}
use Rattle.stabilizer.specs.Lists.{rows}
use Rattle.operations.proofs.UsedPassing.{unused-passes}
use Rattle.words.specs.Bits.{Word, ◌⊕◌}
use Rattle.claims.proofs.SecondDemandLists.{expansion-brings-back, holds-reduced, reduction-keeps-group}
use Rattle.claims.proofs.TakenRecords.{taken-by-all}
use Rattle.claims.proofs.UsedExactly.{used-exactly}
use Rattle.claims.specs.ListDemand.{
  ChecksTell,
  ListBroughtBack,
  RecordGroups,
  RecordsTaken,
  ReducedInWords,
  ReducedTo,
  ReductionAnswers,
  own_row,
}
use Rattle.claims.specs.SecondDemand.{record_left}

-- ---- lists
pub checks-tell : ChecksTell
checks-tell l r C =
    record {
      products = λ z. in-group-generated l.n l.n (rows l)
          (accepted-list l false (sym C.number ∙ z)).proper.commuting;
      clash = λ e. (clashing-pair l.n (rows l)).0 ((list-numbers l false).clash (sym C.number ∙ e));
      dependence = λ e. dependent-not l.n (rows l) ((list-numbers l false).dependence (sym C.number ∙ e));
    }

pub record-groups : RecordGroups
record-groups l e = in-group-generated l.n l.n _ (accepted-record l false false e).proper.commuting

pub records-taken : RecordsTaken
records-taken u U = taken-by-all u ((used-exactly u false false false).0 U.no_line).0

-- ---- reduced records
module _ (n : ℕ) (R : ℕ → Pauli) (r : GraphRecord) (F : ReductionOf n R r) where
  abbrev turned : ℕ → Pauli
  turned j = act n (hadamard_where F.hadamards) (R j)

  abbrev plain : ℕ → Pauli
  plain = plain_row n r.graph F.ys F.minuses

  -- after the Hadamards the group is that of the plain rows
  turned_plain : SameGroup n n turned plain
  turned_plain =
      same_rows n n _ (λ j. act n (hadamard_where F.hadamards) (rows_of n r j)) plain
      (λ j l. ap (act n (hadamard_where F.hadamards))
      (hadamards-last n r F.hadamards F.ys F.minuses F.code j)
      ∙ hadamards-twice n F.hadamards (plain j))
      (act-same n n (hadamard_where F.hadamards) R (rows_of n r) F.group)

  plain-own : (j : ℕ) → j < n → plain j ≡ own_row r.graph j (F.ys j) (F.minuses j)
  plain-own j l = Pauli-path (plain-phase n r.graph F.simple F.ys F.minuses j l)
      (λ q. plain-z n r.graph F.ys F.minuses j q ∙ ap (λ b. r.graph j q ⊕ b) (own F.ys q (eqb q j) refl))
      (λ q. plain-x n F.ys F.minuses _ q)
    where
      own : (y : Word) (q : ℕ) (b : Bool) → eqb q j ≡ b → (b && y q) ≡ (b && y j)
      own y q false e = refl
      own y q true e = ap y (eqb-true q j e)

  in_words : ReducedInWords n R r
  in_words =
      record {
        hadamards = F.hadamards;
        rotated = F.rotated;
        simple = F.simple;
        ys = F.ys;
        minuses = F.minuses;
        generator = λ j l. turned_plain.back _
            (subst (InGroup n n plain) (plain-own j l) (in_row n n plain j l));
        only = λ j l p i h. plain-determined n r.graph F.simple F.ys F.minuses p
            (turned_plain.there p i) j l h ∙ plain-own j l;
        code = λ j l. F.code j;
      }

pub reduction-answers : ReductionAnswers
reduction-answers l nb cs used nb' cs' used' C =
    let A = accepted-list l _ (sym C.number) in
    let F = reduced-is l.n (rows l) A.proper in
    subst (ReducedTo l) (sym (holds-reduced l nb cs used nb' cs' used' C))
    (record {
      taken = records-taken _ (record {
        no_line = unused-passes (written_record l.n (reduced l.n (rows l))) false false
            (reduced-passes l.n (rows l) A.proper A.formed.positive A.formed.upto);
      });
      form = subst (ReductionOf l.n (rows l))
          (sym (record-path _ _ (reduced-back l.n (rows l) A.proper))) F;
      words = subst (ReducedInWords l.n (rows l))
          (sym (record-path _ _ (reduced-back l.n (rows l) A.proper))) (in_words l.n (rows l) _ F);
    })

pub list-brought-back : ListBroughtBack
list-brought-back l nb cs nb' cs' s z x s' z' x' used used' C E =
    same-trans (reduction-keeps-group l nb cs used nb' cs' used' C)
    (expansion-brings-back (record_left l.n nb' cs' used') s z x s' z' x' E).group
