-- The calls on records: their lines and answers are as demand 1 has them, and which arguments they accept.
use mathlib.Core.Bool.{Bool, false, ◌||◌}
use mathlib.Core.List.{◌++◌, List}
use mathlib.Core.Logic.Iff
use mathlib.Core.Logic.{inl, inr, ◌↔◌}
use mathlib.Core.Path.{refl, sym, ◌∙◌, ◌≡◌}
use Prim.Native.Nat.{ℕ}
use native.Mathlib.Omega.{arith}
use Rattle.buffers.proofs.Lines.{none-of-all}
use Rattle.buffers.specs.Refusals.{first_fitting, other_than}
use Rattle.calls.specs.Cuts.{cut_lines}
use Rattle.calls.specs.Images.{image_call}
use Rattle.buffers.proofs.Fitting.{none-holds}
use Rattle.buffers.specs.Calls.{Call}
use Rattle.image.proofs.Accepted.{image-unsigned}
use Rattle.image.proofs.TrackedBits.{image-length}
use Rattle.image.specs.Image.{loop_lines}
use Rattle.image.specs.Rule.{image_list}
use Rattle.operations.specs.Steps.{complement_of, cz_on, gate_with, measurement_of, Operation, pivot_of}
use Rattle.record.proofs.AcceptedRecords.{accepted-record}
use Rattle.record.proofs.RecordLines.{record-numbered}
use Rattle.record.specs.Lent.{held_record, LentRecord, record_lines}
use Rattle.operations.proofs.AcceptedSteps.{accepted-step}
use Rattle.operations.proofs.UsedPassing.{used_step_lem}
use Rattle.operations.specs.Used.{used_lines, used_lines_of, UsedRecord}
use Rattle.claims.proofs.ImageDemandHolds.{images-follow}
use Rattle.claims.proofs.LinesExactly.{below-exactly, more-exactly, record-exactly, three-fit}
use Rattle.claims.proofs.UsedExactly.{used-complement, used-cz, used-exactly, used-gate, used-measure}
use Rattle.claims.proofs.families.Shared.{by_lines, of_three, table-fills, written-fills}
use Rattle.claims.specs.Conforming.{Conforms, InOrder}
use Rattle.claims.specs.families.Records.{
  CutFits,
  ImageFits,
  RecordBuffersUnread,
  RecordsAccepted,
  RecordsConform,
}

-- calls in place
in_order : (u : UsedRecord) (o : Operation) → InOrder (used_lines_of u o)
in_order u (gate_with q k) = refl
in_order u (cz_on a b) = refl
in_order u (measurement_of pauli q b) = refl
in_order u (complement_of a) = refl
in_order u (pivot_of j k) = refl

-- images
image-conforms : (l : LentRecord) (g s v : List ℕ) (count : ℕ) (g' s' v' : List ℕ) (count' : ℕ) →
    Conforms (image_call l g s v count g' s' v' count')
image-conforms l g s v count g' s' v' count' =
    record {
      order = refl;
      complete = λ z. let p = (none-of-all (record_lines l others false) _ (record-numbered l others false) z).0 in
          let A = accepted-record l others false p in
          let f = (three-fit l.n l.n 96 g s v).0 ((record-exactly l others false).0 p).1 in
          let few = image-length l.n (held_record l) A.simple in (
            table-fills l.n _ g f.0,
            (
              table-fills l.n _ s f.1,
              (written-fills (image_list l.n (held_record l)) v (omega (arith, few, A.upto, f.2)), (tt, tt)),
            ),
          );
    }
  where
    others : Bool
    others = other_than l.n g || (other_than l.n s || other_than 96 v)

-- cuts
cut-lines : (u : UsedRecord) (side : ℕ) → (first_fitting (cut_lines u side) ≡ 0) ↔ CutFits u side
cut-lines u side = (
  (λ e. let h = (used-exactly u false _ false).0 e in (h.0, (below-exactly _ side).0 h.2)),
  (λ h. (used-exactly u false _ false).1 (h.0, refl, (below-exactly _ side).1 h.1, refl)),
)

-- images
module _ (l : LentRecord) (image signs list : List ℕ) (count : ℕ) (image' signs' list' : List ℕ) (count' r : ℕ)
    (C : Call (image_call l image signs list count image' signs' list' count') r) where
  abbrev others : Bool
  others = other_than l.n image || (other_than l.n signs || other_than 96 list)

  image-exactly : (r ≡ 0) ↔ ImageFits l image signs list
  image-exactly = (
    (λ z. let p = (more-exactly (record_lines l others false) (loop_lines l.n (held_record l))
        (record-numbered l others false)).0 (sym C.number ∙ z) in
        let h = (record-exactly l others false).0 p.0 in
        let f = (three-fit l.n l.n 96 image signs list).0 h.1 in
        let k = none-holds (loop_lines l.n (held_record l)) refl p.1 in
        record {
          held = h.0;
          image-places = f.0;
          signs-places = f.1;
          list-places = f.2;
          is-graph = image-unsigned l.n (held_record l) h.0.simple k.0 k.1.0;
        }),
    (λ F. let D = images-follow l image signs list count r image' signs' list' count' C
        ((record-exactly l others false).1 (
          F.held,
          (three-fit l.n l.n 96 image signs list).1 (F.image-places, F.signs-places, F.list-places),
          refl,
        )) in
        (D.otherwise (λ e. D.exactly.0 (inl e) F.is-graph) (λ e. D.exactly.0 (inr e) F.is-graph)).0),
  )

pub records-conform : RecordsConform
records-conform =
    record {
      expand = λ u s z x s' z' x'. record {
        order = refl;
        complete = λ e. let n = u.held.n in
            let p = (three-fit n n n s z x).0 ((used-exactly u _ false false).0 e).1 in
            (table-fills n _ s p.0, (table-fills n _ z p.1, (table-fills n _ x p.2, tt)));
      };
      in_place = λ u o nb' cs'. record {
        order = in_order u o;
        complete = λ z. let A = accepted-step u.held o (used_step_lem u o z) in (
          table-fills u.held.n _ u.held.neighbours A.neighbours-length,
          (table-fills u.held.n _ u.held.codes A.codes-length, tt),
        );
      };
      measurements = λ u pauli q b answer determined nb' cs' used' answer' determined'. record {
        order = refl;
        complete = λ z. let o = measurement_of pauli q b in
            let A = accepted-step u.held o (used_step_lem u o z) in (
              tt,
              (
                tt,
                (
                  tt,
                  (
                    table-fills u.held.n _ u.held.neighbours A.neighbours-length,
                    (table-fills u.held.n _ u.held.codes A.codes-length, tt),
                  ),
                ),
              ),
            );
      };
      images = image-conforms;
      cuts = λ u side rank rank'. record { order = refl; complete = λ z. (tt, tt) };
    }

pub record-buffers-unread : RecordBuffersUnread
record-buffers-unread =
    record {
      expand = λ u s z x s₂ z₂ x₂ e f g.
          of_three u.held.n (λ others. used_lines u others false false) u.held.n e f g;
      images = λ l g s v g₂ s₂ v₂ e f h.
          of_three l.n (λ others. record_lines l others false ++ loop_lines l.n (held_record l)) 96 e f h;
    }

pub records-accepted : RecordsAccepted
records-accepted =
    record {
      expand = λ u s z x s' z' x' r C. let n = u.held.n in (
        (λ e. let h = (used-exactly u _ false false).0 ((by_lines C).0 e) in
            let f = (three-fit n n n s z x).0 h.1 in (h.0, f.0, f.1, f.2)),
        (λ F. (by_lines C).1 ((used-exactly u _ false false).1
            (F.0, (three-fit n n n s z x).1 (F.1, F.2, F.3), refl, refl))),
      );
      gate = λ u q k nb' cs' r C. Iff.trans (by_lines C) (used-gate u q k);
      cz = λ u a b nb' cs' r C. Iff.trans (by_lines C) (used-cz u a b);
      measure = λ u pauli q b answer determined nb' cs' used' answer' determined' r C.
          Iff.trans (by_lines C) (used-measure u pauli q b);
      complement = λ u a nb' cs' r C. Iff.trans (by_lines C) (used-complement u a);
      image = image-exactly;
      cut = λ u side rank rank' r C. Iff.trans (by_lines C) (cut-lines u side);
    }
