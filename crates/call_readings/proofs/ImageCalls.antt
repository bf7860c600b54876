-- The call on the image of a graph, from what the functions below it answer.
use mathlib.Core.Bool.{Bool, false, ◌||◌}
use mathlib.Core.List.{◌++◌, List}
use mathlib.Core.Path.{ap, refl, sym, ◌∙◌, ◌≡◌}
use Prim.Native.Nat.{ℕ, ◌≤◌}
use native.Mathlib.Omega.{arith}
use lib.ListN.{drop, get_or, length, length-append, length-drop, take}
use Rattle.std.proofs.lemmas.List.{length-take}
use Rattle.buffers.proofs.Lines.{more-accepted, not-held}
use Rattle.buffers.proofs.Tabulate.{tabulate-cong}
use Rattle.buffers.specs.Buffers.{tabulate, written}
use Rattle.buffers.specs.Refusals.{first_fitting, other_than}
use Rattle.buffers.proofs.Calling.{done, refused}
use Rattle.buffers.proofs.Fitting.{stays}
use Rattle.buffers.specs.Calls.{Call}
use Rattle.buffers.specs.internal.Numbers.{number_of}
use Rattle.image_impl.specs.declared.answer.Told.{Told}
use Rattle.image_impl.specs.internal.Answer.{IsImage}
use Rattle.image.specs.Image.{image_lines, loop_lines}
use Rattle.record.proofs.AcceptedRecords.{accepted-record}
use Rattle.record.proofs.RecordLines.{record-numbered}
use Rattle.record.specs.Accepted.{AcceptedRecord}
use Rattle.record.specs.Lent.{LentRecord, held_record, record_lengths, record_lines}
use Rattle.stabilizer.proofs.SharedTests.{has-length}
use Rattle.words.proofs.Flags.{neither}
use Rattle.calls.specs.Images.{image_call}

-- an array of 64 places of which the first n were lent has room for as many items
pub put-back : (front back : List ℕ) (n m : ℕ) → length front ≡ n → n ≤ 64 → length back ≡ 64 → m ≤ 64 →
    m ≤ length (front ++ drop n back)
put-back front back n m f h b l =
    omega (arith, f, h, b, l, length-append front (drop n back), length-drop n back)

-- the buffers lent for the graph, the signs and the list
module _ (l : LentRecord) (g s v : List ℕ) (count : ℕ) where
  module _ (others : Bool) (o : others ≡ (other_than l.n g || (other_than l.n s || other_than 96 v)))
      (k : ℕ) (e : k ≡ first_fitting (record_lines l others false)) where
    at-lines : {r : ℕ} → r ≡ first_fitting (record_lines l others false ++ loop_lines l.n (held_record l))
        → r ≡ first_fitting (image_lines l g s v)
    at-lines p = p ∙ ap (λ b. first_fitting (record_lines l b false ++ loop_lines l.n (held_record l))) o

    -- the record is refused
    pub image-refused : (k ≡ 0 → ⊥) → Call (image_call l g s v count g s v count) k
    image-refused h =
        refused _ (at-lines (stays (record_lines l others false) _ e h)) h (refl, (refl, (refl, (refl, tt))))

    module _ (z : k ≡ 0) where
      pub accepted-held : AcceptedRecord l
      accepted-held = accepted-record l others false (sym e ∙ z)

      -- the buffers lent for the answer have their lengths
      all_fit : (other_than l.n g || (other_than l.n s || other_than 96 v)) ≡ false
      all_fit = sym o ∙ (neither (record_lengths l) others (not-held 3 _ _ (not-held 1 _ _ (sym e ∙ z)).1).0).1

      later-fit : (other_than l.n s || other_than 96 v) ≡ false
      later-fit = (neither (other_than l.n g) (other_than l.n s || other_than 96 v) all_fit).1

      graph-fits : length g ≡ l.n
      graph-fits = has-length l.n g
          (neither (other_than l.n g) (other_than l.n s || other_than 96 v) all_fit).0

      signs-fit : length s ≡ l.n
      signs-fit = has-length l.n s (neither (other_than l.n s) (other_than 96 v) later-fit).0

      list-fits : length v ≡ 96
      list-fits = has-length 96 v (neither (other_than l.n s) (other_than 96 v) later-fit).1

      pub graph-upto : length g ≤ 64
      graph-upto = omega (arith, graph-fits, accepted-held.upto)

      pub signs-upto : length s ≤ 64
      signs-upto = omega (arith, signs-fit, accepted-held.upto)

      loop-number : {r : ℕ} → r ≡ first_fitting (loop_lines l.n (held_record l)) → r ≡ first_fitting (image_lines l g s v)
      loop-number f = at-lines (f ∙ sym
          (more-accepted (record_lines l others false) _ (record-numbered l others false) (sym e ∙ z)))

      -- 11 or 12 decides
      pub image-looped : (r : ℕ) → r ≡ first_fitting (loop_lines l.n (held_record l)) → (r ≡ 0 → ⊥) →
          Call (image_call l g s v count g s v count) r
      image-looped r f h = refused _ (loop-number f) h (refl, (refl, (refl, (refl, tt))))

      -- the answer of the image rule: neither does
      module _ (told : Told) (graph signs list : List ℕ) (A : IsImage l.n (held_record l) told graph signs list)
        where
          -- the list has room for its count
          pub front-room : length (take told.count list) ≤ length v
          front-room = omega (arith, A.room, list-fits, length-take told.count list)

          -- the answer is written
          pub image-accepted : number_of told.answer ≡ 0 → (g' s' v' : List ℕ) →
              g' ≡ tabulate (length g) (λ j. get_or graph j 0) →
              s' ≡ tabulate (length s) (λ j. get_or signs j 0) → v' ≡ written (take told.count list) v →
              Call (image_call l g s v count g' s' v' told.count) 0
          image-accepted e g' s' v' eg es ev =
              done _ (loop-number (sym e ∙ A.number)) refl (
                eg ∙ ap (λ m. tabulate m (λ j. get_or graph j 0)) graph-fits ∙ tabulate-cong l.n _ _ A.graph,
                (
                  es ∙ ap (λ m. tabulate m (λ j. get_or signs j 0)) signs-fit
                      ∙ tabulate-cong l.n _ _ (A.signs e),
                  (ev ∙ ap (λ vs. written vs v) A.list, (A.count, tt)),
                ),
              )
