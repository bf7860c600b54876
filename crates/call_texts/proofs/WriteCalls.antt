-- The call that writes a record, from what the functions below it answer.
use mathlib.Core.Bool.{Bool, false, ◌||◌}
use mathlib.Core.List.{◌++◌, List}
use mathlib.Core.Path.{ap, refl, sym, ◌∙◌, ◌≡◌}
use Prim.Native.Nat.{◌^◌, ℕ}
use native.Mathlib.Nat.{zero-add}
use native.Mathlib.Omega.{arith}
use lib.Dec.{leb}
use lib.ListN.{drop, length}
use Rattle.buffers.proofs.Calling.{done, refused}
use Rattle.buffers.proofs.Lines.{not-held}
use Rattle.buffers.specs.Calls.{Call}
use Rattle.buffers.specs.Refusals.{first_fitting, other_than}
use Rattle.buffers.specs.Writing.{Printed, overwritten}
use Rattle.calls.specs.RecordTexts.{print_of, write_record_call, write_record_lines}
use Rattle.operations.proofs.UsedPassing.{lines-pass}
use Rattle.operations.specs.Used.{UsedRecord, used_lines, used_stray, used_wrong}
use Rattle.operations_checks.proofs.UsedNumbers.{no-further}
use Rattle.record.proofs.AcceptedRecords.{accepted-record}
use Rattle.record.specs.Accepted.{AcceptedRecord}
use Rattle.record.specs.Lent.{record_lengths, record_lines}
use Rattle.stabilizer.proofs.SharedTests.{has-length}
use Rattle.text.specs.internal.Text.{Printable}
use Rattle.words.proofs.Flags.{neither}

module _ (u : UsedRecord) (text : List ℕ) (size : ℕ) (others : Bool) (o : others ≡ other_than 1627 text) (k : ℕ)
    (e : k ≡ first_fitting (used_lines u others (leb (2 ^ u.held.n) 0) false)) where
  at-lines : k ≡ first_fitting (write_record_lines u text)
  at-lines = no-further u others false e ∙ ap (λ b. first_fitting (used_lines u b false false)) o

  pub write-refused : (k ≡ 0 → ⊥) → Call (write_record_call u text size text size) k
  write-refused h = refused _ at-lines h (refl, (refl, tt))

  module _ (z : k ≡ 0) where
    lines : (first_fitting (record_lines u.held others false) ≡ 0) ×
        ((used_stray u || leb (2 ^ u.held.n) 0) ≡ false)
        × (used_wrong u ≡ false)
    lines = (lines-pass u others (leb (2 ^ u.held.n) 0) false).0 (sym e ∙ z)

    accepted : AcceptedRecord u.held
    accepted = accepted-record u.held others false lines.0

    room : length text ≡ 1627
    room = has-length 1627 text
        (sym o ∙ (neither (record_lengths u.held) others (not-held 3 _ _ (not-held 1 _ _ lines.0).1).0).1)

    pub write-room : Printable u.held.n u.held.neighbours u.held.codes 0 text
    write-room =
        record {
          qubits = accepted.upto;
          neighbours-long = omega (arith, accepted.neighbours-length);
          codes-long = omega (arith, accepted.codes-length);
          codes-small = λ q l. accepted.codes-below q;
          room = omega (arith, room, accepted.upto);
        }

    pub write_done : {text' : List ℕ} {end : ℕ} → Printed (print_of u) 0 text text' end →
        Call (write_record_call u text size text' end) 0
    unfolding overwritten
    write_done P =
        done _ at-lines z (
          P.out ∙ ap (λ i. print_of u ++ drop i text) (zero-add (length (print_of u))),
          (P.end ∙ zero-add (length (print_of u)), tt),
        )
