-- The call on a record that writes a list, from what the functions below it answer.
use mathlib.Core.Bool.{Bool, false, ◌||◌}
use mathlib.Core.List.{List}
use mathlib.Core.Path.{ap, refl, sym, ◌∙◌, ◌≡◌}
use Prim.Native.Nat.{◌^◌, ℕ}
use lib.Dec.{leb}
use lib.ListN.{length}
use Rattle.buffers.proofs.Lines.{not-held}
use Rattle.buffers.specs.Refusals.{first_fitting, other_than}
use Rattle.buffers.proofs.Calling.{done, refused}
use Rattle.buffers.specs.Calls.{Call}
use Rattle.record.proofs.AcceptedRecords.{accepted-record}
use Rattle.record.specs.Accepted.{AcceptedRecord}
use Rattle.record.specs.Lent.{held_rows, record_lengths, record_lines}
use Rattle.stabilizer.proofs.SharedTests.{has-length}
use Rattle.stabilizer.specs.Lists.{list_of}
use Rattle.operations.proofs.UsedPassing.{lines-pass}
use Rattle.operations.specs.Used.{UsedRecord, used_lines, used_stray, used_wrong}
use Rattle.operations_checks.proofs.UsedNumbers.{no-further}
use Rattle.words.proofs.Flags.{neither}
use Rattle.calls.specs.Expansions.{expand_call, expand_lines}

module _ (u : UsedRecord) (s z x : List ℕ) (others : Bool)
    (o : others ≡ (other_than u.held.n s || (other_than u.held.n z || other_than u.held.n x))) (k : ℕ)
    (e : k ≡ first_fitting (used_lines u others (leb (2 ^ u.held.n) 0) false)) where
  at-lines : k ≡ first_fitting (expand_lines u s z x)
  at-lines = no-further u others false e ∙ ap (λ b. first_fitting (used_lines u b false false)) o

  pub expand-refused : (k ≡ 0 → ⊥) → Call (expand_call u s z x s z x) k
  expand-refused h = refused _ at-lines h (refl, (refl, (refl, tt)))

  module _ (a : k ≡ 0) where
    lines : (first_fitting (record_lines u.held others false) ≡ 0) ×
        ((used_stray u || leb (2 ^ u.held.n) 0) ≡ false)
        × (used_wrong u ≡ false)
    lines = (lines-pass u others (leb (2 ^ u.held.n) 0) false).0 (sym e ∙ a)

    pub accepted-held : AcceptedRecord u.held
    accepted-held = accepted-record u.held others false lines.0

    all_fit : (other_than u.held.n s || (other_than u.held.n z || other_than u.held.n x)) ≡ false
    all_fit = sym o ∙ (neither (record_lengths u.held) others (not-held 3 _ _ (not-held 1 _ _ lines.0).1).0).1

    pub signs-fit : length s ≡ u.held.n
    signs-fit = has-length u.held.n s
        (neither (other_than u.held.n s) (other_than u.held.n z || other_than u.held.n x) all_fit).0

    words-fit : (other_than u.held.n z || other_than u.held.n x) ≡ false
    words-fit = (neither (other_than u.held.n s) (other_than u.held.n z || other_than u.held.n x) all_fit).1

    pub z-fit : length z ≡ u.held.n
    z-fit = has-length u.held.n z (neither (other_than u.held.n z) (other_than u.held.n x) words-fit).0

    pub x-fit : length x ≡ u.held.n
    x-fit = has-length u.held.n x (neither (other_than u.held.n z) (other_than u.held.n x) words-fit).1

    pub expand-accepted : (s' z' x' : List ℕ) → s' ≡ (list_of u.held.n (held_rows u.held)).signs →
        z' ≡ (list_of u.held.n (held_rows u.held)).z → x' ≡ (list_of u.held.n (held_rows u.held)).x →
        Call (expand_call u s z x s' z' x') 0
    expand-accepted s' z' x' es ez ex = done _ at-lines a (es, (ez, (ex, tt)))
