-- A line printed and compared with the text that it was read from.
use mathlib.Core.Bool.{Bool, false, false≢true, true}
use mathlib.Core.List.{◌++◌, List}
use mathlib.Core.Path.{ap, sym, ◌∙◌, ◌≡◌}
use Prim.Native.Nat.{◌+◌, ℕ, ◌≤◌}
use native.Mathlib.Nat.{zero-add}
use native.Mathlib.Omega.{arith}
use lib.ListN.{drop, get_or, length, take}
use lib.Seq.{take_at}
use Rattle.buffers.proofs.Writing.{and_then}
use Rattle.buffers.specs.Writing.{Printed, overwritten}
use Rattle.text.proofs.RecordLaws.{length-columns}
use Rattle.text.specs.RecordTexts.{columns, line_at, line_of, numbered_line, numeral}
use Rattle.text.specs.Text.{space}
use Rattle.text.specs.declared.records.RecordLine.{RecordLine}
use Rattle.text_records.specs.internal.Reads.{LineOther, LineThere, print_at}
use Rattle.std.specs.Cmp.Lexicographic.{pointwise}
use Rattle.std.proofs.lemmas.Slice.Eq.{bytes_eq-Decides}
use lib.Dec.{eqb}

-- what is printed from the start of a buffer stands there
head-printed : {bytes before after : List ℕ} {r : ℕ} → Printed bytes 0 before after r → take r after ≡ bytes
unfolding overwritten
head-printed {bytes} {before} {after} {r} P =
    ap (take r) P.out ∙ take_at bytes (drop (0 + length bytes) before) r (sym (P.end ∙ zero-add (length bytes)))

module _ (q : ℕ) (t : List ℕ) {o₀ o₁ : List ℕ} {from : ℕ} (N : Printed (numeral q ++ space) 0 o₀ o₁ from)
    (room : length (numeral q ++ space) + 22 ≤ length o₀)
    {line : RecordLine} (e : line ≡ line_of (λ c. get_or t (from + c) 0)) where
  own_line : line ≡ line_at q t
  own_line = e ∙ ap (λ k. line_of (λ c. get_or t (k + c) 0)) (N.end ∙ zero-add (length (numeral q ++ space)))

  module _ {o₂ : List ℕ} {size : ℕ} (C : Printed (columns line) from o₁ o₂ size) where
    whole : Printed (numbered_line q line) 0 o₀ o₂ size
    unfolding numbered_line
    whole = and_then (omega (arith, room)) N C

    pub line-size : size ≤ length (numeral q ++ space) + 22
    line-size = omega (arith, C.end, N.end, length-columns line)

    print : numbered_line q line ≡ print_at q t
    print = ap (numbered_line q) own_line

    -- the printed line, at the start of the buffer
    printed : take size o₂ ≡ print_at q t
    printed = head-printed whole ∙ print

    module _ {r : Bool} (told : r ≡ pointwise eqb (take size o₂) (take (length (take size o₂)) t)) where
      long : size ≡ length (print_at q t)
      long = whole.end ∙ zero-add (length (numbered_line q line)) ∙ ap length print

      pub line-there : r ≡ true → LineThere q t (record { line = line; size = size })
      line-there same =
          record {
            line = own_line;
            size = long;
            there = ap (λ k. take k t) (long ∙ ap length (sym printed))
                ∙ sym ((bytes_eq-Decides (take size o₂) (take (length (take size o₂)) t)).0 (sym told ∙ same))
                ∙ printed;
          }

      pub line-other : r ≡ false → LineOther q t (record { line = line; size = size })
      line-other differs =
          record {
            line = own_line;
            size = long;
            other = λ h. false≢true (sym differs ∙ told
                ∙ (bytes_eq-Decides (take size o₂) (take (length (take size o₂)) t)).1
                (printed ∙ sym h ∙ ap (λ k. take k t) (long ∙ ap length (sym printed))));
          }
