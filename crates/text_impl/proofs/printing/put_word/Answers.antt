-- `put_word` meets its contract: the word in 16 hexadecimal digits, the highest first.
use mathlib.Core.Path.{◌≡◌, refl, sym, ap, ap₂, ◌∙◌}
use Prim.Native.Nat.{◌+◌, ◌-◌, ◌*◌, ◌/◌, ◌^◌, zero-le}
use native.Mathlib.Omega.{arith}
use native.Mathlib.Nat.{div-one}
use lib.ListN.{set, length-set}
use borrow.Author.Rules.{rules}
use Rattle.text.specs.Text.{hex_text}
use Rattle.buffers.specs.Writing.{overwritten}
use Rattle.text.proofs.HexLaws.{length-hex, write-digit}
use Rattle.buffers.proofs.Writing.{write-none}
use Rattle.text_impl.proofs.printing.put_word.Goals as goal

pub loop-i-init : goal.loop-i-init
unfolding hex_text
loop-i-init c = (zero-le, write-none _ _, refl)

pub loop-i-preserved : goal.loop-i-preserved
loop-i-preserved c =
    let l = c.loop-i in (
      search rules,
      ap₂ (λ out b. set out (c.args.at + l.i) b) l.invariant.1 c.hex_digit.ensures
          ∙ write-digit c.args.out.now c.args.at c.args.w l.i c.requires
          c.loop-i-test.true,
      simp length-set l.invariant.2,
    )

pub returns : goal.returns
returns c =
    let a = c.args in
    let l = c.loop-i in
    let all : l.i ≡ 16 = omega arith in
    record {
      end = ap (λ k. a.at + k) (sym (length-hex 16 a.w));
      out =
          l.invariant.1 ∙ ap (λ i. overwritten a.out.now a.at (hex_text i (a.w / 2 ^ (64 - 4 * i)))) all
          ∙ ap (λ v. overwritten a.out.now a.at (hex_text 16 v)) (div-one a.w);
    }
