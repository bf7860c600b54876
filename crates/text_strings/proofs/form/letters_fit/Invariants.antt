-- What the loops of `letters_fit` keep.
use Prim.Native.Nat.{◌+◌, suc}
use lib.ListN.{get_or}
use Rattle.text.specs.Reading.{is_letter}
use Rattle.text_strings.proofs.FitLoops.{FitBelow}
use Rattle.text_strings.proofs.form.letters_fit.Given as goal

abbrev pub invariant-loop-q : goal.invariant-loop-q
invariant-loop-q l = FitBelow l.n (λ i. is_letter (get_or l.text (l.from + suc i) 0)) l.fit l.q
