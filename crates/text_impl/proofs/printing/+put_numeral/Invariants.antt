-- What falls from a call of `put_numeral` to the next: the number.
use Rattle.text_impl.proofs.printing.+put_numeral.Given as goal

abbrev pub decreases-put_numeral : goal.decreases-put_numeral
decreases-put_numeral l = l.k
