-- `bit_at` meets its contract: a word has no bit above 63.
use Rattle.std.proofs.lemmas.Grind.{common_steps}
use native.Mathlib.Omega.{arith}
use Rattle.words.proofs.BitLaws.{bit-above}
use Rattle.words.proofs.bit_at.Goals as goal

pub returns-else-q-lt64 : goal.returns-else-q-lt64
returns-else-q-lt64 c = grind (arith, common_steps, bit-above 64 c.args.w c.ranges.w.fits c.args.q c.if-q-lt64.false)
