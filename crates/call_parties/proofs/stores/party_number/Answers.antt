-- `party_number` meets its contract: 6 where the party is above 1.
use mathlib.Core.Bool.{cond}
use mathlib.Core.Path.{ap, sym}
use borrow.Author.Tests.{le-ltb, lt-ltb}
use Rattle.call_parties.proofs.stores.party_number.Goals as goal

pub returns-then-party-gt1 : goal.returns-then-party-gt1
returns-then-party-gt1 c = sym (ap (λ b. cond b 6 0) (lt-ltb 1 _ c.if-party-gt1.true))

pub returns-else-party-gt1 : goal.returns-else-party-gt1
returns-else-party-gt1 c = sym (ap (λ b. cond b 6 0) (le-ltb 1 _ c.if-party-gt1.false))
