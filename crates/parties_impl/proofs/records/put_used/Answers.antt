-- `put_used` meets its contract: the used qubits of the party from one word, and of the other from another.
use mathlib.Core.Bool.{cond}
use mathlib.Core.Path.{ap, ◌∙◌}
use Rattle.parties.specs.Masks.{in_party}
use Rattle.parties_impl.proofs.OwnWords.{own-bit}
use Rattle.words.proofs.BitLaws.{word-cong}
use Rattle.words.specs.Bits.{bit}
use Rattle.parties_impl.proofs.records.put_used.Goals as goal

pub returns : goal.returns
returns c =
    let a = c.args in
    c.merge_used.ensures ∙ word-cong 64 _ _ (λ q l. ap (λ b. cond b (bit a.new q) (bit a.used q))
    (own-bit _ (in_party a.word a.party) c.own_word.ensures q l))
