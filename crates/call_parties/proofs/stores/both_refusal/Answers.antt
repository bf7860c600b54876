-- `both_refusal` meets its contract: the first line of the record or of the party's places that holds.
use Rattle.call_parties.proofs.Sharing.{both-number}
use Rattle.operations.specs.Used.{used_record}
use Rattle.call_parties.proofs.stores.both_refusal.Goals as goal

pub returns : goal.returns
returns c =
    both-number c.args.word c.args.party (used_record c.args.n c.args.neighbours.now
    c.args.codes.now c.args.used) (record {
      heads = c.args.heads.now;
      neighbours = c.args.held_neighbours.now;
      codes = c.args.held_codes.now;
    }) _ _ _ c.used_refusal-own.ensures c.own_refusal-held.ensures c.earlier_refusal.ensures
