-- `save_refusal` meets its contract: the first line of the record or of the store that holds.
use Rattle.call_store.proofs.Saving.{save-number}
use Rattle.operations.specs.Used.{used_record}
use Rattle.call_store.proofs.save_refusal.Goals as goal

pub returns : goal.returns
returns c =
    save-number (used_record c.args.n c.args.neighbours.now c.args.codes.now c.args.used) (record {
      heads = c.args.heads.now;
      neighbours = c.args.held_neighbours.now;
      codes = c.args.held_codes.now;
    }) _ _ _ c.used_refusal-own.ensures c.store_refusal-others.ensures c.earlier_refusal.ensures
