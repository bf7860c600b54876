-- `store_refusal` meets its contract: the first line of a store that holds; 0 where none does.
use mathlib.Core.Bool.{◌||◌}
use mathlib.Core.Path.{◌∙◌, ap, refl, sym}
use Rattle.buffers.proofs.RefusalLaws.{passed_on}
use Rattle.store.proofs.StoreNumbers.{store-2, store-4, store-names, store-number}
use Rattle.store.specs.Places.{Store}
use Rattle.store_impl.proofs.PlaceNumbers.{lengths-fit}
use Rattle.store_impl.proofs.checks.store_refusal.Goals as goal

pub returns-then-large_count : goal.returns-then-large_count
returns-then-large_count c =
    let a = c.args in
    let st : Store = record { heads = a.heads.now; neighbours = a.neighbours.now; codes = a.codes.now } in
    store-2 _ st a.others (sym c.large_count.ensures ∙ c.if-large_count.true)

pub returns-then-wrong_lengths-others : goal.returns-then-wrong_lengths-others
returns-then-wrong_lengths-others c =
    let a = c.args in
    let st : Store = record { heads = a.heads.now; neighbours = a.neighbours.now; codes = a.codes.now } in
    store-4 _ st a.others (sym c.large_count.ensures ∙ c.if-large_count.false)
    (ap (λ b. b || a.others) (sym c.wrong_lengths.ensures) ∙ c.if-wrong_lengths-others.true)

pub store_number-requires : goal.store_number-requires
store_number-requires c =
    let a = c.args in
    let st : Store = record { heads = a.heads.now; neighbours = a.neighbours.now; codes = a.codes.now } in
    record {
      k_bound = (c.requires, sym c.large_count.ensures ∙ c.if-large_count.false);
      neighbours_len = lengths-fit _ st a.others
          (ap (λ b. b || a.others) (sym c.wrong_lengths.ensures) ∙ c.if-wrong_lengths-others.false);
    }

pub returns-in_err-store_number : goal.returns-in_err-store_number
returns-in_err-store_number c =
    let a = c.args in
    let st : Store = record { heads = a.heads.now; neighbours = a.neighbours.now; codes = a.codes.now } in
    let R = passed_on _ _ c.from_residual.ensures.1 c.in_err-store_number.ensures in
    store-number _ st a.others
    (ap (λ b. b || a.others) (sym c.wrong_lengths.ensures) ∙ c.if-wrong_lengths-others.false) _ R.0 R.1

pub returns-then-named_twice : goal.returns-then-named_twice
returns-then-named_twice c =
    let a = c.args in
    let st : Store = record { heads = a.heads.now; neighbours = a.neighbours.now; codes = a.codes.now } in
    store-names _ st a.others
    (ap (λ b. b || a.others) (sym c.wrong_lengths.ensures) ∙ c.if-wrong_lengths-others.false)
    _ c.in_ok-store_number.ensures refl (sym c.if-named_twice.true ∙ c.named_twice.ensures)

pub returns-else-named_twice : goal.returns-else-named_twice
returns-else-named_twice c =
    let a = c.args in
    let st : Store = record { heads = a.heads.now; neighbours = a.neighbours.now; codes = a.codes.now } in
    store-names _ st a.others
    (ap (λ b. b || a.others) (sym c.wrong_lengths.ensures) ∙ c.if-wrong_lengths-others.false)
    _ c.in_ok-store_number.ensures refl (sym c.if-named_twice.false ∙ c.named_twice.ensures)
