-- `write_marked` meets its contract: all marked numbers, at the start of the list.
use native.Mathlib.Omega.{arith}
use Rattle.orbits_impl.proofs.WrittenNumbers.{all-written, none_written, word_room, word-written}
use Rattle.orbits_impl.proofs.writing.write_marked.Goals as goal

pub loop-w-init : goal.loop-w-init
loop-w-init c = none_written _ _ c.requires

pub write_word-end-requires : goal.write_word-end-requires
write_word-end-requires c =
    (omega arith, word_room c.loop-w.invariant c.loop-w-test.true)

pub loop-w-preserved : goal.loop-w-preserved
loop-w-preserved c =
    word-written c.loop-w.invariant c.loop-w-test.true c.write_word-end.ensures
    c.write_word-end.auto.list

pub returns : goal.returns
returns c = all-written c.loop-w.invariant c.loop-w-test.false
