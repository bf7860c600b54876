-- A party's vertices put at a place of a store, and taken from one, by what is written.
use mathlib.Core.Bool.{◌&&◌}
use mathlib.Core.List.{List, ◌++◌}
use mathlib.Core.Path.{◌∙◌, ◌≡◌, ap}
use Prim.Native.Nat.{◌*◌, ◌+◌, ◌-◌, ℕ}
use lib.ListN.{drop, take}
use Rattle.buffers.proofs.Tabulate.{tabulate-length}
use Rattle.parties.specs.Masks.{masked, merged}
use Rattle.record.specs.Lent.{LentRecord, lent_record}
use Rattle.store.specs.Kept.{headed, with_place}
use Rattle.store.specs.Places.{Store, part_at}
use Rattle.store_impl.proofs.Parts.{from_place, placed}
use Rattle.operations.specs.Used.{UsedRecord, used_record}
use Rattle.words.specs.Bits.{bit, word_of}

-- a record of 64 qubits
abbrev pub of64 : List ℕ → List ℕ → ℕ → UsedRecord
of64 nb cs used = used_record 64 nb cs used

module _ (i own : ℕ) (nb cs : List ℕ) where
  pub put-at : (used name w : ℕ) (heads hn hc heads' words bytes : List ℕ)
      → w ≡ word_of 64 (λ q. bit own q && bit used q)
      → heads' ≡ headed i 64 name w heads → words ≡ (masked (bit own) (of64 nb cs 0)).held.neighbours
      → bytes ≡ (masked (bit own) (of64 nb cs 0)).held.codes
      → ◌≡◌ {A = Store} (record {
        heads = heads';
        neighbours = take (64 * i) hn ++ (words ++ drop (64 * i + 64 - 64 * i) (drop (64 * i) hn));
        codes = take (64 * i) hc ++ (bytes ++ drop (64 * i + 64 - 64 * i) (drop (64 * i) hc));
      }) (with_place i (masked (bit own) (of64 nb cs used)) name
      (record { heads = heads; neighbours = hn; codes = hc }))
  put-at used name w heads hn hc heads' words bytes ew eh en ec = λ j. record {
    heads = (eh ∙ ap (λ v. headed i 64 name v heads) ew) j;
    neighbours = placed i 64 _ words hn (tabulate-length 64 _) en j;
    codes = placed i 64 _ bytes hc (tabulate-length 64 _) ec j;
  }

  pub taken_at : (hn hc nb' cs' : List ℕ)
      → nb' ≡ (merged (bit own) (of64 (take (64 * i + 64 - 64 * i) (drop (64 * i) hn))
      (take (64 * i + 64 - 64 * i) (drop (64 * i) hc)) 0) (of64 nb cs 0)).held.neighbours
      → cs' ≡ (merged (bit own) (of64 (take (64 * i + 64 - 64 * i) (drop (64 * i) hn))
      (take (64 * i + 64 - 64 * i) (drop (64 * i) hc)) 0) (of64 nb cs 0)).held.codes
      → ◌≡◌ {A = LentRecord} (lent_record 64 nb' cs')
      (merged (bit own) (of64 (part_at i 64 hn) (part_at i 64 hc) 0) (of64 nb cs 0)).held
  taken_at hn hc nb' cs' en ec = λ j. record {
    n = 64;
    neighbours = (en ∙ ap (λ w. (merged (bit own) (of64 w cs 0) (of64 nb cs 0)).held.neighbours)
        (from_place (64 * i) 64 hn)) j;
    codes = (ec ∙ ap (λ w. (merged (bit own) (of64 nb w 0) (of64 nb cs 0)).held.codes) (from_place (64 * i) 64 hc)) j;
  }
