-- What an accepted call on the image of a graph leaves: the graph, the signs, the list and its count.
use mathlib.Core.List.{List}
use mathlib.Core.Path.{◌≡◌}
use Prim.Native.Nat.{ℕ}
use lib.ListN.{length}
use Rattle.buffers.specs.Buffers.{tabulate, written}
use Rattle.buffers.proofs.Calling.{written_all}
use Rattle.buffers.specs.Calls.{Call}
use Rattle.image.specs.Image.{image_minus, image_record}
use Rattle.image.specs.Rule.{image_list}
use Rattle.record.specs.Lent.{LentRecord, held_record, neighbour_words}
use Rattle.words.specs.Bits.{digit}
use Rattle.calls.specs.Images.{image_call}

module _ (l : LentRecord) (image signs list : List ℕ) (count : ℕ) (image' signs' list' : List ℕ) (count' r : ℕ)
    (C : Call (image_call l image signs list count image' signs' list' count') r) (z : r ≡ 0) where
  pub image-left : image' ≡ neighbour_words l.n (image_record l.n (held_record l))
  image-left = (written_all C z).0

  pub signs-left : signs' ≡ tabulate l.n (λ j. digit (image_minus l.n (held_record l) j))
  signs-left = (written_all C z).1.0

  pub list_left : list' ≡ written (image_list l.n (held_record l)) list
  list_left = (written_all C z).1.1.0

  pub count_left : count' ≡ length (image_list l.n (held_record l))
  count_left = (written_all C z).1.1.1.0
