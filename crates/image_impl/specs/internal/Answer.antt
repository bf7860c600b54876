-- What the code's answer holds.
use Rattle.std.specs.Prelude.{List, ◌≡◌, ◌<◌, ℕ, ◌≤◌, get_or, length, take}
use Rattle.buffers.specs.internal.Numbers.{number_of}
use Rattle.buffers.specs.Refusals.{first_fitting}
use Rattle.record.specs.Records.{GraphRecord}
use Rattle.words.specs.Bits.{digit, word_of}
use Rattle.image.specs.Image.{image_graph, image_minus, loop_lines}
use Rattle.image.specs.Rule.{image_list}
use Rattle.image_impl.specs.declared.answer.Told.{Told}

-- whether there is an image, and how many vertices are complemented, refused or not; the neighbour words of the image
-- graph; the minus signs, where nothing is refused; the list, whose first `count` places are those of the image rule
pub record IsImage (n : ℕ) (r : GraphRecord) (a : Told) (words bytes vertices : List ℕ) : Type 0 where
  pub number : number_of a.answer ≡ first_fitting (loop_lines n r)
  pub graph : (j : ℕ) → j < n → get_or words j 0 ≡ word_of n (image_graph n r j)
  pub signs : number_of a.answer ≡ 0 → (j : ℕ) → j < n → get_or bytes j 0 ≡ digit (image_minus n r j)
  pub list : take a.count vertices ≡ image_list n r
  pub count : a.count ≡ length (image_list n r)
  pub room : a.count ≤ 96

-- the first k places of the list are those of the image rule
pub record IsImageList (n : ℕ) (r : GraphRecord) (vertices : List ℕ) (k : ℕ) : Type 0 where
  pub list : take k vertices ≡ image_list n r
  pub count : k ≡ length (image_list n r)
  pub room : k ≤ 96
