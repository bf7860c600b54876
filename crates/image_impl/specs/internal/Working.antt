-- What the lent record, the list and the words beside them hold while the image rule runs.
use Rattle.std.specs.Prelude.{◌&&◌, Bool, false, not, ◌++◌, List, ◌≡◌, ◌+◌, ◌<◌, ℕ, ◌≤◌, eqb, get_or, length, take}
use Rattle.std.specs.Int.Bits.{bit_and}
use Rattle.clifford.specs.Clifford.{bit_c, bit_d}
use Rattle.clifford.specs.Vectors.{codes_of}
use Rattle.operations.specs.internal.InPlace.{Unrefused, record_in}
use Rattle.record.specs.Lent.{held_record}
use Rattle.record.specs.Records.{GraphRecord, complement_all}
use Rattle.words.specs.Bits.{bit}
use Rattle.image.specs.Image.{image_record}
use Rattle.image.specs.Rule.{image_list}
use Rattle.image_impl.specs.declared.complementing.Tracked.{Tracked}

-- the state of the rule: the lent buffers of the record and the list, the words of C and D, the count of the list
pub record Working : Type 0 where
  pub neighbours : List ℕ
  pub codes : List ℕ
  pub list : List ℕ
  pub c : ℕ
  pub d : ℕ
  pub count : ℕ

-- the buffers with what the code keeps beside them
abbrev pub working : List ℕ → List ℕ → List ℕ → Tracked → Working
working words codes list t =
    record { neighbours = words; codes = codes; list = list; c = t.c; d = t.d; count = t.count }

abbrev pub working_record : Working → GraphRecord
working_record w = held_record (record_in w.neighbours w.codes)

-- the list so far
abbrev pub listed : Working → List ℕ
listed w = take w.count w.list

-- no line refuses the record, which has n vertices; the words c and d have the bits C and D of the codes; c has none at
-- or above n
pub record Tracking (n : ℕ) (w : Working) : Type 0 where
  pub long : length w.neighbours ≡ n
  pub unrefused : Unrefused (record_in w.neighbours w.codes)
  pub C : (q : ℕ) → bit w.c q ≡ bit_c (codes_of w.codes q)
  pub D : (q : ℕ) → q < n → bit w.d q ≡ bit_d (codes_of w.codes q)
  pub above : (q : ℕ) → n ≤ q → bit w.c q ≡ false
  pub places : length w.list ≡ 96

-- r is w complemented at these vertices, one after another, and they are put on the list
pub record Complemented (n : ℕ) (w : Working) (vertices : List ℕ) (r : Working) : Type 0 where
  pub held : working_record r ≡ complement_all (working_record w) vertices
  pub list : listed r ≡ listed w ++ vertices
  pub count : r.count ≡ w.count + length vertices
  pub tracking : Tracking n r

-- w is what the image rule comes to on r: the record at its end, and the list
pub record Ruled (n : ℕ) (r : GraphRecord) (w : Working) : Type 0 where
  pub held : working_record w ≡ image_record n r
  pub list : listed w ≡ image_list n r
  pub count : w.count ≡ length (image_list n r)
  pub tracking : Tracking n w

-- vertex j is in the set c and has a neighbour there
abbrev pub joined_in : List ℕ → ℕ → ℕ → Bool
joined_in words c j = bit c j && not (eqb (bit_and (get_or words j 0) c) 0)
