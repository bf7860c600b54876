-- Two vertices of any record on which CZ can act as it acts on those of a reduced one.
use Rattle.std.specs.Prelude.{◌&&◌, Bool, false, true, ◌≡◌, ℕ}
use Rattle.clifford.specs.Clifford.{Clifford, bit_c, bit_d}
use Rattle.record.specs.Records.{GraphRecord}

-- C = D = 1: neither Z nor X goes to plus or minus Z
abbrev pub crossed : Clifford → Bool
crossed k = bit_c k && bit_d k

-- each code sends Z or X to plus or minus Z, and where both send X there, the two are not joined
pub record Ready (r : GraphRecord) (a b : ℕ) : Type 0 where
  pub first : crossed (r.codes a) ≡ false
  pub second : crossed (r.codes b) ≡ false
  pub parted : bit_c (r.codes a) ≡ true → bit_c (r.codes b) ≡ true → r.graph a b ≡ false
