-- Generator lists as they are lent, and the lines of the refusals that speak of a list.
use Rattle.std.specs.Prelude.{◌&&◌, Bool, not, ◌||◌, ◌++◌, List, [], ◌∷◌, ◌^◌, ℕ, eqb, get_or}
use Rattle.buffers.specs.Buffers.{tabulate}
use Rattle.buffers.specs.Refusals.{Refusal, bad_count, line, other_than, reaching}
use Rattle.pauli.specs.Pauli.{Pauli, anticommute, sign_bit, signed_row}
use Rattle.words.specs.Bits.{bit, digit, is_odd, word_of}
use Rattle.words.specs.Search.{every, some}
use Rattle.stabilizer.specs.Groups.{product}

-- "A generator is a sign bit (1 means minus), a z word and an x word": three buffers with a place for each generator
pub record GeneratorList : Type 0 where
  pub n : ℕ
  pub signs : List ℕ
  pub z : List ℕ
  pub x : List ℕ

-- generator j; the identity at and above the buffers' length
abbrev pub rows : GeneratorList → ℕ → Pauli
rows l j = signed_row (is_odd (get_or l.signs j 0)) (get_or l.z j 0) (get_or l.x j 0)

-- the buffers that hold the first n of these rows
abbrev pub list_of : ℕ → (ℕ → Pauli) → GeneratorList
list_of n R =
    record {
      n = n;
      signs = tabulate n (λ j. digit (sign_bit (R j).phase));
      z = tabulate n (λ j. word_of n (R j).z);
      x = tabulate n (λ j. word_of n (R j).x);
    }

-- ---- lines
-- 4: one of the three buffers does not have n places
abbrev pub list_lengths : GeneratorList → Bool
list_lengths l = other_than l.n l.signs || (other_than l.n l.z || other_than l.n l.x)

-- 5: "A word has a bit at or above n"
abbrev pub list_stray : GeneratorList → Bool
list_stray l = reaching (2 ^ l.n) l.z || reaching (2 ^ l.n) l.x

-- 6: "A sign .. is above 1"
abbrev pub list_signs : GeneratorList → Bool
list_signs l = reaching 2 l.signs

-- 9: "Two generators do not commute"
unfoldable pub clashing : ℕ → (ℕ → Pauli) → Bool
clashing n R = some n (λ i. some n (λ j. anticommute n (R i) (R j)))

-- 10: "The generators are dependent": a product of some of them, not of none, has no letter; signs dropped
abbrev pub letterless : ℕ → Pauli → Bool
letterless n p = every n (λ q. not (p.x q) && not (p.z q))

-- some product of them, not the empty one, is letterless
unfoldable pub dependent : ℕ → (ℕ → Pauli) → Bool
dependent n R = some (2 ^ n) (λ v. not (eqb v 0) && letterless n (product n n (bit v) R))

-- the lines of any list of rows, which need neither commute nor be independent; `others`: a further buffer has a wrong
-- length
abbrev pub form_lines : GeneratorList → Bool → List Refusal
form_lines l others =
    line 2 (bad_count l.n) ∷ line 4 (list_lengths l || others) ∷ line 5 (list_stray l) ∷ line 6 (list_signs l) ∷ []

-- the lines that are read off the buffers before any elimination
abbrev pub early_lines : GeneratorList → Bool → List Refusal
early_lines l others = form_lines l others ++ (line 9 (clashing l.n (rows l)) ∷ [])

-- the lines of a list in checking order
abbrev pub list_lines : GeneratorList → Bool → List Refusal
list_lines l others = early_lines l others ++ (line 10 (dependent l.n (rows l)) ∷ [])
