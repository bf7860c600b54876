-- Words of the vertices that may be out of place, and what a step does to them.
use Rattle.std.specs.Prelude.{Bool, false, true, ◌||◌, List, ◌≡◌, ◌*◌, ◌+◌, ◌<◌, ◌^◌, ℕ, leb, get_or, length}
use Rattle.operations.specs.internal.KeptGroups.{GroupKept, unsettled}
use Rattle.operations.specs.internal.Settling.{distance}
use Rattle.operations.specs.internal.InPlace.{record_in}
use Rattle.record.specs.Lent.{held_record}
use Rattle.words.specs.Bits.{bit, is_odd}

-- the code at q is odd, or 8 or more: only with such a code can a vertex be out of place
abbrev pub suspect_at : List ℕ → ℕ → Bool
suspect_at codes q = is_odd (get_or codes q 0) || leb 8 (get_or codes q 0)

-- every vertex with such a code is in the word
pub record Suspected (words codes : List ℕ) (watch : ℕ) : Type 0 where
  pub held : (q : ℕ) → q < length words → suspect_at codes q ≡ true → bit watch q ≡ true

-- every vertex out of place is in the word
pub record Watched (words codes : List ℕ) (rest : ℕ) : Type 0 where
  pub short : rest < 2 ^ length words
  pub seen : (q : ℕ) → q < length words → unsettled words codes q ≡ true → bit rest q ≡ true

-- nothing changes but at the vertices of the first word, and whether a code is such a one but at those of the second
pub record Elsewhere (touched ends : ℕ) (words codes words' codes' : List ℕ) : Type 0 where
  pub short : touched < 2 ^ length words
  pub word : (q : ℕ) → q < length words → bit touched q ≡ false → get_or words' q 0 ≡ get_or words q 0
  pub code : (q : ℕ) → q < length words → bit touched q ≡ false → get_or codes' q 0 ≡ get_or codes q 0
  pub suspect : (q : ℕ) → q < length words → bit ends q ≡ false → suspect_at codes' q ≡ suspect_at codes q

-- a look at one vertex: the group stays, and the record is nearer to the reduced form, or the word smaller
pub record Advanced (words codes : List ℕ) (rest : ℕ) (words' codes' : List ℕ) (rest' watch' : ℕ) : Type 0 where
  pub kept : GroupKept words codes words' codes'
  pub watched : Watched words' codes' rest'
  pub suspected : Suspected words' codes' watch'
  pub less : distance (length words) (held_record (record_in words' codes')) * 2 ^ 64 + rest'
      < distance (length words) (held_record (record_in words codes)) * 2 ^ 64 + rest
