-- The calls on lists of generators and on texts of Pauli strings: demand 1, and which arguments they accept.
use Rattle.std.specs.Prelude.{List, ◌↔◌, ◌≡◌, ◌<◌, ◌^◌, ℕ, length}
use Rattle.buffers.specs.Refusals.{first_fitting}
use Rattle.calls.specs.Lists.{check_call, reduce_lines, reduce_unused_call}
use Rattle.calls.specs.Products.{product_call}
use Rattle.calls.specs.Strings.{read_strings_call, write_strings_call}
use Rattle.buffers.specs.Calls.{Call}
use Rattle.stabilizer.specs.Lists.{GeneratorList, rows}
use Rattle.text.specs.Reading.{read_lines, write_lines}
use Rattle.text.specs.Strings.{strings_text, text_size}
use Rattle.claims.specs.Arguments.{IsList, IsRows}
use Rattle.claims.specs.Conforming.{Conforms}

-- demand 1 of each call: its lines stand in the published order, and its answers fill their buffers
pub record ListsConform : Type 0 where
  pub check : (l : GeneratorList) → Conforms (check_call l)
  pub reduce : (l : GeneratorList) (nb cs : List ℕ) (used : ℕ) (nb' cs' : List ℕ) (used' : ℕ) →
      Conforms (reduce_unused_call l nb cs used nb' cs' used')
  pub products : (l : GeneratorList) (chosen z x phase z' x' phase' : ℕ) →
      Conforms (product_call l chosen z x phase z' x' phase')
  pub reads : (t s z x s' z' x' : List ℕ) → Conforms (read_strings_call t s z x s' z' x')
  pub writes : (l : GeneratorList) (text text' : List ℕ) → Conforms (write_strings_call l text text')

-- what a buffer lent only for the answer holds makes no line true
pub record ListBuffersUnread : Type 0 where
  pub reduce : (l : GeneratorList) (nb cs nb₂ cs₂ : List ℕ) → length nb ≡ length nb₂ → length cs ≡ length cs₂ →
      first_fitting (reduce_lines l nb cs) ≡ first_fitting (reduce_lines l nb₂ cs₂)
  pub reads : (t s z x s₂ z₂ x₂ : List ℕ) → length s ≡ length s₂ → length z ≡ length z₂ → length x ≡ length x₂ →
      first_fitting (read_lines t s z x) ≡ first_fitting (read_lines t s₂ z₂ x₂)
  pub writes : (l : GeneratorList) (text text₂ : List ℕ) → length text ≡ length text₂ →
      first_fitting (write_lines l text) ≡ first_fitting (write_lines l text₂)

-- a list, and two buffers with n places
abbrev pub ReduceFits : GeneratorList → List ℕ → List ℕ → Type 0
ReduceFits l nb cs = IsList l × (length nb ≡ l.n) × (length cs ≡ l.n)

-- "These rows need neither commute nor be independent"
abbrev pub ProductFits : GeneratorList → ℕ → Type 0
ProductFits l chosen = IsRows l × (chosen < 2 ^ l.n)

-- the text is that of a list, for which each buffer has a place for each generator
abbrev pub ReadStringsFits : List ℕ → List ℕ → List ℕ → List ℕ → Type 0
ReadStringsFits t s z x = (l : GeneratorList) × IsList l × (t ≡ strings_text l.n (rows l))
    × (length s ≡ l.n) × (length z ≡ l.n) × (length x ≡ l.n)

-- the buffer has the bytes of the text
abbrev pub WriteStringsFits : GeneratorList → List ℕ → Type 0
WriteStringsFits l text = IsList l × (length text ≡ text_size l.n)

-- of each call: it is accepted exactly if its arguments fit
pub record ListsAccepted : Type 0 where
  pub check : (l : GeneratorList) (r : ℕ) → Call (check_call l) r → (r ≡ 0) ↔ IsList l
  pub reduce : (l : GeneratorList) (nb cs : List ℕ) (used : ℕ) (nb' cs' : List ℕ) (used' r : ℕ) →
      Call (reduce_unused_call l nb cs used nb' cs' used') r → (r ≡ 0) ↔ ReduceFits l nb cs
  pub product : (l : GeneratorList) (chosen z x phase z' x' phase' r : ℕ) →
      Call (product_call l chosen z x phase z' x' phase') r → (r ≡ 0) ↔ ProductFits l chosen
  pub read-strings : (t s z x s' z' x' : List ℕ) (r : ℕ) → Call (read_strings_call t s z x s' z' x') r →
      (r ≡ 0) ↔ ReadStringsFits t s z x
  pub write-strings : (l : GeneratorList) (text text' : List ℕ) (r : ℕ) → Call (write_strings_call l text text') r →
      (r ≡ 0) ↔ WriteStringsFits l text
