-- What the documents say of each exported function on lists and on texts of Pauli strings, in one record: demand 1,
-- which arguments it accepts, and the sentences of the demands and of the requests that speak of its answer.
use Rattle.std.specs.Prelude.{List, ◌↔◌, ◌≡◌, ◌*◌, ◌<◌, ℕ, get_or}
use Rattle.calls.specs.Lists.{check_call, reduce_unused_call}
use Rattle.calls.specs.Products.{product_call}
use Rattle.calls.specs.Strings.{read_strings_call, write_strings_call}
use Rattle.record.specs.Lent.{held_rows, lent_record}
use Rattle.stabilizer.specs.Groups.{SameGroup}
use Rattle.stabilizer.specs.Lists.{GeneratorList, rows}
use Rattle.claims.specs.Arguments.{IsList}
use Rattle.claims.specs.Conforming.{Answered}
use Rattle.claims.specs.ListDemand.{Checked, ReducedTo}
use Rattle.claims.specs.ProductDemand.{ProductAnswer}
use Rattle.claims.specs.StringsDemand.{FormTold, ListComesBack, list_left, TextComesBack}
use Rattle.claims.specs.UsedDemand.{MadeUnused}
use Rattle.claims.specs.families.Lists.{ProductFits, ReadStringsFits, ReduceFits, WriteStringsFits}
use Rattle.buffers.specs.Sentences.{FirstTrue}
use Rattle.claims.specs.Numbers.{check_sentences, product_sentences, read_sentences, reduce_sentences, write_sentences}

-- sukhlent_check: demand 1
pub record CheckSays (l : GeneratorList) (r : ℕ) : Type 0 where
  pub answered : Answered (check_call l) r
  pub accepted : (r ≡ 0) ↔ IsList l
  pub numbers : FirstTrue (check_sentences l) r
  pub tells : Checked l r

-- sukhlent_reduce: demands 1 and 2, and that reduced codes are among 0, 2, 4, 6, 8 and 10
pub record ReduceSays (l : GeneratorList) (nb cs : List ℕ) (used : ℕ) (nb' cs' : List ℕ) (used' r : ℕ) : Type
    0 where
  pub answered : Answered (reduce_unused_call l nb cs used nb' cs' used') r
  pub accepted : (r ≡ 0) ↔ ReduceFits l nb cs
  pub numbers : FirstTrue (reduce_sentences l nb cs) r
  pub group : r ≡ 0 →
      SameGroup l.n l.n (rows l) (held_rows (lent_record l.n nb' cs'))
  pub form : r ≡ 0 → ReducedTo l (lent_record l.n nb' cs')
  pub codes : r ≡ 0 → (q : ℕ) → q < l.n → (i : ℕ) × (i < 6) × (get_or cs' q 0 ≡ 2 * i)
  pub unused : r ≡ 0 → MadeUnused l nb' cs' used'

-- sukhlent_product: demand 1; the answer is the product by its contract
pub record ProductSays (l : GeneratorList) (chosen z x phase z' x' phase' r : ℕ) : Type 0 where
  pub answered : Answered (product_call l chosen z x phase z' x' phase') r
  pub accepted : (r ≡ 0) ↔ ProductFits l chosen
  pub numbers : FirstTrue (product_sentences l chosen) r
  pub answer : r ≡ 0 → ProductAnswer l chosen z' x' phase'

-- of read_strings: demand 1, its number 1, and the text written again
pub record ReadStringsSays (t s z x s' z' x' : List ℕ) (r : ℕ) : Type 0 where
  pub answered : Answered (read_strings_call t s z x s' z' x') r
  pub accepted : (r ≡ 0) ↔ ReadStringsFits t s z x
  pub numbers : FirstTrue (read_sentences t s z x) r
  pub form : FormTold t r
  pub back : r ≡ 0 → TextComesBack t (list_left s s' z' x')

-- of write_strings: demand 1, and the list read again
pub record WriteStringsSays (l : GeneratorList) (text text' : List ℕ) (r : ℕ) : Type 0 where
  pub answered : Answered (write_strings_call l text text') r
  pub accepted : (r ≡ 0) ↔ WriteStringsFits l text
  pub numbers : FirstTrue (write_sentences l text) r
  pub back : r ≡ 0 → ListComesBack l text'
