-- Texts of Pauli strings (02, §10), from the contracts of the two calls. A name with a prime is what a buffer holds at
-- exit.
use Rattle.std.specs.Prelude.{List, ◌↔◌, ◌≡◌, ℕ, length}
use Rattle.calls.specs.Strings.{read_strings_call, write_strings_call}
use Rattle.buffers.specs.Calls.{Call}
use Rattle.stabilizer.specs.Lists.{GeneratorList}
use Rattle.text.specs.Strings.{HasStringForm}

-- the list in the buffers after a read; its number of qubits is their length
abbrev pub list_left : List ℕ → List ℕ → List ℕ → List ℕ → GeneratorList
list_left s s' z' x' = record { n = length s; signs = s'; z = z'; x = x' }

-- "Lines of unequal length, a count of lines unlike the count of letters, other characters or a missing newline give
-- 1":
-- 1 comes back exactly if the text is that of no list
abbrev pub FormTold : List ℕ → ℕ → Type 0
FormTold t r = (r ≡ 1) ↔ (HasStringForm t → ⊥)

-- "Reading back a written list yields that list": every read of the text into buffers of n places is accepted, and
-- leaves the list
abbrev pub ListComesBack : GeneratorList → List ℕ → Type 0
ListComesBack l t = (s z x s' z' x' : List ℕ) (r : ℕ) → length s ≡ l.n → length z ≡ l.n → length x ≡ l.n →
    Call (read_strings_call t s z x s' z' x') r → (r ≡ 0) × (list_left s s' z' x' ≡ l)

-- "each accepted text is rewritten unchanged": every write of the list into a buffer as long as the text is accepted,
-- and leaves the text
abbrev pub TextComesBack : List ℕ → GeneratorList → Type 0
TextComesBack t l = (text text' : List ℕ) (r : ℕ) → length text ≡ length t → Call (write_strings_call l text text') r →
    (r ≡ 0) × (text' ≡ t)

-- the sentences of the request, of every call
pub record StringsDemand : Type 0 where
  pub form : (t s z x s' z' x' : List ℕ) (r : ℕ) → Call (read_strings_call t s z x s' z' x') r → FormTold t r
  pub list_back : (l : GeneratorList) (text text' : List ℕ) → Call (write_strings_call l text text') 0 →
      ListComesBack l text'
  pub text-back : (t s z x s' z' x' : List ℕ) → Call (read_strings_call t s z x s' z' x') 0 →
      TextComesBack t (list_left s s' z' x')
  -- "writing a list gives one text only": accepted texts that are read as one list are one text
  pub one-text : (t u s z x s₂ z₂ x₂ s' z' x' : List ℕ) → Call (read_strings_call t s z x s' z' x') 0 →
      Call (read_strings_call u s₂ z₂ x₂ s' z' x') 0 → t ≡ u
  -- and accepted lists whose texts are one are one list
  pub one_list : (l m : GeneratorList) (a b t : List ℕ) → Call (write_strings_call l a t) 0 →
      Call (write_strings_call m b t) 0 → l ≡ m
