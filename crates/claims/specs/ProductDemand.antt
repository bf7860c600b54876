-- Of products: "a word chooses the rows, which are taken in index order, and the answer is the product and its phase",
-- "a power of i from 0 to 3" (02, §3). Said of an accepted call: z', x' and phase' are what is held at exit.
use Rattle.std.specs.Prelude.{false, true, ◌≡◌, ◌<◌, ◌^◌, suc, ℕ}
use Rattle.buffers.specs.Calls.{Call}
use Rattle.pauli.specs.Pauli.{Pauli, identity, mul, power, row}
use Rattle.calls.specs.Products.{product_call}
use Rattle.stabilizer.specs.Lists.{GeneratorList, rows}
use Rattle.words.specs.Bits.{Word, bit}

-- the product of those of the first m rows that the word chooses: each is multiplied to those before it
pub data ProductOf (n : ℕ) (w : Word) (R : ℕ → Pauli) : ℕ → Pauli → Type 0 where
  none : ProductOf n w R 0 identity
  passed : {m : ℕ} {p : Pauli} → w m ≡ false → ProductOf n w R m p → ProductOf n w R (suc m) p
  taken : {m : ℕ} {p : Pauli} → w m ≡ true → ProductOf n w R m p → ProductOf n w R (suc m) (mul n p (R m))

-- "the answer is the product and its phase"
pub record ProductAnswer (l : GeneratorList) (chosen z' x' phase' : ℕ) : Type 0 where
  -- i to the phase', times the letters of the two words
  pub product : ProductOf l.n (bit chosen) (rows l) l.n (row (power phase') z' x')
  pub turns : phase' < 4
  pub z-below : z' < 2 ^ l.n
  pub x_below : x' < 2 ^ l.n

-- of every accepted call
abbrev pub ProductsAnswer : Type 0
ProductsAnswer = (l : GeneratorList) (chosen z x phase z' x' phase' : ℕ) →
    Call (product_call l chosen z x phase z' x' phase') 0 → ProductAnswer l chosen z' x' phase'
