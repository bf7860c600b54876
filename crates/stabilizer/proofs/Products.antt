-- Products of chosen rows: their signs, their bits, and what they commute with.
use mathlib.Core.Bool.{◌&&◌, Bool, false, true}
use mathlib.Core.Path.{ap, ap₂, refl, sym, ◌∙◌, ◌≡◌}
use Prim.Native.Nat.{◌<◌, suc, zero, ℕ}
use native.Mathlib.Omega.{arith}
use Rattle.pauli.proofs.PauliLaws.{
  anticommute-mul,
  anticommute-swap,
  clash-form,
  identity-mul,
  mul_assoc,
  mul_comm,
  mul-identity,
  mul-x,
  mul-z,
  signed_product,
  square,
}
use Rattle.pauli.specs.Pauli.{Pauli, anticommute, identity, imaginary, mul}
use Rattle.words.proofs.Sums.{bit_monoid, fold-ext, fold-hom, fold-unit, parity-add}
use Rattle.words.specs.Bits.{Word, fold, parity, ◌⊕◌}
use Rattle.stabilizer.specs.Groups.{Commuting, chosen, product}

pub anticommute-identity : (n : ℕ) (p : Pauli) → anticommute n identity p ≡ false
unfolding anticommute
anticommute-identity n p = fold-unit false ◌⊕◌ bit_monoid n (λ q l. refl)

-- ---- a bit of a row that adds where rows multiply
pub record Linear (n : ℕ) (f : Pauli → Bool) : Type 0 where
  pub at-identity : f identity ≡ false
  pub adds : (p r : Pauli) → f (mul n p r) ≡ f p ⊕ f r

pub x-linear : (n q : ℕ) → Linear n (λ p. p.x q)
x-linear n q = record { at-identity = refl; adds = λ p r. mul-x n p r q }

pub z-linear : (n q : ℕ) → Linear n (λ p. p.z q)
z-linear n q = record { at-identity = refl; adds = λ p r. mul-z n p r q }

pub anticommute-linear : (n : ℕ) (r : Pauli) → Linear n (λ p. anticommute n p r)
anticommute-linear n r =
    record { at-identity = anticommute-identity n r; adds = λ p s. anticommute-mul n p s r }

pub product-bit : (n m : ℕ) (f : Pauli → Bool) → Linear n f → (w : Word) (rows : ℕ → Pauli)
    → f (product n m w rows) ≡ parity m (λ j. w j && f (rows j))
product-bit n m f L w rows = fold-hom identity (mul n) false ◌⊕◌ f L.at-identity L.adds m _
    ∙ fold-ext false ◌⊕◌ m (λ j l. go (w j) (rows j))
  where
    go : (b : Bool) (r : Pauli) → f (chosen b r) ≡ (b && f r)
    go false r = L.at-identity
    go true r = refl

pub product-x : (n m : ℕ) (w : Word) (rows : ℕ → Pauli) (q : ℕ) →
    (product n m w rows).x q ≡ parity m (λ j. w j && (rows j).x q)
product-x n m w rows q = product-bit n m (λ p. p.x q) (x-linear n q) w rows

pub product-z : (n m : ℕ) (w : Word) (rows : ℕ → Pauli) (q : ℕ) →
    (product n m w rows).z q ≡ parity m (λ j. w j && (rows j).z q)
product-z n m w rows q = product-bit n m (λ p. p.z q) (z-linear n q) w rows

-- the places where both act and differ: the symplectic form
pub anticommute-form : (n : ℕ) (p r : Pauli)
    → anticommute n p r ≡ parity n (λ q. p.z q && r.x q) ⊕ parity n (λ q. p.x q && r.z q)
unfolding anticommute
anticommute-form n p r = fold-ext false ◌⊕◌ n (λ q l. clash-form (p.z q) (p.x q) (r.z q) (r.x q))
    ∙ parity-add n _ _

-- ---- products of commuting rows
module _ (n : ℕ) where
  -- what commutes with each row commutes with a product of them
  pub anticommute-product : (m : ℕ) (w : Word) (rows : ℕ → Pauli) (r : Pauli)
      → ((j : ℕ) → j < m → anticommute n (rows j) r ≡ false) → anticommute n (product n m w rows) r ≡ false
  unfolding fold
  anticommute-product zero w rows r h = anticommute-identity n r
  anticommute-product (suc m) w rows r h = anticommute-mul n _ _ r
      ∙ ap₂ ◌⊕◌ (anticommute-product m w rows r (λ j l. h j (omega arith))) (last (w m))
    where
      last : (b : Bool) → anticommute n (chosen b (rows m)) r ≡ false
      last false = anticommute-identity n r
      last true = h m (omega arith)

  -- the first m rows alone
  pub commuting-fewer : {m : ℕ} {rows : ℕ → Pauli} → Commuting n (suc m) rows → Commuting n m rows
  commuting-fewer G =
      record {
        signed = λ j l. G.signed j (omega arith);
        commute = λ i j k l. G.commute i j (omega arith) (omega arith);
      }

  pub chosen-mul : (a b : Bool) (r : Pauli) → imaginary r.phase ≡ false
      → mul n (chosen a r) (chosen b r) ≡ chosen (a ⊕ b) r
  chosen-mul false b r h = identity-mul n (chosen b r)
  chosen-mul true false r h = mul-identity n r
  chosen-mul true true r h = square n r h

  interchange : (A a B b : Pauli) → mul n a B ≡ mul n B a
      → mul n (mul n A a) (mul n B b) ≡ mul n (mul n A B) (mul n a b)
  interchange A a B b h =
      mul_assoc n A a (mul n B b)
      ∙ ap (mul n A) (sym (mul_assoc n a B b) ∙ ap (λ w. mul n w b) h ∙ mul_assoc n B a b)
      ∙ sym (mul_assoc n A B (mul n a b))

  -- products of products: the words add
  pub product-mul : (m : ℕ) (rows : ℕ → Pauli) → Commuting n m rows → (w v : Word)
      → mul n (product n m w rows) (product n m v rows) ≡ product n m (λ j. w j ⊕ v j) rows
  unfolding fold
  product-mul zero rows G w v = identity-mul n identity
  product-mul (suc m) rows G w v =
      interchange _ (chosen (w m) (rows m)) _ _
      (mul_comm n (chosen (w m) (rows m)) (product n m v rows) (crossing (w m)))
      ∙ ap₂ (mul n) (product-mul m rows (commuting-fewer G) w v)
      (chosen-mul (w m) (v m) (rows m) (G.signed m (omega arith)))
    where
      crossing : (b : Bool) → anticommute n (chosen b (rows m)) (product n m v rows) ≡ false
      crossing false = anticommute-identity n _
      crossing true = anticommute-swap n (rows m) _
          ∙ anticommute-product m v rows (rows m) (λ j l. G.commute j m (omega arith) (omega arith))

  pub product-signed : (m : ℕ) (rows : ℕ → Pauli) → Commuting n m rows → (w : Word)
      → imaginary (product n m w rows).phase ≡ false
  unfolding fold
  product-signed zero rows G w = refl
  product-signed (suc m) rows G w = last (w m) (product-signed m rows (commuting-fewer G) w)
    where
      last : (b : Bool) → imaginary (product n m w rows).phase ≡ false
          → imaginary (mul n (product n m w rows) (chosen b (rows m))).phase ≡ false
      last false h = ap (λ p. imaginary p.phase) (mul-identity n (product n m w rows)) ∙ h
      last true h = signed_product n _ (rows m) h (G.signed m (omega arith))
          (anticommute-product m w rows (rows m) (λ j l. G.commute j m (omega arith) (omega arith)))
