-- A record of reduced form is the reduced record of its own group.
use mathlib.Core.Bool.{◌&&◌, Bool, and-false, and-true, cond, false, true, true≢false}
use mathlib.Core.Logic.{inl, inr}
use mathlib.Core.Path.{ap, refl, sym, ◌∙◌, ◌≡◌}
use Prim.Native.Nat.{◌<◌, ℕ, ◌≤◌}
use native.Mathlib.Omega.{arith}
use lib.Dec.{eqb}
use Rattle.clifford.specs.Clifford.{Class, XY, XZ, YX, YZ, ZX, ZY, bit_c, code_of, image}
use Rattle.clifford.specs.Vectors.{act}
use Rattle.record.specs.Graph.{Simple}
use Rattle.pauli.specs.Pauli.{letter, x_bit}
use Rattle.record.proofs.Equation.{equation}
use Rattle.record.proofs.Unique.{record-path}
use Rattle.record.specs.Columns.{ColumnDependent}
use Rattle.record.specs.Records.{GraphRecord, rows_of}
use Rattle.record.specs.Reduced.{ReductionOf, plain_code, reduced, with_hadamard, x_words}
use Rattle.stabilizer.proofs.GroupLaws.{same_refl}
use Rattle.words.proofs.Places.{other_place, same_place}
use Rattle.words.proofs.Sums.{bit_monoid, fold-ext, fold-one, fold-unit, lt-or-ge}
use Rattle.words.specs.Bits.{parity, ◌⊕◌}
use Rattle.operations.specs.internal.ReducedForms.{ReducedForm}

-- class 1
abbrev is_yz : Class → Bool
is_yz XZ = false
is_yz YZ = true
is_yz ZX = false
is_yz XY = false
is_yz YX = false
is_yz ZY = false

-- a code below 12 with a plus at the image of Z
low-code : (c : Class) (s t : Bool) → code_of (record { class = c; sx = s; sz = t }) < 12 → t ≡ false
    → record { class = c; sx = s; sz = t } ≡ with_hadamard (bit_c (record { class = c; sx = s; sz = t }))
    (plain_code (is_yz c) s)
low-code c s true l e = absurd (true≢false e)
low-code XZ s false l e = refl
low-code YZ s false l e = refl
low-code ZX false false l e = refl
low-code ZX true false l e = refl
low-code XY s false l e = absurd (omega (arith, l))
low-code YX s false l e = absurd (omega (arith, l))
low-code ZY s false l e = absurd (omega (arith, l))

-- the x bit after such a code: the own place where it is kept, the edge where it is rotated
low_x : (c : Class) (s t : Bool) (z x : Bool) → code_of (record { class = c; sx = s; sz = t }) < 12
    → x_bit (image (record { class = c; sx = s; sz = t }) (letter z x))
    ≡ cond (bit_c (record { class = c; sx = s; sz = t })) z x
low_x XZ s t false false l = refl
low_x XZ s t false true l = refl
low_x XZ s t true false l = refl
low_x XZ s t true true l = refl
low_x YZ s t false false l = refl
low_x YZ s t false true l = refl
low_x YZ s t true false l = refl
low_x YZ s t true true l = refl
low_x ZX s t false false l = refl
low_x ZX s t false true l = refl
low_x ZX s t true false l = refl
low_x ZX s t true true l = refl
low_x XY s t z x l = absurd (omega (arith, l))
low_x YX s t z x l = absurd (omega (arith, l))
low_x ZY s t z x l = absurd (omega (arith, l))

module _ (n : ℕ) (r : GraphRecord) (S : Simple n r.graph) (F : ReducedForm n r) where
  abbrev rotated : ℕ → Bool
  rotated q = bit_c (r.codes q)

  pub form-x : (j q : ℕ) → q < n → (rows_of n r j).x q ≡ cond (bit_c (r.codes q)) (r.graph j q) (eqb q j)
  unfolding act
  form-x j q l = low_x (r.codes q).class (r.codes q).sx (r.codes q).sz (r.graph j q) (eqb q j) (F.low q l)

  x-rotated : (j q : ℕ) → q < n → rotated q ≡ true → (rows_of n r j).x q ≡ r.graph j q
  x-rotated j q l e = form-x j q l ∙ ap (λ b. cond b (r.graph j q) (eqb q j)) e

  x-kept : (j q : ℕ) → q < n → rotated q ≡ false → (rows_of n r j).x q ≡ eqb q j
  x-kept j q l e = form-x j q l ∙ ap (λ b. cond b (r.graph j q) (eqb q j)) e

  -- an edge of a rotated vertex leads to a smaller vertex, which is kept
  no-larger : (q j : ℕ) → q < n → rotated q ≡ true → q ≤ j → r.graph q j ≡ false
  no-larger q j l e m = go (r.graph q j) refl
    where
      go : (b : Bool) → r.graph q j ≡ b → b ≡ false
      go false h = refl
      go true h = absurd (omega (arith, F.smaller q j l e h))

  pub apart : (q j : ℕ) → q < n → j < n → bit_c (r.codes q) ≡ true → bit_c (r.codes j) ≡ true → r.graph q j ≡ false
  apart q j l m e f = elim (lt-or-ge j q) [
    | inl k ↦ S.symmetric q j ∙ no-larger j q m f (omega arith)
    | inr k ↦ no-larger q j l e k
  ]

  -- the column of a rotated vertex is the sum of those of its neighbours
  depends : (q : ℕ) → q < n → rotated q ≡ true → ColumnDependent n (x_words (rows_of n r)) q
  depends q l e = (r.graph q, λ j m. x-rotated j q l e ∙ sym (sum j m))
    where
      term : (j t : ℕ) → j < n → t < q → (b : Bool) → r.graph q t ≡ b → (b && (rows_of n r j).x t) ≡ (b && eqb t j)
      term j t m k false h = refl
      term j t m k true h = x-kept j t (omega arith) (kept-neighbour (rotated t) refl)
        where
          kept-neighbour : (b : Bool) → rotated t ≡ b → b ≡ false
          kept-neighbour false f = refl
          kept-neighbour true f = absurd (true≢false (sym h ∙ apart q t l (omega arith) e f))

      sum : (j : ℕ) → j < n → parity q (λ t. r.graph q t && (rows_of n r j).x t) ≡ r.graph j q
      sum j m =
          fold-ext false ◌⊕◌ q (λ t k. term j t m k (r.graph q t) refl)
          ∙ elim (lt-or-ge j q) [
            | inl k ↦ fold-one false ◌⊕◌ bit_monoid q j k
                (λ t o d. ap (λ b. r.graph q t && b) (other_place d) ∙ and-false (r.graph q t))
                ∙ ap (λ b. r.graph q j && b) (same_place j) ∙ and-true (r.graph q j) ∙ S.symmetric q j
            | inr k ↦ fold-unit false ◌⊕◌ bit_monoid q
                (λ t o. ap (λ b. r.graph q t && b) (other_place {i = t} {j = j} (λ d. absurd (omega (arith, d))))
                ∙ and-false (r.graph q t)) ∙ sym (no-larger q j l e k) ∙ S.symmetric q j
          ]

  -- that of a kept vertex is not: its own generator has the bit, and none before it
  stands : (q : ℕ) → q < n → rotated q ≡ false → ColumnDependent n (x_words (rows_of n r)) q → ⊥
  stands q l e D =
      true≢false (sym (same_place q) ∙ sym (x-kept q q l e) ∙ D.1 q l
      ∙ fold-unit false ◌⊕◌ bit_monoid q (λ t k. ap (λ b. D.0 t && b) (none t k (rotated t) refl) ∙ and-false (D.0 t)))
    where
      none : (t : ℕ) → t < q → (b : Bool) → rotated t ≡ b → (rows_of n r q).x t ≡ false
      none t k false f = x-kept q t (omega arith) f ∙ other_place {i = t} {j = q} (λ d. absurd (omega (arith, d)))
      none t k true f = x-rotated q t (omega arith) f ∙ S.symmetric q t ∙ no-larger t q (omega arith) f (omega arith)

  pub form-is-reduced : ReductionOf n (rows_of n r) r
  form-is-reduced =
      record {
        simple = S;
        hadamards = rotated;
        ys = λ q. is_yz (r.codes q).class;
        minuses = λ q. (r.codes q).sx;
        code = λ q. elim (lt-or-ge q n) [
          | inl l ↦ low-code (r.codes q).class (r.codes q).sx (r.codes q).sz (F.low q l) (F.even q l)
          | inr l ↦ F.above q l
              ∙ sym (ap (λ k. with_hadamard (bit_c k) (plain_code (is_yz k.class) k.sx)) (F.above q l))
        ];
        rotated = λ q l. (depends q l, λ D. dependent q l D (rotated q) refl);
        above = λ q l. (
          ap bit_c (F.above q l),
          ap (λ k. is_yz k.class) (F.above q l),
          ap (λ k. k.sx) (F.above q l),
        );
        group = same_refl;
      }
    where
      dependent : (q : ℕ) → q < n → ColumnDependent n (x_words (rows_of n r)) q → (b : Bool) → rotated q ≡ b
          → rotated q ≡ true
      dependent q l D true e = e
      dependent q l D false e = absurd (stands q l e D)

  pub form-reduced : reduced n (rows_of n r) ≡ r
  form-reduced = record-path (reduced n (rows_of n r)) r (equation n (rows_of n r) r form-is-reduced)
