-- The product of chosen rows by a loop over them: each row is read, and multiplied in where the word chooses it.
use mathlib.Core.Bool.{false, true}
use mathlib.Core.Path.{ap, refl, subst, sym, ◌∙◌, ◌≡◌}
use Prim.Native.Nat.{◌*◌, ◌+◌, ◌<◌, ℕ, ◌≤◌}
use lib.Dec.{lit<}
use lib.ListN.{get_or, length}
use Rattle.buffers.specs.Refusals.{first_fitting}
use Rattle.pauli.proofs.PauliLaws.{Pauli-path}
use Rattle.pauli.specs.Pauli.{identity, minus, mul, power, row, signed_row}
use Rattle.pauli.specs.internal.Rows.{pauli_of}
use Rattle.pauli.specs.declared.Row.{Row}
use Rattle.words.proofs.BitLaws.{two_cases, zero_bit}
use Rattle.words.specs.Bits.{bit, is_odd}
use Rattle.stabilizer.proofs.Accepted.{formed-within}
use Rattle.stabilizer.proofs.Multiplying.{
  Multiplied,
  all-multiplied,
  multiplied-off,
  multiplied-on,
  none-multiplied,
}
use Rattle.stabilizer.specs.Lists.{GeneratorList, rows}
use Rattle.calls.proofs.ProductLines.{accepted-rows}
use Rattle.calls.specs.Products.{chosen_product, product_lines}

-- a minus sign is two quarter turns
pub two-turns : (s z x : ℕ) → s < 2 → row (power (2 * s)) z x ≡ signed_row (is_odd s) z x
unfolding power
two-turns s z x l = ap (λ t. row t z x) (two_cases (λ k. power (2 * k) ≡ minus (is_odd k)) refl refl s l)

-- the empty product
nothing : pauli_of (record { phase = 0; z = 0; x = 0 }) ≡ identity
unfolding power
nothing = Pauli-path refl zero_bit zero_bit

module _ (l : GeneratorList) (chosen : ℕ) where
  -- the loop's invariant: the rows below j are looked at
  pub record PartProduct (j : ℕ) (p : Row) : Type 0 where
    pub multiplied : Multiplied l.n (rows l) (bit chosen) j (pauli_of p)
    pub low : p.phase < 4

  pub no_part : PartProduct 0 (record { phase = 0; z = 0; x = 0 })
  no_part = record { multiplied = none-multiplied l.n (rows l) (bit chosen) _ nothing; low = lit< tt }

  -- the call is accepted
  module _ (e : first_fitting (product_lines l chosen) ≡ 0) where
    -- what reading row j asks for
    pub row_read : (j : ℕ) → j < l.n →
        ((j < length l.signs) × (j < length l.z) × (j < length l.x)) × (get_or l.signs j 0 < 2)
    row_read j k =
        let F = accepted-rows l chosen e in (
          (
            subst (λ m. j < m) (sym F.signs-length) k,
            subst (λ m. j < m) (sym F.z-length) k,
            subst (λ m. j < m) (sym F.x-length) k,
          ),
          F.signs-below j k,
        )

    module _ (j : ℕ) (p : Row) (part : PartProduct j p) (more : j < l.n) where
      pub part-on : (f r : Row) → bit chosen j ≡ true → pauli_of f ≡ rows l j
          → (pauli_of r ≡ mul 64 (pauli_of p) (pauli_of f)) × (r.phase < 4) → PartProduct (j + 1) r
      part-on f r t read times =
          let F = accepted-rows l chosen e in
          record {
            multiplied = multiplied-on l.n F.upto (rows l) (formed-within l F) (bit chosen) j (pauli_of p)
                part.multiplied more (pauli_of r) t (times.0 ∙ ap (mul 64 (pauli_of p)) read);
            low = times.1;
          }

      pub part_off : bit chosen j ≡ false → PartProduct (j + 1) p
      part_off t =
          let F = accepted-rows l chosen e in
          record {
            multiplied = multiplied-off l.n F.upto (rows l) (formed-within l F) (bit chosen) j (pauli_of p)
                part.multiplied more t;
            low = part.low;
          }

  pub whole-product : (j : ℕ) (p : Row) → PartProduct j p → l.n ≤ j
      → (pauli_of p ≡ chosen_product l chosen) × (p.phase < 4)
  whole-product j p part end =
      (all-multiplied l.n (rows l) (bit chosen) j (pauli_of p) end part.multiplied, part.low)
