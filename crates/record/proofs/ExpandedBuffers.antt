-- The lent buffers of a list filled place by place, from the first.
use mathlib.Core.Bool.{Bool}
use mathlib.Core.List.{List}
use mathlib.Core.Path.{◌∙◌, ◌≡◌}
use Prim.Native.Nat.{◌+◌, ◌<◌, ℕ, ◌≤◌}
use native.Mathlib.Omega.{arith}
use lib.ListN.{set}
use Rattle.buffers.proofs.Filling.{Filled, fill_end, fill_step}
use Rattle.pauli.specs.Pauli.{Pauli, sign_bit, signed_row}
use Rattle.stabilizer.specs.Groups.{Within}
use Rattle.stabilizer.specs.Lists.{list_of}
use Rattle.words.specs.Bits.{digit, word_of}
use Rattle.record.proofs.ExpandedRows.{sign_of, x-of, z-of}

-- the places below j of the three buffers are filled
pub record BuffersMade (n : ℕ) (R : ℕ → Pauli) (signs z x : List ℕ) (j : ℕ) : Type 0 where
  pub upto : j ≤ n
  pub signs-made : Filled n (λ k. digit (sign_bit (R k).phase)) signs j
  pub z-made : Filled n (λ k. word_of n (R k).z) z j
  pub x-made : Filled n (λ k. word_of n (R k).x) x j

-- generator j written
pub one-made : (n : ℕ) (R : ℕ → Pauli) (signs z x : List ℕ) (j : ℕ) → BuffersMade n R signs z x j → j < n →
    (m : Bool) (wz wx : ℕ) → signed_row m wz wx ≡ R j → Within n (R j) → {s : ℕ} → s ≡ digit m →
    BuffersMade n R (set signs j s) (set z j wz) (set x j wx) (j + 1)
one-made n R signs z x j B l m wz wx e W h =
    record {
      upto = omega arith;
      signs-made = fill_step n _ signs j _ B.signs-made l (h ∙ sign_of m wz wx e);
      z-made = fill_step n _ z j _ B.z-made l (z-of n m wz wx e W);
      x-made = fill_step n _ x j _ B.x-made l (x-of n m wz wx e W);
    }

pub all_made : (n : ℕ) (R : ℕ → Pauli) (signs z x : List ℕ) (j : ℕ) → BuffersMade n R signs z x j → n ≤ j →
    (signs ≡ (list_of n R).signs) × ((z ≡ (list_of n R).z) × (x ≡ (list_of n R).x))
all_made n R signs z x j B l = (
  fill_end n _ signs j B.signs-made l,
  (fill_end n _ z j B.z-made l, fill_end n _ x j B.x-made l),
)
