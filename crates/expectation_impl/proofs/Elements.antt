-- The element of a graph's group with given x bits, by a loop over the generators.
use mathlib.Core.Bool.{Bool, beq, false, not, true}
use mathlib.Core.List.{List}
use mathlib.Core.Path.{ap, refl, ◌∙◌, ◌≡◌}
use Prim.Native.Nat.{◌+◌, ◌<◌, ◌^◌, ℕ, ◌≤◌}
use lib.Dec.{lit<}
use lib.ListN.{get_or, length}
use Rattle.record.proofs.GraphGroups.{graph-within}
use Rattle.record.specs.Graph.{Simple, graph_generator}
use Rattle.record.specs.NeighbourWords.{graph_in}
use Rattle.pauli.proofs.PauliLaws.{Pauli-path}
use Rattle.pauli.specs.Pauli.{mul, power}
use Rattle.pauli.specs.declared.Row.{Row}
use Rattle.pauli.specs.internal.Rows.{pauli_of}
use Rattle.record.proofs.ExpandedRows.{plus-row}
use Rattle.stabilizer.proofs.Multiplying.{Multiplied, all-multiplied, multiplied-off, multiplied-on, none-multiplied}
use Rattle.stabilizer.specs.Groups.{product}
use Rattle.words.proofs.BitLaws.{zero_bit}
use Rattle.words.specs.Bits.{bit, digit, ◌⊕◌}

module _ (words : List ℕ) (chosen : ℕ) where
  -- the loop's invariant: the generators below j are looked at
  pub record PartElement (j : ℕ) (e : Row) : Type 0 where
    pub multiplied : Multiplied (length words) (graph_generator (graph_in words)) (bit chosen) j (pauli_of e)
    pub low : e.phase < 4

  pub no-element : PartElement 0 (record { phase = 0; z = 0; x = 0 })
  unfolding power
  no-element =
      record { multiplied = none-multiplied _ _ (bit chosen) _ (Pauli-path refl zero_bit zero_bit); low = lit< tt }

  module _ (upto : length words ≤ 64) (S : Simple (length words) (graph_in words)) (j : ℕ) (e : Row)
      (part : PartElement j e) (more : j < length words) where
    pub element-on : (x : ℕ) → x ≡ 2 ^ j → (r : Row) → bit chosen j ≡ true →
        (pauli_of r ≡ mul 64 (pauli_of e) (pauli_of (record { phase = 0; z = get_or words j 0; x = x })))
        × (r.phase < 4) → PartElement (j + 1) r
    unfolding power
    element-on x f r t h =
        record {
          multiplied = multiplied-on (length words) upto _ (graph-within (length words) (graph_in words) S)
              (bit chosen) j (pauli_of e) part.multiplied more (pauli_of r) t
              (h.0 ∙ ap (mul 64 (pauli_of e)) (plus-row words j f));
          low = h.1;
        }

    pub element-off : bit chosen j ≡ false → PartElement (j + 1) e
    element-off t =
        record {
          multiplied = multiplied-off (length words) upto _ (graph-within (length words) (graph_in words) S)
              (bit chosen) j (pauli_of e) part.multiplied more t;
          low = part.low;
        }

  pub whole-element : (j : ℕ) (e : Row) → length words ≤ j → PartElement j e
      → (pauli_of e ≡ product (length words) (length words) (bit chosen) (graph_generator (graph_in words)))
      × (e.phase < 4)
  whole-element j e end part =
      (all-multiplied (length words) _ (bit chosen) j (pauli_of e) end part.multiplied, part.low)

-- whether two signs differ, as the code has it
pub signs-differ : (s m : Bool) → digit (not (beq s m)) ≡ digit (s ⊕ m)
signs-differ false false = refl
signs-differ false true = refl
signs-differ true false = refl
signs-differ true true = refl
