-- Steps on a graph and its codes: a sign moved off the image of Z, CZ, and a measured vertex isolated.
use Rattle.std.specs.Prelude.{◌&&◌, Bool, cond, false, not, ℕ, eqb}
use Rattle.clifford.specs.Clifford.{Clifford, XZ, ZX, bit_c, then}
use Rattle.record.specs.internal.Joined.{joined_by}
use Rattle.record.specs.Records.{GraphRecord}
use Rattle.words.specs.Bits.{Word, put, ◌⊕◌}

-- a Pauli as a code: u, the image of Z is negative; v, that of X is
abbrev pub pauli_code : Bool → Bool → Clifford
pauli_code u v = record { class = XZ; sx = v; sz = u }

-- ---- signs
-- X before the code at a, and Z before those of its neighbours: a generator of the graph, which changes nothing
abbrev pub sign_moved : GraphRecord → ℕ → GraphRecord
sign_moved r a =
    record { graph = r.graph; codes = λ q. then (pauli_code (eqb q a) (r.graph a q)) (r.codes q) }

-- ---- CZ on two vertices that are ready for it
-- Z at a is, up to a sign, the product of Z over these vertices of the graph: a itself where its code keeps Z, and the
-- neighbours of a where its code sends X to Z
abbrev pub reach : GraphRecord → ℕ → Word
reach r a q = cond (bit_c (r.codes a)) (r.graph a q) (eqb q a)

-- and that sign
abbrev pub reach_minus : GraphRecord → ℕ → Bool
reach_minus r a = cond (bit_c (r.codes a)) (r.codes a).sx (r.codes a).sz

-- Z before the code: in both sets; in one of them where the other has the sign
abbrev pub cz_turned : GraphRecord → ℕ → ℕ → Word
cz_turned r a b q =
    (reach r a q && reach r b q) ⊕ ((reach_minus r a && reach r b q) ⊕ (reach_minus r b && reach r a q))

abbrev pub cz_record : GraphRecord → ℕ → ℕ → GraphRecord
cz_record r a b =
    record {
      graph = joined_by r.graph (reach r a) (reach r b);
      codes = λ q. then (pauli_code false (cz_turned r a b q)) (r.codes q);
    }

-- ---- a vertex whose Z is measured
-- a Hadamard as a code, with a sign for the image of X
abbrev pub hadamard_code : Bool → Clifford
hadamard_code t = record { class = ZX; sx = t; sz = false }

-- its edges go; its state is that of Z with sign t before the code, and where t is 1 its neighbours get Z
abbrev pub isolated : GraphRecord → ℕ → Bool → GraphRecord
isolated r q t =
    record {
      graph = λ k l. r.graph k l && (not (eqb k q) && not (eqb l q));
      codes = put (λ j. then (pauli_code false (t && r.graph q j)) (r.codes j)) q (then (hadamard_code t) (r.codes q));
    }
