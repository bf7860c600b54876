-- Of the parts of reduced graphs (02, §9): "Show that equivalent states have the same parts, and that, where the parts
-- agree, a working choice exists exactly if each has one"; and which comparisons 3 refuses.
use Rattle.std.specs.Prelude.{true, List, ◌↔◌, ◌⊎◌, ◌≡◌, ◌<◌, ◌≤◌, ℕ}
use Rattle.buffers.specs.Refusals.{first_fitting}
use Rattle.clifford.specs.Clifford.{Clifford}
use Rattle.comparison.specs.Compared.{pair_lines}
use Rattle.comparison.specs.PartChoices.{CarriesOn}
use Rattle.cut.specs.Kernel.{count}
use Rattle.record.specs.Graph.{Graph}
use Rattle.comparison.specs.Parts.{Path, part_of}
use Rattle.record.specs.Reduced.{reduced_graph}
use Rattle.stabilizer.specs.Carries.{Carries}
use Rattle.stabilizer.specs.Lists.{GeneratorList, rows}
use Rattle.calls.specs.Lists.{check_lines}
use Rattle.words.specs.Bits.{Word}
use Rattle.buffers.specs.Calls.{Call}
use Rattle.calls.specs.Comparisons.{compare_call}

-- the connected part of vertex q in a list's reduced graph
abbrev pub part : GeneratorList → ℕ → Word
part l = part_of l.n (reduced_graph l.n (rows l))

-- how many vertices it has
abbrev pub part_size : GeneratorList → ℕ → ℕ
part_size l q = count l.n (part l q)

-- "no part is larger than 20"
abbrev pub SmallParts : GeneratorList → Type 0
SmallParts l = (q : ℕ) → q < l.n → part_size l q ≤ 20

-- "a part exceeds 20"
abbrev pub LargePart : GeneratorList → Type 0
LargePart l = (q : ℕ) × (q < l.n) × (20 < part_size l q)

-- (the part of a vertex is what paths of edges reach from it, in any graph)
abbrev pub PartsAreReached : Type 0
PartsAreReached = (n : ℕ) (θ : Graph) (q t : ℕ) → q < n → t < n → (part_of n θ q t ≡ true) ↔ Path n θ q t

-- two accepted lists on one number of qubits
pub record AcceptedLists (l m : GeneratorList) : Type 0 where
  pub first : first_fitting (check_lines l) ≡ 0
  pub second : first_fitting (check_lines m) ≡ 0
  pub same_count : l.n ≡ m.n

-- "equivalent states have the same parts"
abbrev pub EquivalentHaveSameParts : Type 0
EquivalentHaveSameParts = (l m : GeneratorList) → AcceptedLists l m → (c : ℕ → Clifford) → Carries l.n c (rows l)
    (rows m)
    → (q t : ℕ) → part l q t ≡ part m q t

-- "where the parts agree, a working choice exists exactly if each has one": each part has a choice that carries the
-- elements of the first group that act on it alone onto those of the second
abbrev pub PartsDecide : Type 0
PartsDecide = (l m : GeneratorList) → AcceptedLists l m → ((q t : ℕ) → part l q t ≡ part m q t)
    → ((c : ℕ → Clifford) × Carries l.n c (rows l) (rows m))
    ↔ ((q : ℕ) → q < l.n → (c : ℕ → Clifford) × CarriesOn l.n (part l q) c (rows l) (rows m))

-- "Refusal 3 now means that a part exceeds 20 and is checked after 10": where no line from 2 to 10 holds, 3 comes back
-- exactly if a part of either graph does, the parts agreeing or not
abbrev pub LargePartsRefused : Type 0
LargePartsRefused =
    (l m : GeneratorList) (choice list : List ℕ) (counted r : ℕ) (choice' list' : List ℕ) (counted' : ℕ) →
    Call (compare_call l m choice list counted choice' list' counted') r → first_fitting (pair_lines l m choice list) ≡ 0 →
    (r ≡ 3) ↔ (LargePart l ⊎ LargePart m)

-- the two sentences of the call itself
pub record DecidedByParts (l m : GeneratorList) (choice list : List ℕ) (r : ℕ) : Type 0 where
  -- "equivalent states have the same parts"
  pub same : r ≡ 0 → (q t : ℕ) → part l q t ≡ part m q t
  -- "where the parts agree, a working choice exists exactly if each has one"
  pub each : first_fitting (pair_lines l m choice list) ≡ 0 → SmallParts l → SmallParts m →
      ((q t : ℕ) → part l q t ≡ part m q t) →
      (r ≡ 0) ↔ ((q : ℕ) → q < l.n → (c : ℕ → Clifford) × CarriesOn l.n (part l q) c (rows l) (rows m))

-- of every call
abbrev pub ComparedByParts : Type 0
ComparedByParts =
    (l m : GeneratorList) (choice list : List ℕ) (counted r : ℕ) (choice' list' : List ℕ) (counted' : ℕ) →
    Call (compare_call l m choice list counted choice' list' counted') r → DecidedByParts l m choice list r
