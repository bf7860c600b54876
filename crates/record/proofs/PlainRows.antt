-- Rows of a record without Hadamards: X or Y at the own place, I or Z elsewhere, and a sign. And the
-- Hadamards of a record, which come last.
use mathlib.Core.Bool.{◌&&◌, Bool, and_comm, cond, false, true}
use mathlib.Core.Path.{ap, fun_ext, refl, sym, ◌∙◌, ◌≡◌}
use Prim.Native.Nat.{◌<◌, ℕ}
use lib.Dec.{eqb}
use Rattle.clifford.proofs.CliffordLaws.{cliffords, from_five, on_clifford}
use Rattle.clifford.proofs.VectorLaws.{act-id, act-then}
use Rattle.clifford.specs.Clifford.{Clifford, clifford_of, identity_clifford, image, image_phase, then}
use Rattle.clifford.specs.Vectors.{act}
use Rattle.record.proofs.GraphGroups.{no_loop, x-determines}
use Rattle.record.specs.Graph.{Graph, Simple, graph_generator}
use Rattle.pauli.proofs.PhaseLaws.{phase_monoid, phases}
use Rattle.pauli.specs.Pauli.{◌+ᵖ◌, Pauli, i⁰, letter, minus, x_bit, z_bit}
use Rattle.stabilizer.proofs.Carried.{act-product}
use Rattle.stabilizer.proofs.GroupLaws.{in_row}
use Rattle.stabilizer.specs.Groups.{InGroup, product}
use Rattle.words.proofs.Finite.{bits}
use Rattle.words.proofs.Places.{other_place, same_place}
use Rattle.words.proofs.Sums.{fold-ext, fold-one}
use Rattle.words.specs.Bits.{Word, ◌⊕◌}
use Rattle.record.specs.Records.{GraphRecord, rows_of}
use Rattle.record.specs.Reduced.{hadamard_where, plain_code, with_hadamard}

abbrev pub plain_codes : Word → Word → ℕ → Clifford
plain_codes y s q = plain_code (y q) (s q)

abbrev pub plain_row : ℕ → Graph → Word → Word → ℕ → Pauli
plain_row n θ y s j = act n (plain_codes y s) (graph_generator θ j)

-- ---- their bits and their sign
pub plain-x : (n : ℕ) (y s : Word) (p : Pauli) (q : ℕ) → (act n (plain_codes y s) p).x q ≡ p.x q
unfolding act
plain-x n y s p q = letter-x (y q) (s q) (p.z q) (p.x q)
  where
    letter-x : (y s z x : Bool) → x_bit (image (plain_code y s) (letter z x)) ≡ x
    letter-x = bits 4 (λ y s z x. x_bit (image (plain_code y s) (letter z x))) (λ y s z x. x) tt

pub plain-z : (n : ℕ) (θ : Graph) (y s : Word) (j q : ℕ)
    → (plain_row n θ y s j).z q ≡ θ j q ⊕ (eqb q j && y q)
unfolding act
plain-z n θ y s j q = letter-z (y q) (s q) (θ j q) (eqb q j)
  where
    letter-z : (y s z x : Bool) → z_bit (image (plain_code y s) (letter z x)) ≡ z ⊕ (x && y)
    letter-z = bits 4 (λ y s z x. z_bit (image (plain_code y s) (letter z x))) (λ y s z x. z ⊕ (x && y)) tt

module _ (n : ℕ) (θ : Graph) (S : Simple n θ) (y s : Word) where
  pub plain-phase : (j : ℕ) → j < n → (plain_row n θ y s j).phase ≡ minus (s j)
  unfolding act
  plain-phase j l =
      fold-ext i⁰ ◌+ᵖ◌ n (λ q k. letter-phase (y q) (s q) (θ j q) (eqb q j)
      (and_comm (θ j q) (eqb q j) ∙ no_loop n θ S j q))
      ∙ fold-one i⁰ ◌+ᵖ◌ phase_monoid n j l (λ q k d. ap (λ b. cond b (minus (s q)) i⁰) (other_place d))
      ∙ ap (λ b. cond b (minus (s j)) i⁰) (same_place j)
    where
      letter-phase : (y s z x : Bool) → (z && x) ≡ false
          → image_phase (plain_code y s) (letter z x) ≡ cond x (minus s) i⁰
      letter-phase y s z x e =
          ap (λ b. cond b (cond x (minus s) i⁰) (image_phase (plain_code y s) (letter z x))) (sym e)
          ∙ phases 4
          (λ y s z x. cond (z && x) (cond x (minus s) i⁰) (image_phase (plain_code y s) (letter z x)))
          (λ y s z x. cond x (minus s) i⁰) tt y s z x

  -- an element with the x bits of row j is row j
  pub plain-determined : (p : Pauli) → InGroup n n (plain_row n θ y s) p → (j : ℕ) → j < n
      → ((q : ℕ) → q < n → p.x q ≡ eqb q j) → p ≡ plain_row n θ y s j
  plain-determined p a j l h =
      moved ∙ ap (act n (plain_codes y s))
      (x-determines n θ S {p = found} {r = graph_generator θ j} (a.0, refl)
      (in_row n n (graph_generator θ) j l)
      (λ q k. sym (plain-x n y s found q) ∙ ap (λ r. r.x q) (sym moved) ∙ h q k))
    where
      found : Pauli
      found = product n n a.0 (graph_generator θ)

      moved : p ≡ act n (plain_codes y s) found
      moved = a.1 ∙ sym (act-product n n (graph_generator θ) (plain_codes y s) a.0)

-- ---- the Hadamards
pub hadamards-twice : (n : ℕ) (h : Word) (p : Pauli) → act n (hadamard_where h) (act n (hadamard_where h) p) ≡ p
hadamards-twice n h p = sym (act-then n (hadamard_where h) (hadamard_where h) p)
    ∙ ap (λ c. act n c p) (fun_ext λ q. go (h q)) ∙ act-id n p
  where
    go : (b : Bool) → then (cond b (clifford_of 8) identity_clifford)
        (cond b (clifford_of 8) identity_clifford) ≡ identity_clifford
    go false = cliffords 0 (then identity_clifford identity_clifford) identity_clifford tt
    go true = cliffords 0 (then (clifford_of 8) (clifford_of 8)) identity_clifford tt

pub hadamards-last : (n : ℕ) (r : GraphRecord) (h y s : Word)
    → ((q : ℕ) → r.codes q ≡ with_hadamard (h q) (plain_code (y q) (s q))) → (j : ℕ)
    → rows_of n r j ≡ act n (hadamard_where h) (plain_row n r.graph y s j)
hadamards-last n r h y s e j =
    ap (λ d. act n d (graph_generator r.graph j))
    (fun_ext λ q. e q ∙ after_then (h q) (plain_code (y q) (s q)))
    ∙ act-then n (plain_codes y s) (hadamard_where h) (graph_generator r.graph j)
  where
    after_then : (h : Bool) (k : Clifford)
        → with_hadamard h k ≡ then k (cond h (clifford_of 8) identity_clifford)
    after_then false = on_clifford _
        (cliffords 5 from_five (λ a b c d e. then (from_five a b c d e) identity_clifford) tt)
    after_then true = λ k. refl
