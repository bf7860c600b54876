-- Every solution of the class equations, invertible or not: no edge of the first graph leads from a qubit at which the
-- solution is invertible to one at which it is not.
use mathlib.Core.Bool.{◌&&◌, Bool, false, true}
use mathlib.Core.Logic.{inl, inr, ◌⊎◌}
use mathlib.Core.Path.{ap, ap₂, refl, sym, ◌∙◌, ◌≡◌}
use Prim.Native.Nat.{◌<◌, ℕ}
use lib.Dec.{eqb}
use Rattle.clifford.proofs.CliffordLaws.{clash-after}
use Rattle.clifford.specs.Clifford.{Clifford}
use Rattle.clifford.specs.Vectors.{act}
use Rattle.record.specs.Graph.{Graph, Simple, graph_generator}
use Rattle.comparison.specs.internal.Parts.{Closed}
use Rattle.pauli.specs.Pauli.{Pauli, anticommute, clash, i⁰, i², letter, letter_at, scaled}
use Rattle.record.proofs.Maximality.{maximal-list}
use Rattle.record.proofs.ReducedRecords.{record-proper}
use Rattle.record.specs.Records.{GraphRecord, rows_of}
use Rattle.stabilizer.proofs.GroupLaws.{elements-commute}
use Rattle.stabilizer.specs.Groups.{InGroup, Within}
use Rattle.words.proofs.Finite.{bits}
use Rattle.words.proofs.Places.{parity-at}
use Rattle.words.proofs.Sums.{fold-ext, parity-add}
use Rattle.words.specs.Bits.{Word, parity, ◌⊕◌}

-- a matrix for each qubit: image z = a z + b x, image x = c z + d x
pub record Matrices : Type 0 where
  pub a : Word
  pub b : Word
  pub c : Word
  pub d : Word

abbrev pub det : Matrices → Word
det M q = (M.a q && M.d q) ⊕ (M.b q && M.c q)

abbrev pub send_by : Matrices → Pauli → Pauli
send_by M p =
    record {
      phase = i⁰;
      z = λ q. (M.a q && p.z q) ⊕ (M.b q && p.x q);
      x = λ q. (M.c q && p.z q) ⊕ (M.d q && p.x q);
    }

abbrev clash_b : Bool → Bool → Bool → Bool → Bool
clash_b z x z' x' = clash (letter z x) (letter z' x')

det-law : (a b c d z x z' x' : Bool)
    → clash_b ((a && z) ⊕ (b && x)) ((c && z) ⊕ (d && x)) ((a && z') ⊕ (b && x')) ((c && z') ⊕ (d && x'))
    ≡ (((a && d) ⊕ (b && c)) && clash_b z x z' x')
det-law =
    bits 8 (λ a b c d z x z' x'.
    clash_b ((a && z) ⊕ (b && x)) ((c && z) ⊕ (d && x)) ((a && z') ⊕ (b && x')) ((c && z') ⊕ (d && x')))
    (λ a b c d z x z' x'. ((a && d) ⊕ (b && c)) && clash_b z x z' x') tt

-- the commutator counted at the marked qubits only
abbrev pub clashes_on : ℕ → Word → Pauli → Pauli → Bool
clashes_on n w p r = parity n (λ q. w q && clash (letter_at p q) (letter_at r q))

pub sent-form : (n : ℕ) (M : Matrices) (p r : Pauli)
    → anticommute n (send_by M p) (send_by M r) ≡ clashes_on n (det M) p r
unfolding anticommute
sent-form n M p r = fold-ext false ◌⊕◌ n (λ q l. det-law (M.a q) (M.b q) (M.c q) (M.d q) (p.z q) (p.x q)
    (r.z q) (r.x q))

pub act-form : (n : ℕ) (w : Word) (c : ℕ → Clifford) (p r : Pauli)
    → clashes_on n w (act n c p) (act n c r) ≡ clashes_on n w p r
unfolding act
act-form n w c p r = fold-ext false ◌⊕◌ n (λ q l. ap (λ b. w q && b)
    (clash-after (c q) (p.z q) (p.x q) (r.z q) (r.x q)))

pub generator-form : (n : ℕ) (w : Word) (θ : Graph) (i j : ℕ) → i < n → j < n
    → clashes_on n w (graph_generator θ i) (graph_generator θ j) ≡ (w j && θ i j) ⊕ (w i && θ j i)
generator-form n w θ i j k l =
    fold-ext false ◌⊕◌ n (λ q h. spread (w q) (θ i q) (eqb q i) (θ j q) (eqb q j))
    ∙ parity-add n _ _
    ∙ ap₂ ◌⊕◌ (parity-at n (λ q. w q && θ i q) j l) (parity-at n (λ q. w q && θ j q) i k)
  where
    spread : (w z x z' x' : Bool) → (w && clash_b z x z' x') ≡ ((w && z) && x') ⊕ ((w && z') && x)
    spread = bits 5 (λ w z x z' x'. w && clash_b z x z' x') (λ w z x z' x'. ((w && z) && x') ⊕ ((w && z') && x)) tt

module _ (n : ℕ) (r t : GraphRecord) (R : Simple n r.graph) (T : Simple n t.graph) (M : Matrices)
    (solves : (i j : ℕ) → i < n → j < n → anticommute n (rows_of n t j) (send_by M (rows_of n r i)) ≡ false) where
  within : (p : Pauli) → Within n p → Within n (send_by M p)
  within p W =
      record {
        no-x = λ q l. ap₂ (λ z x. (M.c q && z) ⊕ (M.d q && x)) (W.no-z q l) (W.no-x q l) ∙ none (M.c q) (M.d q);
        no-z = λ q l. ap₂ (λ z x. (M.a q && z) ⊕ (M.b q && x)) (W.no-z q l) (W.no-x q l) ∙ none (M.a q) (M.b q);
      }
    where
      none : (a b : Bool) → ((a && false) ⊕ (b && false)) ≡ false
      none = bits 2 (λ a b. (a && false) ⊕ (b && false)) (λ a b. false) tt

  -- the image of a generator is an element of the second group, or its negative is
  element : (i : ℕ) → i < n → InGroup n n (rows_of n t) (send_by M (rows_of n r i))
      ⊎ InGroup n n (rows_of n t) (scaled i² (send_by M (rows_of n r i)))
  element i l =
      maximal-list n (rows_of n t) (record-proper n t T) (send_by M (rows_of n r i)) refl
      (within (rows_of n r i) ((record-proper n r R).within i l)) (λ j k. solves i j l k)

  commute : (i j : ℕ) → i < n → j < n
      → anticommute n (send_by M (rows_of n r i)) (send_by M (rows_of n r j)) ≡ false
  unfolding anticommute
  commute i j k l = go (element i k) (element j l)
    where
      go : InGroup n n (rows_of n t) (send_by M (rows_of n r i))
          ⊎ InGroup n n (rows_of n t) (scaled i² (send_by M (rows_of n r i)))
          → InGroup n n (rows_of n t) (send_by M (rows_of n r j))
          ⊎ InGroup n n (rows_of n t) (scaled i² (send_by M (rows_of n r j)))
          → anticommute n (send_by M (rows_of n r i)) (send_by M (rows_of n r j)) ≡ false
      go (inl a) (inl b) = elements-commute n n (rows_of n t) (record-proper n t T).commuting a b
      go (inl a) (inr b) = elements-commute n n (rows_of n t) (record-proper n t T).commuting a b
      go (inr a) (inl b) = elements-commute n n (rows_of n t) (record-proper n t T).commuting a b
      go (inr a) (inr b) = elements-commute n n (rows_of n t) (record-proper n t T).commuting a b

  pub det-closed : Closed n r.graph (det M)
  det-closed i j k l a e =
      ends (det M i) (det M j) (r.graph i j) (r.graph j i) a e (R.symmetric j i ∙ e)
      (sym (generator-form n (det M) r.graph i j k l)
      ∙ sym (act-form n (det M) r.codes (graph_generator r.graph i) (graph_generator r.graph j))
      ∙ sym (sent-form n M (rows_of n r i) (rows_of n r j)) ∙ commute i j k l)
    where
      ends : (u v s s' : Bool) → u ≡ true → s ≡ true → s' ≡ true → ((v && s) ⊕ (u && s')) ≡ false → v ≡ true
      ends u true s s' a b c d = refl
      ends u false s s' a b c d = absurd-bit (sym (ap₂ ◌&&◌ a c) ∙ d)
        where
          absurd-bit : true ≡ false → false ≡ true
          absurd-bit h = sym h
