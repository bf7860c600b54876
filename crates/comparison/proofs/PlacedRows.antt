-- Rows of a set of vertices, in its numbers and among all vertices: products, codes, commutation and the generators of
-- a graph with no edge that leaves the set.
use mathlib.Core.Bool.{◌&&◌, Bool, and-false, false, true}
use mathlib.Core.Logic.{inl, inr, ◌⊎◌}
use mathlib.Core.Path.{ap, ap₂, refl, sym, ◌∙◌, ◌≡◌}
use Prim.Native.Nat.{◌<◌, ◌≤◌, ℕ}
use native.Mathlib.Decide.{dec_lt, ℕ_discrete}
use native.Mathlib.Nat.{ne_of_lt}
use native.Mathlib.Omega.{arith}
use lib.Dec.{eqb, ltb}
use borrow.Author.Tests.{le-ltb, lt-ltb}
use Rattle.clifford.specs.Clifford.{Clifford, image, image_phase}
use Rattle.clifford.specs.Vectors.{act}
use Rattle.record.specs.Graph.{Graph, Simple, graph_generator}
use Rattle.pauli.proofs.PauliLaws.{Pauli-path}
use Rattle.pauli.proofs.PhaseLaws.{phase_monoid}
use Rattle.pauli.specs.Pauli.{
  ◌+ᵖ◌,
  Pauli,
  Phase,
  anticommute,
  clash,
  identity,
  i⁰,
  letter,
  letter_at,
  letter_phase,
  mul,
  scaled,
  x_bit,
  z_bit,
}
use Rattle.words.proofs.Finite.{and-exchange, bits}
use Rattle.words.proofs.Places.{other_place, same_place}
use Rattle.words.proofs.Sums.{bit_monoid, fold-ext, lt-or-ge}
use Rattle.words.specs.Bits.{Word, ◌⊕◌}
use Rattle.comparison.proofs.Along.{fold_along, numbered-or-not}
use Rattle.comparison.specs.internal.Numbered.{Numbers, Placed, part_graph}
use Rattle.comparison.specs.internal.Parts.{Closed}

module _ (n : ℕ) (s : Word) (k : ℕ) (e : ℕ → ℕ) (N : Numbers n s k e) where
  abbrev pub At : Pauli → Pauli → Type 0
  At = Placed n s k e

  abbrev pub Unnumbered : ℕ → Type 0
  Unnumbered q = (i : ℕ) → i < k → e i ≡ q → ⊥

  letters : {p P : Pauli} → At p P → (i : ℕ) → i < k → letter_at P (e i) ≡ letter_at p i
  letters A i l = ap₂ letter (A.z i l) (A.x i l)

  pub placed-identity : At identity identity
  placed-identity =
      record {
        phase = refl;
        z = λ i l. refl;
        x = λ i l. refl;
        no-z = λ q u. refl;
        no-x = λ q u. refl;
        short-z = λ i l. refl;
        short-x = λ i l. refl;
      }

  pub placed-scaled : (t : Phase) {p P : Pauli} → At p P → At (scaled t p) (scaled t P)
  placed-scaled t A =
      record {
        phase = ap (λ u. t +ᵖ u) A.phase;
        z = A.z;
        x = A.x;
        no-z = A.no-z;
        no-x = A.no-x;
        short-z = A.short-z;
        short-x = A.short-x;
      }

  pub placed-mul : {p P r R : Pauli} → At p P → At r R → At (mul k p r) (mul n P R)
  unfolding mul
  placed-mul {p} {P} {r} {R} A B =
      record {
        phase = ap₂ ◌+ᵖ◌ (ap₂ ◌+ᵖ◌ A.phase B.phase)
            (fold_along i⁰ ◌+ᵖ◌ phase_monoid n k e N.rising N.below
            (λ q. letter_phase (letter_at P q) (letter_at R q))
            (λ q l u. ap₂ (λ a b. letter_phase (letter a b) (letter_at R q)) (A.no-z q u) (A.no-x q u))
            ∙ fold-ext i⁰ ◌+ᵖ◌ k (λ i l. ap₂ letter_phase (letters A i l) (letters B i l)));
        z = λ i l. ap₂ ◌⊕◌ (A.z i l) (B.z i l);
        x = λ i l. ap₂ ◌⊕◌ (A.x i l) (B.x i l);
        no-z = λ q u. ap₂ ◌⊕◌ (A.no-z q u) (B.no-z q u);
        no-x = λ q u. ap₂ ◌⊕◌ (A.no-x q u) (B.no-x q u);
        short-z = λ i l. ap₂ ◌⊕◌ (A.short-z i l) (B.short-z i l);
        short-x = λ i l. ap₂ ◌⊕◌ (A.short-x i l) (B.short-x i l);
      }

  pub placed-act : (c : ℕ → Clifford) {p P : Pauli} → At p P → At (act k (λ i. c (e i)) p) (act n c P)
  unfolding act
  placed-act c {p} {P} A =
      record {
        phase = ap₂ ◌+ᵖ◌ A.phase
            (fold_along i⁰ ◌+ᵖ◌ phase_monoid n k e N.rising N.below
            (λ q. image_phase (c q) (letter_at P q))
            (λ q l u. ap₂ (λ a b. image_phase (c q) (letter a b)) (A.no-z q u) (A.no-x q u))
            ∙ fold-ext i⁰ ◌+ᵖ◌ k (λ i l. ap (image_phase (c (e i))) (letters A i l)));
        z = λ i l. ap (λ a. z_bit (image (c (e i)) a)) (letters A i l);
        x = λ i l. ap (λ a. x_bit (image (c (e i)) a)) (letters A i l);
        no-z = λ q u. ap₂ (λ a b. z_bit (image (c q) (letter a b))) (A.no-z q u) (A.no-x q u);
        no-x = λ q u. ap₂ (λ a b. x_bit (image (c q) (letter a b))) (A.no-z q u) (A.no-x q u);
        short-z = λ i l. ap₂ (λ a b. z_bit (image (c (e i)) (letter a b))) (A.short-z i l) (A.short-x i l);
        short-x = λ i l. ap₂ (λ a b. x_bit (image (c (e i)) (letter a b))) (A.short-z i l) (A.short-x i l);
      }

  pub placed-anticommute : {p P r R : Pauli} → At p P → At r R → anticommute n P R ≡ anticommute k p r
  unfolding anticommute
  placed-anticommute {p} {P} {r} {R} A B =
      fold_along false ◌⊕◌ bit_monoid n k e N.rising N.below
      (λ q. clash (letter_at P q) (letter_at R q))
      (λ q l u. ap₂ (λ a b. clash (letter a b) (letter_at R q)) (A.no-z q u) (A.no-x q u))
      ∙ fold-ext false ◌⊕◌ k (λ i l. ap₂ clash (letters A i l) (letters B i l))

  -- the letters are determined
  pub placed-unique : {p P R : Pauli} → At p P → At p R → P ≡ R
  placed-unique {p} {P} {R} A B =
      Pauli-path (A.phase ∙ sym B.phase) (λ q. at-z q (numbered-or-not k e q))
      (λ q. at_x q (numbered-or-not k e q))
    where
      at-z : (q : ℕ) → ((i : ℕ) × (i < k) × (e i ≡ q)) ⊎ Unnumbered q → P.z q ≡ R.z q
      at-z q (inl d) = ap (λ t. P.z t) (sym d.2) ∙ A.z d.0 d.1 ∙ sym (B.z d.0 d.1)
          ∙ ap (λ t. R.z t) d.2
      at-z q (inr u) = A.no-z q u ∙ sym (B.no-z q u)

      at_x : (q : ℕ) → ((i : ℕ) × (i < k) × (e i ≡ q)) ⊎ Unnumbered q → P.x q ≡ R.x q
      at_x q (inl d) = ap (λ t. P.x t) (sym d.2) ∙ A.x d.0 d.1 ∙ sym (B.x d.0 d.1)
          ∙ ap (λ t. R.x t) d.2
      at_x q (inr u) = A.no-x q u ∙ sym (B.no-x q u)

  -- numbers are places
  pub same_number : (i j : ℕ) → i < k → j < k → e i ≡ e j → i ≡ j
  same_number i j l m h = go (dec_lt i j) (dec_lt j i)
    where
      meet : (i < j → ⊥) → (j < i → ⊥) → i ≡ j
      meet x y = omega (arith, x, y)

      go : Dec (i < j) → Dec (j < i) → i ≡ j
      go (yes a) b = absurd (ne_of_lt (N.rising i j a m) h)
      go (no a) (yes b) = absurd (ne_of_lt (N.rising j i b l) (sym h))
      go (no a) (no b) = meet a b

  number-eqb : (i j : ℕ) → i < k → j < k → eqb (e j) (e i) ≡ eqb j i
  number-eqb i j l m = go (ℕ_discrete j i)
    where
      go : Dec (j ≡ i) → eqb (e j) (e i) ≡ eqb j i
      go (yes h) = ap (λ t. eqb (e t) (e i)) h ∙ same_place (e i) ∙ sym (ap (λ t. eqb t i) h ∙ same_place i)
      go (no d) = other_place (λ h. d (same_number j i m l h)) ∙ sym (other_place d)

  -- ---- a graph with no edge that leaves the set
  module _ (θ : Graph) (S : Simple n θ) (C : Closed n θ s) where
    pub part-simple : Simple k (part_graph k e θ)
    part-simple =
        record {
          symmetric = λ i j. and-exchange (ltb i k) (ltb j k) (θ (e i) (e j))
              ∙ ap (λ b. ltb j k && (ltb i k && b)) (S.symmetric (e i) (e j));
          loopless = λ i. ap (λ b. ltb i k && (ltb i k && b)) (S.loopless (e i)) ∙ none (ltb i k);
          below = λ i q l. ap (λ b. ltb i k && (b && θ (e i) (e q))) (le-ltb q k l) ∙ and-false (ltb i k);
        }
      where
        none : (a : Bool) → (a && (a && false)) ≡ false
        none = bits 1 (λ a. a && (a && false)) (λ a. false) tt

    pub inner-edge : (i j : ℕ) → i < k → j < k → part_graph k e θ i j ≡ θ (e i) (e j)
    inner-edge i j l m = ap₂ (λ a b. a && (b && θ (e i) (e j))) (lt-ltb i k l) (lt-ltb j k m)

    no_edge : (i : ℕ) → i < k → (q : ℕ) → Unnumbered q → θ (e i) q ≡ false
    no_edge i l q u = go (lt-or-ge q n) (θ (e i) q) refl
      where
        go : (q < n) ⊎ (n ≤ q) → (b : Bool) → θ (e i) q ≡ b → b ≡ false
        go d false h = refl
        go (inl m) true h =
            let w = N.onto q m (C (e i) q (N.below i l) m (N.inside i l) h) in absurd (u w.0 w.1 w.2)
        go (inr m) true h = sym h ∙ S.below (e i) q m

    pub placed-generator : (i : ℕ) → i < k → At (graph_generator (part_graph k e θ) i) (graph_generator θ (e i))
    placed-generator i l =
        record {
          phase = refl;
          z = λ j m. sym (inner-edge i j l m);
          x = λ j m. number-eqb i j l m;
          no-z = no_edge i l;
          no-x = λ q u. other_place (λ h. u i l (sym h));
          short-z = part-simple.below i;
          short-x = λ j m. other_place {i = j} {j = i} (λ h. absurd (omega (arith, h)));
        }
