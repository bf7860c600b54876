-- A choice that is settled at every vertex is the least that works; what happens outside a vertex's part does not
-- matter; and the least choice of a part, in its numbers, settles its vertices.
use mathlib.Core.Bool.{Bool, false, true, true≢false}
use mathlib.Core.Logic.{inl, inr, ◌⊎◌}
use mathlib.Core.Path.{ap, ap₂, refl, subst, sym, ◌∙◌, ◌≡◌}
use Prim.Native.Nat.{◌<◌, ◌≤◌, ℕ}
use native.Mathlib.Decide.{dec_lt}
use native.Mathlib.Nat.{le_of_eq, le_of_lt, lt_trans, ne_of_lt}
use native.Mathlib.Omega.{arith}
use lib.Dec.{eqb}
use Rattle.clifford.proofs.VectorLaws.{act-then}
use Rattle.clifford.specs.Clifford.{Clifford, class_number, image, image_phase, then}
use Rattle.clifford.specs.Vectors.{act}
use Rattle.record.specs.Graph.{Simple, graph_generator}
use Rattle.comparison.proofs.PartLaws.{part-closed, part-has}
use Rattle.comparison.proofs.PlacedGroups.{part-carried, part-sent, part_record}
use Rattle.comparison.specs.internal.Numbered.{Numbers}
use Rattle.comparison.specs.internal.Parts.{Closed}
use Rattle.comparison.specs.Parts.{part_of}
use Rattle.pauli.proofs.PauliLaws.{Pauli-path}
use Rattle.pauli.specs.Pauli.{◌+ᵖ◌, Pauli, i⁰, letter, letter_at, x_bit, z_bit}
use Rattle.pauli.specs.declared.Letter.{Letter}
use Rattle.record.proofs.Maximality.{inclusion-same}
use Rattle.record.proofs.ReducedRecords.{record-proper}
use Rattle.record.specs.Records.{GraphRecord, rows_of}
use Rattle.stabilizer.proofs.Carried.{carries_same}
use Rattle.stabilizer.proofs.Independence.{act-proper}
use Rattle.stabilizer.specs.Groups.{InGroup}
use Rattle.words.proofs.Places.{other_place}
use Rattle.words.proofs.Sums.{fold-ext, lt-or-ge}
use Rattle.words.specs.Bits.{Word}
use Rattle.comparison.proofs.KeyOrder.{keys-least}
use Rattle.comparison.specs.Choices.{Agree, Before, FirstDiffers, LeastChoice, class_key, sign_key}
use Rattle.comparison.specs.internal.LeastAt.{LeastAt}

-- ---- settled everywhere
module _ (n : ℕ) (r t : GraphRecord) (R : Simple n r.graph) (T : Simple n t.graph) where
  pub least-at-least : (c : ℕ → Clifford) → ((q : ℕ) → q < n → LeastAt n r t c q)
      → LeastChoice n (rows_of n r) (rows_of n t) c
  least-at-least c S =
      record {
        among = (carries_same n c (rows_of n r) (rows_of n t)).1
            (inclusion-same n (λ j. act n c (rows_of n r j)) (rows_of n t)
            (act-proper n c (rows_of n r) (record-proper n r R)) (record-proper n t T) (λ j l. (S j l).sent));
        least = λ d K. keys-least n c d (λ q l h. (S q l).class-least d K (λ u k _. h u k))
            (λ e q l h. (S q l).sign-least d K (λ u k _. e u k) (λ u k _. h u k));
      }

  -- ---- the part alone matters
  act-on : (f g : ℕ → Clifford) (p : Pauli)
      → ((u : ℕ) → (f u ≡ g u) ⊎ ((p.z u ≡ false) × (p.x u ≡ false))) → act n f p ≡ act n g p
  unfolding act
  act-on f g p h =
      Pauli-path
      (ap (λ w. p.phase +ᵖ w) (fold-ext i⁰ ◌+ᵖ◌ n (λ u l. phase u (h u))))
      (λ u. place z_bit u (h u)) (λ u. place x_bit u (h u))
    where
      phase : (u : ℕ) → (f u ≡ g u) ⊎ ((p.z u ≡ false) × (p.x u ≡ false))
          → image_phase (f u) (letter_at p u) ≡ image_phase (g u) (letter_at p u)
      phase u (inl e) = ap (λ k. image_phase k (letter_at p u)) e
      phase u (inr e) =
          ap₂ (λ z x. image_phase (f u) (letter z x)) e.0 e.1
          ∙ sym (ap₂ (λ z x. image_phase (g u) (letter z x)) e.0 e.1)

      place : (v : Letter → Bool) (u : ℕ) → (f u ≡ g u) ⊎ ((p.z u ≡ false) × (p.x u ≡ false))
          → v (image (f u) (letter_at p u)) ≡ v (image (g u) (letter_at p u))
      place v u (inl e) = ap (λ k. v (image k (letter_at p u))) e
      place v u (inr e) =
          ap₂ (λ z x. v (image (f u) (letter z x))) e.0 e.1
          ∙ sym (ap₂ (λ z x. v (image (g u) (letter z x))) e.0 e.1)

  -- choices that agree on a closed set send its generators alike
  pub same_sent : (s : Word) → Closed n r.graph s → (c d : ℕ → Clifford)
      → ((u : ℕ) → u < n → s u ≡ true → c u ≡ d u) → (q : ℕ) → q < n → s q ≡ true
      → act n c (rows_of n r q) ≡ act n d (rows_of n r q)
  same_sent s C c d h q l a =
      sym (act-then n r.codes c (graph_generator r.graph q))
      ∙ act-on (λ u. then (r.codes u) (c u)) (λ u. then (r.codes u) (d u)) (graph_generator r.graph q)
      (λ u. at u (lt-or-ge u n) (s u) refl)
      ∙ act-then n r.codes d (graph_generator r.graph q)
    where
      no_edge : (u : ℕ) → u < n → s u ≡ false → (b : Bool) → r.graph q u ≡ b → b ≡ false
      no_edge u k e false f = refl
      no_edge u k e true f = absurd (true≢false (sym (C q u l k a f) ∙ e))

      at : (u : ℕ) → (u < n) ⊎ (n ≤ u) → (b : Bool) → s u ≡ b
          → (then (r.codes u) (c u) ≡ then (r.codes u) (d u))
          ⊎ ((r.graph q u ≡ false) × (eqb u q ≡ false))
      at u (inl k) true e = inl (ap (then (r.codes u)) (h u k e))
      at u (inl k) false e = inr (
        no_edge u k e (r.graph q u) refl,
        other_place (λ p. true≢false (sym a ∙ ap s (sym p) ∙ e)),
      )
      at u (inr k) b e = inr (R.below q u k, other_place (λ p. ne_of_lt (lower u k) (sym p)))
        where
          lower : (u : ℕ) → n ≤ u → q < u
          lower u k = omega (arith, l, k)

  pub least-at-agree : (c d : ℕ → Clifford) (q : ℕ) → q < n
      → ((u : ℕ) → u < n → part_of n r.graph q u ≡ true → c u ≡ d u) → LeastAt n r t c q → LeastAt n r t d q
  least-at-agree c d q l h S =
      record {
        sent = subst (InGroup n n (rows_of n t))
            (same_sent (part_of n r.graph q) (part-closed n r.graph q l) c d h q l (part-has n r.graph q))
            S.sent;
        class-least = λ f K e. subst (λ k. k ≤ class_key (f q)) (ap class_key (here))
            (S.class-least f K (λ u k m. ap class_key (h u (lt_trans k l) m) ∙ e u k m));
        sign-least = λ f K e g. subst (λ k. k ≤ sign_key (f q)) (ap sign_key (here))
            (S.sign-least f K (λ u k m. ap class_key (h u k m) ∙ e u k m)
            (λ u k m. ap sign_key (h u (lt_trans k l) m) ∙ g u k m));
      }
    where
      here : c q ≡ d q
      here = h q l (part-has n r.graph q)

  -- ---- the least choice of a part settles its vertices
  module _ (s : Word) (k : ℕ) (e : ℕ → ℕ) (N : Numbers n s k e) (C : Closed n r.graph s)
      (D : Closed n t.graph s)
      (together : (i j : ℕ) → i < k → j < k → part_of n r.graph (e i) (e j) ≡ true) (c : ℕ → Clifford) where
    abbrev small : GraphRecord
    small = part_record k e r

    abbrev other : GraphRecord
    other = part_record k e t

    not-above : (f g : ℕ → ℕ) → FirstDiffers k f g → (i : ℕ) → ((j : ℕ) → j < i → f j ≡ g j) → f i ≤ g i
    not-above f g F i h = go (dec_lt F.0 i) (dec_lt i F.0)
      where
        meet : (F.0 < i → ⊥) → (i < F.0 → ⊥) → F.0 ≡ i
        meet x y = omega (arith, x, y)

        go : Dec (F.0 < i) → Dec (i < F.0) → f i ≤ g i
        go (yes l) m = absurd (ne_of_lt F.3 (h F.0 l))
        go (no a) (yes m) = le_of_eq (F.2 i m)
        go (no a) (no b) = subst (λ v. f v ≤ g v) (meet a b) (le_of_lt F.3)

    pub part-least-at : LeastChoice k (rows_of k small) (rows_of k other) (λ i. c (e i)) → (i : ℕ) → i < k
        → LeastAt n r t c (e i)
    part-least-at L i l =
        record {
          sent = part-sent n s k e N r t R T C D c L.among i l;
          class-least = λ d K h. class-le d (L.least (λ j. d (e j)) (part-carried n s k e N r t R T C D d K)) h;
          sign-least = λ d K h g. sign_le d (L.least (λ j. d (e j)) (part-carried n s k e N r t R T C D d K)) h g;
        }
      where
        class-le : (d : ℕ → Clifford) → Agree k (λ j. c (e j)) (λ j. d (e j)) ⊎ Before k (λ j. c (e j)) (λ j. d (e j))
            → ((u : ℕ) → u < e i → part_of n r.graph (e i) u ≡ true → class_key (c u) ≡ class_key (d u))
            → class_key (c (e i)) ≤ class_key (d (e i))
        class-le d (inl a) h = le_of_eq (ap class_key (a i l))
        class-le d (inr (inl F)) h =
            not-above (λ j. class_key (c (e j))) (λ j. class_key (d (e j))) F i
            (λ j m. h (e j) (N.rising j i m l) (together i j l (lt_trans m l)))
        class-le d (inr (inr a)) h = le_of_eq (ap class_number (a.0 i l))

        sign_le : (d : ℕ → Clifford) → Agree k (λ j. c (e j)) (λ j. d (e j)) ⊎ Before k (λ j. c (e j)) (λ j. d (e j))
            → ((u : ℕ) → u < n → part_of n r.graph (e i) u ≡ true → class_key (c u) ≡ class_key (d u))
            → ((u : ℕ) → u < e i → part_of n r.graph (e i) u ≡ true → sign_key (c u) ≡ sign_key (d u))
            → sign_key (c (e i)) ≤ sign_key (d (e i))
        sign_le d (inl a) h g = le_of_eq (ap sign_key (a i l))
        sign_le d (inr (inl F)) h g =
            absurd (ne_of_lt F.3 (h (e F.0) (N.below F.0 F.1) (together i F.0 l F.1)))
        sign_le d (inr (inr a)) h g =
            not-above (λ j. sign_key (c (e j))) (λ j. sign_key (d (e j))) a.1 i
            (λ j m. g (e j) (N.rising j i m l) (together i j l (lt_trans m l)))
