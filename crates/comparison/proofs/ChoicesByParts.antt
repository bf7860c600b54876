-- "a working choice exists exactly if each has one": a choice that works serves every part, and choices for the parts,
-- each taken at the part's vertices, make one that works.
use mathlib.Core.Bool.{Bool, false, not, true, true≢false}
use mathlib.Core.Logic.{◌↔◌, inl, inr, ◌⊎◌}
use mathlib.Core.Path.{ap, refl, subst, sym, ◌∙◌, ◌≡◌}
use Prim.Native.Nat.{◌<◌, ◌≤◌, ℕ}
use native.Mathlib.Nat.{lt_trans}
use native.Mathlib.Omega.{arith}
use borrow.Author.Tests.{not-true}
use Rattle.clifford.proofs.VectorLaws.{act-inverse}
use Rattle.clifford.specs.Clifford.{Clifford, identity_clifford, inverse}
use Rattle.clifford.specs.Vectors.{act}
use Rattle.cut.proofs.OneSidedElements.{avoids-act}
use Rattle.record.specs.Graph.{Simple, graph_generator}
use Rattle.comparison.proofs.PartLaws.{part-closed, part-has, part-together}
use Rattle.comparison.specs.internal.Parts.{Closed}
use Rattle.comparison.specs.Parts.{part_of}
use Rattle.pauli.specs.Pauli.{Pauli}
use Rattle.record.proofs.Maximality.{inclusion-same}
use Rattle.record.proofs.ReducedRecords.{record-proper}
use Rattle.record.specs.Records.{GraphRecord, rows_of}
use Rattle.stabilizer.proofs.Carried.{carries_same}
use Rattle.stabilizer.proofs.GroupLaws.{in_row}
use Rattle.stabilizer.proofs.Independence.{act-proper}
use Rattle.stabilizer.specs.Carries.{Carries}
use Rattle.stabilizer.specs.Groups.{InGroup, SameGroup}
use Rattle.words.proofs.Flags.{same-by-both}
use Rattle.words.proofs.Places.{other_place}
use Rattle.words.proofs.SearchLaws.{first-is, first-unique}
use Rattle.words.proofs.Sums.{lt-or-ge}
use Rattle.words.specs.Bits.{Word}
use Rattle.words.specs.Search.{IsFirst, first}
use Rattle.comparison.proofs.LeastAtVertices.{same_sent}
use Rattle.comparison.specs.PartChoices.{ActsOn, CarriesOn}

-- ---- a choice that works serves every set
pub carries-on : (n : ℕ) (s : Word) (c : ℕ → Clifford) (rows others : ℕ → Pauli) → Carries n c rows others
    → CarriesOn n s c rows others
carries-on n s c rows others K =
    record {
      into = λ p a A. K.into p a;
      onto = λ p a A. let b = K.onto p a in (
        b.0,
        b.1,
        subst (ActsOn n s) (ap (act n (λ q. inverse (c q))) b.2 ∙ act-inverse n c b.0)
            (avoids-act n (λ q. not (s q)) (λ q. inverse (c q)) p A),
        b.2,
      );
    }

-- equal groups have equal elements that act on a set
pub on-groups : (n : ℕ) (s : Word) (c : ℕ → Clifford) (rows rows' others others' : ℕ → Pauli)
    → SameGroup n n rows rows' → SameGroup n n others others' → CarriesOn n s c rows others
    → CarriesOn n s c rows' others'
on-groups n s c rows rows' others others' E F K =
    record {
      into = λ p a A. F.there _ (K.into p (E.back p a) A);
      onto = λ p a A. let b = K.onto p (F.back p a) A in (b.0, E.there b.0 b.1, b.2, b.3);
    }

module _ (n : ℕ) (r t : GraphRecord) (R : Simple n r.graph) (T : Simple n t.graph) where
  -- the generators of a closed set act on it alone
  row_on : (s : Word) → Closed n r.graph s → (j : ℕ) → j < n → s j ≡ true → ActsOn n s (rows_of n r j)
  row_on s C j l a = avoids-act n (λ q. not (s q)) r.codes (graph_generator r.graph j) (record {
    no-x = λ q k h. other_place (λ p. true≢false (sym a ∙ ap s (sym p) ∙ not-true (s q) h));
    no-z = λ q k h. no_edge q k (not-true (s q) h) (r.graph j q) refl;
  })
    where
      no_edge : (q : ℕ) → q < n → s q ≡ false → (b : Bool) → r.graph j q ≡ b → b ≡ false
      no_edge q k h false e = refl
      no_edge q k h true e = absurd (true≢false (sym (C j q l k a e) ∙ h))

  module _ (f : (q : ℕ) → q < n
      → (c : ℕ → Clifford) × CarriesOn n (part_of n r.graph q) c (rows_of n r) (rows_of n t)) where
    -- the smallest vertex of a part stands for it
    head : ℕ → ℕ
    head q = first n (part_of n r.graph q)

    head-is : (q : ℕ) → q < n → IsFirst n (part_of n r.graph q) (head q)
    unfolding head
    head-is q l = go (first-is n (part_of n r.graph q))
      where
        go : IsFirst n (part_of n r.graph q) (first n (part_of n r.graph q))
            ⊎ ((i : ℕ) → i < n → part_of n r.graph q i ≡ false)
            → IsFirst n (part_of n r.graph q) (first n (part_of n r.graph q))
        go (inl F) = F
        go (inr h) = absurd (true≢false (sym (part-has n r.graph q) ∙ h q l))

    -- vertices of one part have one part
    same-part : (q u i : ℕ) → q < n → u < n → i < n → part_of n r.graph q u ≡ true
        → part_of n r.graph u i ≡ part_of n r.graph q i
    same-part q u i k l m a =
        same-by-both _ _ (λ b. part-together n r.graph R.symmetric u q i l k m
        (part-together n r.graph R.symmetric q u q k l k a (part-has n r.graph q)) b)
        (λ b. part-together n r.graph R.symmetric q u i k l m a b)

    same_head : (q u : ℕ) → q < n → u < n → part_of n r.graph q u ≡ true → head u ≡ head q
    unfolding head
    same_head q u k l a =
        let F = head-is q k in
        first-unique n (part_of n r.graph u) (first n (part_of n r.graph q)) (record {
          below = F.below;
          passes = same-part q u _ k l F.below a ∙ F.passes;
          least = λ j m. same-part q u j k l (lt_trans m F.below) a ∙ F.least j m;
        })

    -- its choice
    serving : (q : ℕ) → (c : ℕ → Clifford)
        × (q < n → CarriesOn n (part_of n r.graph q) c (rows_of n r) (rows_of n t))
    serving q = go (lt-or-ge q n)
      where
        go : (q < n) ⊎ (n ≤ q) → (c : ℕ → Clifford)
            × (q < n → CarriesOn n (part_of n r.graph q) c (rows_of n r) (rows_of n t))
        go (inl l) = ((f q l).0, λ _. (f q l).1)
        go (inr m) = ((λ u. identity_clifford), λ l. absurd (omega (arith, l, m)))

    pub made : ℕ → Clifford
    made u = (serving (head u)).0 u

    pub made-works : Carries n made (rows_of n r) (rows_of n t)
    unfolding made
    made-works =
        (carries_same n made (rows_of n r) (rows_of n t)).1
        (inclusion-same n (λ j. act n made (rows_of n r j)) (rows_of n t)
        (act-proper n made (rows_of n r) (record-proper n r R)) (record-proper n t T) sent)
      where
        sent : (j : ℕ) → j < n → InGroup n n (rows_of n t) (act n made (rows_of n r j))
        sent j l =
            let F = head-is j l in
            let inside : part_of n r.graph (head j) j ≡ true = part-together n r.graph R.symmetric j (head j) j
            l
            F.below l F.passes (part-has n r.graph j) in
            subst (InGroup n n (rows_of n t))
            (same_sent n r t R T (part_of n r.graph j) (part-closed n r.graph j l) (serving (head j)).0 made
            (λ u k a. ap (λ q. (serving q).0 u) (sym (same_head j u l k a))) j l (part-has n r.graph j))
            (((serving (head j)).1 F.below).into (rows_of n r j) (in_row n n (rows_of n r) j l)
            (row_on (part_of n r.graph (head j)) (part-closed n r.graph (head j) F.below) j l inside))

  pub works-by-parts : ((c : ℕ → Clifford) × Carries n c (rows_of n r) (rows_of n t))
      ↔ ((q : ℕ) → q < n
      → (c : ℕ → Clifford) × CarriesOn n (part_of n r.graph q) c (rows_of n r) (rows_of n t))
  works-by-parts = (
    (λ w q l. (w.0, carries-on n (part_of n r.graph q) w.0 (rows_of n r) (rows_of n t) w.1)),
    (λ f. (made f, made-works f)),
  )
