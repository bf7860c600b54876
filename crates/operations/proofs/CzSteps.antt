-- CZ on two vertices that are ready for it: the edges between two sets of vertices are flipped. A record of reduced
-- form is reduced again.
use mathlib.Core.Bool.{◌&&◌, Bool, and_comm, and-false, false, true}
use mathlib.Core.Logic.{◌≢◌}
use mathlib.Core.Path.{ap, ap₂, refl, subst, sym, ◌∙◌, ◌≡◌}
use Prim.Native.Nat.{◌<◌, ℕ, ◌≤◌}
use Rattle.clifford.proofs.CliffordLaws.{cliffords}
use Rattle.clifford.proofs.VectorLaws.{act-mul, act-scaled, act-then}
use Rattle.clifford.specs.Clifford.{Clifford, bit_c, identity_clifford, then}
use Rattle.clifford.specs.Vectors.{act}
use Rattle.record.specs.Graph.{Graph, Simple, graph_generator}
use Rattle.record.specs.internal.Joined.{joined_by}
use Rattle.operations.proofs.CzGroups.{cz-proper}
use Rattle.operations.proofs.CzLaws.{cz-fixed}
use Rattle.operations.proofs.GroupAlone.{reduced-of-group}
use Rattle.operations.specs.Cz.{cz, cz_rows, z_at}
use Rattle.pauli.specs.Pauli.{Pauli, minus, mul, scaled}
use Rattle.record.proofs.Maximality.{inclusion-same}
use Rattle.record.proofs.ReducedRecords.{record-proper}
use Rattle.record.specs.Records.{GraphRecord, rows_of}
use Rattle.record.specs.Reduced.{reduced}
use Rattle.stabilizer.proofs.Carried.{act-chosen}
use Rattle.stabilizer.proofs.GroupLaws.{in-identity, in-mul, in_row}
use Rattle.stabilizer.specs.Groups.{InGroup, Proper, SameGroup, chosen}
use Rattle.words.proofs.Finite.{bits, ⊕-none, ⊕-zero}
use Rattle.words.proofs.Sums.{bit_monoid, fold-unit}
use Rattle.words.specs.Bits.{Word, parity, ◌⊕◌}
use Rattle.operations.proofs.CzProducts.{same-products}
use Rattle.operations.proofs.Places.{pauli-generator, pauli-low, pauli-then}
use Rattle.operations.proofs.Reaching.{
  element,
  element-other,
  element-own,
  form-ready,
  reach-below,
  reach-kept,
  reach-z,
  x-reach,
}
use Rattle.operations.proofs.ReducedForms.{form-reduced}
use Rattle.operations.proofs.ZRows.{at-commute, chosen-zs, cz-product, joined-generator, zs}
use Rattle.operations.specs.internal.ReadyPairs.{Ready, crossed}
use Rattle.operations.specs.internal.ReducedForms.{ReducedForm}
use Rattle.operations.specs.internal.GraphSteps.{cz_record, cz_turned, pauli_code, reach, reach_minus}

module _ (n : ℕ) (r : GraphRecord) (S : Simple n r.graph) (a b : ℕ) (ha : a < n) (hb : b < n) (ab : a ≢ b)
    (P : Ready r a b) where
  abbrev θ : Graph
  θ = r.graph

  abbrev c : ℕ → Clifford
  c = r.codes

  abbrev A : Word
  A = reach r a

  abbrev B : Word
  B = reach r b

  abbrev R : ℕ → Pauli
  R = rows_of n r

  abbrev ga : Pauli
  ga = element n r S a ha

  abbrev gb : Pauli
  gb = element n r S b hb

  -- the elements have no x bits at a and b
  own : (e : ℕ) (he : e < n) → crossed (r.codes e) ≡ false → (element n r S e he).x e ≡ false
  own e he K = element-own n r S e he K

  a-b : ga.x b ≡ false
  a-b = element-other n r S a b ha hb ab P.second P.parted

  b-a : gb.x a ≡ false
  b-a = element-other n r S b a hb ha (λ d. ab (sym d)) P.first (λ f e. S.symmetric b a ∙ P.parted e f)

  -- ---- a generator afterwards
  gated-z : (v : Bool) (w : Word) → act n c (zs (λ q. v && w q)) ≡ chosen v (act n c (zs w))
  gated-z v w = ap (act n c) (sym (chosen-zs v w)) ∙ act-chosen n c v (zs w)

  generator-after : (j : ℕ) → act n c (graph_generator (joined_by θ A B) j)
      ≡ mul n (mul n (R j) (chosen (A j) (scaled (minus (reach_minus r b)) (mul n gb (z_at b)))))
      (chosen (B j) (scaled (minus (reach_minus r a)) (mul n ga (z_at a))))
  generator-after j =
      ap (act n c) (joined-generator n θ j (λ q. A j && B q) (λ q. B j && A q) (and_comm (A j) (B j)))
      ∙ act-mul n c (mul n (graph_generator θ j) (zs (λ q. A j && B q))) (zs (λ q. B j && A q))
      ∙ ap₂ (mul n)
      (act-mul n c (graph_generator θ j) (zs (λ q. A j && B q))
      ∙ ap (mul n (R j)) (gated-z (A j) B ∙ ap (chosen (A j)) (reach-z n r S b hb P.second)))
      (gated-z (B j) A ∙ ap (chosen (B j)) (reach-z n r S a ha P.first))

  no-parity : (φ : Graph) (j : ℕ) → parity n (λ q. φ j q && false) ≡ false
  no-parity φ j = fold-unit false ◌⊕◌ bit_monoid n (λ q l. and-false (φ j q))

  row-after : (j : ℕ) → j < n → rows_of n (cz_record r a b) j
      ≡ mul n (mul n (cz a b (rows_of n r j)) (chosen (reach r a j) gb)) (chosen (reach r b j) ga)
  row-after j l =
      act-then n (λ q. pauli_code false (cz_turned r a b q)) c (graph_generator (joined_by θ A B) j)
      ∙ ap (act n c)
      (pauli-generator n (λ q. false) (cz_turned r a b) (joined_by θ A B) j l
      ∙ ap (λ v. scaled (minus (v ⊕ cz_turned r a b j)) (graph_generator (joined_by θ A B) j))
      (no-parity (joined_by θ A B) j))
      ∙ act-scaled n c (minus (cz_turned r a b j)) (graph_generator (joined_by θ A B) j)
      ∙ ap (scaled (minus (cz_turned r a b j))) (generator-after j)
      ∙ same-products n (R j) (z_at a) (z_at b) ga gb
      (at-commute n b gb (own b hb P.second)) (at-commute n a ga (own a ha P.first)) (at-commute n a gb b-a)
      (A j) (B j) (reach_minus r a) (reach_minus r b)
      ∙ ap (λ p. mul n (mul n p (chosen (A j) gb)) (chosen (B j) ga))
      (sym (cz-product n a b ha hb ab (R j)
      ∙ ap₂ (λ u v. scaled (minus (u && v)) (mul n (mul n (R j) (chosen u (z_at b))) (chosen v (z_at a))))
      (x-reach n r S a ha P.first j) (x-reach n r S b hb P.second j)))

  -- ---- the group
  proper : Proper n (cz_rows a b R)
  proper = cz-proper n a b ha hb ab R (record-proper n r S)

  chosen-in : (v : Bool) (p : Pauli) → InGroup n n (cz_rows a b R) p → InGroup n n (cz_rows a b R) (chosen v p)
  chosen-in false p i = in-identity n n (cz_rows a b R)
  chosen-in true p i = i

  element-in : (e : ℕ) (he : e < n) → (element n r S e he).x a ≡ false → (element n r S e he).x b ≡ false
      → InGroup n n (cz_rows a b R) (element n r S e he)
  element-in e he na nb = go (bit_c (c e)) refl
    where
      go : (v : Bool) → bit_c (c e) ≡ v → InGroup n n (cz_rows a b R) (chosen v (R e))
      go false h = in-identity n n (cz_rows a b R)
      go true h = subst (InGroup n n (cz_rows a b R))
          (cz-fixed a b (R e) (none a na) (none b nb)) (in_row n n (cz_rows a b R) e he)
        where
          none : (q : ℕ) → (element n r S e he).x q ≡ false → (R e).x q ≡ false
          none q z = sym (ap (λ v. (chosen v (R e)).x q) h) ∙ z

  pub cz-simple : Simple n (cz_record r a b).graph
  cz-simple =
      record {
        symmetric = λ k l. ap (λ t. t ⊕ ((A k && B l) ⊕ (B k && A l))) (S.symmetric k l)
            ∙ turn (θ l k) (A k) (B l) (B k) (A l);
        loopless = λ k. ap (λ t. t ⊕ ((A k && B k) ⊕ (B k && A k))) (S.loopless k) ∙ cancel (A k) (B k);
        below = λ k q l. ap (λ t. t ⊕ ((A k && B q) ⊕ (B k && A q))) (S.below k q l)
            ∙ ap₂ (λ u v. (A k && v) ⊕ (B k && u)) (reach-below n r S a ha q l) (reach-below n r S b hb q l)
            ∙ ⊕-none (A k) (B k);
      }
    where
      turn : (t u v w x : Bool) → t ⊕ ((u && v) ⊕ (w && x)) ≡ t ⊕ ((x && w) ⊕ (v && u))
      turn = bits 5 (λ t u v w x. t ⊕ ((u && v) ⊕ (w && x))) (λ t u v w x. t ⊕ ((x && w) ⊕ (v && u))) tt

      cancel : (u v : Bool) → (u && v) ⊕ (v && u) ≡ false
      cancel = bits 2 (λ u v. (u && v) ⊕ (v && u)) (λ u v. false) tt

  pub cz-same : SameGroup n n (rows_of n (cz_record r a b)) (cz_rows a b (rows_of n r))
  cz-same =
      inclusion-same n (rows_of n (cz_record r a b)) (cz_rows a b R) (record-proper n (cz_record r a b) cz-simple) proper
      (λ j l. subst (InGroup n n (cz_rows a b R)) (sym (row-after j l))
      (in-mul n n (cz_rows a b R) proper.commuting
      (in-mul n n (cz_rows a b R) proper.commuting (in_row n n (cz_rows a b R) j l)
      (chosen-in (A j) gb (element-in b hb b-a (own b hb P.second))))
      (chosen-in (B j) ga (element-in a ha (own a ha P.first) a-b))))

  pub turned-above : (q : ℕ) → n ≤ q → cz_turned r a b q ≡ false
  turned-above q l =
      ap₂ (λ u v. (u && v) ⊕ ((reach_minus r a && v) ⊕ (reach_minus r b && u))) (reach-below n r S a ha q l)
      (reach-below n r S b hb q l) ∙ ⊕-none (reach_minus r a) (reach_minus r b)

-- ---- the form
module _ (n : ℕ) (r : GraphRecord) (S : Simple n r.graph) (F : ReducedForm n r) (a b : ℕ) (ha : a < n) (hb : b < n)
    (ab : a ≢ b) where
  P : Ready r a b
  P = form-ready n r S F a b ha hb

  pub cz-form : ReducedForm n (cz_record r a b)
  cz-form =
      record {
        low = λ q l. pauli-low false (cz_turned r a b q) (r.codes q) (F.low q l);
        smaller = λ q j l e h. F.smaller q j l (still q e)
            (sym (edges (r.graph q j) (reach r b j) (reach r a j) (reach-kept n r S F a ha q l (still q e))
            (reach-kept n r S F b hb q l (still q e))) ∙ h);
        even = λ q l. ap (λ k. k.sz) (pauli-then false (cz_turned r a b q) (r.codes q)) ∙ F.even q l;
        above = λ q l. ap₂ (λ v k. then (pauli_code false v) k) (turned-above n r S a b ha hb ab P q l) (F.above q l)
            ∙ cliffords 0 (then (pauli_code false false) identity_clifford) identity_clifford tt;
      }
    where
      still : (q : ℕ) → bit_c (then (pauli_code false (cz_turned r a b q)) (r.codes q)) ≡ true → bit_c (r.codes q) ≡ true
      still q e = sym (ap bit_c (pauli-then false (cz_turned r a b q) (r.codes q))) ∙ e

      edges : (t v w : Bool) {u x : Bool} → u ≡ false → x ≡ false → t ⊕ ((u && v) ⊕ (x && w)) ≡ t
      edges t v w e f = ap₂ (λ u x. t ⊕ ((u && v) ⊕ (x && w))) e f ∙ ⊕-zero t

  pub cz-reduced-form : reduced n (cz_rows a b (rows_of n r)) ≡ cz_record r a b
  cz-reduced-form =
      sym (reduced-of-group n (rows_of n (cz_record r a b)) (cz_rows a b (rows_of n r))
      (record-proper n (cz_record r a b) simple) (cz-proper n a b ha hb ab (rows_of n r) (record-proper n r S))
      (cz-same n r S a b ha hb ab P))
      ∙ form-reduced n (cz_record r a b) simple cz-form
    where
      simple : Simple n (cz_record r a b).graph
      simple = cz-simple n r S a b ha hb ab P
