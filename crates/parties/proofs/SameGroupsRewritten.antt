-- Complementing at a vertex of s: the vertices of s alone are rewritten as the whole record is, and the others stay.
use mathlib.Core.Bool.{◌&&◌, Bool, cond, false, false≢true, not, true}
use mathlib.Core.Path.{◌≡◌, ap, ap₂, fun_ext, refl, sym, ◌∙◌}
use Prim.Native.Nat.{ℕ, ◌<◌}
use lib.Dec.{eqb}
use Rattle.clifford.specs.Clifford.{clifford_of, then}
use Rattle.record.proofs.Complement.{complement-simple}
use Rattle.record.specs.Graph.{Graph, complement}
use Rattle.record.specs.Records.{GraphRecord, complement_record, recoded, rows_of}
use Rattle.words.proofs.Finite.{⊕-zero}
use Rattle.words.proofs.Places.{other_place}
use Rattle.words.specs.Bits.{Word, ◌⊕◌}
use Rattle.parties.proofs.SameGroupsRows.{apart, row-alike}
use Rattle.parties.proofs.SameGroupsTogether.{code-own, edges-own}
use Rattle.parties.specs.internal.Sides.{MaskOf, PutTogether, Split, blank}

-- no edge leaves the set of all qubits
all_split : (θ : Graph) → Split (λ q. true) θ
all_split θ = record { none = go }
  where
    go : (b : Bool) (i j : ℕ) → true ≡ b → true ≡ not b → θ i j ≡ false
    go true i j e f = absurd (false≢true (sym f))
    go false i j e f = absurd (false≢true (sym e))

module _ (n : ℕ) (s : Word) (r m : GraphRecord) (K : MaskOf n s r m) (a : ℕ) (ha : a < n) (own : s a ≡ true)
    (t : GraphRecord) (T : PutTogether n s (complement_record m a) r t) where
  word-alike : (i : ℕ) → s i ≡ true → m.graph i ≡ r.graph i
  word-alike i e = fun_ext (λ j. edges-own n s r blank m K.put i j e)

  pub edges-rewritten : (i j : ℕ) → t.graph i j ≡ complement r.graph a i j
  edges-rewritten i j = T.edges i j ∙ go (s i) refl
    where
      go : (b : Bool) → s i ≡ b → cond b (complement m.graph a i j) (r.graph i j) ≡ complement r.graph a i j
      go true e = ap₂ (λ f g. f j ⊕ ((g i && g j) && not (eqb j i))) (word-alike i e) (word-alike a own)
      go false e = sym (ap (λ v. r.graph i j ⊕ ((v && r.graph a j) && not (eqb j i))) (K.split.none true a i own e)
          ∙ ⊕-zero (r.graph i j))

  pub codes-rewritten : (q : ℕ) → q < n → t.codes q ≡ recoded r.graph a r.codes q
  codes-rewritten q l = T.codes q l ∙ go (s q) refl
    where
      go : (b : Bool) → s q ≡ b
          → cond b (recoded m.graph a m.codes q) (r.codes q) ≡ recoded r.graph a r.codes q
      go true e =
          ap₂ (λ g c. cond (eqb q a) (then (clifford_of 13) c) (cond (g q) (then (clifford_of 6) c) c))
          (word-alike a own) (code-own n s r blank m K.put q l e)
      go false e =
          sym (ap₂ (λ u v. cond u (then (clifford_of 13) (r.codes q))
          (cond v (then (clifford_of 6) (r.codes q)) (r.codes q)))
          (other_place (apart s true own e)) (K.split.none true a q own e))

  -- generator by generator
  pub rewritten-row : (j : ℕ) → j < n → rows_of n (complement_record r a) j ≡ rows_of n t j
  rewritten-row j l = row-alike n (λ q. true) true (complement_record r a) (complement-simple n r.graph K.simple a)
      (all_split (complement r.graph a)) j l refl t (λ q. sym (edges-rewritten j q))
      (λ q k e. sym (codes-rewritten q k))
