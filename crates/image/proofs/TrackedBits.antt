-- The bits that the image rule follows are the bits of the rewritten codes, and the record keeps its group.
use mathlib.Core.Bool.{◌&&◌, Bool, cond, false, true, true≢false}
use mathlib.Core.List.{◌++◌, List, [], ◌∷◌}
use mathlib.Core.Path.{ap, fun_ext, refl, subst, sym, ◌∙◌, ◌≡◌}
use Prim.Native.Nat.{◌*◌, ℕ, ◌≤◌}
use native.Mathlib.Decide.{ℕ_discrete}
use lib.Dec.{eqb}
use lib.ListN.{length}
use Rattle.cut.proofs.Counting.{count-upto}
use Rattle.clifford.proofs.CliffordLaws.{from_five, on_clifford}
use Rattle.clifford.specs.Clifford.{Clifford, bit_c, bit_d, clifford_of, then}
use Rattle.record.proofs.Complement.{complement-simple}
use Rattle.record.proofs.GraphGroups.{no_loop}
use Rattle.record.specs.Graph.{Simple, complement}
use Rattle.record.proofs.ComplementLists.{complement-all-same, complement-all-simple}
use Rattle.record.specs.Records.{GraphRecord, complement_all, complement_record, rows_of}
use Rattle.stabilizer.specs.Groups.{SameGroup}
use Rattle.words.proofs.Finite.{bits}
use Rattle.words.proofs.Places.{other_place}
use Rattle.words.specs.Bits.{put, ◌⊕◌}
use Rattle.image.proofs.Running.{Stopped, run-below, run_length, run-stops}
use Rattle.image.specs.Image.{image_graph, image_record}
use Rattle.image.specs.Rule.{follow, image_list, state_of, complemented_at}

-- ---- how 13 and 6 change the bits
C-13 : (k : Clifford) → bit_c (then (clifford_of 13) k) ≡ bit_c k ⊕ bit_d k
C-13 = on_clifford _
    (bits 5 (λ a b c d e. bit_c (then (clifford_of 13) (from_five a b c d e)))
    (λ a b c d e. bit_c (from_five a b c d e) ⊕ bit_d (from_five a b c d e)) tt)

D-13 : (k : Clifford) → bit_d (then (clifford_of 13) k) ≡ bit_d k
D-13 = on_clifford _
    (bits 5 (λ a b c d e. bit_d (then (clifford_of 13) (from_five a b c d e)))
    (λ a b c d e. bit_d (from_five a b c d e)) tt)

C-6 : (k : Clifford) → bit_c (then (clifford_of 6) k) ≡ bit_c k
C-6 = on_clifford _
    (bits 5 (λ a b c d e. bit_c (then (clifford_of 6) (from_five a b c d e)))
    (λ a b c d e. bit_c (from_five a b c d e)) tt)

D-6 : (k : Clifford) → bit_d (then (clifford_of 6) k) ≡ bit_c k ⊕ bit_d k
D-6 = on_clifford _
    (bits 5 (λ a b c d e. bit_d (then (clifford_of 6) (from_five a b c d e)))
    (λ a b c d e. bit_c (from_five a b c d e) ⊕ bit_d (from_five a b c d e)) tt)

pub bits-follow : (n : ℕ) (r : GraphRecord) → Simple n r.graph → (v : ℕ) →
    state_of (complement_record r v) ≡ complemented_at (state_of r) v
unfolding complemented_at put
bits-follow n r G v = λ i. record { graph = complement r.graph v; C = fun_ext at-C i; D = fun_ext at-D i }
  where
    go_c : (own u : Bool) (k : Clifford) →
        bit_c (cond own (then (clifford_of 13) k) (cond u (then (clifford_of 6) k) k)) ≡ cond own (bit_c k
        ⊕ bit_d k) (bit_c k)
    go_c true u k = C-13 k
    go_c false true k = C-6 k
    go_c false false k = refl

    go_d : (own u : Bool) (k : Clifford) → (own && u) ≡ false →
        bit_d (cond own (then (clifford_of 13) k) (cond u (then (clifford_of 6) k) k)) ≡ cond u (bit_c k
        ⊕ bit_d k) (bit_d k)
    go_d true true k e = absurd (true≢false e)
    go_d true false k e = D-13 k
    go_d false true k e = D-6 k
    go_d false false k e = refl

    at-C : (q : ℕ) → (state_of (complement_record r v)).C q ≡ (complemented_at (state_of r) v).C q
    at-C q = go_c (eqb q v) (r.graph v q) (r.codes q) ∙ here (ℕ_discrete q v)
      where
        sum : ℕ → Bool
        sum w = bit_c (r.codes w) ⊕ bit_d (r.codes w)

        here : Dec (q ≡ v) → cond (eqb q v) (sum q) (bit_c (r.codes q)) ≡ cond (eqb q v) (sum v)
            (bit_c (r.codes q))
        here (yes e) = ap (λ w. cond (eqb q v) (sum w) (bit_c (r.codes q))) e
        here (no d) =
            ap (λ b. cond b (sum q) (bit_c (r.codes q))) (other_place d)
            ∙ sym (ap (λ b. cond b (sum v) (bit_c (r.codes q))) (other_place d))

    at-D : (q : ℕ) → (state_of (complement_record r v)).D q ≡ (complemented_at (state_of r) v).D q
    at-D q = go_d (eqb q v) (r.graph v q) (r.codes q) (no_loop n r.graph G v q)

-- ---- complementing at each vertex of a list
pub all_append : (r : GraphRecord) (a b : List ℕ)
    → complement_all r (a ++ b) ≡ complement_all (complement_all r a) b
all_append r [] b = refl
all_append r (v ∷ a) b = all_append (complement_record r v) a b

pub all-bits : (n : ℕ) (r : GraphRecord) (vs : List ℕ) → Simple n r.graph →
    state_of (complement_all r vs) ≡ follow (state_of r) vs
all-bits n r [] G = refl
all-bits n r (v ∷ vs) G =
    all-bits n (complement_record r v) vs (complement-simple n r.graph G v)
    ∙ ap (λ S. follow S vs) (bits-follow n r G v)

-- ---- the record that the image rule ends with
module _ (n : ℕ) (r : GraphRecord) (G : Simple n r.graph) where
  pub image-simple : Simple n (image_graph n r)
  image-simple = complement-all-simple n r G (image_list n r)

  -- it has the group of the given record
  pub image-same : SameGroup n n (rows_of n r) (rows_of n (image_record n r))
  image-same = complement-all-same n r G (run-below n n (state_of r))

  -- its bits are those that the rule followed
  pub image-bits : state_of (image_record n r) ≡ follow (state_of r) (image_list n r)
  image-bits = all-bits n r (image_list n r) G

  -- and the rule has come to its stop there
  pub image-stopped : Stopped n (state_of (image_record n r))
  image-stopped = subst (Stopped n) (sym image-bits)
      (run-stops n n (state_of r) G (count-upto n (state_of r).C))

  -- "Its count is the number of complementations done": at most 3 n / 2
  pub image-length : 2 * length (image_list n r) ≤ 3 * n
  image-length = run_length n n (state_of r) G
