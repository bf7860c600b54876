-- A row of the tableau stored, with its sign.
use mathlib.Core.Bool.{◌&&◌, Bool}
use mathlib.Core.List.{List, [], ◌∷◌}
use mathlib.Core.Logic.{◌≢◌}
use mathlib.Core.Path.{ap, ap₂, subst, sym, ◌∙◌, ◌≡◌}
use Prim.Native.Nat.{◌<◌, ℕ}
use lib.Dec.{eqb}
use lib.ListN.{get_or, length, length-set, set}
use lib.Seq.{get_or-set_other, get_or-set_same}
use Rattle.pauli.specs.Pauli.{signed_row}
use Rattle.stabilizer.specs.internal.Tableau.{tableau}
use Rattle.words.proofs.Finite.{⊕-zero}
use Rattle.words.proofs.Places.{other_place, same_place}
use Rattle.words.specs.Bits.{bit, ◌⊕◌}

module _ (rows : List (List ℕ)) (signs i : ℕ) (long : length rows ≡ 64) (hi : i < 64) (rows' : List (List ℕ))
    (signs' z x : ℕ) (b : Bool) (r : rows' ≡ set rows i (z ∷ x ∷ []))
    (s : (k : ℕ) → bit signs' k ≡ bit signs k ⊕ (eqb k i && b)) where
  pub stored_here : tableau signs' rows' i ≡ signed_row (bit signs i ⊕ b) z x
  stored_here =
      ap₂ (λ (t : Bool) (v : List ℕ). signed_row t (get_or v 0 0) (get_or v 1 0))
      (s i ∙ ap (λ t. bit signs i ⊕ (t && b)) (same_place i))
      (ap (λ v. get_or v i []) r ∙ get_or-set_same rows i _ [] (subst (λ k. i < k) (sym long) hi))

  pub stored-elsewhere : (k : ℕ) → k ≢ i → tableau signs' rows' k ≡ tableau signs rows k
  stored-elsewhere k d =
      ap₂ (λ (t : Bool) (v : List ℕ). signed_row t (get_or v 0 0) (get_or v 1 0))
      (s k ∙ ap (λ t. bit signs k ⊕ (t && b)) (other_place d) ∙ ⊕-zero (bit signs k))
      (ap (λ v. get_or v k []) r ∙ get_or-set_other rows i k _ [] d)

  pub stored-long : length rows' ≡ 64
  stored-long = ap length r ∙ length-set rows i _ ∙ long
