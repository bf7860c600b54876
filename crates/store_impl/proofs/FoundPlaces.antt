-- What a search of the places answers: `Some` of the place below k that the definition names, exactly if there is one.
use Rattle.std.specs.Prelude.{Option, None, Some, unwrap_or}
use Rattle.std.specs.Option.{IfSome, MatchOption, is_some}
use mathlib.Core.Bool.{cond}
use mathlib.Core.List.{List}
use mathlib.Core.Path.{◌∙◌, ◌≡◌, ap, sym}
use Prim.Native.Nat.{◌<◌, ℕ}
use native.Mathlib.Omega.{arith}
use Rattle.store.specs.Kept.{save_place}
use Rattle.store.specs.Places.{free_place, holds_name, place_of}
use Rattle.words.proofs.Searching.{above-none, below-some}

module _ (k : ℕ) (heads : List ℕ) (name : ℕ) where
  -- a name is held exactly if its place is found
  pub found-held : (found : Option ℕ) → unwrap_or found k ≡ place_of k heads name → IfSome found (λ i. i < k)
      → is_some found ≡ holds_name k heads name
  found-held None e _ = sym (above-none k _ (omega (arith, e)))
  found-held (Some i) e l = sym (below-some k _ (omega (arith, e, l)))

  -- the place of the name, else the smallest free one
  pub saved-place : (found r : Option ℕ) {P : Type 0} → unwrap_or found k ≡ place_of k heads name
      → IfSome found (λ i. i < k) → MatchOption found P (λ i. r ≡ Some i)
      → (P → (unwrap_or r k ≡ free_place k heads) × IfSome r (λ i. i < k))
      → (unwrap_or r k ≡ save_place k heads name) × IfSome r (λ i. i < k)
  saved-place None r e l m f =
      let F = f m in
      (F.0 ∙ sym (ap (λ b. cond b (place_of k heads name) (free_place k heads)) (sym (found-held None e l))), F.1)
  saved-place (Some i) r e l m f = rw m (
    e ∙ sym (ap (λ b. cond b (place_of k heads name) (free_place k heads)) (sym (found-held (Some i) e l))),
    l,
  )
