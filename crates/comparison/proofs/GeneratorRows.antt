-- The rows of three words that hold generators.
use mathlib.Core.List.{List, [], ◌∷◌}
use mathlib.Core.Path.{ap, refl, subst, sym, ◌∙◌, ◌≡◌}
use Prim.Native.Nat.{◌+◌, ◌<◌, suc, zero, ℕ}
use lib.ListN.{get_or-map, get_or, length, set}
use Rattle.buffers.proofs.Filling.{FilledBy, one-filled}
use Rattle.pauli.specs.declared.Generator.{Generator}
use Rattle.comparison.specs.internal.Setting.{generator_in, generators_in, no_generator}

pub generator-at : (rows : List (List ℕ)) (j : ℕ) → get_or (generators_in rows) j no_generator ≡ generator_in
    (get_or rows j [])
generator-at rows j = get_or-map generator_in rows j []

generator-set : (rows : List (List ℕ)) (i : ℕ) (r : List ℕ)
    → generators_in (set rows i r) ≡ set (generators_in rows) i (generator_in r)
generator-set [] i r = refl
generator-set (x ∷ rows) zero r = refl
generator-set (x ∷ rows) (suc i) r = ap (λ t. generator_in x ∷ t) (generator-set rows i r)

pub generators-long : (rows : List (List ℕ)) → length (generators_in rows) ≡ length rows
generators-long [] = refl
generators-long (x ∷ rows) = ap suc (generators-long rows)

-- one generator more is stored
pub generator-stored : (n : ℕ) (P : ℕ → Generator → Type 0) (rows : List (List ℕ)) (i : ℕ) (r : List ℕ) (g : Generator)
    → FilledBy no_generator n P (generators_in rows) i → i < n → generator_in r ≡ g → P i g
    → FilledBy no_generator n P (generators_in (set rows i r)) (i + 1)
generator-stored n P rows i r g F l e p =
    subst (λ xs. FilledBy no_generator n P xs (i + 1)) (sym (generator-set rows i r ∙ ap (set (generators_in rows) i) e))
    (one-filled no_generator n P (generators_in rows) i g F l p)
