-- How many steps lead to the reduced form.
use Rattle.std.specs.Prelude.{List, ◌*◌, ◌+◌, suc, ℕ, ◌≤◌, length}
use Rattle.operations.specs.internal.KeptGroups.{Nearer}

-- so many steps towards the reduced form, one after another
pub data NearerIn : ℕ → List ℕ → List ℕ → List ℕ → List ℕ → Type 0 where
  none : {words codes : List ℕ} → NearerIn 0 words codes words codes
  more : {k : ℕ} {words codes words₁ codes₁ words₂ codes₂ : List ℕ} → Nearer words codes words₁ codes₁
      → NearerIn k words₁ codes₁ words₂ codes₂ → NearerIn (suc k) words codes words₂ codes₂

-- there are at most (n + 1)⁴ of them, whatever the record
abbrev pub FewSteps : Type 0
FewSteps = (k : ℕ) (words codes words' codes' : List ℕ) → NearerIn k words codes words' codes'
    → k ≤ (length words + 1) * ((length words + 1) * ((length words + 1) * (length words + 1)))
