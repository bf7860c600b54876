-- The lines of a product: those of its list, with the word that chooses tested in line 5.
use mathlib.Core.Bool.{false, or-false, or-true, true, ◌||◌}
use mathlib.Core.Path.{ap, refl, sym, ◌∙◌, ◌≡◌}
use Prim.Native.Nat.{◌^◌, ℕ, ◌≤◌}
use lib.Dec.{leb}
use Rattle.buffers.specs.Refusals.{first_fitting}
use Rattle.buffers.proofs.Fitting.{first-is, fits-at, is-first, none-holds, not_first}
use Rattle.buffers.specs.Answers.{FirstFits, here, later}
use Rattle.stabilizer.proofs.Accepted.{WellFormed, well-formed}
use Rattle.stabilizer.proofs.SharedTests.{counted}
use Rattle.stabilizer.specs.Lists.{GeneratorList, form_lines, list_stray}
use Rattle.words.proofs.Flags.{neither}
use Rattle.calls.specs.Products.{product_lines}

-- the list's number k
module _ (l : GeneratorList) (chosen k : ℕ) (e : k ≡ first_fitting (form_lines l false)) where
  first : FirstFits (form_lines l false) k
  first = fits-at (form_lines l false) e

  pub number-2 : k ≡ 2 → k ≡ first_fitting (product_lines l chosen)
  number-2 z = z ∙ first-is (here (is-first first refl z))

  module _ (not-2 : k ≡ 2 → ⊥) where
    pub number-4 : k ≡ 4 → k ≡ first_fitting (product_lines l chosen)
    number-4 z = let p = not_first first not-2 in
        z ∙ first-is (later p.0 (here (sym (or-false _) ∙ is-first p.1 refl z)))

    pub word-tested : (1 ≤ l.n) × (l.n ≤ 64)
    word-tested = counted l.n (not_first first not-2).0

    pub word-strays : (k ≡ 4 → ⊥) → leb (2 ^ l.n) chosen ≡ true → 5 ≡ first_fitting (product_lines l chosen)
    word-strays not-4 h = let p = not_first first not-2 in
        first-is (later p.0 (later (sym (or-false _) ∙ (not_first p.1 not-4).0)
        (here (ap (λ b. list_stray l || b) h ∙ or-true (list_stray l)))))

  -- the word is in order: the list decides
  pub word_good : leb (2 ^ l.n) chosen ≡ false → k ≡ first_fitting (product_lines l chosen)
  word_good h = e ∙ simp (h, or-false)

-- what it means that a product is accepted
pub accepted-rows : (l : GeneratorList) (chosen : ℕ) → first_fitting (product_lines l chosen) ≡ 0 → WellFormed l
accepted-rows l chosen e =
    let h = none-holds (product_lines l chosen) refl e in
    well-formed l false
    (record {
      count = h.0;
      lengths = or-false _ ∙ h.1.0;
      strays = (neither (list_stray l) (leb (2 ^ l.n) chosen) h.1.1.0).0;
      signs = h.1.1.1.0;
    })
