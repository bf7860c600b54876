-- Tabulated buffers: their length, their places, and when a buffer is a table.
use mathlib.Core.List.{List}
use mathlib.Core.Path.{ap, refl, subst, sym, ◌∙◌, ◌≡◌}
use Prim.Native.Nat.{◌<◌, suc, zero, ℕ}
use native.Mathlib.Nat.{le_of_suc-le-suc, not-suc-le-zero}
use lib.ListN.{get_or, length}
use lib.Seq.{ext_get_or}
use Rattle.buffers.specs.Buffers.{tabulate}

pub tabulate-length : (n : ℕ) (f : ℕ → ℕ) → length (tabulate n f) ≡ n
unfolding tabulate
tabulate-length zero f = refl
tabulate-length (suc n) f = ap suc (tabulate-length n (λ k. f (suc k)))

pub tabulate-at : (n : ℕ) (f : ℕ → ℕ) (i : ℕ) → i < n → get_or (tabulate n f) i 0 ≡ f i
unfolding tabulate
tabulate-at zero f i l = absurd (not-suc-le-zero l)
tabulate-at (suc n) f zero l = refl
tabulate-at (suc n) f (suc i) l = tabulate-at n (λ k. f (suc k)) i (le_of_suc-le-suc l)

-- a buffer of n places with the numbers f
pub tabulate-is : (n : ℕ) (f : ℕ → ℕ) (buffer : List ℕ) → length buffer ≡ n →
    ((i : ℕ) → i < n → get_or buffer i 0 ≡ f i) → buffer ≡ tabulate n f
tabulate-is n f buffer e h =
    ext_get_or 0 buffer (tabulate n f) (e ∙ sym (tabulate-length n f))
    (λ i l. h i (subst (λ m. i < m) e l) ∙ sym (tabulate-at n f i (subst (λ m. i < m) e l)))

pub tabulate-cong : (n : ℕ) (f g : ℕ → ℕ) → ((i : ℕ) → i < n → f i ≡ g i) → tabulate n f ≡ tabulate n g
tabulate-cong n f g h =
    tabulate-is n g (tabulate n f) (tabulate-length n f) (λ i l. tabulate-at n f i l ∙ h i l)
