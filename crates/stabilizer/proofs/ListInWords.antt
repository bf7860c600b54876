-- The tests of a list decide the sentences of its lines.
use mathlib.Core.Bool.{Bool, false, true, ◌||◌}
use mathlib.Core.Path.{refl, ◌≡◌}
use Prim.Native.Nat.{ℕ}
use Rattle.buffers.proofs.SentenceLaws.{Decides, Matches, bad-count, or-decides, other_length, some-above, some-stray}
use Rattle.pauli.specs.Pauli.{Pauli}
use Rattle.stabilizer.proofs.Verdicts.{clashing-pair, dependent-not, not-dependent}
use Rattle.stabilizer.specs.Groups.{Independent}
use Rattle.stabilizer.specs.Lists.{GeneratorList, clashing, dependent, list_lengths, list_lines, list_stray, rows}
use Rattle.stabilizer.specs.ListSentences.{ListMisfits, ListStrays, TwoClash, list_sentences}

pub misfits : (l : GeneratorList) → Decides (list_lengths l) (ListMisfits l)
misfits l = or-decides (other_length l.n l.signs)
    (or-decides (other_length l.n l.z) (other_length l.n l.x))

pub strays : (l : GeneratorList) → Decides (list_stray l) (ListStrays l)
strays l = or-decides (some-stray l.n l.z) (some-stray l.n l.x)

pub clash : (n : ℕ) (R : ℕ → Pauli) → Decides (clashing n R) (TwoClash n R)
clash n R = clashing-pair n R

pub dependence : (n : ℕ) (R : ℕ → Pauli) → Decides (dependent n R) (Independent n R → ⊥)
dependence n R = (dependent-not n R, λ h. by-test (dependent n R) (λ e. h (not-dependent n R e)))
  where
    by-test : (b : Bool) → (b ≡ false → ⊥) → b ≡ true
    by-test true h = refl
    by-test false h = absurd (h refl)

pub list-in-words : (l : GeneratorList) (others : Bool) (Four : Type 0) → Decides (list_lengths l || others) Four
    → Matches (list_lines l others) (list_sentences l Four)
list-in-words l others Four D = (
  refl,
  (
    bad-count l.n,
    λ e. (
      refl,
      (
        D,
        λ e. (
          refl,
          (
            strays l,
            λ e. (
              refl,
              (
                some-above 1 l.signs,
                λ e. (
                  refl,
                  (clash l.n (rows l), λ e. (refl, (dependence l.n (rows l), λ e. tt))),
                ),
              ),
            ),
          ),
        ),
      ),
    ),
  ),
)
