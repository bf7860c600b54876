-- The two rounds of the reduction: a pass, the Hadamards, a pass. What the code has before each round and at the end.
use mathlib.Core.Bool.{false, true}
use mathlib.Core.List.{List, []}
use mathlib.Core.Logic.{inl, inr, ◌⊎◌}
use mathlib.Core.Path.{ap, fun_ext, refl, subst, sym, ◌∙◌, ◌≡◌}
use Prim.Native.Nat.{◌+◌, ◌-◌, ◌<◌, ◌^◌, ℕ, ◌≤◌}
use native.Mathlib.Nat.{lt_irrefl}
use native.Mathlib.Omega.{arith}
use lib.Bits.{bit_xor}
use lib.ListN.{get_or}
use Rattle.clifford.specs.Vectors.{act}
use Rattle.pauli.specs.Pauli.{Pauli}
use Rattle.record.specs.Reduced.{hadamard_where, record_of, reduced}
use Rattle.record_reduction.proofs.Relating.{no_pairs, not-paired, one_place}
use Rattle.record_reduction.specs.internal.Passes.{Eliminated, Loaded}
use Rattle.record_reduction.specs.internal.Relative.{half_y, relative}
use Rattle.stabilizer.specs.Groups.{Within}
use Rattle.stabilizer.specs.Lists.{dependent}
use Rattle.stabilizer.specs.internal.Tableau.{tableau}
use Rattle.words.proofs.Sums.{lt-or-ge}
use Rattle.words.specs.Bits.{bit}
use Rattle.record_reduction.proofs.Concluding.{
  complete,
  hadamards-lt,
  left_over,
  loaded-rotated,
  loaded-second,
  one-x,
  the-record,
}

-- after the first round: the rows R are those of the first pass with the Hadamards
pub record Turned (n all : ℕ) (R₀ R : ℕ → Pauli) (pivots hadamards : ℕ) : Type 0 where
  pub R₁ : ℕ → Pauli
  pub first : Eliminated n R₀ (bit 0) R₁ (bit pivots) n
  pub named : hadamards ≡ bit_xor all pivots
  pub turned : (j : ℕ) → R j ≡ act 64 (hadamard_where (bit hadamards)) (R₁ j)

-- after both
pub record Both (n all : ℕ) (R₀ R : ℕ → Pauli) (pivots hadamards : ℕ) : Type 0 where
  pub R₂ : ℕ → Pauli
  pub kept : ℕ
  pub once : Turned n all R₀ R₂ kept hadamards
  pub second : Eliminated n R₂ (bit kept) R (bit pivots) n

pub record Stage (n all : ℕ) (R₀ R : ℕ → Pauli) (pivots hadamards round : ℕ) : Type 0 where
  pub upto : round ≤ 2
  pub begun : round ≡ 0 → (R ≡ R₀) × (pivots ≡ 0)
  pub once : round ≡ 1 → Turned n all R₀ R pivots hadamards
  pub both : round ≡ 2 → Both n all R₀ R pivots hadamards

module _ (n : ℕ) (l : n ≤ 64) (all : ℕ) (m : all ≡ 2 ^ n - 1) (R₀ : ℕ → Pauli) (L : Loaded n R₀) (R : ℕ → Pauli)
    (pivots hadamards : ℕ) where
  pub stage-loaded : (round : ℕ) → Stage n all R₀ R pivots hadamards round → round < 2 → Loaded n R
  stage-loaded round S h = go (lt-or-ge round 1)
    where
      go : (round < 1) ⊎ (1 ≤ round) → Loaded n R
      go (inl k) = subst (Loaded n) (sym (S.begun (omega arith)).0) L
      go (inr k) = let T = S.once (omega arith) in
          loaded-rotated n l R₀ L T.R₁ pivots T.first all m hadamards T.named R T.turned

  -- the first round: a pass, then the Hadamards
  pub first_round : (round : ℕ) → Stage n all R₀ R pivots hadamards round → round ≡ 0
      → (R₁ : ℕ → Pauli) (kept : ℕ) → Eliminated n R (bit pivots) R₁ (bit kept) n
      → (hadamards' : ℕ) → hadamards' ≡ bit_xor all kept
      → (R' : ℕ → Pauli) → ((j : ℕ) → R' j ≡ act 64 (hadamard_where (bit hadamards')) (R₁ j))
      → Stage n all R₀ R' kept hadamards' (round + 1)
  first_round round S z R₁ kept E hadamards' named R' turned =
      record {
        upto = omega (arith, z);
        begun = λ e. absurd (lt_irrefl 0 (omega (arith, e)));
        once = λ e. record {
          R₁ = R₁;
          first = subst (λ f. Eliminated n f (bit 0) R₁ (bit kept) n) (S.begun z).0
              (subst (λ p. Eliminated n R (bit p) R₁ (bit kept) n) (S.begun z).1 E);
          named = named;
          turned = turned;
        };
        both = λ e. absurd (lt_irrefl 0 (omega (arith, e, z)));
      }

  -- its word of Hadamards has no bit at or above 64
  pub stage-turned : (round : ℕ) → Stage n all R₀ R pivots hadamards round → round ≡ 0
      → (R₁ : ℕ → Pauli) (kept : ℕ) → Eliminated n R (bit pivots) R₁ (bit kept) n → bit_xor all kept < 2 ^ 64
  stage-turned round S z R₁ kept E =
      hadamards-lt n l R₀ L R₁ kept
      (subst (λ f. Eliminated n f (bit 0) R₁ (bit kept) n) (S.begun z).0
      (subst (λ p. Eliminated n R (bit p) R₁ (bit kept) n) (S.begun z).1 E)) all m _ refl

  -- the second: a pass
  pub second-round : (round : ℕ) → Stage n all R₀ R pivots hadamards round → round < 2 → (round ≡ 0 → ⊥)
      → (R' : ℕ → Pauli) (pivots' : ℕ) → Eliminated n R (bit pivots) R' (bit pivots') n
      → Stage n all R₀ R' pivots' hadamards (round + 1)
  second-round round S h d R' pivots' E =
      record {
        upto = omega arith;
        begun = λ e. absurd (lt_irrefl 0 (omega (arith, e)));
        once = λ e. absurd (d (omega (arith, e)));
        both = λ e. record { R₂ = R; kept = pivots; once = S.once (omega (arith, e)); second = E };
      }

-- ---- the end
module _ (n : ℕ) (l : n ≤ 64) (all : ℕ) (m : all ≡ 2 ^ n - 1) (R₀ : ℕ → Pauli) (L : Loaded n R₀)
    (rows : List (List ℕ)) (signs pivots hadamards : ℕ)
    (B : Both n all R₀ (relative (bit signs) rows) pivots hadamards) where
  pub both-left-over : (pivots ≡ all → ⊥) → dependent n R₀ ≡ true
  both-left-over = let T = B.once in
      left_over n l R₀ L T.R₁ B.kept T.first all m hadamards T.named B.R₂ T.turned
      (relative (bit signs) rows) pivots B.second

  loaded-end : Loaded n (relative (bit signs) rows)
  loaded-end = let T = B.once in
      loaded-second n l R₀ L T.R₁ B.kept T.first all m hadamards T.named B.R₂ T.turned
      (relative (bit signs) rows) pivots B.second

  module _ (e : pivots ≡ all) where
    pub both-complete : dependent n R₀ ≡ false
    both-complete = let T = B.once in
        complete n l R₀ L T.R₁ B.kept T.first all m hadamards T.named B.R₂ T.turned
        (relative (bit signs) rows) pivots B.second e

    -- no row has two Y, and so the relative signs are the signs
    plain : (j : ℕ) → tableau signs rows j ≡ relative (bit signs) rows j
    plain = not-paired signs rows (λ j. go j (lt-or-ge j n))
      where
        go : (j : ℕ) → (j < n) ⊎ (n ≤ j) → half_y (get_or (get_or rows j []) 0 0) (get_or (get_or rows j []) 1 0) ≡ false
        go j (inl k) = let T = B.once in
            one_place (get_or (get_or rows j []) 0 0) (get_or (get_or rows j []) 1 0) j
            (one-x n l R₀ L T.R₁ B.kept T.first all m hadamards T.named B.R₂ T.turned
            (relative (bit signs) rows) pivots B.second e j k)
        go j (inr k) = no_pairs (get_or (get_or rows j []) 0 0) (get_or (get_or rows j []) 1 0)
            (λ q. ap (λ p. p.z q) (loaded-end.beyond j k))

    pub end-within : (j : ℕ) → Within n (tableau signs rows j)
    end-within j = subst (Within n) (sym (plain j)) (loaded-end.within j)

    pub end-record : record_of n (bit hadamards) (tableau signs rows) ≡ reduced n R₀
    end-record = let T = B.once in
        ap (record_of n (bit hadamards)) (fun_ext plain)
        ∙ the-record n l R₀ L T.R₁ B.kept T.first all m hadamards T.named B.R₂ T.turned
        (relative (bit signs) rows) pivots B.second e
