-- The first codes of an array act as all do on a row that has no letter after them.
use mathlib.Core.List.{List}
use mathlib.Core.Logic.{inl, inr, ◌⊎◌}
use mathlib.Core.Path.{ap, ap₂, subst, sym, ◌∙◌, ◌≡◌}
use Prim.Native.Nat.{◌<◌, ◌≤◌, ℕ}
use native.Mathlib.Omega.{arith}
use lib.Dec.{lit<}
use lib.ListN.{get_or-eq_default, get_or, length, length-take, take}
use lib.Seq.{get_or-take}
use Rattle.clifford.proofs.VectorLaws.{act-agree}
use Rattle.clifford.specs.Clifford.{clifford_of}
use Rattle.clifford.specs.Vectors.{act, codes_of}
use Rattle.comparison.specs.internal.Setting.{Codes, Framed}
use Rattle.pauli.specs.Pauli.{Pauli, letter, letter_at}
use Rattle.pauli.specs.declared.Letter.TheVariants.{I}
use Rattle.stabilizer.specs.Groups.{Within}
use Rattle.words.proofs.Sums.{lt-or-ge}

module _ (n : ℕ) (cs : List ℕ) where
  pub first_code : (q : ℕ) → q < n → codes_of (take n cs) q ≡ codes_of cs q
  first_code q l = ap clifford_of (get_or-take n cs q 0 l)

  pub first-sound : Codes cs → Codes (take n cs)
  first-sound C q = go (lt-or-ge q n)
    where
      short : length (take n cs) ≤ n
      short = simp length-take (omega arith)

      go : (q < n) ⊎ (n ≤ q) → get_or (take n cs) q 0 < 24
      go (inl l) = subst (λ v. v < 24) (sym (get_or-take n cs q 0 l)) (C q)
      go (inr l) =
          subst (λ v. v < 24) (sym (get_or-eq_default (take n cs) 0 (omega (arith, short, l)))) (lit< tt)

  pub first-act : (m : ℕ) (p : Pauli) → Within n p → act m (codes_of (take n cs)) p ≡ act m (codes_of cs) p
  first-act m p W = act-agree m (codes_of (take n cs)) (codes_of cs) p (λ q. place q (lt-or-ge q n))
    where
      place : (q : ℕ) → (q < n) ⊎ (n ≤ q) → (codes_of (take n cs) q ≡ codes_of cs q) ⊎ (letter_at p q ≡ I)
      place q (inl l) = inl (first_code q l)
      place q (inr l) = inr (ap₂ letter (W.no-z q l) (W.no-x q l))

  pub first_frame : (rows : ℕ → Pauli) → Framed n rows (codes_of cs) → Framed n rows (codes_of (take n cs))
  first_frame rows F =
      record {
        graph = F.graph;
        codes = F.codes;
        simple = F.simple;
        generators = F.generators;
        undoes = λ q l. first_code q l ∙ F.undoes q l;
      }
