-- The loop that puts a code before the codes that a word names.
use mathlib.Core.Bool.{cond}
use mathlib.Core.List.{List}
use mathlib.Core.Path.{ap, subst, sym, ◌∙◌, ◌≡◌}
use Prim.Native.Nat.{◌<◌, ◌^◌, ℕ, ◌≤◌}
use lib.Bits.{bit_xor}
use lib.Count.{count_trailing_zeros}
use lib.ListN.{get_or, length, set}
use Rattle.buffers.proofs.OverSets.{Over, next-named, over-end, over-start, over-step}
use Rattle.buffers.proofs.Tabulate.{tabulate-is}
use Rattle.buffers.specs.Buffers.{tabulate}
use Rattle.clifford.proofs.CliffordLaws.{code_of-clifford_of}
use Rattle.clifford.specs.Clifford.{clifford_of, code_of, then}
use Rattle.clifford.specs.Vectors.{codes_of}
use Rattle.words.specs.Bits.{bit}

abbrev pub put_number : List ℕ → ℕ → ℕ → ℕ → ℕ
put_number old word k q = code_of (cond (bit word q) (then (clifford_of k) (codes_of old q)) (codes_of old q))

abbrev pub PutAt : List ℕ → ℕ → ℕ → ℕ → ℕ → Type 0
PutAt old word k q v = v ≡ put_number old word k q

abbrev pub Putting : List ℕ → ℕ → ℕ → List ℕ → ℕ → Type 0
Putting old word k new rest = Over (PutAt old word k) word old new rest

module _ (old : List ℕ) (word k : ℕ) where
  pub put-start : ((q : ℕ) → get_or old q 0 < 24) → word < 2 ^ (length old) → Putting old word k old word
  put-start below h = over-start (PutAt old word k) old word h
      (λ q e. sym (ap (λ b. code_of (cond b (then (clifford_of k) (codes_of old q)) (codes_of old q))) e
      ∙ code_of-clifford_of (get_or old q 0) (below q)))

  module _ (new : List ℕ) (rest : ℕ) (T : Putting old word k new rest) where
    pub put-more : length old ≤ 64 → (rest ≡ 0 → ⊥) → (i : ℕ) → i ≡ count_trailing_zeros 64 rest → (v rest' : ℕ)
        → v ≡ code_of (then (clifford_of k) (clifford_of (get_or new i 0))) → rest' ≡ bit_xor rest (2 ^ i)
        → Putting old word k (set new i v) rest'
    put-more s z i e v rest' h f =
        let here = next-named (PutAt old word k) word old new rest T s z i e in
        over-step (PutAt old word k) word old new rest T s z i e v rest'
        (h ∙ ap (λ c. code_of (then (clifford_of k) (clifford_of c))) (T.left i here)
        ∙ ap (λ b. code_of (cond b (then (clifford_of k) (codes_of old i)) (codes_of old i))) (sym (T.named i here))) f

    -- the next code is still the old one
    pub put_small : length old ≤ 64 → ((q : ℕ) → get_or old q 0 < 24) → (rest ≡ 0 → ⊥) → (i : ℕ)
        → i ≡ count_trailing_zeros 64 rest → get_or new i 0 < 24
    put_small s below z i e =
        subst (λ v. v < 24) (sym (T.left i (next-named (PutAt old word k) word old new rest T s z i e))) (below i)

    pub put-end : rest ≡ 0 → new ≡ tabulate (length old) (put_number old word k)
    put-end e = tabulate-is (length old) (put_number old word k) new T.long
        (λ q l. over-end (PutAt old word k) word old new rest T e q)
