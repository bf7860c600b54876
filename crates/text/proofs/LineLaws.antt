-- One line of a text of Pauli strings: its bytes by column, and the row that it stands for.
use mathlib.Core.Bool.{◌&&◌, Bool, false, false≢true, true, ◌||◌}
use mathlib.Core.List.{List}
use mathlib.Core.Logic.{inl, inr}
use mathlib.Core.Path.{ap, ap₂, refl, subst, sym, ◌∙◌, ◌≡◌}
use Prim.Native.Nat.{◌+◌, ◌<◌, suc, zero, ℕ}
use native.Mathlib.Omega.{arith}
use lib.Dec.{eqb}
use lib.ListN.{get_or-append, get_or, length, length-append}
use lib.Seq.{get_or_at}
use borrow.Author.Tests.{eqb-true}
use Rattle.buffers.proofs.Tabulate.{tabulate-at, tabulate-cong, tabulate-length}
use Rattle.buffers.specs.Buffers.{tabulate}
use Rattle.pauli.proofs.PauliLaws.{letter-bits}
use Rattle.pauli.proofs.PhaseLaws.{sign-minus}
use Rattle.pauli.specs.Pauli.{Pauli, letter_at, sign_bit}
use Rattle.pauli.specs.declared.Letter.{Letter}
use Rattle.pauli.specs.declared.Letter.TheVariants.{I, X, Y, Z}
use Rattle.text.specs.Text.{newline}
use Rattle.words.proofs.Flags.{both_true, either, never_true}
use Rattle.words.proofs.SearchLaws.{every-at, every_in}
use Rattle.words.proofs.Sums.{last_or}
use Rattle.words.specs.Search.{every}
use Rattle.text.specs.Reading.{is_letter, is_sign, letter_of, line_fits, row_of}
use Rattle.text.specs.Strings.{letter_byte, sign_byte, string_line}

-- ---- bytes
pub sign_fits : (b : Bool) → is_sign (sign_byte b) ≡ true
sign_fits false = refl
sign_fits true = refl

pub sign_read : (b : Bool) → eqb (sign_byte b) 45 ≡ b
sign_read false = refl
sign_read true = refl

pub letter-fits : (l : Letter) → is_letter (letter_byte l) ≡ true
letter-fits I = refl
letter-fits X = refl
letter-fits Y = refl
letter-fits Z = refl

pub letter-read : (l : Letter) → letter_of (letter_byte l) ≡ l
letter-read I = refl
letter-read X = refl
letter-read Y = refl
letter-read Z = refl

-- a byte that passes is the one that is written for what it says
sign-written : (b : ℕ) → is_sign b ≡ true → sign_byte (eqb b 45) ≡ b
sign-written b h = elim (either (eqb b 43) (eqb b 45) h) [
  | inl e ↦ subst (λ v. sign_byte (eqb v 45) ≡ v) (sym (eqb-true b 43 e)) refl
  | inr e ↦ subst (λ v. sign_byte (eqb v 45) ≡ v) (sym (eqb-true b 45 e)) refl
]

letter-written : (b : ℕ) → is_letter b ≡ true → letter_byte (letter_of b) ≡ b
letter-written b h = elim (either (eqb b 73 || eqb b 88) (eqb b 89 || eqb b 90) h) [
  | inl e ↦ elim (either (eqb b 73) (eqb b 88) e) [
    | inl d ↦ subst (λ v. letter_byte (letter_of v) ≡ v) (sym (eqb-true b 73 d)) refl
    | inr d ↦ subst (λ v. letter_byte (letter_of v) ≡ v) (sym (eqb-true b 88 d)) refl
  ]
  | inr e ↦ elim (either (eqb b 89) (eqb b 90) e) [
    | inl d ↦ subst (λ v. letter_byte (letter_of v) ≡ v) (sym (eqb-true b 89 d)) refl
    | inr d ↦ subst (λ v. letter_byte (letter_of v) ≡ v) (sym (eqb-true b 90 d)) refl
  ]
]

-- a letter ends no line
pub letter-no-newline : (b : ℕ) → is_letter b ≡ true → eqb b 10 ≡ false
letter-no-newline b h =
    never_true (eqb b 10) (λ e. false≢true (sym (ap is_letter (eqb-true b 10 e)) ∙ h))

-- ---- the bytes of a line by column
module _ (n : ℕ) (p : Pauli) where
  abbrev letters : List ℕ
  letters = tabulate n (λ q. letter_byte (letter_at p q))

  pub length-line : length (string_line n p) ≡ n + 2
  unfolding string_line
  length-line =
      ap suc (length-append letters newline) ∙ omega (arith, tabulate-length n (λ q. letter_byte (letter_at p q)))

  pub line-sign : get_or (string_line n p) 0 0 ≡ sign_byte (sign_bit p.phase)
  unfolding string_line
  line-sign = refl

  pub line-letter : (q : ℕ) → q < n → get_or (string_line n p) (suc q) 0 ≡ letter_byte (letter_at p q)
  unfolding string_line
  line-letter q l =
      get_or-append letters newline 0 q
      (subst (λ k. q < k) (sym (tabulate-length n (λ q. letter_byte (letter_at p q)))) l)
      ∙ tabulate-at n (λ q. letter_byte (letter_at p q)) q l

  pub line-end : get_or (string_line n p) (suc n) 0 ≡ 10
  unfolding string_line
  line-end = get_or_at letters 10 _ 0 n (tabulate-length n (λ q. letter_byte (letter_at p q)))

-- ---- lines of other rows
-- equal signs and letters give equal lines
pub same_line : (n : ℕ) (p r : Pauli) → sign_bit p.phase ≡ sign_bit r.phase →
    ((q : ℕ) → q < n → letter_at p q ≡ letter_at r q) → string_line n p ≡ string_line n r
unfolding string_line
same_line n p r s h = simp (s, tabulate-cong n _ _ (λ q l. ap letter_byte (h q l)))

-- ---- columns that make a line
module _ (n : ℕ) (byte : ℕ → ℕ) where
  pub line-fits : (p : Pauli) → byte 0 ≡ sign_byte (sign_bit p.phase) →
      ((q : ℕ) → q < n → byte (suc q) ≡ letter_byte (letter_at p q)) → byte (suc n) ≡ 10 → line_fits n byte ≡ true
  unfolding line_fits
  line-fits p s h e =
      ap₂ ◌&&◌ (ap is_sign s ∙ sign_fits (sign_bit p.phase))
      (ap₂ ◌&&◌ (every_in n _ (λ q l. ap is_letter (h q l) ∙ letter-fits (letter_at p q))) (ap (λ b. eqb b 10) e))

  -- the row that they stand for has these columns
  module _ (h : line_fits n byte ≡ true) where
    pub line-parts : (is_sign (byte 0) ≡ true) × (every n (λ q. is_letter (byte (suc q))) ≡ true) ×
        (eqb (byte (suc n)) 10 ≡ true)
    unfolding line_fits
    line-parts =
        let a = both_true (is_sign (byte 0)) _ h in
        let b = both_true (every n (λ q. is_letter (byte (suc q)))) _ a.1 in
        (a.0, b.0, b.1)

    pub line-back : (c : ℕ) → c < n + 2 → get_or (string_line n (row_of byte)) c 0 ≡ byte c
    line-back zero l =
        line-sign n (row_of byte) ∙ ap sign_byte (sign-minus (eqb (byte 0) 45)) ∙ sign-written (byte 0) line-parts.0
    line-back (suc q) l = elim (last_or {i = q} {n = n} (omega arith)) [
      | inl e ↦ ap (λ k. get_or (string_line n (row_of byte)) (suc k) 0) e ∙ line-end n (row_of byte)
          ∙ sym (eqb-true (byte (suc n)) 10 line-parts.2) ∙ ap (λ k. byte (suc k)) (sym e)
      | inr k ↦ line-letter n (row_of byte) q k ∙ ap letter_byte (letter-bits (letter_of (byte (suc q))))
          ∙ letter-written (byte (suc q)) (every-at n (λ q. is_letter (byte (suc q))) line-parts.1 q k)
    ]
