-- Loops that print: the letters of a row one by one, a line, and the lines of a list.
use mathlib.Core.Bool.{Bool}
use mathlib.Core.List.{◌++◌, List, [], ◌∷◌, append-nil}
use mathlib.Core.Path.{ap, ap₂, refl, subst, sym, ◌∙◌, ◌≡◌}
use Prim.Native.Nat.{◌*◌, ◌+◌, ◌<◌, zero-le, ℕ, ◌≤◌}
use native.Mathlib.Nat.{le_antisymm}
use native.Mathlib.Numerals.{add-one}
use native.Mathlib.Omega.{arith}
use lib.ListN.{drop_of_length-le, drop, length, length-set, set, take}
use lib.Seq.{take_all}
use Rattle.buffers.proofs.Tabulate.{tabulate-at, tabulate-length}
use Rattle.buffers.specs.Buffers.{tabulate}
use Rattle.pauli.proofs.PhaseLaws.{sign-minus}
use Rattle.pauli.specs.Pauli.{Pauli, letter, signed_row}
use Rattle.text.proofs.TextLaws.{length-lines}
use Rattle.text.specs.Strings.{letter_byte, sign_byte, string_line, string_lines, strings_text, text_size}
use Rattle.buffers.proofs.Writing.{and_then, same-print, write-none, write-taken}
use Rattle.text.specs.Text.{newline}
use Rattle.buffers.specs.Writing.{Printed, overwritten}
use Rattle.words.specs.Bits.{bit}
use Rattle.text.proofs.SizeLaws.{line-inside}

-- ---- a table printed place by place
pub record TablePut (n : ℕ) (f : ℕ → ℕ) (at : ℕ) (out₀ out : List ℕ) (q : ℕ) : Type 0 where
  pub upto : q ≤ n
  pub printed : out ≡ overwritten out₀ at (take q (tabulate n f))
  pub long : length out ≡ length out₀

module _ (n : ℕ) (f : ℕ → ℕ) (at : ℕ) (out₀ : List ℕ) (room : at + n ≤ length out₀) where
  pub none-put : TablePut n f at out₀ out₀ 0
  none-put = record { upto = zero-le; printed = write-none out₀ at; long = refl }

  fits : at + length (tabulate n f) ≤ length out₀
  fits = subst (λ k. at + k ≤ length out₀) (sym (tabulate-length n f)) room

  pub one-put : {out : List ℕ} {q : ℕ} → TablePut n f at out₀ out q → q < n → {b : ℕ} → b ≡ f q →
      TablePut n f at out₀ (set out (at + q) b) (q + 1)
  one-put {out} {q} T l {b} e =
      record {
        upto = omega arith;
        printed = ap₂ (λ o v. set o (at + q) v) T.printed (e ∙ sym (tabulate-at n f q l))
            ∙ write-taken out₀ at (tabulate n f) q fits (subst (λ k. q < k) (sym (tabulate-length n f)) l);
        long = length-set out (at + q) b ∙ T.long;
      }

  pub all-put : {out : List ℕ} {q : ℕ} → TablePut n f at out₀ out q → n ≤ q →
      Printed (tabulate n f) at out₀ out (at + n)
  all-put {out} {q} T l =
      record {
        end = ap (λ k. at + k) (sym (tabulate-length n f));
        out = T.printed ∙ ap (overwritten out₀ at)
            (take_all q (tabulate n f) (subst (λ k. k ≤ q) (sym (tabulate-length n f)) l));
      }

-- ---- a line: its sign, its letters, its newline
pub line-put : (n : ℕ) (m : Bool) (z x at : ℕ) (out₀ : List ℕ) {b : ℕ} {out out' out'' : List ℕ} {r r' r'' : ℕ} →
    at + (n + 2) ≤ length out₀ → b ≡ sign_byte m → Printed (b ∷ []) at out₀ out r →
    Printed (tabulate n (λ q. letter_byte (letter (bit z q) (bit x q)))) r out out' r' →
    Printed newline r' out' out'' r'' → Printed (string_line n (signed_row m z x)) at out₀ out'' r''
unfolding string_line
line-put n m z x at out₀ room e S L N =
    let letters = tabulate n (λ q. letter_byte (letter (bit z q) (bit x q))) in
    let long = tabulate-length n (λ q. letter_byte (letter (bit z q) (bit x q))) in
    same-print (ap (λ v. v ∷ (letters ++ newline)) (e ∙ ap sign_byte (sym (sign-minus m))))
    (and_then (omega (arith, long, room)) (and_then (omega (arith, room)) S L) N)

-- ---- the lines of a list
pub record LinesPut (n : ℕ) (R : ℕ → Pauli) (out₀ out : List ℕ) (at j : ℕ) : Type 0 where
  pub upto : j ≤ n
  pub printed : Printed (string_lines n j R) 0 out₀ out at
  pub long : length out ≡ length out₀

module _ (n : ℕ) (R : ℕ → Pauli) (out₀ : List ℕ) (size : length out₀ ≡ text_size n) where
  pub no_lines : LinesPut n R out₀ out₀ 0 0
  unfolding string_lines
  no_lines = record { upto = zero-le; printed = record { end = refl; out = write-none out₀ 0 }; long = refl }

  module _ (out : List ℕ) (at j : ℕ) (L : LinesPut n R out₀ out at j) (l : j < n) where
    pub line-room : at + (n + 2) ≤ length out
    line-room =
        let inside = line-inside out₀ n j size l in
        omega (arith, L.printed.end, L.long, length-lines n j R, inside)

    pub one_line : {out' : List ℕ} {r : ℕ} → Printed (string_line n (R j)) at out out' r → length out' ≡ length out →
        LinesPut n R out₀ out' r (j + 1)
    unfolding string_lines
    one_line {out'} {r} P k =
        record {
          upto = omega arith;
          printed = subst (λ i. Printed (string_lines n i R) 0 out₀ out' r) (sym (add-one j))
              (and_then (omega (arith, length-lines n j R, line-inside out₀ n j size l)) L.printed P);
          long = k ∙ L.long;
        }

  pub all_lines : {out : List ℕ} {at j : ℕ} → LinesPut n R out₀ out at j → n ≤ j → out ≡ strings_text n R
  unfolding overwritten
  all_lines {out} {at} {j} L l =
      let all : j ≡ n = le_antisymm L.upto l in
      let past : drop (0 + length (string_lines n j R)) out₀ ≡ [] =
      drop_of_length-le out₀ {i = 0 + length (string_lines n j R)}
      (omega (arith, size, length-lines n j R, ap (λ k. k * (n + 2)) all)) in
      L.printed.out ∙ ap (λ d. string_lines n j R ++ d) past ∙ append-nil (string_lines n j R)
      ∙ ap (λ k. string_lines n k R) all
