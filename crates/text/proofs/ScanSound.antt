-- At each place the text so far is a list's text and the part of a line that the scan holds; so a scan that
-- ends at the start of a line has read a text that has the form.
use mathlib.Core.Path.{◌≡◌, refl, sym, ap, ap₂, ◌∙◌, subst}
use mathlib.Core.Bool.{◌&&◌, and-eq-true_iff, cond}
use mathlib.Core.List.{List, [], ◌∷◌, ◌++◌, append_assoc, append-nil}
use Prim.Native.Nat.{ℕ, ◌+◌, ◌-◌, ◌*◌, ◌^◌, ◌≤◌, ◌<◌}
use native.Mathlib.Nat.{lt_of_lt_of_le}
use native.Mathlib.Numerals.{add-one}
use native.Mathlib.Omega.{arith}
use lib.Dec.{eqb, ltb}
use lib.ListN.{get_or, take}
use lib.Pow.{pow_mono, pow-add}
use lib.Seq.{take-suc}
use borrow.Author.Tests.{ltb-true, ltb-false, eqb-true, eqb-false}
use Rattle.words.proofs.Flags.{by-test}
use Rattle.text.specs.Text.{hex_text, space, ListLine, Fits, AllFit, line_text, lines_text, list_names, list_text}
use Rattle.text.specs.Text.{HasForm, hex_value}
use Rattle.text.specs.internal.Scan.{push, moved, names_step, sign_step, z_step, x_step, step_at, one_more}
use Rattle.text.specs.declared.scan.Scan.{Scan}
use Rattle.text.specs.declared.scan.Place.{Place}
use Rattle.text.specs.declared.scan.Place.TheVariants.{Names, Sign, Space, Z, X, Broken}
use Rattle.text.proofs.HexLaws.{hex-push}
use Rattle.text.proofs.DigitLaws.{digit_value, push-exact}
use Rattle.text.proofs.FormLaws.{list-more, fit-more}
use Rattle.text.proofs.ScanLine.{scan_at}

-- the text t is that of a list, with part behind it
pub record Upto (t part : List ℕ) : Type 0 where
  pub lines : List ListLine
  pub fit : AllFit lines
  pub text : t ≡ list_text lines ++ part

abbrev sign_part : Scan → List ℕ
sign_part s = (48 + s.sign) ∷ []

abbrev z_part : ℕ → Scan → List ℕ
z_part k s = sign_part s ++ space ++ hex_text k s.z

abbrev x_part : ℕ → Scan → List ℕ
x_part k s = z_part 16 s ++ space ++ hex_text k s.x

-- what is known of the text t where the scan s is at a place
pub record AtSpace (s : Scan) (t : List ℕ) : Type 0 where
  pub upto : Upto t (sign_part s)
  pub digit : s.sign < 10
  pub fresh : (s.z ≡ 0) × (s.x ≡ 0)

pub record AtZ (k : ℕ) (s : Scan) (t : List ℕ) : Type 0 where
  pub upto : Upto t (z_part k s)
  pub digit : s.sign < 10
  pub inside : k ≤ 16
  pub small : s.z < 2 ^ (4 * k)
  pub fresh : s.x ≡ 0

pub record AtX (k : ℕ) (s : Scan) (t : List ℕ) : Type 0 where
  pub upto : Upto t (x_part k s)
  pub digit : s.sign < 10
  pub inside : k ≤ 16
  pub z-small : s.z < 2 ^ 64
  pub small : s.x < 2 ^ (4 * k)

abbrev pub Sofar : Place → Scan → List ℕ → Type 0
Sofar (Names k) s t = (k < 9) × (t ≡ take k list_names)
Sofar Sign s t = HasForm t
Sofar Space s t = AtSpace s t
Sofar (Z k) s t = AtZ k s t
Sofar (X k) s t = AtX k s t
Sofar Broken s t = Unit

-- one more byte in the part
upto-more : {t part : List ℕ} (b : ℕ) (part' : List ℕ) → part ++ b ∷ [] ≡ part' → Upto t part
    → Upto (t ++ b ∷ []) part'
upto-more {t} {part} b part' e u = record {
  lines = u.lines;
  fit = u.fit;
  text =
      ap (λ l. l ++ b ∷ []) u.text ∙ append_assoc (list_text u.lines) part (b ∷ [])
      ∙ ap (λ l. list_text u.lines ++ l) e;
}

-- one more digit of a word
below-60 : (k v : ℕ) → k < 16 → v < 2 ^ (4 * k) → v < 2 ^ 60
below-60 k v inside small = lt_of_lt_of_le small (pow_mono {i = 4 * k} {j = 60} (omega arith))

push-below : (k v d : ℕ) → k < 16 → v < 2 ^ (4 * k) → d < 16 → push v d < 2 ^ (4 * (k + 1))
push-below k v d inside small one =
    let four : 4 * (k + 1) ≡ 4 * k + 4 = omega arith in
    let more : 2 ^ (4 * (k + 1)) ≡ 2 ^ (4 * k) * 16 = ap (λ e. 2 ^ e) four ∙ pow-add 2 (4 * k) 4 in
    omega (arith, push-exact v d (below-60 k v inside small))

push-digits : (k v b : ℕ) → k < 16 → v < 2 ^ (4 * k) → hex_value b < 16
    → hex_text k v ++ b ∷ [] ≡ hex_text (k + 1) (push v (hex_value b))
push-digits k v b inside small one =
    ap (λ c. hex_text k v ++ c ∷ []) (sym (digit_value b one)) ∙ sym (hex-push k v (hex_value b) one)
    ∙ sym (ap₂ hex_text (add-one k) (push-exact v (hex_value b) (below-60 k v inside small)))

module _ (s : Scan) (t : List ℕ) (b : ℕ) where
  abbrev After : Scan → Type 0
  After r = Sofar r.place r (t ++ b ∷ [])

  names-sound : (k : ℕ) → Sofar (Names k) s t → After (moved s (names_step k b))
  unfolding names_step list_text lines_text
  names-sound k sofar =
      let fits-names = ltb k 9 && eqb b (get_or list_names k 0) in
      by-test (λ p. After (moved s p)) fits-names (cond (eqb k 8) Sign (Names (k + 1))) Broken
      (λ fits.
      let both = (and-eq-true_iff (ltb k 9) (eqb b (get_or list_names k 0))).0 fits in
      let inside = ltb-true k 9 both.0 in
      let next : t ++ b ∷ [] ≡ take (k + 1) list_names =
      ap₂ (λ l c. l ++ c ∷ []) sofar.1 (eqb-true b (get_or list_names k 0) both.1)
      ∙ sym (ap (λ n. take n list_names) (add-one k) ∙ take-suc list_names k 0 inside)
      in
      by-test (λ p. After (moved s p)) (eqb k 8) Sign (Names (k + 1))
      (λ last.
      let all : t ++ b ∷ [] ≡ list_names = next ∙ ap (λ n. take (n + 1) list_names) (eqb-true k 8 last) in
      ([], record { fit = tt; text = all }))
      (λ more. (omega (arith, eqb-false k 8 more), next)))
      (λ _. tt)

  sign-sound : Sofar Sign s t → After (sign_step s b)
  unfolding sign_step
  sign-sound sofar =
      let read = scan_at s.count Space (b - 48) 0 0 in
      by-test After (ltb b 48) (moved s Broken) (cond (ltb b 58) read (moved s Broken))
      (λ _. tt)
      (λ above. by-test After (ltb b 58) read (moved s Broken)
      (λ below.
      let h₀ = ltb-false b 48 above in
      let h₁ = ltb-true b 58 below in
      let byte : b ≡ 48 + (b - 48) = omega arith in
      record {
        upto = record {
          lines = sofar.0;
          fit = sofar.1.fit;
          text = ap₂ (λ l c. l ++ c ∷ []) sofar.1.text byte;
        };
        digit = omega arith;
        fresh = (refl, refl);
      })
      (λ _. tt))

  space-sound : Sofar Space s t → After (moved s (cond (eqb b 32) (Z 0) Broken))
  unfolding hex_text
  space-sound sofar =
      by-test (λ p. After (moved s p)) (eqb b 32) (Z 0) Broken
      (λ fits. record {
        upto = upto-more b (z_part 0 s) (ap (λ c. sign_part s ++ c ∷ []) (eqb-true b 32 fits)) sofar.upto;
        digit = sofar.digit;
        inside = omega arith;
        small = omega (arith, sofar.fresh.0);
        fresh = sofar.fresh.1;
      })
      (λ _. tt)

  z-sound : (k : ℕ) → Sofar (Z k) s t → After (z_step k s b)
  unfolding z_step hex_text
  z-sound k sofar =
      let v = hex_value b in
      let read = scan_at s.count (Z (k + 1)) s.sign (push s.z v) s.x in
      by-test After (ltb k 16) (cond (ltb v 16) read (moved s Broken))
      (moved s (cond (eqb b 32) (X 0) Broken))
      (λ t₀. by-test After (ltb v 16) read (moved s Broken)
      (λ t₁.
      let more = ltb-true k 16 t₀ in
      let one = ltb-true v 16 t₁ in
      record {
        upto = upto-more b (z_part (k + 1) read)
            (append_assoc (sign_part s ++ space) (hex_text k s.z) (b ∷ [])
            ∙ ap (λ l. sign_part s ++ space ++ l) (push-digits k s.z b more sofar.small one))
            sofar.upto;
        digit = sofar.digit;
        inside = omega arith;
        small = push-below k s.z v more sofar.small one;
        fresh = sofar.fresh;
      })
      (λ _. tt))
      (λ t₀. by-test (λ p. After (moved s p)) (eqb b 32) (X 0) Broken
      (λ fits.
      let all : k ≡ 16 = omega (arith, ltb-false k 16 t₀, sofar.inside) in
      record {
        upto = upto-more b (x_part 0 s)
            (ap₂ (λ n c. z_part n s ++ c ∷ []) all (eqb-true b 32 fits)
            ∙ sym (append-nil (z_part 16 s ++ space))) sofar.upto;
        digit = sofar.digit;
        inside = omega arith;
        z-small = subst (λ n. s.z < 2 ^ (4 * n)) all sofar.small;
        small = omega (arith, sofar.fresh);
      })
      (λ _. tt))

  x-sound : (k : ℕ) → Sofar (X k) s t → After (x_step k s b)
  unfolding x_step line_text
  x-sound k sofar =
      let v = hex_value b in
      let read = scan_at s.count (X (k + 1)) s.sign s.z (push s.x v) in
      let ended = scan_at (one_more s.count) Sign s.sign s.z s.x in
      by-test After (ltb k 16) (cond (ltb v 16) read (moved s Broken))
      (cond (eqb b 10) ended (moved s Broken))
      (λ t₀. by-test After (ltb v 16) read (moved s Broken)
      (λ t₁.
      let more = ltb-true k 16 t₀ in
      let one = ltb-true v 16 t₁ in
      record {
        upto = upto-more b (x_part (k + 1) read)
            (append_assoc (z_part 16 s ++ space) (hex_text k s.x) (b ∷ [])
            ∙ ap (λ l. z_part 16 s ++ space ++ l) (push-digits k s.x b more sofar.small one))
            sofar.upto;
        digit = sofar.digit;
        inside = omega arith;
        z-small = sofar.z-small;
        small = push-below k s.x v more sofar.small one;
      })
      (λ _. tt))
      (λ t₀. by-test After (eqb b 10) ended (moved s Broken)
      (λ fits.
      let all : k ≡ 16 = omega (arith, ltb-false k 16 t₀, sofar.inside) in
      let l : ListLine = record { sign = s.sign; z = s.z; x = s.x } in
      let fit : Fits l = record {
        sign = sofar.digit;
        z = sofar.z-small;
        x = subst (λ n. s.x < 2 ^ (4 * n)) all sofar.small;
      } in
      let ends : x_part k s ++ b ∷ [] ≡ line_text l =
      ap₂ (λ n c. x_part n s ++ c ∷ []) all (eqb-true b 10 fits) in
      let line = upto-more b (line_text l) ends sofar.upto in (
        line.lines ++ l ∷ [],
        record {
          fit = fit-more line.lines l line.fit fit;
          text = line.text ∙ sym (list-more line.lines l);
        },
      ))
      (λ _. tt))

  -- one more byte
  pub step-sound : (p : Place) → s.place ≡ p → Sofar p s t → After (step_at p s b)
  step-sound (Names k) e sofar = names-sound k sofar
  step-sound Sign e sofar = sign-sound sofar
  step-sound Space e sofar = space-sound sofar
  step-sound (Z k) e sofar = z-sound k sofar
  step-sound (X k) e sofar = x-sound k sofar
  step-sound Broken e sofar = subst (λ p. Sofar p s (t ++ b ∷ [])) (sym e) tt
