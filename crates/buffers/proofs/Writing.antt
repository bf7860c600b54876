-- Writing into a buffer, piece by piece: a byte is a store, and two pieces written one behind the other are one.
use mathlib.Core.Path.{◌≡◌, sym, ap, ◌∙◌, subst}
use mathlib.Core.List.{List, [], ◌∷◌, ◌++◌, append_assoc, append-nil}
use Prim.Native.Nat.{ℕ, suc, ◌+◌, ◌≤◌, ◌<◌}
use native.Mathlib.Nat.{add-zero, add_assoc}
use native.Mathlib.Numerals.{add-one}
use native.Mathlib.Omega.{arith}
use lib.ListN.{length, get_or, take, drop, set, length-append, length-drop, take-append-drop}
use lib.Seq.{length-take-le, take_at, take-suc, drop-append-add, drop-drop, set_split, append_snoc}
use Rattle.buffers.specs.Writing.{Printed, overwritten}

pub write-none : (o : List ℕ) (at : ℕ) → o ≡ overwritten o at []
unfolding overwritten
write-none o at =
    sym (ap (λ k. take at o ++ [] ++ drop k o) (add-zero at)
    ∙ ap (λ r. r ++ drop at o) (append-nil (take at o))
    ∙ take-append-drop at o)

-- a store
pub write-one : (o : List ℕ) (at b : ℕ) → at < length o → set o at b ≡ overwritten o at (b ∷ [])
unfolding overwritten
write-one o at b inside =
    set_split o at b inside ∙ sym (append_snoc (take at o) b (drop (suc at) o))
    ∙ ap (λ k. take at o ++ b ∷ [] ++ drop k o) (sym (add-one at))

module _ (o : List ℕ) (at : ℕ) (a : List ℕ) (room : at + length a ≤ length o) where
  -- what stands before the end of the piece
  before : length (take at o ++ a) ≡ at + length a
  before = length-append (take at o) a ∙ ap (λ k. k + length a) (length-take-le at o (omega arith))

  pub length-written : length (overwritten o at a) ≡ length o
  unfolding overwritten
  length-written =
      length-append (take at o ++ a) (drop (at + length a) o)
      ∙ omega (arith, before, length-drop (at + length a) o)

  pub write-more : (b : List ℕ) → overwritten (overwritten o at a) (at + length a) b ≡ overwritten o at (a ++ b)
  unfolding overwritten
  write-more b =
      let n = at + length a in
      let p = take at o ++ a in
      let rest : drop (n + length b) (p ++ drop n o) ≡ drop (n + length b) o =
      ap (λ k. drop (k + length b) (p ++ drop n o)) (sym before) ∙ drop-append-add p (drop n o) (length b)
      ∙ drop-drop (length b) n o
      in
      ap (λ r. r ++ b ++ drop (n + length b) (p ++ drop n o)) (take_at p (drop n o) n before)
      ∙ ap (λ r. p ++ b ++ r) rest
      ∙ ap (λ r. r ++ drop (n + length b) o) (append_assoc (take at o) a b)
      ∙ ap (λ k. take at o ++ (a ++ b) ++ drop k o) (add_assoc at (length a) (length b)
      ∙ ap (λ k. at + k) (sym (length-append a b)))

-- one more byte behind a piece
pub write-next : (o : List ℕ) (at : ℕ) (a : List ℕ) (b : ℕ) → at + length a < length o
    → set (overwritten o at a) (at + length a) b ≡ overwritten o at (a ++ b ∷ [])
write-next o at a b inside =
    let room : at + length a ≤ length o = omega arith in
    write-one (overwritten o at a) (at + length a) b (omega (arith, length-written o at a room))
    ∙ write-more o at a room (b ∷ [])

-- a turn of the loop that copies a slice
pub write-taken : (o : List ℕ) (at : ℕ) (bytes : List ℕ) (i : ℕ) → at + length bytes ≤ length o
    → i < length bytes
    → set (overwritten o at (take i bytes)) (at + i) (get_or bytes i 0) ≡ overwritten o at (take (i + 1) bytes)
write-taken o at bytes i room inside =
    let sofar : length (take i bytes) ≡ i = length-take-le i bytes (omega arith) in
    ap (λ k. set (overwritten o at (take i bytes)) (at + k) (get_or bytes i 0)) (sym sofar)
    ∙ write-next o at (take i bytes) (get_or bytes i 0) (omega arith)
    ∙ ap (overwritten o at) (sym (ap (λ k. take k bytes) (add-one i) ∙ take-suc bytes i 0 inside))

-- one print behind another
pub and_then : {a b o o' o'' : List ℕ} {at r r' : ℕ} → at + length a ≤ length o
    → Printed a at o o' r → Printed b r o' o'' r' → Printed (a ++ b) at o o'' r'
and_then {a} {b} {o} {o'} {o''} {at} {r} {r'} room p q = record {
  end = q.end ∙ ap (λ k. k + length b) p.end ∙ add_assoc at (length a) (length b)
      ∙ ap (λ k. at + k) (sym (length-append a b));
  out =
      q.out ∙ ap (λ l. overwritten l r b) p.out ∙ ap (λ k. overwritten (overwritten o at a) k b) p.end
      ∙ write-more o at a room b;
}

-- equal bytes
pub same-print : {bytes bytes' before after : List ℕ} {at r : ℕ} → bytes ≡ bytes'
    → Printed bytes at before after r → Printed bytes' at before after r
same-print {before = before} {after = after} {at = at} {r = r} e P =
    subst (λ b. Printed b at before after r) e P
