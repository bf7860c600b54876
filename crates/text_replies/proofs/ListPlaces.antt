-- A list of n in buffers of 64 places: it stands in the first m, where m is n or 64.
use mathlib.Core.List.{List}
use mathlib.Core.Path.{ap, ◌≡◌}
use Prim.Native.Nat.{min, ℕ, ◌≤◌}
use native.Mathlib.Omega.{arith}
use lib.ListN.{length, take}
use Rattle.buffers.proofs.Parts.{part-long}
use Rattle.calls.specs.ListAnswers.{list_answer}
use Rattle.text_replies.specs.internal.Places.{Lent, list_at}
use Rattle.text_replies.specs.Places.{longest_record}

module _ (n m : ℕ) (e : m ≡ min n 64) where
  pub places-long : (buffer : List ℕ) → length buffer ≡ 64 → length (take m buffer) ≡ m
  places-long buffer l = part-long m buffer (omega (arith, e)) l

  pub lent-places : (nb cs out : List ℕ) → length nb ≡ 64 → length cs ≡ 64 → longest_record ≤ length out →
      Lent n (take m nb) (take m cs) out
  lent-places nb cs out a b room =
      record {
        words-fit = λ h. omega (arith, h, e, places-long nb a);
        codes-fit = λ h. omega (arith, h, e, places-long cs b);
        room = room;
      }

  pub places-printed : (signs z x : List ℕ) →
      list_answer (record { n = n; signs = take m signs; z = take m z; x = take m x }) ≡ list_answer
      (list_at n signs z x)
  places-printed signs z x =
      ap (λ k. list_answer (record { n = n; signs = take k signs; z = take k z; x = take k x })) e
