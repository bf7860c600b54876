-- A store that no line refuses, in words: what only the proofs name.
use Rattle.std.specs.Prelude.{false, true, ◌≡◌, ◌*◌, ◌<◌, ℕ, length}
use Rattle.buffers.specs.Refusals.{first_fitting}
use Rattle.operations.specs.Used.{used_lines}
use Rattle.store.specs.Places.{Store, is_held, named_twice, place_at}

-- its buffers have their lengths, no line refuses a held record, and no name is held twice
pub record Passing (k : ℕ) (st : Store) : Type 0 where
  pub heads-long : length st.heads ≡ 3 * k
  pub words_long : length st.neighbours ≡ 64 * k
  pub codes-long : length st.codes ≡ 64 * k
  pub records : (i : ℕ) → i < k → is_held st.heads i ≡ true →
      first_fitting (used_lines (place_at st i) false false false) ≡ 0
  pub once : named_twice k st.heads ≡ false
