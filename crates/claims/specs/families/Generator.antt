-- The generator of jobs: demand 1, and which arguments it accepts.
use Rattle.std.specs.Prelude.{List, ◌↔◌, ◌≢◌, ◌≡◌, ℕ, ◌≤◌, length}
use Rattle.buffers.specs.Refusals.{first_fitting}
use Rattle.calls.specs.Generation.{generate_call}
use Rattle.buffers.specs.Calls.{Call}
use Rattle.jobs.specs.GeneratedLines.{generate_lines}
use Rattle.claims.specs.Conforming.{Conforms}

-- demand 1 of each call: its lines stand in the published order, and its answers fill their buffers
pub record GenerationsConform : Type 0 where
  pub generations : (n count seed : ℕ) (text : List ℕ) (size : ℕ) (text' : List ℕ) (size' : ℕ) →
      Conforms (generate_call n count seed text size text' size')

-- what a buffer lent only for the answer holds makes no line true
pub record GenerationBuffersUnread : Type 0 where
  pub generations : (n count seed : ℕ) (text text₂ : List ℕ) → length text ≡ length text₂ →
      first_fitting (generate_lines n count seed text) ≡ first_fitting (generate_lines n count seed text₂)

-- at most 4,096 steps, 1 to 64 qubits, a buffer that every job fits, and a seed
pub record GenerateFits (n count seed : ℕ) (text : List ℕ) : Type 0 where
  pub few : count ≤ 4096
  pub positive : 1 ≤ n
  pub upto : n ≤ 64
  pub places : length text ≡ 61463
  pub seeded : seed ≢ 0

-- of each call: it is accepted exactly if its arguments fit
pub record GenerationsAccepted : Type 0 where
  pub generate : (n count seed : ℕ) (text : List ℕ) (size : ℕ) (text' : List ℕ) (size' r : ℕ) →
      Call (generate_call n count seed text size text' size') r → (r ≡ 0) ↔ GenerateFits n count seed text
