-- The generator: "The job text it writes must read back as the steps drawn"; the bytes "past the text keep their
-- values"
-- (02, §6). Said of an accepted call: the call's number is 0, and text', size' are what is held at exit.
use Rattle.std.specs.Prelude.{List, ◌≡◌, ℕ, ◌≤◌, drop, length, take}
use Rattle.buffers.specs.Calls.{Call}
use Rattle.calls.specs.Generation.{generate_call}
use Rattle.jobs.specs.Drawn.{drawn}
use Rattle.jobs.specs.ReadBack.{ReadsBack}
use Rattle.jobs.specs.Shapes.{AllDrawable}

-- what an accepted call of the generator writes
pub record JobGenerated (n count seed : ℕ) (text text' : List ℕ) (size' : ℕ) : Type 0 where
  -- one step for each draw, with unused fields 0 and no CZ on one qubit
  pub steps : length (drawn n count seed) ≡ count
  pub shapes : AllDrawable n (drawn n count seed)
  -- the text is the buffer's first size' bytes
  pub back : ReadsBack n (drawn n count seed) (take size' text')
  pub fits : size' ≤ 61463
  pub past : drop size' text' ≡ drop size' text

-- of every accepted call
abbrev pub GeneratorDemand : Type 0
GeneratorDemand = (n count seed : ℕ) (text : List ℕ) (size : ℕ) (text' : List ℕ) (size' : ℕ) →
    Call (generate_call n count seed text size text' size') 0 → JobGenerated n count seed text text' size'
