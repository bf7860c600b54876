-- `named_twice` meets its contract: whether some place has the name of a place before it.
use Rattle.std.specs.Prelude.{Option, unwrap_or}
use Rattle.std.specs.Option.{IfSome, is_some}
use mathlib.Core.Bool.{◌&&◌, Bool, not}
use mathlib.Core.List.{List}
use mathlib.Core.Path.{◌∙◌, ◌≡◌, ap, ap₂, sym}
use Prim.Native.Nat.{◌<◌, ℕ}
use native.Mathlib.Omega.{arith}
use lib.Dec.{eqb}
use Rattle.store.specs.Places.{count_at, holds_name, is_held, name_at, place_of}
use Rattle.store_impl.proofs.FoundPlaces.{found-held}
use Rattle.words.proofs.Searching.{no-some, none_here, some-found}
use Rattle.store_impl.proofs.checks.named_twice.Goals as goal

-- the test at place i
twice-here : (heads : List ℕ) (i n name : ℕ) (before : Option ℕ) (found : Bool) → n ≡ count_at heads i
    → name ≡ name_at heads i → unwrap_or before i ≡ place_of i heads name → IfSome before (λ j. j < i)
    → found ≡ is_some before
    → (not (eqb n 0) && found) ≡ (is_held heads i && holds_name i heads (name_at heads i))
twice-here heads i n name before found en em e l f =
    ap₂ (λ n b. not (eqb n 0) && b) en (f ∙ found-held i heads name before e l ∙ ap (holds_name i heads) em)

pub returns-then-word_at-is_some : goal.returns-then-word_at-is_some
returns-then-word_at-is_some c =
    some-found _ _ c.loop-i.invariant _ (omega arith)
    (sym (twice-here c.args.heads.now _ _ _ _ _ c.word_at-in-loop-i.ensures c.word_at.ensures
    c.find-before.ensures.place c.find-before.ensures.within c.is_some.ensures) ∙ c.if-word_at-is_some.true)

pub loop-i-preserved : goal.loop-i-preserved
loop-i-preserved c =
    none_here _ _ c.loop-i.invariant
    (sym (twice-here c.args.heads.now _ _ _ _ _ c.word_at-in-loop-i.ensures c.word_at.ensures
    c.find-before.ensures.place c.find-before.ensures.within c.is_some.ensures) ∙ c.if-word_at-is_some.false)

pub returns : goal.returns
returns c = no-some _ _ c.loop-i.invariant _ (omega arith)
