-- Demand 1 of every public call, from the families; what a buffer lent only for the answer holds makes no line true.
use mathlib.Core.Path.{subst, sym, ◌≡◌}
use native.Mathlib.Decide.{ℕ_discrete}
use Rattle.buffers.proofs.Calling.{done, every-call-answers, refused}
use Rattle.buffers.proofs.Fitting.{first-is}
use Rattle.buffers.specs.Calls.{Call}
use Rattle.claims.proofs.families.Amplitudes.{amplitudes-conform}
use Rattle.claims.proofs.families.Comparisons.{comparison-buffers-unread, comparisons-conform}
use Rattle.claims.proofs.families.Expectations.{expectations-conform}
use Rattle.claims.proofs.families.Generator.{generation-buffers-unread, generations-conform}
use Rattle.claims.proofs.families.Parties.{parties-conform}
use Rattle.claims.proofs.families.Lists.{list-buffers-unread, lists-conform}
use Rattle.claims.proofs.families.Orbits.{orbit-buffers-unread, orbits-conform}
use Rattle.claims.proofs.families.Records.{record-buffers-unread, records-conform}
use Rattle.claims.proofs.families.Stores.{store-buffers-unread, stores-conform}
use Rattle.claims.specs.Conforming.{AnswersSayAll}
use Rattle.claims.specs.FirstDemand.{AnswerBuffersUnread, FirstDemand}

pub first-demand : FirstDemand
first-demand =
    record {
      every = every-call-answers;
      lists = lists-conform;
      records = records-conform;
      comparisons = comparisons-conform;
      generator = generations-conform;
      orbits = orbits-conform;
      amplitudes = amplitudes-conform;
      expectations = expectations-conform;
      stores = stores-conform;
      parties = parties-conform;
    }

pub answer-buffers-unread : AnswerBuffersUnread
answer-buffers-unread =
    record {
      lists = list-buffers-unread;
      records = record-buffers-unread;
      comparisons = comparison-buffers-unread;
      generator = generation-buffers-unread;
      orbits = orbit-buffers-unread;
      stores = store-buffers-unread;
    }

-- and back: what a call answers is its contract
pub answers-say-all : AnswersSayAll
answers-say-all c r A = go (ℕ_discrete r 0)
  where
    go : Dec (r ≡ 0) → Call c r
    go (yes z) = subst (Call c) (sym z) (done c (first-is A.first) z (A.accepted z))
    go (no h) = refused c (first-is A.first) h (A.refused h)
