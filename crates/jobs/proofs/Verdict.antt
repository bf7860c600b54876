-- The scan of a text, fed in blocks of any size: it says whether the text has the form, and then n and the steps of
-- its job are kept.
use mathlib.Core.Path.{◌≡◌, refl, sym, ap, ◌∙◌, subst}
use mathlib.Core.Bool.{Bool, true, false, ◌&&◌, cond, false≢true}
use mathlib.Core.List.{List, [], ◌∷◌, ◌++◌, flatten, append-nil}
use Prim.Native.Nat.{ℕ, ◌<◌}
use lib.Dec.{ltb, lit<}
use lib.ListN.{length, take, replicate, length-replicate}
use borrow.Author.Tests.{eqb-true}
use Rattle.jobs.specs.declared.Op.{Op}
use Rattle.jobs.specs.declared.Step.{Step}
use Rattle.text.proofs.Feeding.{blocks-fed, fed-keeps}
use Rattle.text.specs.internal.Feeding.{fed_blocks}
use Rattle.text.specs.Text.{space}
use Rattle.jobs.specs.Text.{EachStepFits, in_texts, op_word, job_text, HasJobForm}
use Rattle.jobs.specs.internal.Scan.{as_reading, at_line, begin, fed, feed, feed_next, Reading, scan_byte, stored}
use Rattle.jobs.specs.internal.Scan.{StepsKept, Judged, no_step, empty}
use Rattle.jobs.specs.declared.scan.Place.{Place}
use Rattle.jobs.specs.declared.scan.Place.TheVariants.{Head, Word, First, More, Broken}
use Rattle.jobs.specs.declared.scan.Scan.{Scan}
use Rattle.jobs.proofs.ScanJob.{text-read}
use Rattle.jobs.proofs.ScanSound.{stays-in-texts, step-sound}
use Rattle.jobs.proofs.Sofar.{AtWord, Sofar}

-- the array does not change the scan
scan-next : (w : Reading) (next : Scan) → (feed_next w next).scan ≡ next
scan-next w next = go (ltb w.scan.count next.count && ltb w.scan.count 4096)
  where
    go : (t : Bool) → (cond t (stored w next) (as_reading next w.steps)).scan ≡ next
    go true = refl
    go false = refl

-- what is known of the text, and that the operation held is one of texts
abbrev Known : Scan → List ℕ → Type 0
Known s t = Sofar s.place s t × (in_texts s.op ≡ true)

byte-sound : (w : Reading) (t : List ℕ) (b : ℕ) → Known w.scan t → Known (feed w b).scan (t ++ b ∷ [])
unfolding feed scan_byte
byte-sound w t b known =
    subst (λ s. Known s (t ++ b ∷ [])) (sym (scan-next w (scan_byte w.scan b))) (
      step-sound w.scan t b known.1 w.scan.place refl known.0,
      stays-in-texts w.scan.place w.scan b known.1,
    )

fed-sound : (u t : List ℕ) (w : Reading) → Known w.scan t → Known (fed w u).scan (t ++ u)
fed-sound = fed-keeps feed (λ w t. Known w.scan t) byte-sound

-- at the start of a line
line-sound : (k n : ℕ) (op : Op) (t : List ℕ) → AtWord k n op t → k ≡ 0 → HasJobForm t
line-sound k n op t sofar e =
    let u = sofar.upto in
    let none = ap (λ m. take m (op_word op ++ space)) e in (
      n,
      u.steps,
      record {
        few = u.few;
        fit = u.fit;
        text = u.text ∙ ap (λ l. job_text n u.steps ++ l) none ∙ append-nil (job_text n u.steps);
      },
    )

ends-sound : (p : Place) (s : Scan) (t : List ℕ) → Sofar p s t → at_line p ≡ true → HasJobForm t
ends-sound (Head k) s t sofar e = absurd (false≢true e)
ends-sound (Word k) s t sofar e = line-sound k s.n s.op t sofar (eqb-true k 0 e)
ends-sound (First f) s t sofar e = absurd (false≢true e)
ends-sound (More f) s t sofar e = absurd (false≢true e)
ends-sound Broken s t sofar e = absurd (false≢true e)

module _ (S : List Step) (whole : length S ≡ 4096) where
  pub text-judged : (t : List ℕ) → Judged t (fed (as_reading begin S) t)
  unfolding begin
  text-judged t =
      let w = fed (as_reading begin S) t in
      record {
        form = (
          ends-sound w.scan.place w.scan t
              (fed-sound t [] (as_reading begin S) (record { inside = lit< tt; few = lit< tt; text = refl }, refl)).0,
          λ has. ap at_line (text-read S whole has.0 has.1 t has.2).place,
        );
        job = λ n steps text. (text-read S whole n steps t text).kept;
      }

  -- the text in blocks of any size, as `scan_block` is fed with them
  pub blocks-judged : (blocks : List (List ℕ)) → Judged (flatten blocks) (fed_blocks feed (as_reading begin S) blocks)
  blocks-judged blocks =
      subst (Judged (flatten blocks)) (sym (blocks-fed feed (as_reading begin S) blocks)) (text-judged (flatten blocks))

  -- a written job reads back as its n and its steps
  pub read_back : (n : ℕ) (steps : List Step) → n < 1000 → EachStepFits steps
      → StepsKept n steps (fed (as_reading begin S) (job_text n steps))
  read_back n steps few fit =
      (text-judged (job_text n steps)).job n steps (record { few = few; fit = fit; text = refl })

-- the text, from an array of no steps
pub empty-judged : (t : List ℕ) → Judged t (fed empty t)
unfolding empty
empty-judged t = text-judged (replicate 4096 no_step) (length-replicate 4096 no_step) t
