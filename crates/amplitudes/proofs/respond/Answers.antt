-- `respond` meets its contract: prints the answer to the text of an input.
use mathlib.Core.Path.{ap, refl}
use Rattle.std.specs.Result.{result_ok}
use Rattle.claims.proofs.PlotDemandHolds.{plot-texts-answered}
use Rattle.amplitudes.proofs.respond.Goals as goal

pub returns : goal.returns
returns g c =
    let S = c.in_ok-verdict.ensures.ok in
    let P = c.plot_reply.ensures S.text _ (ap result_ok refl) (record { scan = S.scan; lines = S.lines; judged = S.judged }) in
    record { ok = record { text = S.text; response = P; answered = plot-texts-answered _ _ _ _ P }; err = tt }
