-- `plot_reply` meets its contract: prints the answer to the text that was scanned, whatever text it was.
use Rattle.text_replies.proofs.ReadTexts.{formed-agreeing, malformed-agreeing}
use Rattle.jobs_replies.proofs.PlotAnswering.{too-many-refused}
use Rattle.calls.specs.PlotAnswers.{plot_answer}
use Rattle.jobs_replies.proofs.plots.plot_reply.Goals as goal

pub returns-in-Ok : goal.returns-in-Ok
returns-in-Ok c t v agrees =
    formed-agreeing plot_answer _ v agrees _ _ _ _ _ _ too-many-refused c.in-Ok.n c.in-Ok.is
    c.plot_answer.ensures t

pub returns-in-Err : goal.returns-in-Err
returns-in-Err c t v agrees =
    malformed-agreeing plot_answer _ v agrees _ _ _ _ _ _ _ c.in-Err.is
    c.print_refusal.ensures t
