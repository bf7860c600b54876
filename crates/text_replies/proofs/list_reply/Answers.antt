-- `list_reply` meets its contract: prints the answer to the text that was scanned, whatever text it was.
use Rattle.text_replies.proofs.Answering.{too-many-printed}
use Rattle.text_replies.proofs.ReadTexts.{formed-agreeing, malformed-agreeing}
use Rattle.calls.specs.ListAnswers.{list_answer}
use Rattle.text_replies.proofs.list_reply.Goals as goal

pub returns-in-Ok : goal.returns-in-Ok
returns-in-Ok c t v agrees =
    formed-agreeing list_answer _ v agrees _ _ _ _ _ _ too-many-printed c.in-Ok.n c.in-Ok.is
    c.list_answer.ensures t

pub returns-in-Err : goal.returns-in-Err
returns-in-Err c t v agrees =
    malformed-agreeing list_answer _ v agrees _ _ _ _ _ _ _ c.in-Err.is
    c.print_refusal.ensures t
