use Rattle.std.proofs.Common.{ap, sym, ◌∙◌}
use Rattle.upi_base.specs.Setup.{listing_at}
use Rattle.upi_base.specs.declared.sent.Body.{Body}
use Rattle.upi_words.specs.Prelude.{AuthQuestion}
use Rattle.upi_model.specs.Places.{side}
use Rattle.upi_model.specs.Sending.{model_answer_by, answer_to}
use Rattle.psp_role.specs.Roles.{no_bank}
use Rattle.psp_role.proofs.answer.Goals as goal

pub returns-in-ReqAuth : goal.returns-in-ReqAuth
returns-in-ReqAuth c =
    let lines = c.args.directory.now.lines in
    let m = c.args.message.now in
    c.to_question.ensures
    ∙ ap (λ (q : AuthQuestion). model_answer_by m.to m.ver q (listing_at lines (side q.kind q.payee q.payer))) c.get.ensures
    ∙ ap (λ (b : Body). answer_to lines no_bank m.to m.ver b) (sym c.in-ReqAuth.is)
