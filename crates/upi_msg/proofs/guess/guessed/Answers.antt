use Rattle.std.proofs.Common.{ap, ◌∙◌}
use Rattle.upi_msg.specs.Types.{PayReq, Message, Input}
use Rattle.upi_msg.proofs.Law.{guess_right}
use Rattle.upi_msg.proofs.guess.guessed.Goals as goal

pub returns-in_ok-request : goal.returns-in_ok-request
returns-in_ok-request c =
    let written = c.as_slice.ensures.value ∙ c.in_ok-write_anew.ensures in
    ap (λ (r : PayReq). Input.Good (Message.Pay r)) c.in_ok-request.ensures
    ∙ guess_right c.args.text.now c.as_slice.result.now c.in-Some.request c.typed_pay.ensures written c.if-eq.ensures
