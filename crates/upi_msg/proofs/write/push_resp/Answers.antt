use Rattle.std.proofs.Common.{refl, option_map}
use Rattle.upi_base.specs.Words.{code_text}
use Rattle.upi_msg.proofs.Pieces.{grows}
use Rattle.upi_msg.proofs.Parts.{resp_parts, resp_text}
use Rattle.upi_msg.proofs.write.push_resp.Goals as goal

pub returns : goal.returns
returns c =
    grows c.args.out.now.items (resp_parts (option_map code_text c.args.code) c.args.req.now c.args.word.now) _ c.push-2.new.self.items (resp_text (option_map code_text c.args.code) c.args.req.now c.args.word.now)
    (_, c.in_ok-push.ensures.items, (_, c.in_ok-push_code_front.ensures, (_, c.in_ok-push_member.ensures, (_, c.in_ok-push_member-2.ensures, (_, c.in_ok-push-2.ensures.items, refl)))))
