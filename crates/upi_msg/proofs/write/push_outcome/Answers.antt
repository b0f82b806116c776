use Rattle.std.proofs.Common.{refl, option_map}
use Rattle.upi_base.specs.Words.{code_text}
use Rattle.upi_msg.proofs.Pieces.{grows}
use Rattle.upi_msg.proofs.Parts.{outcome_parts, outcome_text}
use Rattle.upi_msg.proofs.write.push_outcome.Goals as goal

pub returns : goal.returns
returns c =
    grows c.args.out.now.items (outcome_parts (option_map code_text c.args.code) c.args.word.now) _ c.push-2.new.self.items (outcome_text (option_map code_text c.args.code) c.args.word.now)
    (_, c.in_ok-push.ensures.items, (_, c.in_ok-push_code_front.ensures, (_, c.in_ok-push_member.ensures, (_, c.in_ok-push-2.ensures.items, refl))))
