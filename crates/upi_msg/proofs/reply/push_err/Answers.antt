use Rattle.json.specs.Print.{escape_byte}
use Rattle.std.proofs.Common.{refl}
use Rattle.upi_msg.proofs.reply.push_err.Goals as goal

pub returns-in_ok-push_member : goal.returns-in_ok-push_member
unfolding escape_byte
returns-in_ok-push_member c =
    rw (c.in-Some.is, c.in_ok-push_member.ensures, c.code_word.ensures) refl
