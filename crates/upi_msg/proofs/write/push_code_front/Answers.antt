use Rattle.std.proofs.Common.{append_assoc, refl}
use Rattle.json.specs.Print.{escape_byte}
use Rattle.upi_msg.proofs.write.push_code_front.Goals as goal

pub returns-in_ok-push : goal.returns-in_ok-push
unfolding escape_byte
returns-in_ok-push c =
    rw (c.in-Some.is, c.in_ok-push.ensures.items, c.in_ok-push_member.ensures, c.code_word.ensures) (simp append_assoc refl)
