use Rattle.std.proofs.Common.{refl}
use Rattle.json.specs.Print.{escape_byte}
use Rattle.upi_msg.proofs.write.push_note.Goals as goal

pub returns-in_ok-push_inside : goal.returns-in_ok-push_inside
unfolding escape_byte
returns-in_ok-push_inside c = rw (c.in-Some.is, c.in_ok-push_inside.ensures, c.bytes.ensures.same) refl
