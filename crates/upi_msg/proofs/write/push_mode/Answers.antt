use Rattle.std.proofs.Common.{ap, sym, ◌∙◌, refl}
use Rattle.json.specs.Print.{escape_byte, escape}
use Rattle.upi_msg.proofs.Clear.{escape_clear, clear_digits}
use Rattle.upi_msg.proofs.write.push_mode.Goals as goal

pub push_plain-requires : goal.push_plain-requires
push_plain-requires c =
    let digits = c.in-Some.extra.mode in
    ap escape c.bytes.ensures.same ∙ escape_clear digits (clear_digits digits c.bytes.ensures.allowed) ∙ sym c.bytes.ensures.same

pub returns-in_ok-push_plain : goal.returns-in_ok-push_plain
unfolding escape_byte
returns-in_ok-push_plain c = rw (c.in-Some.is, c.in_ok-push_plain.ensures, c.bytes.ensures.same) refl
