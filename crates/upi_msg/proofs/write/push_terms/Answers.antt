use Rattle.std.proofs.Common.{ap, sym, ◌∙◌, refl}
use Rattle.json.specs.Print.{escape}
use Rattle.upi_msg.specs.Pieces.{terms_text}
use Rattle.upi_msg.proofs.Clear.{escape_clear, clear_name}
use Rattle.upi_msg.proofs.Pieces.{grows}
use Rattle.upi_msg.proofs.Parts.{terms_parts}
use Rattle.upi_msg.proofs.write.push_terms.Goals as goal

pub push_plain-requires : goal.push_plain-requires
push_plain-requires c = ap escape c.bytes.ensures.same ∙ escape_clear c.args.id.now (clear_name 35 c.args.id.now c.bytes.ensures.allowed) ∙ sym c.bytes.ensures.same

pub returns : goal.returns
returns c =
    grows c.args.out.now.items (terms_parts c.args.expire.now c.args.id.now c.args.extra.now c.args.note.now) (terms_text c.args.expire.now c.args.id.now c.args.extra.now c.args.note.now) c.push_purpose.new.out.items refl
    (_, c.in_ok-push.ensures.items, (_, c.in_ok-push_rules_front.ensures, (c.push_plain.new.out.items, (rw (← c.bytes.ensures.same) c.in_ok-push_plain.ensures), (_, c.in_ok-push_mode.ensures, (_, c.in_ok-push_note.ensures, (_, c.in_ok-push_purpose.ensures, refl))))))
