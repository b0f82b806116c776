use Rattle.std.proofs.Common.{ap, sym, ◌∙◌, refl}
use Rattle.json.specs.Print.{escape}
use Rattle.upi_msg.specs.Pieces.{account_between}
use Rattle.upi_msg.proofs.Clear.{escape_clear, clear_bank, clear_num}
use Rattle.upi_msg.proofs.Pieces.{grows}
use Rattle.upi_msg.proofs.Parts.{between_parts, between_text}
use Rattle.upi_msg.proofs.write.push_account.Goals as goal

pub push_plain-requires : goal.push_plain-requires
push_plain-requires c =
    let bank = c.args.ac.now.bank in
    ap escape c.bytes.ensures.same ∙ escape_clear bank (clear_bank bank c.bytes.ensures.allowed) ∙ sym c.bytes.ensures.same

pub push_plain-requires-2 : goal.push_plain-requires-2
push_plain-requires-2 c =
    let num = c.args.ac.now.num in
    ap escape c.bytes-2.ensures.same ∙ escape_clear num (clear_num num c.bytes-2.ensures.allowed) ∙ sym c.bytes-2.ensures.same

pub returns : goal.returns
returns c =
    grows c.args.out.now.items (between_parts c.args.front.now c.args.ac.now c.args.end.now) (account_between c.args.front.now c.args.ac.now c.args.end.now) c.extend_from_slice.new.self.items (between_text c.args.front.now c.args.ac.now c.args.end.now)
    (c.push_plain.new.out.items, (rw (← c.bytes.ensures.same) c.in_ok-push_plain.ensures), (c.push_plain-2.new.out.items, (rw (← c.bytes-2.ensures.same) c.in_ok-push_plain-2.ensures), (_, c.in_ok-extend_from_slice.ensures.items, refl)))
