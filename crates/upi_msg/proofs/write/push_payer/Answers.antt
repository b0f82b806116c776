use Rattle.std.proofs.Common.{ap, sym, ◌∙◌, refl}
use Rattle.json.specs.Print.{escape}
use Rattle.upi_msg.proofs.Clear.{escape_clear, clear_address}
use Rattle.upi_msg.proofs.Pieces.{grows}
use Rattle.upi_msg.proofs.Parts.{payer_parts, payer_text}
use Rattle.upi_msg.proofs.write.push_payer.Goals as goal

pub push_plain-requires : goal.push_plain-requires
push_plain-requires c = ap escape c.bytes.ensures.same ∙ escape_clear c.args.addr.now (clear_address 71 c.args.addr.now c.bytes.ensures.allowed) ∙ sym c.bytes.ensures.same

pub returns : goal.returns
returns c =
    grows c.args.out.now.items (payer_parts c.args.ac.now c.args.amount c.args.addr.now) _ c.extend_from_slice.new.self.items (payer_text c.args.ac.now c.args.amount c.args.addr.now)
    (_, c.in_ok-push_front.ensures, (_, c.in_ok-push_paise.ensures, (_, (rw (← c.bytes.ensures.same) c.in_ok-push_plain.ensures), (_, c.in_ok-extend_from_slice.ensures.items, refl))))
