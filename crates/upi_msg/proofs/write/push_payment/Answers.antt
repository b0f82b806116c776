use Rattle.std.proofs.Common.{ap, sym, ◌∙◌, refl}
use Rattle.json.specs.Print.{escape}
use Rattle.upi_msg.specs.Tree.{kind_text}
use Rattle.upi_msg.proofs.Clear.{clear_kind}
use Rattle.upi_msg.proofs.Pieces.{grows}
use Rattle.upi_msg.proofs.Parts.{txn_parts, txn_text}
use Rattle.upi_msg.proofs.write.push_payment.Goals as goal

pub push_plain-requires : goal.push_plain-requires
push_plain-requires c = ap escape c.kind_text.ensures ∙ clear_kind c.args.request.now.kind ∙ sym c.kind_text.ensures

pub returns : goal.returns
returns c =
    let r = c.args.request.now in
    grows c.args.out.now.items (txn_parts r.expire r.txn r.extra r.note (kind_text r.kind)) _ c.extend_from_slice.new.self.items (txn_text r.expire r.txn r.extra r.note (kind_text r.kind))
    (_, c.in_ok-push_terms.ensures, (c.push_plain.new.out.items, (rw (← c.kind_text.ensures) c.in_ok-push_plain.ensures), (_, c.in_ok-extend_from_slice.ensures.items, refl)))
