use Rattle.std.proofs.Common.{codes, refl}
use Rattle.json.specs.Print.{escape_byte}
use Rattle.upi_msg.specs.Tree.{head_tree, payee_tree, payer_tree, payment_tree}
use Rattle.upi_msg.proofs.Pieces.{grows}
use Rattle.upi_msg.proofs.Parts.{parties_parts, parties_text}
use Rattle.upi_msg.proofs.write.push_pay.Goals as goal

pub returns : goal.returns
unfolding escape_byte
returns c =
    let r = c.args.request.now in
    grows c.args.out.now.items (parties_parts (codes "ReqPay") (head_tree r.head) (payee_tree r.payee_ac r.payee) (payer_tree r.payer_ac r.amount r.payer) (payment_tree r)) _ c.extend_from_slice-5.new.self.items (parties_text (codes "ReqPay") (head_tree r.head) (payee_tree r.payee_ac r.payee) (payer_tree r.payer_ac r.amount r.payer) (payment_tree r))
    (_, c.in_ok-extend_from_slice.ensures.items, (_, c.in_ok-push_head.ensures, (_, c.in_ok-extend_from_slice-2.ensures.items, (_, c.in_ok-push_payee.ensures, (_, c.in_ok-extend_from_slice-3.ensures.items, (_, c.in_ok-push_payer.ensures, (_, c.in_ok-extend_from_slice-4.ensures.items, (_, c.in_ok-push_payment.ensures, (_, c.in_ok-extend_from_slice-5.ensures.items, refl)))))))))
