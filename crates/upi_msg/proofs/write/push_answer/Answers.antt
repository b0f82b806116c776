use Rattle.std.proofs.Common.{None, option_map, refl}
use Rattle.upi_msg.specs.Tree.{head_tree, account_payees_tree, answer_payer_tree, resp_tree, result_text}
use Rattle.upi_msg.proofs.Pieces.{grows}
use Rattle.upi_msg.proofs.Parts.{answer_parts, answer_text}
use Rattle.upi_msg.proofs.write.push_answer.Goals as goal

pub returns : goal.returns
returns c =
    let a = c.args.answer.now in
    grows c.args.out.now.items (answer_parts (head_tree a.head) (option_map account_payees_tree a.payee_ac) (answer_payer_tree a.payer_ac a.amount) (resp_tree None a.req_msg (result_text a.yes)) a.txn) _ c.extend_from_slice-4.new.self.items (answer_text (head_tree a.head) (option_map account_payees_tree a.payee_ac) (answer_payer_tree a.payer_ac a.amount) (resp_tree None a.req_msg (result_text a.yes)) a.txn)
    (_, c.in_ok-extend_from_slice.ensures.items, (_, c.in_ok-push_head.ensures, (_, c.in_ok-push_payees.ensures, (_, c.in_ok-extend_from_slice-2.ensures.items, (_, c.in_ok-push_answer_payer.ensures, (_, c.in_ok-extend_from_slice-3.ensures.items, (_, (rw (← c.result_text-word.ensures, ← c.bytes.ensures.same) c.in_ok-push_resp.ensures), (_, c.in_ok-push_text.ensures, (_, c.in_ok-extend_from_slice-4.ensures.items, refl)))))))))
