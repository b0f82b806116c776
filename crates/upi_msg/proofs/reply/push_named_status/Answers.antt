use Rattle.std.proofs.Common.{codes, refl}
use Rattle.upi_msg.specs.Tree.{head_tree_of}
use Rattle.upi_msg.specs.Sending.{status_tree, status_code, status_word, result_members}
use Rattle.upi_msg.proofs.Pieces.{grows}
use Rattle.upi_msg.proofs.Rests.{rooted_parts, rooted_text}
use Rattle.upi_msg.proofs.reply.push_named_status.Goals as goal

pub returns : goal.returns
unfolding status_tree
returns c =
    let k = c.args.check.now in
    grows c.args.out.now.items (rooted_parts (codes "RespChkTxn") (head_tree_of c.args.name.now (codes "SWITCH") c.args.at k.head.ver) (result_members (status_code c.args.outcome) k.head.msg_id (status_word c.args.outcome) k.txn (codes "ChkTxn"))) _ c.push.new.self.items (rooted_text (codes "RespChkTxn") (head_tree_of c.args.name.now (codes "SWITCH") c.args.at k.head.ver) (result_members (status_code c.args.outcome) k.head.msg_id (status_word c.args.outcome) k.txn (codes "ChkTxn")))
    (_, c.in_ok-push_opening.ensures, (_, c.in_ok-push_head_of.ensures, (_, (rw (← c.status_code-code.ensures, ← c.status_word-word.ensures, ← c.bytes-req.ensures.same) c.in_ok-push_result.ensures), (_, c.in_ok-push.ensures.items, refl))))
