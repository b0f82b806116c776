use Rattle.std.proofs.Common.{refl}
use Rattle.upi_msg.specs.Tree.{head_tree_of}
use Rattle.upi_msg.specs.Sending.{party_text, sent_root, sent_members, sent_tree}
use Rattle.upi_msg.proofs.Pieces.{grows}
use Rattle.upi_msg.proofs.Rests.{rooted_parts, rooted_text}
use Rattle.upi_msg.proofs.sent.push_named.Goals as goal

pub returns : goal.returns
unfolding sent_tree
returns c =
    let s = c.args.sent.now in
    grows c.args.out.now.items (rooted_parts (sent_root s.body) (head_tree_of c.args.name.now (party_text s.from) c.args.at s.ver) (sent_members c.args.req.now s.body)) _ c.push.new.self.items (rooted_text (sent_root s.body) (head_tree_of c.args.name.now (party_text s.from) c.args.at s.ver) (sent_members c.args.req.now s.body))
    (_, (rw c.sent_root.ensures at c.in_ok-push_opening.ensures), (_, (rw c.party_text.ensures at c.in_ok-push_head_of.ensures), (_, c.in_ok-push_body.ensures, (_, c.in_ok-push.ensures.items, refl))))
