use Rattle.std.proofs.Common.{ap, sym, ◌∙◌, refl}
use Rattle.json.specs.Print.{escape}
use Rattle.serde_json.specs.Written.{compact_text}
use Rattle.upi_msg.specs.Tree.{head_tree_of}
use Rattle.upi_msg.proofs.Clear.{escape_clear, clear_name}
use Rattle.upi_msg.proofs.Pieces.{grows}
use Rattle.upi_msg.proofs.Parts.{head_parts, head_text}
use Rattle.upi_msg.proofs.write.push_head.Goals as goal

pub push_plain-requires : goal.push_plain-requires
push_plain-requires c =
    let id = c.args.head.now.msg_id in
    ap escape c.bytes.ensures.same ∙ escape_clear id (clear_name 35 id c.bytes.ensures.allowed) ∙ sym c.bytes.ensures.same

pub push_plain-requires-2 : goal.push_plain-requires-2
push_plain-requires-2 c =
    let org = c.args.head.now.org in
    ap escape c.bytes-2.ensures.same ∙ escape_clear org (clear_name 20 org c.bytes-2.ensures.allowed) ∙ sym c.bytes-2.ensures.same

pub returns : goal.returns
returns c =
    let h = c.args.head.now in
    grows c.args.out.now.items (head_parts h.msg_id h.org h.ts h.ver) (compact_text (head_tree_of h.msg_id h.org h.ts h.ver)) c.extend_from_slice-2.new.self.items (head_text h.msg_id h.org h.ts h.ver)
    (c.push_plain.new.out.items, (rw (← c.bytes.ensures.same) c.in_ok-push_plain.ensures), (c.push_plain-2.new.out.items, (rw (← c.bytes-2.ensures.same) c.in_ok-push_plain-2.ensures), (_, c.in_ok-extend_from_slice.ensures.items, (_, c.in_ok-push_moment.ensures, (_, (rw (← c.ver_end.ensures) c.in_ok-extend_from_slice-2.ensures.items), refl)))))
