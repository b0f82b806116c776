use Rattle.std.proofs.Common.{decimal, ap, sym, ◌∙◌, refl}
use Rattle.json.specs.Print.{escape_byte, escape}
use Rattle.upi_msg.proofs.Clear.{escape_clear, clear_decimal}
use Rattle.upi_msg.proofs.Pieces.{grows}
use Rattle.upi_msg.proofs.Parts.{rules_parts, rules_text}
use Rattle.upi_msg.proofs.write.push_rules_front.Goals as goal

pub push_plain-requires : goal.push_plain-requires
push_plain-requires c =
    let same = c.as_bytes-count.ensures.value ∙ c.format.ensures.text ∙ ap decimal c.get.ensures.same in
    ap escape same ∙ escape_clear (decimal c.in-Some.minutes) (clear_decimal c.in-Some.minutes) ∙ sym same

pub returns-in_ok-extend_from_slice : goal.returns-in_ok-extend_from_slice
unfolding escape_byte
returns-in_ok-extend_from_slice c =
    rw c.in-Some.is (grows c.args.out.now.items (rules_parts c.in-Some.minutes) _ c.extend_from_slice.new.self.items (rules_text c.in-Some.minutes)
    (_, rw (← c.get.ensures.same, ← c.format.ensures.text, ← c.as_bytes-count.ensures.value) c.in_ok-push_plain.ensures, (_, c.in_ok-extend_from_slice.ensures.items, refl)))
