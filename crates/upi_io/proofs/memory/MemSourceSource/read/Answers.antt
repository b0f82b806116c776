use Rattle.std.proofs.Common.{◌-◌, ◌∙◌, sym, ap, length, take, drop, arith}
use Rattle.std.proofs.lemmas.List.{take_rest}
use Rattle.upi_io.proofs.Ahead.{given, some_given}
use Rattle.upi_io.proofs.memory.MemSourceSource.read.Goals as goal

pub returns-clause-bytes : goal.returns-clause-bytes
returns-clause-bytes c =
    let s = c.self.inside in
    let rest = ap (λ l. take (length l - s.at) (drop s.at l)) c.deref-2.ensures.value ∙ take_rest s.bytes.items s.at in
    let some = some_given _ s.piece (length c.args.buf.now) c.give-count.result c.if-is_empty.false c.is_empty.ensures c.self.invariant.1 c.requires c.give-count.ensures.count in
    (some.0, omega (arith, some.1, c.give-count.auto.buf), sym (ap (λ v. v.left) c.self.view_is) ∙ given s.bytes.items _ c.give-count.new.buf s.at c.give-count.result rest c.give-count.ensures.front)
