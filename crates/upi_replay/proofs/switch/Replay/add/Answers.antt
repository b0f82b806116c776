use Rattle.std.proofs.Common.{List, ◌∙◌, ◌++◌, ◌∷◌, [], ap}
use Rattle.upi_words.specs.Prelude.{Entry, Sent}
use Rattle.upi_replay.proofs.Says.{replay_more, seen_more}
use Rattle.upi_replay.proofs.switch.Replay.add.Goals as goal

pub invariant_of-self-2 : goal.invariant_of-self-2
invariant_of-self-2 c =
    let r = c.self.inside in
    replay_more c.args.self.now r.lines c.items.result.now r.entries.items c.push_reserved.new.self.items r.messages.items c.append.new.self.items r.found c.reserve-2.new.self c.advance.new.self c.args.entry c.args.event.now
    c.self.view_is c.items.ensures (c.push_reserved.ensures.items ∙ ap (λ (l : List Entry). l ++ c.args.entry ∷ []) c.reserve.ensures.items)
    (c.in_ok-append.ensures.items ∙ ap (λ (l : List Sent). r.messages.items ++ l) (c.into_items-copies.ensures ∙ c.in_ok-copy.ensures))
    c.self.invariant c.reserve-2.ensures.same c.requires c.advance.ensures.rows c.advance.ensures.strays c.advance.ensures.closed

pub returns-clause-ok : goal.returns-clause-ok
returns-clause-ok c =
    let r = c.self.inside in
    seen_more c.args.self.now r.lines r.entries.items c.push_reserved.new.self.items c.args.entry c.self.view_is (c.push_reserved.ensures.items ∙ ap (λ (l : List Entry). l ++ c.args.entry ∷ []) c.reserve.ensures.items)
