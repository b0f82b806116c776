use Rattle.std.proofs.Common.{[], ◌∷◌, ◌++◌, ◌∙◌, List, length, ap, refl}
use Rattle.entry_log.specs.declared.rows.Row.{Row}
use Rattle.entry_log.proofs.Counts.{appended, appended_log}
use Rattle.entry_log.proofs.log.Log.append.Goals as goal

pub invariant_of-self-2 : goal.invariant_of-self-2
invariant_of-self-2 c =
    let r : Row = record { made = c.in_ok-made.made; at = c.args.entry.at; caller = c.args.entry.caller; reply = c.args.entry.reply; upto = length c.as_slice.result.now } in
    appended_log c.args.self.now c.self.inside.rows.items c.push_reserved.new.self.items c.self.inside.messages.items c.append.new.self.items c.into_items-sent.result.items r c.args.entry
    c.self.view_is c.self.invariant (c.push_reserved.ensures.items ∙ ap (λ (rows : List Row). rows ++ r ∷ []) c.reserve.ensures.items) c.in_ok-append.ensures.items (ap length c.as_slice.ensures.value)

pub returns-clause-ok : goal.returns-clause-ok
returns-clause-ok c =
    let r : Row = record { made = c.in_ok-made.made; at = c.args.entry.at; caller = c.args.entry.caller; reply = c.args.entry.reply; upto = length c.as_slice.result.now } in
    appended c.args.self.now c.self.inside.rows.items c.push_reserved.new.self.items c.self.inside.messages.items c.append.new.self.items c.into_items-sent.result.items r c.args.entry
    c.self.view_is c.self.invariant (c.push_reserved.ensures.items ∙ ap (λ (rows : List Row). rows ++ r ∷ []) c.reserve.ensures.items) c.in_ok-append.ensures.items (ap length c.as_slice.ensures.value)
    c.into_items-sent.ensures c.in_ok-made.ensures refl refl refl
