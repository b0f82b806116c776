use Rattle.std.proofs.Common.{◌+◌, [], ◌∷◌, ◌++◌, ap, ◌∙◌}
use Rattle.upi_journal.proofs.Homes.{home_more}
use Rattle.upi_journal.proofs.home.Home.append.Goals as goal

pub invariant_of-self-2 : goal.invariant_of-self-2
invariant_of-self-2 g c =
    let h = c.self.inside in
    home_more g.E.JournalEntry.marks g.N.JournalName.charter h.entries.items h.sums.items h.sent h.limit h.seat c.admit.new.home c.args.entry c.sent_len.result _ _ c.self.invariant c.admit.ensures.home c.admit.ensures.more c.sent_len.ensures c.requires.sent
    (c.push_reserved-2.ensures.items ∙ ap (λ l. l ++ c.args.entry ∷ []) c.make_room.ensures.same.0)
    (c.push_reserved.ensures.items ∙ ap (λ l. l ++ (h.sent + c.sent_len.result) ∷ []) c.make_room.ensures.same.1)
