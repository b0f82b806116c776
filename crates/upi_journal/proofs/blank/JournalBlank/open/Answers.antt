use Rattle.std.proofs.Common.{◌≡◌, ◌≤◌, ◌*◌, length, ap, sym, ◌∙◌, subst}
use Rattle.upi_journal.specs.Entries.{Begin, sent_count, running}
use Rattle.upi_journal.proofs.Homes.{begins_history, home_opened}
use Rattle.upi_journal.proofs.blank.JournalBlank.open.Goals as goal

pub caller_passes-requires-clause-history : goal.caller_passes-requires-clause-history
caller_passes-requires-clause-history g c =
    let N = g.N.JournalName.charter in
    let shape = c.self.view_is ∙ c.requires in
    let b = c.self.inside.start.before in
    begins_history g.E.JournalEntry.marks N b (ap (λ s. s.before) shape) (subst (λ n. length b ≤ n) (ap (λ s. s.limit) shape) c.self.invariant.room)

pub new-home-requires : goal.new-home-requires
new-home-requires g c =
    let m = g.E.JournalEntry.marks in
    let N = g.N.JournalName.charter in
    let h = c.self.invariant in
    let shape = c.self.view_is ∙ c.requires in
    let b = c.self.inside.start.before in
    let was = sym c.start.view_is in
    let history = begins_history m N b (ap (λ s. s.before) shape) (subst (λ n. length b ≤ n) (ap (λ s. s.limit) shape) h.room) in
    home_opened m N (record { first = c.start.inside.first; before = c.start.inside.entries.items }) c.self.inside.sums.items c.self.inside.sent c.self.inside.limit c.caller_passes.new.home c.self.inside.owners _
    (ap (λ s. s.before) c.start.view_is ∙ ap (λ s. s.before) shape) (ap (λ s. s.limit) shape) (h.sums_are ∙ ap (λ s. running m 0 s.before) was) (h.sent_is ∙ ap (λ s. sent_count m s.before) was)
    (subst (λ (s : Begin g.row.E.Denot). sent_count m s.before ≤ length s.before * 2147483648) was h.sent_most) h.limit_most c.in_ok-caller_passes.ensures.home.0 c.in_ok-caller_passes.ensures.home.1 history
