use Rattle.std.proofs.Common.{◌≡◌, ◌+◌, ◌≤◌, ◌<◌, length, arith, ap, sym, ◌∙◌, subst}
use Rattle.upi_journal.specs.declared.view.View.{View}
use Rattle.upi_journal.specs.Passes.{front_of, Knows}
use Rattle.upi_journal.proofs.Seats.{makes_owner}
use Rattle.upi_journal.proofs.Passes.{owner_knows}
use Rattle.upi_journal.proofs.blank.owner_passes.Goals as goal

pub split_seat-seat-requires : goal.split_seat-seat-requires
split_seat-seat-requires g c =
    let i = c.loop-number.invariant in
    let r = c.requires.board in
    let words = ap (λ t. t.words) r.1 ∙ r.2 in
    let v = ap (λ m. m.0) i.1 in
    (i.0 ∙ sym r.1, omega (arith, words), makes_owner g.E.JournalEntry.marks _ _ _ (ap (λ y. y.role) v) (subst (λ (y : View g.row.E.Denot). length y.seen + length y.seen ≤ y.known) (sym v) (omega arith)))

pub new-requires : goal.new-requires
new-requires g c =
    let m = g.E.JournalEntry.marks in
    let N = g.N.JournalName.charter in
    let i = c.loop-number.invariant in
    let n = c.split_seat-seat.ensures in
    let k = owner_knows m N c.loop-number.home.me.0 N.shape.before c.loop-number.number N.shape.first (ap (λ x. x.0) i.1) (omega (arith, c.requires.count)) c.requires.history in
    record {
      table = (n.3 ∙ i.0, ap (λ x. x.1) n.4);
      role = sym (ap (λ x. x.0.role) n.4 ∙ ap (λ f. f.role) k.0);
      knows = subst (λ (y : View g.row.E.Denot). Knows m N (front_of y)) (sym (ap (λ x. x.0) n.4)) k.1;
    }
