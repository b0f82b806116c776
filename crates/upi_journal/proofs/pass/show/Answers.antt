use Rattle.std.proofs.Common.{ap, sym, ◌∙◌, subst}
use Rattle.upi_journal.specs.Rule.{brought, told, note_of}
use Rattle.upi_journal.specs.calls.Seats.{IsPass}
use Rattle.upi_journal.proofs.Passes.{shown, told_shows, no_home, home_told, pass_brought}
use Rattle.upi_journal.proofs.pass.show.Goals as goal

pub bring-requires : goal.bring-requires
bring-requires g c =
    let p = c.pass.invariant in
    let h = c.requires.home in
    record {
      board = (c.look.ensures.board.0 ∙ c.tell.ensures.board.1 ∙ h.table ∙ sym c.requires.board.0, c.tell.ensures.board.0 ∙ p.table ∙ sym c.requires.board.0, ap (λ t. t.words) c.requires.board.0 ∙ c.requires.board.1);
      role = λ is. no_home g.E.JournalEntry.marks g.N.JournalName.charter c.pass.inside.seat.me.0.role p.knows.role (ap (λ x. x.0.role) (sym c.tell.ensures.from) ∙ is);
    }

pub returns-clause-home : goal.returns-clause-home
returns-clause-home g c =
    home_told g.E.JournalEntry.marks g.N.JournalName.charter c.args.home.now c.bring.new.from (note_of c.pass.inside.seat.me.0) c.requires.home (c.bring.ensures.board.0 ∙ c.look.ensures.board.0 ∙ c.tell.ensures.board.1) (c.bring.ensures.from ∙ c.look.ensures.board.1 ∙ c.tell.ensures.home)

pub returns-clause-mine : goal.returns-clause-mine
returns-clause-mine g c =
    let p = c.pass.invariant in
    let h = c.requires.home in
    let v = c.pass.inside.seat.me.0 in
    let hv = c.args.home.now.me.0 in
    let told_home = c.look.ensures.board.1 ∙ c.tell.ensures.home in
    let is = ap (λ x. x.0) c.bring.ensures.to ∙ (λ i. brought (c.tell.ensures.from i).0 (note_of (told_home i).0)) in
    let seen = told_shows v hv c.tell.new.home.me.0 _ (ap (λ x. x.0) c.tell.ensures.home) h.role c.look.ensures.home in
    rw (← c.pass.view_is) (shown g.E.JournalEntry.marks v hv c.bring.new.to.me.0 is h.known p.knows.mine seen c.look-2.ensures.mine)

pub invariant_of-pass : goal.invariant_of-pass
invariant_of-pass g c =
    let p = c.pass.invariant in
    let h = c.requires.home in
    let v = c.pass.inside.seat.me.0 in
    let hv = c.args.home.now.me.0 in
    let told_home = c.look.ensures.board.1 ∙ c.tell.ensures.home in
    let is = ap (λ x. x.0) c.bring.ensures.to ∙ (λ i. brought (c.tell.ensures.from i).0 (note_of (told_home i).0)) in
    let seen = told_shows v hv c.tell.new.home.me.0 _ (ap (λ x. x.0) c.tell.ensures.home) h.role c.look.ensures.home in
    let mine = shown g.E.JournalEntry.marks v hv c.bring.new.to.me.0 is h.known p.knows.mine seen c.look-2.ensures.mine in
    let all = c.look-2.ensures.board.1 ∙ c.bring.ensures.to ∙ (λ i. (brought (c.tell.ensures.from i).0 (note_of (told_home i).0), (c.tell.ensures.from i).1)) in
    pass_brought g.E.JournalEntry.marks g.N.JournalName.charter _ c.pass.inside.seat c.look-2.new.seat (note_of (told hv (note_of v))) p (c.look-2.ensures.board.0 ∙ c.bring.ensures.board.1 ∙ c.tell.ensures.board.0) all h.history mine

pub returns-clause-knows : goal.returns-clause-knows
returns-clause-knows g c =
    let p = c.pass.invariant in
    let h = c.requires.home in
    let v = c.pass.inside.seat.me.0 in
    let hv = c.args.home.now.me.0 in
    let told_home = c.look.ensures.board.1 ∙ c.tell.ensures.home in
    let is = ap (λ x. x.0) c.bring.ensures.to ∙ (λ i. brought (c.tell.ensures.from i).0 (note_of (told_home i).0)) in
    let seen = told_shows v hv c.tell.new.home.me.0 _ (ap (λ x. x.0) c.tell.ensures.home) h.role c.look.ensures.home in
    let mine = shown g.E.JournalEntry.marks v hv c.bring.new.to.me.0 is h.known p.knows.mine seen c.look-2.ensures.mine in
    let all = c.look-2.ensures.board.1 ∙ c.bring.ensures.to ∙ (λ i. (brought (c.tell.ensures.from i).0 (note_of (told_home i).0), (c.tell.ensures.from i).1)) in
    let is_pass : IsPass g.E.JournalEntry.marks g.N.JournalName.charter c.pass.inside.role c.look-2.new.seat = pass_brought g.E.JournalEntry.marks g.N.JournalName.charter _ c.pass.inside.seat c.look-2.new.seat (note_of (told hv (note_of v))) p (c.look-2.ensures.board.0 ∙ c.bring.ensures.board.1 ∙ c.tell.ensures.board.0) all h.history mine in
    is_pass.knows
