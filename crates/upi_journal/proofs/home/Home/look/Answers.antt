use Rattle.upi_journal.proofs.Homes.{home_kept, kept}
use Rattle.upi_journal.proofs.home.Home.look.Goals as goal

pub invariant_of-self : goal.invariant_of-self
invariant_of-self g c =
    home_kept g.E.JournalEntry.marks g.N.JournalName.charter _ _ _ _ c.self.inside.seat c.show.new.home c.self.invariant c.show.ensures.home c.show.ensures.same

pub returns-clause-keeps : goal.returns-clause-keeps
returns-clause-keeps g c = kept c.args.pass.now _ _ c.show.ensures.pass c.show.ensures.longer
