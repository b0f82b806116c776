use Rattle.std.proofs.Common.{◌≡◌, ◌∙◌, Some, sym, ap}
use Rattle.bank_book.specs.Book.{Holdings, holding_of, holding_at}
use Rattle.bank_book.proofs.ByPlace.{place_or_end, place_is, held_there, row_there}
use Rattle.bank_book.proofs.Book.at.Goals as goal

pub returns-clause-there : goal.returns-clause-there
returns-clause-there c =
    ap (λ (b : Holdings). holding_at b c.args.place) (sym c.self.view_is)
    ∙ row_there c.self.inside.accounts.entries c.args.place c.in-Some._ac.now c.in-Some.held.now (sym c.in-Some.ensures.entry)

pub returns-clause-holds : goal.returns-clause-holds
returns-clause-holds c = λ ac is.
    held_there c.args.self.now ac c.in-Some.held.now (ap (holding_at c.args.self.now) (place_is c.args.self.now ac c.args.place is) ∙ returns-clause-there c)
