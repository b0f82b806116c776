-- The types of upi_base and of upi_model, and their everyday words. Declares nothing.
pub use Rattle.upi_model.specs.Types.{Answer, Code, Kind, Leg, Outcome, Policy, Reply, Ver, Call, Entry, Why, Input, Message, PayReq, Extra, AuthQuestion, Body, Party, Sent, Item, Recon, Side, TxnRow, Verdict, AuditWhy, Account, AccountRef, Listing, SetupLine, Text, Setup, History}
pub use Rattle.upi_model.specs.declared.event.{AuthWord.AuthWord, Event.Event, Said.Said}
pub use Rattle.upi_model.specs.declared.places.{Decision.Decision, Kept.Kept, LegEnd.LegEnd, Opening.Opening, Order.Order, Owner.Owner}
pub use Rattle.upi_model.specs.{History.is_closed, History.event_of, Places.opened, Places.opening, Places.decision, Places.debit, Places.credit, Places.cause, Places.reversal, Outcomes.outcome_of, Outcomes.outcome_by, Postings.balance, Postings.flight, Postings.is_posted, Legal.Legal}
