-- The types of upi_base and the short names of lists, passed on from one place.
pub use Rattle.upi_base.specs.Names.{Text, Setup, History}
pub use Rattle.upi_base.specs.declared.code.{Answer.Answer, Code.Code, Kind.Kind, Leg.Leg, Outcome.Outcome, Policy.Policy, Reply.Reply, Ver.Ver}
pub use Rattle.upi_base.specs.declared.entry.{Call.Call, Entry.Entry}
pub use Rattle.upi_base.specs.declared.fault.Why.{Why}
pub use Rattle.upi_base.specs.declared.message.{Input.Input, Message.Message, PayReq.PayReq, Extra.Extra}
pub use Rattle.upi_base.specs.declared.sent.{AuthQuestion.AuthQuestion, Body.Body, Party.Party, Sent.Sent}
pub use Rattle.upi_base.specs.declared.settled.{Item.Item, Recon.Recon, Side.Side, TxnRow.TxnRow, Verdict.Verdict, AuditWhy.AuditWhy}
pub use Rattle.upi_base.specs.declared.setup.{Account.Account, AccountRef.AccountRef, Listing.Listing, SetupLine.SetupLine}
pub use Rattle.upi_model.specs.declared.event.{AuthWord.AuthWord, Event.Event, Said.Said}
pub use Rattle.upi_model.specs.declared.places.{Decision.Decision, Kept.Kept, LegEnd.LegEnd, Opening.Opening, Order.Order, Owner.Owner}
