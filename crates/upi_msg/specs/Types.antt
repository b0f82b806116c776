-- Types of upi_base, and words on JSON trees, passed on from one place.
pub use Rattle.upi_base.specs.Names.{Text}
pub use Rattle.upi_base.specs.declared.code.{Answer.Answer, Code.Code, Kind.Kind, Leg.Leg, Outcome.Outcome, Reply.Reply, Ver.Ver}
pub use Rattle.upi_base.specs.declared.entry.{Call.Call, Done.Done}
pub use Rattle.upi_base.specs.declared.message.{Api.Api, AuthResp.AuthResp, BadMessage.BadMessage, Chk.Chk, ConfResp.ConfResp, Extra.Extra, Head.Head, Input.Input, Message.Message, MsgWhy.MsgWhy, PayReq.PayReq}
pub use Rattle.upi_base.specs.declared.sent.{AuthQuestion.AuthQuestion, Body.Body, Party.Party, Sent.Sent}
pub use Rattle.upi_base.specs.declared.setup.{AccountRef.AccountRef}
pub use Rattle.serde_json.specs.Data.{Data, string, array, object, Items, no_items, item, Members, no_members, member}
