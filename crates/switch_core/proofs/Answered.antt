-- The replies after a Close.
use Rattle.std.proofs.Common.{◌≡◌, ℕ, Bool, true, false, Option, Some, None, refl, sym, ◌∙◌}
use Rattle.upi_words.specs.Prelude.{Body, Call, Event, Party, Sent, Setup, History, Text, Code, is_closed}
use Rattle.upi_model.specs.History.{delivered, event_of, message_at, read_message}
use Rattle.upi_model.specs.Postings.{Answers}
use Rattle.upi_model.specs.Replies.{no, order_answer, reply_by, reply_shut, reply_to, txn_of}
use Rattle.upi_model.specs.Standing.{Standing, is_due_on, sendings, shard_opened, standing}
use Rattle.switch_core.specs.Shut.{shut_reply}

shut_by : (S : Setup) (room : ℕ) (says : Answers) (due closed : Bool) (s : Standing) (e : Event) (now : ℕ) → closed ≡ true → reply_by S room says due closed s e now ≡ reply_shut s e
shut_by S room says due true s e now shut = refl
shut_by S room says due false s e now shut = absurd cc

-- after a Close the reply is that to the call's event
pub shut_is : (S : Setup) (h : History) (c : Call) (now : ℕ) → is_closed h ≡ true → shut_reply S h (event_of h c) ≡ reply_to S h c now
unfolding reply_to
shut_is S h c now shut =
    let t : Text = txn_of (event_of h c) in
    sym (shut_by S (shard_opened S t h) (order_answer S h) (is_due_on (is_closed h) (standing S t h) (sendings t h) now) (is_closed h) (standing S t h) (event_of h c) now shut)

-- what is delivered after a Close is refused, whatever it says
delivered_shut : (S : Setup) (h : History) (m : Option Sent) → no Code.Closed ≡ shut_reply S h (read_message m)
delivered_shut S h None = refl
delivered_shut S h (Some m) = told m.from m.body
  where
    told : (p : Party) (b : Body) → no Code.Closed ≡ shut_reply S h (delivered p b)
    told (Party.Psp p) (Body.RespAuth t amount word) = refl
    told (Party.Bank b) (Body.RespAuth t amount word) = refl
    told Party.Switch (Body.RespAuth t amount word) = refl
    told (Party.Psp p) (Body.Confirmed t) = refl
    told (Party.Bank b) (Body.Confirmed t) = refl
    told Party.Switch (Body.Confirmed t) = refl
    told p (Body.Order t l amount ac addr extra) = refl
    told p (Body.LegAnswer t l a) = refl
    told p (Body.ReqAuth q) = refl
    told p (Body.Result t kind x req_msg) = refl
    told p (Body.Confirm t kind x) = refl

-- and so is each call but a Hear
pub deliver_shut : (S : Setup) (h : History) (n now : ℕ) → is_closed h ≡ true → no Code.Closed ≡ reply_to S h (Call.Deliver n) now
deliver_shut S h n now shut = delivered_shut S h (message_at h n) ∙ shut_is S h (Call.Deliver n) now shut

pub lose_shut : (S : Setup) (h : History) (n now : ℕ) → is_closed h ≡ true → no Code.Closed ≡ reply_to S h (Call.Lose n) now
lose_shut S h n now shut = shut_is S h (Call.Lose n) now shut

pub late_shut : (S : Setup) (h : History) (t : Text) (now : ℕ) → is_closed h ≡ true → no Code.Closed ≡ reply_to S h (Call.Late t) now
late_shut S h t now shut = shut_is S h (Call.Late t) now shut

pub close_shut : (S : Setup) (h : History) (now : ℕ) → is_closed h ≡ true → no Code.Closed ≡ reply_to S h Call.Close now
close_shut S h now shut = shut_is S h Call.Close now shut
