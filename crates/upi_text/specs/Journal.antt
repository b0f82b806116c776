-- The lines of a journal: an E line of each entry, and an M line of each message that it sends.
use Rattle.std.specs.Prelude.{ℕ, ◌+◌, List, [], ◌∷◌, ◌++◌, length, codes, decimal}
use Rattle.upi_base.specs.declared.entry.Call.{Call}
use Rattle.upi_base.specs.declared.entry.Call.TheVariants as call
use Rattle.upi_base.specs.declared.entry.Entry.{Entry}
use Rattle.upi_base.specs.declared.message.Input.{Input}
use Rattle.upi_base.specs.declared.message.Input.TheVariants as input
use Rattle.upi_base.specs.declared.sent.Body.{Body}
use Rattle.upi_base.specs.declared.sent.Body.TheVariants as body
use Rattle.upi_base.specs.declared.sent.Sent.{Sent}
use Rattle.upi_base.specs.Money.{paise_text}
use Rattle.upi_base.specs.Shards.{account_text}
use Rattle.upi_model.specs.History.{sent_count}
use Rattle.upi_msg.specs.Tree.{message_text}
use Rattle.upi_text.specs.Pieces.{spaced, leg_text, fault_text, yes_text, answer_text, outcome_text, reply_text, party_text}

-- what a message says: its word, and its values
abbrev pub body_text : Body → List ℕ
body_text (body.ReqAuth q) = codes "REQAUTH" ++ spaced q.txn ++ spaced (paise_text q.amount)
body_text (body.RespAuth txn amount is_yes) = codes "RESPAUTH" ++ spaced txn ++ spaced (paise_text amount) ++ spaced (yes_text is_yes)
body_text (body.Order txn leg amount ac addr extra) = leg_text leg ++ spaced txn ++ spaced (paise_text amount) ++ spaced (account_text ac)
body_text (body.LegAnswer txn leg answer) = codes "ANSWER" ++ spaced txn ++ spaced (leg_text leg) ++ spaced (answer_text answer)
body_text (body.Result txn kind outcome req_msg) = codes "RESPPAY" ++ spaced txn ++ spaced (outcome_text outcome)
body_text (body.Confirm txn kind outcome) = codes "CONFIRM" ++ spaced txn ++ spaced (outcome_text outcome)
body_text (body.Confirmed txn) = codes "CONFIRMED" ++ spaced txn

-- `M n from to` and what the message says, without the end of the line
abbrev pub message_line : ℕ → Sent → List ℕ
message_line n s = codes "M" ++ spaced (decimal n) ++ spaced (party_text s.from) ++ spaced (party_text s.to) ++ spaced (body_text s.body)

-- the same, with the end of the line
abbrev pub sent_line : ℕ → Sent → List ℕ
sent_line n s = message_line n s ++ 10 ∷ []

-- the lines of messages that are numbered from `first`
abbrev pub sent_lines : ℕ → List Sent → List ℕ
sent_lines first [] = []
sent_lines first (s ∷ ss) = sent_line first s ++ sent_lines (first + 1) ss

-- what a PSP sends: a message in its one form, or the first fault of what isn't one
abbrev pub heard_text : List ℕ → Input → List ℕ
heard_text psp (input.Good m) = codes "HEAR" ++ spaced psp ++ spaced (message_text m)
heard_text psp (input.Bad b) = codes "BAD" ++ spaced psp ++ spaced b.path ++ spaced (fault_text b.why)

-- a call: its word, and what it names
abbrev pub call_text : Call → List ℕ
call_text (call.Hear psp input) = heard_text psp input
call_text (call.Deliver n) = codes "DELIVER" ++ spaced (decimal n)
call_text (call.Lose n) = codes "LOSE" ++ spaced (decimal n)
call_text (call.Late txn) = codes "LATE" ++ spaced txn
call_text call.Close = codes "CLOSE"

-- `E place caller moment call = reply`
abbrev pub entry_line : ℕ → Entry → List ℕ
entry_line place e = codes "E" ++ spaced (decimal place) ++ spaced (decimal e.caller) ++ spaced (decimal e.at) ++ spaced (call_text e.call) ++ codes " =" ++ spaced (reply_text e.reply) ++ 10 ∷ []

-- the lines of an entry at a place, whose messages are numbered from `first`
abbrev pub entry_lines : Entry → ℕ → ℕ → List ℕ
entry_lines e place first = entry_line place e ++ sent_lines first e.sent

-- the lines of a history, the latest entry first: places and messages are counted from 1
abbrev pub history_text : List Entry → List ℕ
history_text [] = []
history_text (e ∷ before) = history_text before ++ entry_lines e (length before + 1) (sent_count before + 1)
