-- What the private functions answer.
use Rattle.std.specs.Prelude.{ℕ, ◌≡◌, List, [], ◌∷◌, Option, Some, None}
use Rattle.upi_base.specs.declared.message.AuthResp.{AuthResp}
use Rattle.upi_words.specs.Prelude.{AuthWord, PayReq, Reply, Sent, Setup, Text}
use Rattle.upi_model.specs.Replies.{ok}
use Rattle.upi_model.specs.Sending.{question}
use Rattle.txn_row.specs.declared.turn.{Turn.Turn}
use Rattle.txn_row.specs.Rows.{Course, Opens, row_returns}
use Rattle.txn_shard.specs.declared.step.{Change.Change}
use Rattle.txn_shard.specs.Shard.{Plan}

-- a plan that only replies and sends
abbrev pub quiet : Reply → List Sent → Plan
quiet r ms = record { reply = r; sent = ms; change = Change.Still }

-- the plan of a turn of the transaction of that name
abbrev pub going : Text → Turn → Plan
going t turn = record { reply = turn.reply; sent = turn.sent; change = Change.Goes t turn.progress }

-- the plan of an opening
abbrev pub opening_plan : PayReq → Course → Plan
opening_plan r c = record { reply = ok; sent = question r ∷ []; change = Change.Opens c }

-- it is the plan of a payment that opens now
pub record IsOpening (r : PayReq) (now : ℕ) (p : Plan) : Type 0 where
  pub row : Course
  pub opening_is : row.opening ≡ record { terms = r; at = now }
  pub opens : Opens row
  pub is : p ≡ opening_plan r row

-- the word of an answer
abbrev pub word_of : AuthResp → AuthWord
word_of a = record { txn = a.txn; yes = a.yes; amount = a.amount; payer_ac = a.payer_ac; payee_ac = a.payee_ac }

-- the reversal that a Close would make arrive of a row, if there is one
abbrev pub returned_by : Setup → Option Course → List Sent
returned_by S None = []
returned_by S (Some c) = row_returns S c
