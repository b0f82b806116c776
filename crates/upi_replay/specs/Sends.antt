-- Words for messages.
use Rattle.std.specs.Prelude.{Bool}
use Rattle.upi_words.specs.Prelude.{Ver, PayReq, Outcome, AuthQuestion, Sent, Party, Body}
use Rattle.upi_model.specs.Places.{asking}

-- the outcome to the asking PSP
abbrev pub result_message : PayReq → Outcome → Sent
result_message r x = record { from = Party.Switch; to = Party.Psp (asking r); body = Body.Result r.txn r.kind x r.head.msg_id; ver = r.head.ver }

-- the word of a model PSP, in the version of its question
abbrev pub word_message : Party → Ver → AuthQuestion → Bool → Sent
word_message psp v q word = record { from = psp; to = Party.Switch; body = Body.RespAuth q.txn q.amount word; ver = v }
