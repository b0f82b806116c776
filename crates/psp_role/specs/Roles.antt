-- What a model PSP answers.
use Rattle.std.specs.Prelude.{List, Some, None}
use Rattle.upi_words.specs.Prelude.{Sent, Setup}
use Rattle.upi_model.specs.Postings.{Answers}
use Rattle.upi_model.specs.Sending.{answers_to}

-- no bank answers
abbrev pub no_bank : Answers
no_bank txn leg = None

-- what a model PSP answers to a message: what the receiver of the message answers, which is no bank
abbrev pub answer_of : Setup → Sent → List Sent
answer_of S m = answers_to S no_bank (Some m)
