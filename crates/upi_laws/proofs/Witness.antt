-- A history in which an order is delivered: what its shard of accounts keeps.
use Rattle.std.proofs.Common.{◌≡◌, ℕ, true, false, [], ◌∷◌, Some, None, refl}
use Rattle.upi_words.specs.Prelude.{Call, Ver, Input, Message, Kind, Leg, Answer, Policy, AccountRef, Account, SetupLine, Owner, Setup, History, Text, balance, Legal}
use Rattle.upi_base.specs.declared.message.Head.{Head}
use Rattle.upi_base.specs.Shards.{account_shard}
use Rattle.upi_base.specs.Setup.{is_setup}
use Rattle.upi_model.specs.Replies.{reply_to}
use Rattle.upi_model.specs.Sending.{sent_by}
use Rattle.upi_model.specs.DueList.{due_list}
use Rattle.upi_laws.specs.Sound.{moved_with}
use Rattle.upi_model.specs.Own.{own_deeds}
use Rattle.upi_model.specs.Accounts.{own_kept, kept_answer, kept_balance}

abbrev ac1 : AccountRef
ac1 = record { bank = 65 ∷ []; num = 49 ∷ [] }

abbrev ac2 : AccountRef
ac2 = record { bank = 65 ∷ []; num = 50 ∷ [] }

abbrev acc1 : Account
acc1 = record { ac = ac1; opening = 2; no_debit = false; no_credit = false }

abbrev x : Text
x = 120 ∷ 64 ∷ 112 ∷ []

abbrev y : Text
y = 121 ∷ 64 ∷ 112 ∷ []

abbrev S : Setup
S = SetupLine.Bank (65 ∷ []) ∷ SetupLine.Psp (112 ∷ []) ∷ SetupLine.Account ac1 2 false false ∷ SetupLine.Account ac2 0 false false ∷ SetupLine.Address x ac1 Policy.Ask ∷ SetupLine.Address y ac2 Policy.Ask ∷ []

accepted : is_setup S ≡ true
accepted = refl

abbrev head : Head
head = record { msg_id = []; org = []; ts = 0; ver = Ver.One }

abbrev t : Text
t = 84 ∷ []

abbrev pay : Call
pay = Call.Hear (112 ∷ []) (Input.Good (Message.Pay (record { head = head; kind = Kind.Pay; txn = t; note = None; expire = None; payer = x; payee = y; amount = 1; payer_ac = None; payee_ac = None; extra = None; by_version = refl })))

abbrev yes_call : Call
yes_call = Call.Hear (112 ∷ []) (Input.Good (Message.AuthAnswer (record { head = head; req_msg = []; txn = t; yes = true; amount = 1; payer_ac = None; payee_ac = None })))

abbrev step : Setup → Call → ℕ → History → History
step S c now h = record { call = c; at = now; caller = 0; reply = reply_to S h c now; sent = sent_by S h c now } ∷ h

abbrev h1 : History
h1 = step S pay 0 []

abbrev h2 : History
h2 = step S yes_call 1 h1

abbrev h3 : History
h3 = step S (Call.Deliver 2) 2 h2

legal1 : Legal S h1
unfolding reply_to sent_by
legal1 = (tt, record { comes = refl; replied = refl; sends = refl })

legal2 : Legal S h2
unfolding reply_to sent_by
legal2 = (legal1, record { comes = refl; replied = refl; sends = refl })

legal3 : Legal S h3
unfolding reply_to sent_by
legal3 = (legal2, record { comes = refl; replied = refl; sends = refl })

-- the shard of the payer's account keeps the debit, and its balance
kept_debit : kept_answer (own_kept S (own_deeds (Owner.Accounts (account_shard ac1)) h3)) t Leg.Debit ≡ Some Answer.Posted
unfolding reply_to sent_by
kept_debit = refl

kept_left : ◌≡◌ {A = ℕ} (kept_balance (own_kept S (own_deeds (Owner.Accounts (account_shard ac1)) h3)) acc1) 1
unfolding reply_to sent_by
kept_left = refl

global_left : ◌≡◌ {A = ℕ} (balance S acc1 h3) 1
unfolding reply_to sent_by
global_left = refl

-- that delivery moves 1 from the payer's account, and nothing at the payee's
moved_here : ◌≡◌ {A = ℕ} (moved_with S (record { call = Call.Deliver 2; at = 2; caller = 0; reply = reply_to S h2 (Call.Deliver 2) 2; sent = sent_by S h2 (Call.Deliver 2) 2 }) h2 ac1 Leg.Debit) 1
unfolding reply_to sent_by
moved_here = refl

moved_there : ◌≡◌ {A = ℕ} (moved_with S (record { call = Call.Deliver 2; at = 2; caller = 0; reply = reply_to S h2 (Call.Deliver 2) 2; sent = sent_by S h2 (Call.Deliver 2) 2 }) h2 ac2 Leg.Debit) 0
unfolding reply_to sent_by
moved_there = refl

-- after the opening its answer is due 30 seconds later
due_then : due_list S h1 30 ≡ (30, t) ∷ []
unfolding reply_to sent_by
due_then = refl

due_before_then : due_list S h1 29 ≡ []
unfolding reply_to sent_by
due_before_then = refl
