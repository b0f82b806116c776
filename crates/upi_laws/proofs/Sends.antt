-- The messages of a call, before a Close, at it and after it; and what is sent of an opened transaction by its standings.
use Rattle.std.proofs.Common.{◌≡◌, ℕ, Bool, true, false, cond, List, [], ◌∷◌, ◌++◌, Option, Some, refl, ◌∙◌}
use Rattle.upi_words.specs.Prelude.{Entry, Call, Sent, Event, Opening, Decision, LegEnd, Setup, History, Text, is_closed, event_of, opening, decision, debit, credit, reversal}
use Rattle.upi_model.specs.Dues.{acknowledged}
use Rattle.upi_model.specs.Standing.{Standing, standing, sendings, shard_opened, is_due_on, advance}
use Rattle.upi_model.specs.Replies.{txn_of, order_answer}
use Rattle.upi_model.specs.Sending.{sent_between, answers_to, delivered_by, sent_by}
use Rattle.upi_model.proofs.Standing.{standing_on}

-- what the switch sends with an entry, by how the transaction of its event stands before it and with it
abbrev pub sent_with : Setup → History → Entry → Event → List Sent
sent_with S h e v = sent_between S (is_due_on (is_closed h) (standing S (txn_of v) h) (sendings (txn_of v) h) e.at) (standing S (txn_of v) h) (standing S (txn_of v) (e ∷ h)) v

-- before a Close a call sends what the switch sends, and what the receiver of its message answers
pub sent_running : (S : Setup) (h : History) (e : Entry) → is_closed h ≡ false → sent_by S h e.call e.at ≡ sent_with S h e (event_of h e.call) ++ answers_to S (order_answer S h) (delivered_by h e.call)
unfolding sent_by
sent_running S h e run = λ i. cond (run i) [] (sent_with S h e (event_of h e.call) ++ answers_to S (order_answer S h) (delivered_by h e.call))

-- after a Close nothing is sent
pub sent_shut : (S : Setup) (h : History) (e : Entry) → is_closed h ≡ true → sent_by S h e.call e.at ≡ []
unfolding sent_by
sent_shut S h e shut = λ i. cond (shut i) [] (sent_with S h e (event_of h e.call) ++ answers_to S (order_answer S h) (delivered_by h e.call))

-- nor is anything at it
pub sent_closing : (S : Setup) (h : History) (now : ℕ) → sent_by S h Call.Close now ≡ []
unfolding sent_by
sent_closing S h now = either (is_closed h)
  where
    either : (b : Bool) → ◌≡◌ {A = List Sent} (cond b [] ([] ++ [])) []
    either true = refl
    either false = refl

-- how an opened transaction stands
abbrev pub at_stage : Opening → Option Decision → Option LegEnd → Option LegEnd → Option ℕ → Option ℕ → Standing
at_stage o a d c back heard = record { opening = Some o; decision = a; debit_end = d; credit_end = c; reversal_end = back; acknowledged = heard }

pub stage_is : (S : Setup) (t : Text) (h : History) (o : Opening) → opening S t h ≡ Some o → standing S t h ≡ at_stage o (decision S t h) (debit S t h) (credit S t h) (reversal S t h) (acknowledged S t h)
stage_is S t h o begun = λ i. record { opening = begun i; decision = decision S t h; debit_end = debit S t h; credit_end = credit S t h; reversal_end = reversal S t h; acknowledged = acknowledged S t h }

-- and how it stands with one entry more, before a Close
pub stage_on : (S : Setup) (t : Text) (e : Entry) (h : History) (o : Opening) (v : Event) → is_closed h ≡ false → event_of h e.call ≡ v → opening S t h ≡ Some o
    → standing S t (e ∷ h) ≡ advance S t (shard_opened S t h) false (at_stage o (decision S t h) (debit S t h) (credit S t h) (reversal S t h) (acknowledged S t h)) v e.at
stage_on S t e h o v run is begun = standing_on S t e h ∙ (λ i. advance S t (shard_opened S t h) (run i) (stage_is S t h o begun i) (is i) e.at)
