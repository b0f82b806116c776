-- Orders, answers and legs: the laws.
use Rattle.std.specs.Prelude.{Some, false, true, ◌≡◌, ◌∷◌, Bool, is_some, Option, None, ◌⊎◌, ℕ}
use Rattle.upi_words.specs.Prelude.{Setup, History, Call, Text, Leg, Legal, event_of, Event, Answer, Entry, Sent, Body, Account, Opening, is_closed, opening, decision, debit, credit, reversal, Decision, LegEnd, cause}
use Rattle.upi_model.specs.History.{message_at}
use Rattle.upi_model.specs.Dues.{orders}
use Rattle.upi_base.specs.Setup.{account_at}
use Rattle.upi_model.specs.Postings.{posted_at, answer}
use Rattle.upi_model.specs.Sending.{order, order_at}
use Rattle.upi_model.specs.Replies.{order_answer}
use Rattle.upi_laws.specs.Backed.{OrderPlaced}

-- the leg has ended for the switch
abbrev pub has_ended : Setup → History → Text → Leg → Bool
has_ended S h t Leg.Debit = is_some (debit S t h)
has_ended S h t Leg.Credit = is_some (credit S t h)
has_ended S h t Leg.Reversal = is_some (reversal S t h)

-- after which place a leg is answered: for the reversal also where the close ended the debit
abbrev pub AnswerPlaced : Setup → History → Text → Leg → Type 0
AnswerPlaced S h t Leg.Debit = (at : ℕ) × (decision S t h ≡ Some (Decision.Yes at))
AnswerPlaced S h t Leg.Credit = (at : ℕ) × (debit S t h ≡ Some (LegEnd.Posted at))
AnswerPlaced S h t Leg.Reversal = (is_some (cause S t h) ≡ true) ⊎ (debit S t h ≡ Some LegEnd.Close)

-- how a leg was answered that ended so
abbrev pub EndAnswered : Option Answer → LegEnd → Type 0
EndAnswered a (LegEnd.Posted at) = a ≡ Some Answer.Posted
EndAnswered a (LegEnd.Declined c) = a ≡ Some (Answer.Declined c)
EndAnswered a LegEnd.Late = Unit {0}
EndAnswered a LegEnd.Close = Unit {0}

-- what the ends of the legs say of their answers, and their answers of the ends before them
pub record LegsAreAnswered (S : Setup) (t : Text) (h : History) : Type 0 where
  pub placed : (l : Leg) (a : Answer) → answer S h t l ≡ Some a → AnswerPlaced S h t l
  pub debited : (d : LegEnd) → debit S t h ≡ Some d → EndAnswered (answer S h t Leg.Debit) d
  pub credited : (d : LegEnd) → credit S t h ≡ Some d → EndAnswered (answer S h t Leg.Credit) d
  pub reversed : (k : ℕ) → reversal S t h ≡ Some k → is_some (answer S h t Leg.Reversal) ≡ true
  -- where a Close ended the debit, the reversal was answered
  pub cut : debit S t h ≡ Some LegEnd.Close → is_some (answer S h t Leg.Reversal) ≡ true

-- the question's, the debit's, the credit's and the reversal's end that a transaction may have together
abbrev pub IsStage : Option Decision → Option LegEnd → Option LegEnd → Option ℕ → Type 0
IsStage None None None None = Unit {0}
IsStage (Some Decision.No) None None None = Unit {0}
IsStage (Some Decision.Late) None None None = Unit {0}
IsStage (Some Decision.Close) None None None = Unit {0}
IsStage (Some (Decision.Yes at)) None None None = Unit {0}
IsStage (Some (Decision.Yes at)) (Some (LegEnd.Declined c)) None None = Unit {0}
IsStage (Some (Decision.Yes at)) (Some LegEnd.Close) None None = Unit {0}
IsStage (Some (Decision.Yes at)) (Some LegEnd.Late) None back = Unit {0}
IsStage (Some (Decision.Yes at)) (Some (LegEnd.Posted k)) None None = Unit {0}
IsStage (Some (Decision.Yes at)) (Some (LegEnd.Posted k)) (Some (LegEnd.Declined c)) back = Unit {0}
IsStage (Some (Decision.Yes at)) (Some (LegEnd.Posted k)) (Some (LegEnd.Posted j)) None = Unit {0}
IsStage (Some (Decision.Yes at)) (Some (LegEnd.Posted k)) (Some LegEnd.Late) None = Unit {0}
IsStage (Some (Decision.Yes at)) (Some (LegEnd.Posted k)) (Some LegEnd.Close) None = Unit {0}
IsStage _ _ _ _ = ⊥

-- an order for the leg was sent
pub record WasOrdered (h : History) (t : Text) (l : Leg) : Type 0 where
  pub n : ℕ
  pub s : Sent
  pub was_sent : message_at h n ≡ Some s
  pub orders_it : orders t l s ≡ true

-- orders, answers and the ends of legs
pub record LegLaws : Type 0 where
  -- in a legal history an order arrives only after the place that orders it
  pub orders_placed : (S : Setup) (h : History) (c : Call) (t : Text) (l : Leg) → Legal S h → event_of h c ≡ Event.Ordered t l → OrderPlaced S h t l
  -- a bank has an answer to every order, on every list of entries
  pub orders_answered : (S : Setup) (h : History) (t : Text) (l : Leg) → (a : Answer) × (order_answer S h t l ≡ Some a)
  -- the order for a leg of an opened transaction is one message, to the bank of the account at which the leg is posted
  pub orders_are_one : (S : Setup) (h : History) (t : Text) (o : Opening) (l : Leg) → opening S t h ≡ Some o → (a : Account) × (account_at S (posted_at l o.terms) ≡ Some a) × (order S o.terms l ≡ order_at o.terms l (Some a))
  -- before a Close a leg that is answered was ordered, on every list of entries
  pub answered_ordered : (S : Setup) (h : History) (t : Text) (l : Leg) (a : Answer) → is_closed h ≡ false → answer S h t l ≡ Some a → WasOrdered h t l
  -- in a legal history all answers for a leg that were sent are the same
  pub answers_are_one : (S : Setup) (h : History) (n m : ℕ) (s r : Sent) (t : Text) (l : Leg) (a b : Answer) → Legal S h → message_at h n ≡ Some s → s.body ≡ Body.LegAnswer t l a
      → message_at h m ≡ Some r → r.body ≡ Body.LegAnswer t l b → a ≡ b
  -- in a legal history a bank's answer that arrives is the leg's
  pub answers_stand : (S : Setup) (h : History) (c : Call) (t : Text) (l : Leg) (a : Answer) → Legal S h → event_of h c ≡ Event.Answered t l a → answer S h t l ≡ Some a
  -- where a bank's answer arrives before a Close, the leg has then ended
  pub answers_end : (S : Setup) (h : History) (e : Entry) (t : Text) (l : Leg) (a : Answer) → Legal S h → is_closed h ≡ false → event_of h e.call ≡ Event.Answered t l a → has_ended S (e ∷ h) t l ≡ true
  -- in a legal history each end that names an answer names the leg's, and each answer stands on its leg's place
  pub legs_answered : (S : Setup) (t : Text) (h : History) → Legal S h → LegsAreAnswered S t h
  -- decision, debit, credit and reversal stand together only as the stages of a transaction
  pub stages : (S : Setup) (t : Text) (h : History) → IsStage (decision S t h) (debit S t h) (credit S t h) (reversal S t h)
