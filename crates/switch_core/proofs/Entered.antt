-- The entry of an accepted call, and the history with it.
use Rattle.std.proofs.Common.{◌≡◌, ℕ, Bool, true, false, [], ◌∷◌, List, Option, refl, sym, ap, subst, ◌∙◌}
use Rattle.std.specs.Prelude.{◌||◌}
use Rattle.upi_words.specs.Prelude.{Call, Entry, Event, Reply, Sent, Setup, History, Legal, is_closed}
use Rattle.upi_model.specs.Owners.{message_of}
use Rattle.upi_model.specs.History.{is_close}
use Rattle.upi_model.specs.Legal.{entry_of, may_come}
use Rattle.upi_model.specs.Postings.{Answers}
use Rattle.upi_model.specs.Replies.{order_answer, reply_by, reply_running, reply_to}
use Rattle.upi_model.specs.Sending.{sent_by}
use Rattle.upi_model.specs.Standing.{Standing, is_due_on, sendings, shard_opened, standing}
use Rattle.upi_laws.proofs.Gathered.{close_laws}
use Rattle.core_shards.specs.declared.step.{Step.Step}
use Rattle.core_shards.specs.Steps.{IsDefined, IsStepOf, reply_of, sent_of, without_sent}
use Rattle.core_shards.proofs.Gathered.{core_laws}
use Rattle.core_shards.specs.Tables.{StandsAll, Tables}
use Rattle.switch_core.specs.Calls.{IsSwitch}

-- what stands for a history is a switch
pub is_switch : (h : History) (v : Tables) → StandsAll h v → IsSwitch (record { setup = v.lines; history = h })
is_switch h v all = record { accepted = all.accepted; legal = all.legal }

-- the entry of a call that may come is legal
pub made : (h : History) (v : Tables) (c : Call) (now : ℕ) → StandsAll h v → may_come v.lines h c ≡ true → Legal v.lines (entry_of v.lines h 0 c now ∷ h)
made h v c now all comes = (all.legal, record { comes = comes; replied = refl; sends = refl })

-- an entry of caller 0
abbrev pub entry : Call → ℕ → Reply → List Sent → Entry
entry c now r s = record { call = c; at = now; caller = 0; reply = r; sent = s }

-- what was planned makes the entry of the definitions
pub planned_entry : (S : Setup) (h : History) (c : Call) (now : ℕ) (x : Step) (r : Reply) (s : List Sent) → IsDefined S h c now x → r ≡ reply_of x → s ≡ sent_of x → entry c now r s ≡ entry_of S h 0 c now
planned_entry S h c now x r s k rs ss = λ i. entry c now ((rs ∙ k.replies) i) ((ss ∙ k.sends) i)

-- ---- a call before a Close

pub still_open : (h : History) (c : Call) → is_closed h ≡ false → is_close c ≡ false → (is_close c || is_closed h) ≡ false
still_open h c run other = λ i. other i || run i

-- ---- the Close

pub close_is : (c : Call) → is_close c ≡ true → Call.Close ≡ c
close_is Call.Close is = refl
close_is (Call.Hear p what) is = absurd cc
close_is (Call.Deliver n) is = absurd cc
close_is (Call.Lose n) is = absurd cc
close_is (Call.Late t) is = absurd cc

runs_on : (S : Setup) (room : ℕ) (says : Answers) (due closed : Bool) (s : Standing) (e : Event) (now : ℕ) → closed ≡ false → reply_by S room says due closed s e now ≡ reply_running S room says due s e now
runs_on S room says due false s e now run = refl
runs_on S room says due true s e now run = absurd cc

closed_reply : (S : Setup) (h : History) (now : ℕ) → is_closed h ≡ false → Reply.Closed ≡ reply_to S h Call.Close now
unfolding reply_to
closed_reply S h now run = sym (runs_on S (shard_opened S [] h) (order_answer S h) (is_due_on (is_closed h) (standing S [] h) (sendings [] h) now) (is_closed h) (standing S [] h) Event.Close now run)

pub close_reply : (S : Setup) (h : History) (c : Call) (now : ℕ) → is_closed h ≡ false → is_close c ≡ true → Reply.Closed ≡ reply_to S h c now
close_reply S h c now run is = subst (λ (c : Call). Reply.Closed ≡ reply_to S h c now) (close_is c is) (closed_reply S h now run)

-- with a Close the history is closed
closed_by : (a b : Bool) → a ≡ true → (a || b) ≡ true
closed_by true b is = refl
closed_by false b is = absurd cc

closed_before : (a b : Bool) → b ≡ true → (a || b) ≡ true
closed_before a true is = is_any a
  where
    is_any : (a : Bool) → (a || true) ≡ true
    is_any true = refl
    is_any false = refl
closed_before a false is = absurd cc

-- nothing is sent at a Close, nor after one
pub close_silent : (h : History) (v : Tables) (c : Call) (now : ℕ) → StandsAll h v → may_come v.lines h c ≡ true → is_close c ≡ true → [] ≡ sent_by v.lines h c now
close_silent h v c now all comes is = sym (close_laws.silent v.lines (entry_of v.lines h 0 c now) h (made h v c now all comes) (closed_by (is_close c) (is_closed h) is))

pub shut_silent : (h : History) (v : Tables) (c : Call) (now : ℕ) → StandsAll h v → may_come v.lines h c ≡ true → is_closed h ≡ true → [] ≡ sent_by v.lines h c now
shut_silent h v c now all comes shut = sym (close_laws.silent v.lines (entry_of v.lines h 0 c now) h (made h v c now all comes) (closed_before (is_close c) (is_closed h) shut))

-- the entry of a reply and no messages
pub silent_entry : (S : Setup) (h : History) (c : Call) (now : ℕ) (r : Reply) (s : List Sent) → r ≡ reply_to S h c now → s ≡ sent_by S h c now → entry c now r s ≡ entry_of S h 0 c now
silent_entry S h c now r s rs ss = λ i. entry c now (rs i) (ss i)

-- ---- the tables with the entry

-- after a planned call
pub entered : (h more : History) (v mid w : Tables) (c : Call) (now : ℕ) (x y : Step) (m : Option Sent) → StandsAll h v → may_come v.lines h c ≡ true → is_closed h ≡ false → is_close c ≡ false
    → mid.lines ≡ v.lines → StandsAll h mid → m ≡ message_of h c → IsStepOf mid c m now x → y ≡ without_sent x
    → ((h : History) (e : Entry) (x : Step) → without_sent x ≡ without_sent y → StandsAll h mid → is_closed (e ∷ h) ≡ false → Legal mid.lines (e ∷ h) → IsStepOf mid e.call (message_of h e.call) e.at x → StandsAll (e ∷ h) w)
    → more ≡ entry_of v.lines h 0 c now ∷ h → StandsAll more w
entered h more v mid w c now x y m all comes run other lines stands has step taken commits is =
    let e : Entry = entry_of v.lines h 0 c now in
    subst (λ (k : History). StandsAll k w) (sym is)
    (commits h e x (core_laws.taken_once x ∙ ap without_sent (sym taken)) stands (still_open h c run other) (subst (λ (S : Setup). Legal S (e ∷ h)) (sym lines) (made h v c now all comes)) (subst (λ (o : Option Sent). IsStepOf mid c o now x) has step))

-- after the Close
pub closed_on : (h more : History) (v mid w : Tables) (c : Call) (now : ℕ) → StandsAll h v → may_come v.lines h c ≡ true → is_closed h ≡ false → is_close c ≡ true → mid.lines ≡ v.lines → StandsAll h mid
    → ((h : History) (e : Entry) → StandsAll h mid → is_closed h ≡ false → e.call ≡ Call.Close → Legal mid.lines (e ∷ h) → StandsAll (e ∷ h) w)
    → more ≡ entry_of v.lines h 0 c now ∷ h → StandsAll more w
closed_on h more v mid w c now all comes run close lines stands commits is =
    let e : Entry = entry_of v.lines h 0 c now in
    subst (λ (k : History). StandsAll k w) (sym is) (commits h e stands run (sym (close_is c close)) (subst (λ (S : Setup). Legal S (e ∷ h)) (sym lines) (made h v c now all comes)))

-- after a call behind it
pub rests_on : (h more : History) (v : Tables) (c : Call) (now : ℕ) → StandsAll h v → may_come v.lines h c ≡ true → is_closed h ≡ true → more ≡ entry_of v.lines h 0 c now ∷ h → StandsAll more v
rests_on h more v c now all comes shut is = subst (λ (k : History). StandsAll k v) (sym is) (core_laws.rests h (entry_of v.lines h 0 c now) v all shut (made h v c now all comes))
