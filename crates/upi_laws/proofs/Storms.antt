-- Losses and repeats change nothing.
use Rattle.std.proofs.Common.{◌≡◌, ℕ, Bool, true, false, cond, List, [], ◌∷◌, ◌++◌, Option, Some, None, refl, sym, ◌∙◌, ap, subst, inl, inr, eqb-true}
use Rattle.std.specs.Prelude.{is_some, ◌&&◌, ◌||◌}
use Rattle.std.specs.Option.{option_or, option_and_then, option_map}
use Rattle.std.specs.List.{sum_by}
use Rattle.std.specs.Str.{bytes_eq}
use Rattle.std.proofs.lemmas.Bool.{and_parts, or_cases as either_true}
use Rattle.std.proofs.lemmas.Slice.Eq.{bytes_eq-Decides}
use Rattle.upi_words.specs.Prelude.{Entry, Call, Sent, Body, Leg, Code, Answer, Outcome, Event, Opening, LegEnd, Setup, History, Text, is_closed, event_of, opened, debit, credit, reversal, is_posted, Legal}
use Rattle.upi_base.specs.Lists.{when, joined}
use Rattle.upi_model.specs.History.{delivered, read_message, message_at, is_close}
use Rattle.upi_model.specs.Places.{opens, decides_on, end_told, ends_on, due_debit, due_credit, reverses_on}
use Rattle.upi_model.specs.Postings.{Answers, amount_of, in_flight, balance_by, reversal_due, answer}
use Rattle.upi_model.specs.Dues.{acknowledges}
use Rattle.upi_model.specs.Standing.{Standing, standing, sendings, shard_opened, outcome_on, cause_on, due_on, advance}
use Rattle.upi_model.specs.Replies.{order_answer}
use Rattle.upi_model.specs.Sending.{anew, sent_on_opening, sent_on_decision, sent_on_debit, sent_on_credit, sent_on_reversal, sent_at_places, answers_to}
use Rattle.upi_model.specs.Owners.{message_of}
use Rattle.upi_model.specs.Own.{delivered_with}
use Rattle.upi_model.specs.Legal.{names_known, has_room}
use Rattle.upi_laws.specs.LegLaws.{has_ended}
use Rattle.upi_laws.specs.BalanceLaws.{IsNoFirstArrival}
use Rattle.upi_laws.specs.StormLaws.{delivers, was_delivered, is_of_leg, carries_leg, is_storm, IsSpent, NothingMoves, StormLaws}
use Rattle.upi_base.proofs.Options.{some_same, some_is, is_some_has, or_first, or_none, or_nothing, guard_none, then_none}
use Rattle.upi_model.proofs.Stays.{debit_stays, credit_stays, reversal_stays, answer_stays}
use Rattle.upi_model.proofs.Fronts.{messages_stay}
use Rattle.upi_model.proofs.Beginnings.{legal_before}
use Rattle.upi_model.proofs.Openings.{or_false, opening_is_named}
use Rattle.upi_model.proofs.Standing.{standing_on, sendings_on}
use Rattle.upi_model.proofs.Happenings.{advance_other}
use Rattle.upi_laws.proofs.Closing.{is_close_event, close_event}
use Rattle.upi_laws.proofs.Once.{same_answers, arrives_is, order_arrives, arrives_answered}
use Rattle.upi_laws.proofs.Deliveries.{answers_end}
use Rattle.upi_laws.proofs.Local.{IsSilent, silent_append, silent_answers, silent_sending, sent_in, sent_global}

-- ---- a bank's answer for a leg that has ended

-- how a leg of the transaction has ended, if it has
abbrev ended_on : Standing → Leg → Bool
ended_on s Leg.Debit = is_some s.debit_end
ended_on s Leg.Credit = is_some s.credit_end
ended_on s Leg.Reversal = is_some s.reversal_end

-- it leaves the transaction as it stood
module _ (S : Setup) (t : Text) (room : ℕ) (s : Standing) (u : Text) (a : Answer) (now : ℕ) where
  other_tells : (b : Bool) → ◌≡◌ {A = Option Answer} (when (b && false) a) None
  other_tells true = refl
  other_tells false = refl

  no_end : (l m : Leg) (due : Option ℕ) → ((k : ℕ) → ends_on t l (Event.Answered u m a) now k ≡ None) → (o : Option LegEnd) → option_or o (cond false None (option_and_then (ends_on t l (Event.Answered u m a) now) due)) ≡ o
  no_end l m due quiet o = or_nothing o _ (then_none (ends_on t l (Event.Answered u m a) now) due (λ k _. quiet k))

  quiet_decision : (l : Leg) → option_or s.decision (option_and_then (λ (o : Opening). decides_on S o (Event.Answered u l a) now) s.opening) ≡ s.decision
  quiet_decision l = or_nothing s.decision _ (then_none (λ (o : Opening). decides_on S o (Event.Answered u l a) now) s.opening (λ o _. refl))

  quiet_acknowledges : (l : Leg) (o : Option Opening) (x : Option Outcome) → acknowledges o x (Event.Answered u l a) now ≡ None
  quiet_acknowledges l None x = refl
  quiet_acknowledges l (Some o) None = refl
  quiet_acknowledges l (Some o) (Some x) = refl

  debit_same : (l : Leg) → ended_on s l ≡ true → option_or s.debit_end (option_and_then (ends_on t Leg.Debit (Event.Answered u l a) now) (due_debit s.decision)) ≡ s.debit_end
  debit_same Leg.Debit e = or_first s.debit_end _ e
  debit_same Leg.Credit e = no_end Leg.Debit Leg.Credit (due_debit s.decision) (λ k. ap (option_map (end_told now)) (other_tells (bytes_eq u t))) s.debit_end
  debit_same Leg.Reversal e = no_end Leg.Debit Leg.Reversal (due_debit s.decision) (λ k. ap (option_map (end_told now)) (other_tells (bytes_eq u t))) s.debit_end

  credit_same : (l : Leg) → ended_on s l ≡ true → option_or s.credit_end (option_and_then (ends_on t Leg.Credit (Event.Answered u l a) now) (due_credit s.debit_end)) ≡ s.credit_end
  credit_same Leg.Credit e = or_first s.credit_end _ e
  credit_same Leg.Debit e = no_end Leg.Credit Leg.Debit (due_credit s.debit_end) (λ k. ap (option_map (end_told now)) (other_tells (bytes_eq u t))) s.credit_end
  credit_same Leg.Reversal e = no_end Leg.Credit Leg.Reversal (due_credit s.debit_end) (λ k. ap (option_map (end_told now)) (other_tells (bytes_eq u t))) s.credit_end

  reversal_same : (l : Leg) → ended_on s l ≡ true → option_or s.reversal_end (option_and_then (λ (c : Code). reverses_on t (Event.Answered u l a) now) (cause_on s)) ≡ s.reversal_end
  reversal_same Leg.Reversal e = or_first s.reversal_end _ e
  reversal_same Leg.Debit e = or_nothing s.reversal_end _ (then_none (λ (c : Code). reverses_on t (Event.Answered u Leg.Debit a) now) (cause_on s) (λ c _. ap (option_map (λ (a : Answer). now)) (other_tells (bytes_eq u t))))
  reversal_same Leg.Credit e = or_nothing s.reversal_end _ (then_none (λ (c : Code). reverses_on t (Event.Answered u Leg.Credit a) now) (cause_on s) (λ c _. ap (option_map (λ (a : Answer). now)) (other_tells (bytes_eq u t))))

  ended_stands : (l : Leg) → ended_on s l ≡ true → advance S t room false s (Event.Answered u l a) now ≡ s
  ended_stands l e = λ i. record {
    opening = or_none s.opening i;
    decision = quiet_decision l i;
    debit_end = debit_same l e i;
    credit_end = credit_same l e i;
    reversal_end = reversal_same l e i;
    acknowledged = or_nothing s.acknowledged _ (quiet_acknowledges l s.opening (outcome_on s)) i;
  }

-- ---- an event that has come already

ended_is : (S : Setup) (h : History) (t : Text) (l : Leg) → ended_on (standing S t h) l ≡ has_ended S h t l
ended_is S h t Leg.Debit = refl
ended_is S h t Leg.Credit = refl
ended_is S h t Leg.Reversal = refl

spent_open : (S : Setup) (h : History) (v : Event) → IsSpent S h v → is_close_event v ≡ false
spent_open S h Event.Lost p = refl
spent_open S h Event.Told p = refl
spent_open S h (Event.Ordered t l) p = refl
spent_open S h (Event.Answered t l a) p = refl
spent_open S h (Event.Heard q what) p = absurd p
spent_open S h Event.Unread p = absurd p
spent_open S h (Event.Late t) p = absurd p
spent_open S h Event.Close p = absurd p

spent_opens : (S : Setup) (h : History) (os : List Opening) (closed : Bool) (v : Event) (now : ℕ) → IsSpent S h v → opens S os closed v now ≡ None
spent_opens S h os closed Event.Lost now p = guard_none closed _ refl
spent_opens S h os closed Event.Told now p = guard_none closed _ refl
spent_opens S h os closed (Event.Ordered t l) now p = guard_none closed _ refl
spent_opens S h os closed (Event.Answered t l a) now p = guard_none closed _ refl
spent_opens S h os closed (Event.Heard q what) now p = absurd p
spent_opens S h os closed Event.Unread now p = absurd p
spent_opens S h os closed (Event.Late t) now p = absurd p
spent_opens S h os closed Event.Close now p = absurd p

-- every transaction stands as it stood
spent_stands : (S : Setup) (h : History) (t : Text) (v : Event) (now : ℕ) → IsSpent S h v → advance S t (shard_opened S t h) false (standing S t h) v now ≡ standing S t h
spent_stands S h t Event.Lost now p = advance_other S t (shard_opened S t h) false (standing S t h) Event.Lost now (λ o is. opening_is_named S t h o is) refl
spent_stands S h t Event.Told now p = advance_other S t (shard_opened S t h) false (standing S t h) Event.Told now (λ o is. opening_is_named S t h o is) refl
spent_stands S h t (Event.Ordered u l) now p = advance_other S t (shard_opened S t h) false (standing S t h) (Event.Ordered u l) now (λ o is. opening_is_named S t h o is) refl
spent_stands S h t (Event.Answered u l a) now p = go (bytes_eq u t) refl
  where
    go : (b : Bool) → bytes_eq u t ≡ b → advance S t (shard_opened S t h) false (standing S t h) (Event.Answered u l a) now ≡ standing S t h
    go false away = advance_other S t (shard_opened S t h) false (standing S t h) (Event.Answered u l a) now (λ o is. opening_is_named S t h o is) away
    go true own =
        ended_stands S t (shard_opened S t h) (standing S t h) u a now l
        (ended_is S h t l ∙ subst (λ (w : Text). has_ended S h w l ≡ true) ((bytes_eq-Decides u t).0 own) p)
spent_stands S h t (Event.Heard q what) now p = absurd p
spent_stands S h t Event.Unread now p = absurd p
spent_stands S h t (Event.Late u) now p = absurd p
spent_stands S h t Event.Close now p = absurd p

-- what didn't come anew sends nothing
anew_same : {X : Type 0} (o : Option X) → anew o o ≡ None
anew_same None = refl
anew_same (Some x) = refl

same_places : (S : Setup) (s : Standing) (o : Option Opening) → sent_at_places S s s o ≡ []
same_places S s None = refl
same_places S s (Some o) = λ i.
    sent_on_opening (anew_same s.opening i)
    ++ sent_on_decision S o.terms (outcome_on s) (anew_same s.decision i)
    ++ sent_on_debit S o.terms (outcome_on s) (anew_same s.debit_end i)
    ++ sent_on_credit S o.terms (outcome_on s) (anew_same s.credit_end i)
    ++ sent_on_reversal o.terms (outcome_on s) (anew_same s.reversal_end i)

-- no reversal is ordered, and no outcome confirmed
spent_silent : (S : Setup) (h : History) (t : Text) (says : Answers) (m : Option Sent) (v : Event) (now : ℕ) → IsSpent S h v → IsSilent t (sent_in S h says m v now)
spent_silent S h t says m Event.Lost now p = silent_answers S t says m
spent_silent S h t says m Event.Told now p = silent_answers S t says m
spent_silent S h t says m (Event.Ordered u l) now p = silent_answers S t says m
spent_silent S h t says m (Event.Answered u l a) now p =
    let s = standing S u h in
    let next = advance S u (shard_opened S u h) false s (Event.Answered u l a) now in
    let none : sent_at_places S s next next.opening ≡ [] = ap (λ (x : Standing). sent_at_places S s x x.opening) (spent_stands S h u (Event.Answered u l a) now p) ∙ same_places S s s.opening in
    silent_append t (sent_at_places S s next next.opening) (answers_to S says m) (subst (IsSilent t) (sym none) tt) (silent_answers S t says m)
spent_silent S h t says m (Event.Heard q what) now p = absurd p
spent_silent S h t says m Event.Unread now p = absurd p
spent_silent S h t says m (Event.Late u) now p = absurd p
spent_silent S h t says m Event.Close now p = absurd p

-- and no leg first arrives
spent_arrives : (S : Setup) (e : Entry) (h : History) → IsSpent S h (event_of h e.call) → IsNoFirstArrival S e h
spent_arrives S e h p t l is = elim (arrives_is t l (is_closed h) (reversal_due S t h) (event_of h e.call) is).1 [
  | inl ordered ↦ subst (IsSpent S h) ordered p
  | inr closes ↦ absurd (subst (IsSpent S h) closes.0 p)
]

pub spent_pass : (S : Setup) (e : Entry) (h : History) → Legal S (e ∷ h) → is_closed h ≡ false → IsSpent S h (event_of h e.call) → NothingMoves S e h
spent_pass S e h legal run p = record {
  outcomes_same = λ t. ap outcome_on (stands t);
  dues_same = λ t i. due_on (shut i) (stands t i) (sendings_same t i);
  moved_same = λ t l i. cond (is_posted (answers i t l)) (amount_of (stands t i).opening) 0;
  balances_same = λ a i. balance_by S (opened_now i) (answers i) a;
  flight_same = λ i. sum_by (λ (o : Opening). in_flight (answers i o.terms.txn Leg.Debit) (answers i o.terms.txn Leg.Credit) (answers i o.terms.txn Leg.Reversal) o.terms) (opened_now i);
  opened_same = opened_now;
  standings_same = stands;
  answers_same = λ t l i. answers i t l;
}
  where
    shut : is_closed (e ∷ h) ≡ is_closed h
    shut = ap (λ (b : Bool). b || is_closed h) (sym (close_event h e.call) ∙ spent_open S h (event_of h e.call) p)

    opened_now : opened S (e ∷ h) ≡ opened S h
    opened_now = ap (joined (opened S h)) (spent_opens S h (opened S h) (is_closed h) (event_of h e.call) e.at p)

    stands : (t : Text) → standing S t (e ∷ h) ≡ standing S t h
    stands t = standing_on S t e h ∙ (ap (λ (b : Bool). advance S t (shard_opened S t h) b (standing S t h) (event_of h e.call) e.at) run ∙ spent_stands S h t (event_of h e.call) e.at p)

    silent : (t : Text) → IsSilent t e.sent
    silent t = subst (IsSilent t) (sym (legal.1.sends ∙ sent_global S h e.call e.at run)) (spent_silent S h t (order_answer S h) (delivered_with (message_of h e.call) e.call) (event_of h e.call) e.at p)

    sendings_same : (t : Text) → sendings t (e ∷ h) ≡ sendings t h
    sendings_same t = sendings_on t e h ∙ silent_sending S t (sendings t h) e.at e.sent (silent t)

    answers : answer S (e ∷ h) ≡ answer S h
    answers = same_answers S e h (spent_arrives S e h p)

-- ---- a second delivery

-- where message n was delivered before
record DeliveredAt (h : History) (n : ℕ) : Type 0 where
  later : History
  entry : Entry
  before : History
  splits : later ++ entry ∷ before ≡ h
  delivers_it : entry.call ≡ Call.Deliver n

delivers_is : (n : ℕ) (c : Call) → delivers n c ≡ true → c ≡ Call.Deliver n
delivers_is n (Call.Deliver m) e = ap Call.Deliver (eqb-true m n e)
delivers_is n (Call.Hear p what) e = absurd cc
delivers_is n (Call.Lose m) e = absurd cc
delivers_is n (Call.Late t) e = absurd cc
delivers_is n Call.Close e = absurd cc

delivered_at : (h : History) (n : ℕ) → was_delivered h n ≡ true → DeliveredAt h n
delivered_at [] n is = absurd cc
delivered_at (e ∷ h) n is = elim (either_true (delivers n e.call) (was_delivered h n) is) [
  | inl now ↦ record { later = []; entry = e; before = h; splits = refl; delivers_it = delivers_is n e.call now }
  | inr old ↦ let d = delivered_at h n old in record { later = e ∷ d.later; entry = d.entry; before = d.before; splits = ap (λ (k : History). e ∷ k) d.splits; delivers_it = d.delivers_it }
]

running_before : (later h : History) → is_closed (later ++ h) ≡ false → is_closed h ≡ false
running_before [] h run = run
running_before (e ∷ later) h run = running_before later h (or_false (is_close e.call) (is_closed (later ++ h)) run).1

ended_stays : (S : Setup) (later h : History) (t : Text) (l : Leg) → has_ended S h t l ≡ true → has_ended S (later ++ h) t l ≡ true
ended_stays S later h t Leg.Debit is = let d = is_some_has (debit S t h) is in some_is (debit S t (later ++ h)) d.0 (debit_stays S t later h d.0 d.1)
ended_stays S later h t Leg.Credit is = let d = is_some_has (credit S t h) is in some_is (credit S t (later ++ h)) d.0 (credit_stays S t later h d.0 d.1)
ended_stays S later h t Leg.Reversal is = let d = is_some_has (reversal S t h) is in some_is (reversal S t (later ++ h)) d.0 (reversal_stays S t later h d.0 d.1)

-- the same message, as it was delivered then: what it brings now came then
module _ (S : Setup) (h : History) (n : ℕ) (s : Sent) (legal : Legal S h) (run : is_closed h ≡ false) (has : message_at h n ≡ Some s) (d : DeliveredAt h n) where
  legal_then : Legal S (d.entry ∷ d.before)
  legal_then = legal_before S d.later (d.entry ∷ d.before) (subst (Legal S) (sym d.splits) legal)

  running_then : is_closed d.before ≡ false
  running_then = (or_false (is_close d.entry.call) (is_closed d.before) (running_before d.later (d.entry ∷ d.before) (ap is_closed d.splits ∙ run))).1

  had : message_at d.before n ≡ Some s
  had =
      let known : names_known S d.before d.entry.call ≡ true = (and_parts (names_known S d.before d.entry.call) (has_room d.before d.entry.call) legal_then.1.comes).0 in
      let m = is_some_has (message_at d.before n) (ap (names_known S d.before) (sym d.delivers_it) ∙ known) in
      let stays = messages_stay d.later (d.entry ∷ d.before) n m.0 (messages_stay (d.entry ∷ []) d.before n m.0 m.1) in
      let same : m.0 ≡ s = some_same m.0 s (sym stays ∙ (ap (λ (k : History). message_at k n) d.splits ∙ has)) in
      m.1 ∙ ap Some same

  event_then : (v : Event) → delivered s.from s.body ≡ v → event_of d.before d.entry.call ≡ v
  event_then v is = ap (event_of d.before) d.delivers_it ∙ (ap read_message had ∙ is)

  repeat_spent : (b : Body) → s.body ≡ b → is_of_leg b ≡ true → IsSpent S h (delivered s.from b)
  repeat_spent (Body.Order t l amount ac addr extra) is of =
      let v = event_then (Event.Ordered t l) (ap (delivered s.from) is) in
      let a = arrives_answered S d.entry d.before t l (order_arrives t l (is_closed d.before) (reversal_due S t d.before) (event_of d.before d.entry.call) running_then v) in
      subst (λ (k : History). is_some (answer S k t l) ≡ true) d.splits (some_is _ a.0 (answer_stays S t l d.later (d.entry ∷ d.before) a.0 a.1))
  repeat_spent (Body.LegAnswer t l a) is of =
      let v = event_then (Event.Answered t l a) (ap (delivered s.from) is) in
      let ended = answers_end S d.before d.entry t l a legal_then.0 running_then v in
      subst (λ (k : History). has_ended S k t l ≡ true) d.splits (ended_stays S d.later (d.entry ∷ d.before) t l ended)
  repeat_spent (Body.ReqAuth q) is of = absurd cc
  repeat_spent (Body.RespAuth t amount word) is of = absurd cc
  repeat_spent (Body.Result t k x m) is of = absurd cc
  repeat_spent (Body.Confirm t k x) is of = absurd cc
  repeat_spent (Body.Confirmed t) is of = absurd cc

storm_spent : (S : Setup) (h : History) (c : Call) → Legal S h → is_closed h ≡ false → is_storm h c ≡ true → IsSpent S h (event_of h c)
storm_spent S h (Call.Lose n) legal run is = tt
storm_spent S h (Call.Deliver n) legal run is =
    let p = and_parts (was_delivered h n) (carries_leg (message_at h n)) is in go (delivered_at h n p.0) (message_at h n) refl p.1
  where
    go : DeliveredAt h n → (m : Option Sent) → message_at h n ≡ m → carries_leg m ≡ true → IsSpent S h (read_message m)
    go d None has of = absurd cc
    go d (Some s) has of = repeat_spent S h n s legal run has d s.body refl of
storm_spent S h (Call.Hear p what) legal run is = absurd cc
storm_spent S h (Call.Late t) legal run is = absurd cc
storm_spent S h Call.Close legal run is = absurd cc

pub storm_laws : StormLaws
storm_laws = record {
  storms_pass = λ S e h legal run storm. spent_pass S e h legal run (storm_spent S h e.call legal.0 run storm);
  spent_pass = spent_pass;
}
