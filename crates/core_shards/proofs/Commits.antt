-- The tables stand for a history, and for the history with one entry more.
use Rattle.std.proofs.Common.{◌≡◌, ℕ, ◌≤◌, Bool, true, false, cond, List, [], ◌∷◌, map, Option, Some, None, refl, sym, ap, subst, ◌∙◌}
use Rattle.std.specs.Prelude.{◌||◌, is_some, nat_le, slice_get, length, IsSomeAnd}
use Rattle.std.specs.List.{count_by}
use Rattle.std.specs.Option.{option_and_then}
use Rattle.std.proofs.lemmas.Bool.{and_parts, or_parts, or_right}
use Rattle.upi_base.specs.Lists.{joined, when}
use Rattle.upi_base.specs.Setup.{is_setup}
use Rattle.upi_base.specs.Shards.{account_shard}
use Rattle.upi_words.specs.Prelude.{Call, Entry, Input, Leg, Opening, Order, Owner, Sent, Setup, History, Text, Legal, credit, debit, decision, flight, is_closed, opened, opening, outcome_of}
use Rattle.upi_model.specs.Accounts.{order_of}
use Rattle.upi_model.specs.DueList.{due_among, insert_due}
use Rattle.upi_model.specs.Dues.{acknowledged, confirms, due, due_by, due_confirm, last_sent, orders}
use Rattle.upi_model.specs.History.{is_close, message_at, sent}
use Rattle.upi_model.specs.Legal.{has_room, may_come}
use Rattle.upi_model.specs.Owners.{message_of, owner_of}
use Rattle.upi_model.specs.Places.{cause_by}
use Rattle.upi_laws.proofs.Accounts.{given_owner}
use Rattle.leg_post.specs.Posts.{Ledger}
use Rattle.account_shard.specs.Closing.{all_returns}
use Rattle.account_shard.specs.Shard.{IsPlanOf, IsPlanned, Plan}
use Rattle.bank_shards.specs.Banks.{StandAll, CanPostIn, CanTake, HasRoom, IsPlannedIn, with_messages, with_order, without_room}
use Rattle.bank_shards.specs.Flights.{FlightMoves}
use Rattle.bank_shards.specs.Histories.{orders_in}
use Rattle.bank_shards.proofs.Gathered.{bank_laws}
use Rattle.txn_shards.proofs.Histories.{owner_is_with}
use Rattle.bank_shards.proofs.Stands.{stand_same}
use Rattle.txn_row.specs.Rows.{Course}
use Rattle.txn_shard.specs.Rows.{Shard}
use Rattle.txn_shard.specs.Shard.{opened_by}
use Rattle.txn_shard.specs.declared.step.{Change.Change}
use Rattle.txn_shards.specs.Txns.{StandTxns, MakesIn, Placed, all_return, entries_in, name_of, rows_all, rows_with}
use Rattle.txn_shards.proofs.Gathered.{txn_laws}
use Rattle.core_shards.specs.declared.step.{Step.Step}
use Rattle.core_shards.specs.Steps.{CanClose, CanOrder, CanPlan, IsDefined, IsLegOf, IsStep, without_sent}
use Rattle.core_shards.specs.Tables.{IsSame, Names, StandsAll, Tables}

-- what changes nothing but room leaves the tables standing
pub same_stands : (h : History) (old new : Tables) → IsSame old new → StandsAll h old → StandsAll h new
same_stands h old new same all = record {
  accepted = subst (λ (S : Setup). is_setup S ≡ true) (sym same.lines) all.accepted;
  legal = subst (λ (S : Setup). Legal S h) (sym same.lines) all.legal;
  txns_stand = subst (λ (S : Setup). StandTxns S (entries_in h) (rows_all new.txns)) (sym same.lines) (subst (λ (rss : List (List Course)). StandTxns old.lines (entries_in h) rss) (sym same.txns) all.txns_stand);
  banks_stand = subst (λ (S : Setup). StandAll S (orders_in S h) new.banks) (sym same.lines) (stand_same old.lines (orders_in old.lines h) old.banks new.banks same.banks all.banks_stand);
  names_are = same.names ∙ all.names_are ∙ ap (λ (S : Setup). map name_of (opened S h)) (sym same.lines);
  flight_is = same.flight ∙ all.flight_is ∙ ap (λ (S : Setup). flight S h) (sym same.lines);
  closed_is = same.closed ∙ all.closed_is;
}

-- only room of shards of transactions changed
pub txns_same : (v old : Tables) (txns : List Shard) → v ≡ old → rows_all txns ≡ rows_all v.txns → IsSame old (record { lines = v.lines; txns = txns; banks = v.banks; opened = v.opened; flight = v.flight; closed = v.closed })
txns_same v old txns is rows =
    subst (λ (o : Tables). IsSame o (record { lines = v.lines; txns = txns; banks = v.banks; opened = v.opened; flight = v.flight; closed = v.closed })) is
    (record { lines = refl; txns = rows; banks = refl; names = refl; flight = refl; closed = refl })

-- only room for names changed
pub names_same : (v old : Tables) (names : Names) → v ≡ old → names.names ≡ v.opened.names → IsSame old (record { lines = v.lines; txns = v.txns; banks = v.banks; opened = names; flight = v.flight; closed = v.closed })
names_same v old names is same =
    subst (λ (o : Tables). IsSame o (record { lines = v.lines; txns = v.txns; banks = v.banks; opened = names; flight = v.flight; closed = v.closed })) is
    (record { lines = refl; txns = refl; banks = refl; names = same; flight = refl; closed = refl })

-- only room of shards of accounts changed
pub banks_same : (v old : Tables) (banks : List Ledger) → v ≡ old → map without_room banks ≡ map without_room v.banks → IsSame old (record { lines = v.lines; txns = v.txns; banks = banks; opened = v.opened; flight = v.flight; closed = v.closed })
banks_same v old banks is room =
    subst (λ (o : Tables). IsSame o (record { lines = v.lines; txns = v.txns; banks = banks; opened = v.opened; flight = v.flight; closed = v.closed })) is
    (record { lines = refl; txns = refl; banks = room; names = refl; flight = refl; closed = refl })

-- before the first entry
pub begins : (lines : Setup) (txns : List Shard) (banks : List Ledger) (names : Names) → is_setup lines ≡ true → names.names ≡ [] → StandTxns lines (entries_in []) (rows_all txns) → StandAll lines (λ (s : ℕ). []) banks
    → StandsAll [] (record { lines = lines; txns = txns; banks = banks; opened = names; flight = 0; closed = false })
begins lines txns banks names accepted none stand all = record {
  accepted = accepted;
  legal = tt;
  txns_stand = stand;
  banks_stand = bank_laws.begins lines banks all;
  names_are = none;
  flight_is = refl;
  closed_is = refl;
}

-- ---- which calls can be planned

pub can_plan : (h : History) (v : Tables) (c : Call) → StandsAll h v → is_closed h ≡ false → is_close c ≡ false → may_come v.lines h c ≡ true → CanPlan v.banks c (message_of h c)
can_plan h v (Call.Hear psp input) core run going comes = tt
can_plan h v (Call.Late t) core run going comes = tt
can_plan h v Call.Close core run going comes = absurd cc
can_plan h v (Call.Lose n) core run going comes = go (message_at h n) (and_parts (is_some (message_at h n)) (has_room h (Call.Lose n)) comes).0
  where
    go : (m : Option Sent) → is_some m ≡ true → CanPlan v.banks (Call.Lose n) m
    go None is = absurd cc
    go (Some m) is = tt
can_plan h v (Call.Deliver n) core run going comes = go (message_at h n) refl (and_parts (is_some (message_at h n)) (has_room h (Call.Deliver n)) comes).0
  where
    go : (m : Option Sent) → message_at h n ≡ m → is_some m ≡ true → CanPlan v.banks (Call.Deliver n) m
    go None found is = absurd cc
    go (Some m) found is = order (order_of m.body) refl
      where
        order : (o : Option Order) → order_of m.body ≡ o → CanOrder v.banks o
        order None is = tt
        order (Some o) is = bank_laws.can_post v.lines h n m o v.banks core.legal run found is core.banks_stand

-- ---- what is planned is what the definitions say

pub txn_defined : (h : History) (v : Tables) (c : Call) (m : Option Sent) (now : ℕ) (x : Placed) → is_close c ≡ false → MakesIn v.lines (rows_all v.txns) c m now x → StandsAll h v → is_closed h ≡ false → message_of h c ≡ m → IsDefined v.lines h c now (Step.Txn x)
txn_defined h v c m now x going makes core run has =
    let k = txn_laws.plans v.lines h c now (rows_all v.txns) x core.legal run going core.txns_stand (subst (λ (y : Option Sent). MakesIn v.lines (rows_all v.txns) c y now x) (sym has) makes) in
    record { replies = k.replies; sends = k.sends }

-- an order that is one can be posted
pub can_order : (ps : List Ledger) (x : Option Order) → CanOrder ps x → is_some x ≡ true → IsSomeAnd x (λ (o : Order). CanPostIn ps o)
can_order ps None can is = absurd cc
can_order ps (Some o) can is = can

-- what a PSP says, and a look whether a transaction is due, are about no message
pub heard_of : (S : Setup) (rss : List (List Course)) (p : Text) (i : Input) (m : Option Sent) (now : ℕ) (x : Placed) → MakesIn S rss (Call.Hear p i) None now x → MakesIn S rss (Call.Hear p i) m now x
heard_of S rss p i m now x k = record { owner = k.owner; within = k.within; makes = k.makes }

pub late_of : (S : Setup) (rss : List (List Course)) (t : Text) (m : Option Sent) (now : ℕ) (x : Placed) → MakesIn S rss (Call.Late t) None now x → MakesIn S rss (Call.Late t) m now x
late_of S rss t m now x k = record { owner = k.owner; within = k.within; makes = k.makes }

pub leg_defined : (h : History) (v : Tables) (n : ℕ) (m : Sent) (now : ℕ) (x : Plan)
    → ((S : Setup) (h : History) (n now : ℕ) → Legal S h → is_closed h ≡ false → message_at h n ≡ Some m → StandAll S (orders_in S h) v.banks → IsPlanOf S h n now x)
    → StandsAll h v → is_closed h ≡ false → message_of h (Call.Deliver n) ≡ Some m → IsDefined v.lines h (Call.Deliver n) now (Step.Leg x)
leg_defined h v n m now x plans core run has =
    let k = plans v.lines h n now core.legal run has core.banks_stand in
    record { replies = k.replies; sends = k.sends }

-- ---- one entry more

still_open : (v : Tables) (h : History) (e : Entry) → StandsAll h v → is_closed (e ∷ h) ≡ false → v.closed ≡ is_closed (e ∷ h)
still_open v h e core run = core.closed_is ∙ (or_parts (is_close e.call) (is_closed h) run).1 ∙ sym run

-- an entry of a shard of transactions
pub commit_txn : (h : History) (e : Entry) (v : Tables) (x : Placed) (change : Change) (place : ℕ) (txns : List Shard) (names : Names) → x.place ≡ place → x.plan.change ≡ change → StandsAll h v → is_closed (e ∷ h) ≡ false → Legal v.lines (e ∷ h)
    → MakesIn v.lines (rows_all v.txns) e.call (message_of h e.call) e.at x → rows_all txns ≡ rows_with (rows_all v.txns) place change → names.names ≡ joined v.opened.names (opened_by change)
    → StandsAll (e ∷ h) (record { lines = v.lines; txns = txns; banks = v.banks; opened = names; flight = v.flight; closed = v.closed })
commit_txn h e v x change place txns names at changes all run legal makes rows more =
    let owner = sym (owner_is_with h e.call) ∙ makes.owner in
    record {
      accepted = all.accepted;
      legal = legal;
      txns_stand = subst (λ (rss : List (List Course)). StandTxns v.lines (entries_in (e ∷ h)) rss) ((λ i. rows_with (rows_all v.txns) (at i) (changes i)) ∙ sym rows) (txn_laws.commits v.lines h e (rows_all v.txns) x legal run all.txns_stand makes);
      banks_stand = bank_laws.others v.lines h e x.place v.banks run owner all.banks_stand;
      names_are = more ∙ (λ i. joined (all.names_are i) (opened_by (sym changes i))) ∙ sym (txn_laws.names v.lines h e (rows_all v.txns) x legal run all.txns_stand makes);
      flight_is = all.flight_is ∙ sym (bank_laws.flight_stays v.lines h e x.place all.accepted legal run owner);
      closed_is = still_open v h e all run;
    }

-- an order that is delivered
pub commit_leg : (h : History) (e : Entry) (v : Tables) (x s : Plan) (banks : List Ledger) (money : ℕ) → StandsAll h v → is_closed (e ∷ h) ≡ false → Legal v.lines (e ∷ h) → IsLegOf e.call (message_of h e.call) x
    → x.order ≡ s.order → IsPlannedIn v.banks s
    → ((S : Setup) (orders : ℕ → List Order) → StandAll S orders v.banks → StandAll S (with_order s.order orders) banks)
    → ((now : ℕ) → now ≤ 65_536_000_000_000 → FlightMoves s.moved v.flight now → money ≡ now)
    → StandsAll (e ∷ h) (record { lines = v.lines; txns = v.txns; banks = banks; opened = v.opened; flight = money; closed = v.closed })
commit_leg h e v x s banks money all run legal leg same planned stands moves =
    let before : is_closed h ≡ false = (or_parts (is_close e.call) (is_closed h) run).1 in
    let found : message_at h leg.n ≡ Some leg.message = ap (message_of h) (sym leg.call) ∙ leg.has in
    let is : order_of leg.message.body ≡ Some s.order = leg.answers.order_is ∙ ap (λ (o : Order). Some o) same in
    let owner : owner_of h e.call ≡ Owner.Accounts (account_shard s.order.ac) =
    given_owner h e.call s.order (record { n = leg.n; m = leg.message; delivers = leg.call; found = found; is = is }) in
    record {
      accepted = all.accepted;
      legal = legal;
      txns_stand = txn_laws.others v.lines h e (account_shard s.order.ac) (rows_all v.txns) run owner all.txns_stand;
      banks_stand = bank_laws.delivers v.lines h e leg.n leg.message s.order banks before leg.call found is (stands v.lines (orders_in v.lines h) all.banks_stand);
      names_are = all.names_are ∙ ap (map name_of) (sym (txn_laws.others_open v.lines h e (account_shard s.order.ac) run owner));
      flight_is = moves (flight v.lines (e ∷ h)) (bank_laws.flight_bounded v.lines (e ∷ h))
          (subst (λ (n : ℕ). FlightMoves s.moved n (flight v.lines (e ∷ h))) (sym all.flight_is)
          (bank_laws.flight_moves v.lines h e leg.n leg.message s v.banks all.accepted legal before leg.call found is all.banks_stand planned));
      closed_is = still_open v h e all run;
    }

place_in : Step → ℕ
place_in (Step.Txn x) = x.place
place_in (Step.Leg x) = 0

change_in : Step → Change
change_in (Step.Txn x) = x.plan.change
change_in (Step.Leg x) = Change.Still

order_in : Order → Step → Order
order_in o (Step.Txn x) = o
order_in o (Step.Leg x) = x.order

-- a step with or without its messages is at one place, of one change and one order
pub same_txn : (x : Step) (y : Placed) → without_sent x ≡ without_sent (Step.Txn y) → (z : Placed) × (x ≡ Step.Txn z) × (z.place ≡ y.place) × (z.plan.change ≡ y.plan.change)
unfolding place_in change_in
same_txn (Step.Txn z) y same = (z, refl, ap place_in same, ap change_in same)
same_txn (Step.Leg z) y same = absurd cc

pub same_leg : (x : Step) (y : Plan) → without_sent x ≡ without_sent (Step.Leg y) → (z : Plan) × (x ≡ Step.Leg z) × (z.order ≡ y.order)
unfolding order_in
same_leg (Step.Leg z) y same = (z, refl, ap (order_in z.order) same)
same_leg (Step.Txn z) y same = absurd cc

pub still_planned : (v : Tables) (x : Step) → IsStep v x → IsStep v (without_sent x)
still_planned v (Step.Txn x) is = record { planned = is.planned; room = is.room }
still_planned v (Step.Leg x) is = record { planned = unsent_leg v x is.planned; room = is.room }
  where
    unsent_leg : (v : Tables) (x : Plan) → IsPlannedIn v.banks x → IsPlannedIn v.banks (record { order = x.order; answer = x.answer; moved = x.moved; reply = x.reply; sent = [] })
    unsent_leg v x is = go (slice_get v.banks (account_shard x.order.ac)) is
      where
        go : (o : Option Ledger) → IsSomeAnd o (λ (p : Ledger). IsPlanned p x) → IsSomeAnd o (λ (p : Ledger). IsPlanned p (record { order = x.order; answer = x.answer; moved = x.moved; reply = x.reply; sent = [] }))
        go None is = is
        go (Some p) is = record { said = is.said; moves = is.moves; fits = is.fits; room = is.room }

pub taken_once : (x : Step) → without_sent x ≡ without_sent (without_sent x)
taken_once (Step.Txn x) = refl
taken_once (Step.Leg x) = refl

-- ---- the Close

-- what the rows would make arrive can arrive, where there is room for it
pub can_close : (h : History) (v : Tables) (ms : List Sent) → StandsAll h v → is_closed h ≡ false → ms ≡ all_return v.lines (rows_all v.txns) → HasRoom (length ms) v.banks → CanClose v ms
can_close h v ms all run returns room =
    let same : ms ≡ all_returns 16 v.lines h = returns ∙ txn_laws.returns v.lines h (rows_all v.txns) all.txns_stand in
    record {
      returns = returns;
      can = subst (CanTake v.banks) (sym same) (bank_laws.can_close v.lines h v.banks all.legal run all.banks_stand (subst (λ (xs : List Sent). HasRoom (length xs) v.banks) same room));
    }

-- the first Close
pub commit_close : (h : History) (e : Entry) (v : Tables) (ms : List Sent) (banks : List Ledger) (money : ℕ) → StandsAll h v → is_closed h ≡ false → e.call ≡ Call.Close → Legal v.lines (e ∷ h) → ms ≡ all_return v.lines (rows_all v.txns)
    → ((S : Setup) (before : ℕ → List Order) → StandAll S before v.banks → StandAll S (with_messages ms before) banks)
    → (StandAll v.lines (orders_in v.lines (e ∷ h)) banks → money ≡ flight v.lines (e ∷ h))
    → StandsAll (e ∷ h) (record { lines = v.lines; txns = v.txns; banks = banks; opened = v.opened; flight = money; closed = true })
commit_close h e v ms banks money all run call legal returns stands left =
    let shut : is_closed (e ∷ h) ≡ true = ap (λ (c : Call). is_close c || is_closed h) call in
    let arrived : StandAll v.lines (orders_in v.lines (e ∷ h)) banks =
    bank_laws.closes v.lines h e banks run call
    (subst (λ (xs : List Sent). StandAll v.lines (with_messages xs (orders_in v.lines h)) banks) (returns ∙ txn_laws.returns v.lines h (rows_all v.txns) all.txns_stand) (stands v.lines (orders_in v.lines h) all.banks_stand)) in
    record {
      accepted = all.accepted;
      legal = legal;
      txns_stand = txn_laws.rests v.lines h e (rows_all v.txns) shut all.txns_stand;
      banks_stand = arrived;
      names_are = all.names_are ∙ ap (map name_of) (sym (txn_laws.rests_open v.lines h e shut));
      flight_is = left arrived;
      closed_is = sym shut;
    }

-- an entry after it
pub rests : (h : History) (e : Entry) (v : Tables) → StandsAll h v → is_closed h ≡ true → Legal v.lines (e ∷ h) → StandsAll (e ∷ h) v
rests h e v all closed legal =
    let shut : is_closed (e ∷ h) ≡ true = or_right (is_close e.call) (is_closed h) closed in
    record {
      accepted = all.accepted;
      legal = legal;
      txns_stand = txn_laws.rests v.lines h e (rows_all v.txns) shut all.txns_stand;
      banks_stand = bank_laws.rests v.lines h e v.banks closed all.banks_stand;
      names_are = all.names_are ∙ ap (map name_of) (sym (txn_laws.rests_open v.lines h e shut));
      flight_is = all.flight_is ∙ sym (bank_laws.flight_rests v.lines h e closed);
      closed_is = all.closed_is ∙ closed ∙ sym shut;
    }

-- ---- what is due after a Close

if_true : {X : Type 0} (b : Bool) (x y : X) → b ≡ true → cond b x y ≡ x
if_true true x y is = refl
if_true false x y is = absurd cc

-- nothing is
pub none_due : (S : Setup) (h : History) (now : ℕ) → is_closed h ≡ true → (os : List Opening) → [] ≡ due_among S h now os
none_due S h now shut [] = refl
none_due S h now shut (o ∷ os) =
    let t = o.terms.txn in
    let none : due S o.terms.txn h ≡ None = if_true (is_closed h) None (due_by (opening S t h) (outcome_of S t h) (decision S t h) (debit S t h) (cause_by (debit S t h) (credit S t h)) (last_sent (orders t Leg.Reversal) h)
    (due_confirm (count_by (confirms t) (sent h)) (last_sent (confirms t) h) (acknowledged S t h))) shut in
    λ i. insert_due (option_and_then (λ (k : ℕ). when (nat_le k now) (k, o.terms.txn)) (sym none i)) (none_due S h now shut os i)
