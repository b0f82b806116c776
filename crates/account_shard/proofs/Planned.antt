-- What is planned of an order: what its owner replies and sends, by its own entries and by a legal history.
use Rattle.std.proofs.Common.{◌≡◌, ℕ, false, List, Option, Some, None, refl, sym, ap, subst, ◌∙◌}
use Rattle.std.specs.Prelude.{◌&&◌, Result, Ok, Err, IfOk, is_none}
use Rattle.std.specs.Option.{option_or}
use Rattle.upi_base.specs.Shards.{account_shard}
use Rattle.upi_base.proofs.Options.{some_same}
use Rattle.upi_words.specs.Prelude.{Answer, Body, Call, Order, Owner, Party, Reply, Sent, Setup, History, Legal, Ver, is_closed, is_posted}
use Rattle.upi_model.specs.Accounts.{order_of, own_orders, kept, kept_answer, kept_says}
use Rattle.upi_model.specs.History.{message_at, read_message}
use Rattle.upi_model.specs.Local.{StandsFor, local_reply, local_sent}
use Rattle.upi_model.specs.Own.{Deed, delivered_with, event_with, own_deeds}
use Rattle.upi_model.specs.Owners.{owner_of}
use Rattle.upi_model.specs.Sending.{bank_answer}
use Rattle.upi_laws.proofs.Accounts.{IsGiven, given_owner}
use Rattle.upi_laws.proofs.Local.{calls_are_local}
use Rattle.leg_post.specs.Posts.{Ledger, is_first, posts, says}
use Rattle.leg_post.proofs.Runs.{says_is}
use Rattle.account_shard.proofs.Stays.{stands_same}
use Rattle.account_shard.specs.Shard.{Stands, Plan, IsPlanned, IsAnswer, IsLocalPlan, IsPlanOf}

-- a message, by its parts
abbrev made : Party → Party → Body → Ver → Sent
made from to b v = record { from = from; to = to; body = b; ver = v }

module _ (S : Setup) (mine : List Deed) (now : ℕ) (from to : Party) (v : Ver) (o : Order) (a : Answer) (said : Some a ≡ kept_says S (kept S (own_orders mine)) o) where
  reply_by : (b : Body) → order_of b ≡ Some o → Reply.Leg a ≡ local_reply S mine (read_message (Some (made from to b v))) (Some (made from to b v)) now
  reply_by (Body.Order t l n ac addr extra) is =
      ap reply_of said ∙ ap (λ (x : Order). reply_of (kept_says S (kept S (own_orders mine)) x)) (sym (some_same (record { txn = t; its_leg = l; amount = n; ac = ac }) o is))
    where
      reply_of : Option Answer → Reply
      reply_of None = Reply.Told
      reply_of (Some x) = Reply.Leg x
  reply_by (Body.ReqAuth q) is = absurd cc
  reply_by (Body.RespAuth t n word) is = absurd cc
  reply_by (Body.LegAnswer t l x) is = absurd cc
  reply_by (Body.Result t kind x m) is = absurd cc
  reply_by (Body.Confirm t kind x) is = absurd cc
  reply_by (Body.Confirmed t) is = absurd cc

  sent_by_order : (b : Body) → order_of b ≡ Some o → bank_answer to v o.txn o.its_leg (Some a) ≡ local_sent S mine (read_message (Some (made from to b v))) (Some (made from to b v)) now
  sent_by_order (Body.Order t l n ac addr extra) is =
      ap (bank_answer to v o.txn o.its_leg) said
      ∙ ap (λ (x : Order). bank_answer to v x.txn x.its_leg (kept_says S (kept S (own_orders mine)) x)) (sym (some_same (record { txn = t; its_leg = l; amount = n; ac = ac }) o is))
  sent_by_order (Body.ReqAuth q) is = absurd cc
  sent_by_order (Body.RespAuth t n word) is = absurd cc
  sent_by_order (Body.LegAnswer t l x) is = absurd cc
  sent_by_order (Body.Result t kind x m) is = absurd cc
  sent_by_order (Body.Confirm t kind x) is = absurd cc
  sent_by_order (Body.Confirmed t) is = absurd cc

-- by the entries that a shard stands for, a plan is the owner's
pub is_local : (S : Setup) (s : ℕ) (mine : List Deed) (now : ℕ) (p : Ledger) (m : Sent) (x : Plan) → Stands S s (own_orders mine) p → IsPlanned p x → IsAnswer m x → IsLocalPlan S mine m now x
is_local S s mine now p m x stands planned answers =
    let said : Some x.answer ≡ kept_says S (kept S (own_orders mine)) x.order = planned.said ∙ says_is S (own_orders mine) p stands.posted x.order planned.fits.there in
    record {
      replies = answers.replies ∙ reply_by S mine now m.from m.to m.ver x.order x.answer said m.body answers.order_is;
      sends = answers.sends ∙ sent_by_order S mine now m.from m.to m.ver x.order x.answer said m.body answers.order_is;
    }

-- and where these are its entries of a legal history, it is what the definitions give
pub is_legal : (S : Setup) (h : History) (n now : ℕ) (p : Ledger) (m : Sent) (x : Plan) → Legal S h → is_closed h ≡ false → message_at h n ≡ Some m
    → Stands S (account_shard x.order.ac) (own_orders (own_deeds (Owner.Accounts (account_shard x.order.ac)) h)) p → IsPlanned p x → IsAnswer m x → IsPlanOf S h n now x
is_legal S h n now p m x legal run found stands planned answers =
    let s = account_shard x.order.ac in
    let mine = own_deeds (Owner.Accounts s) h in
    let given : IsGiven h (Call.Deliver n) x.order = record { n = n; m = m; delivers = refl; found = found; is = answers.order_is } in
    let here : StandsFor (owner_of h (Call.Deliver n)) mine h = subst (λ (w : Owner). StandsFor w mine h) (sym (given_owner h (Call.Deliver n) x.order given)) refl in
    let call = calls_are_local S h (Call.Deliver n) now mine legal run refl here in
    let own = is_local S s mine now p m x stands planned answers in
    record {
      replies = own.replies ∙ sym (call.replies ∙ ap (λ (y : Option Sent). local_reply S mine (event_with y (Call.Deliver n)) (delivered_with y (Call.Deliver n)) now) found);
      sends = own.sends ∙ sym (call.sends ∙ ap (λ (y : Option Sent). local_sent S mine (event_with y (Call.Deliver n)) (delivered_with y (Call.Deliver n)) now) found);
    }

-- what was planned where there was room made, of what stood before
pub ok_local : {E : Type 0} (r : Result Plan E) (p after : Ledger) (m : Sent) → after.legs ≡ p.legs → after.book ≡ p.book → IfOk r (λ (x : Plan). IsPlanned after x) → IfOk r (λ (x : Plan). IsAnswer m x)
    → IfOk r (λ (x : Plan). (S : Setup) (s : ℕ) (mine : List Deed) (now : ℕ) → Stands S s (own_orders mine) p → IsLocalPlan S mine m now x)
ok_local (Ok x) p after m legs book planned answers = λ S s mine now stands. is_local S s mine now after m x (stands_same S s (own_orders mine) p after legs book stands) planned answers
ok_local (Err e) p after m legs book planned answers = tt

pub ok_legal : {E : Type 0} (r : Result Plan E) (p after : Ledger) (m : Sent) → after.legs ≡ p.legs → after.book ≡ p.book → IfOk r (λ (x : Plan). IsPlanned after x) → IfOk r (λ (x : Plan). IsAnswer m x)
    → IfOk r (λ (x : Plan). (S : Setup) (h : History) (n now : ℕ) → Legal S h → is_closed h ≡ false → message_at h n ≡ Some m
    → Stands S (account_shard x.order.ac) (own_orders (own_deeds (Owner.Accounts (account_shard x.order.ac)) h)) p → IsPlanOf S h n now x)
ok_legal (Ok x) p after m legs book planned answers = λ S h n now legal run found stands.
    is_legal S h n now after m x legal run found (stands_same S (account_shard x.order.ac) (own_orders (own_deeds (Owner.Accounts (account_shard x.order.ac)) h)) p after legs book stands) planned answers
ok_legal (Err e) p after m legs book planned answers = tt

-- ---- how an order is answered now

pub said_before : (p : Ledger) (o : Order) (a : Answer) → Some a ≡ kept_answer p.legs o.txn o.its_leg → Some a ≡ says p o
said_before p o a is = ap (λ (x : Option Answer). option_or x (posts p o)) is

pub moves_no_more : (p : Ledger) (o : Order) (a : Answer) → Some a ≡ kept_answer p.legs o.txn o.its_leg → false ≡ (is_first p.legs o && is_posted (Some a))
moves_no_more p o a is = ap (λ (x : Option Answer). is_none x && is_posted (Some a)) is

pub moves_first : (p : Ledger) (o : Order) (a : Answer) → None ≡ kept_answer p.legs o.txn o.its_leg → is_posted (Some a) ≡ (is_first p.legs o && is_posted (Some a))
moves_first p o a is = ap (λ (x : Option Answer). is_none x && is_posted (Some a)) is
