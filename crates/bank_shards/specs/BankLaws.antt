-- What the sixteen shards of accounts have to do with histories: the laws.
use Rattle.std.specs.Prelude.{ℕ, ◌≡◌, ◌≤◌, true, false, List, [], ◌∷◌, Some, length}
use Rattle.upi_base.specs.Setup.{is_setup}
use Rattle.upi_words.specs.Prelude.{Call, Entry, Order, Owner, Sent, Setup, History, Legal, flight, is_closed}
use Rattle.upi_model.specs.Accounts.{order_of}
use Rattle.upi_model.specs.History.{message_at}
use Rattle.upi_model.specs.Owners.{owner_of}
use Rattle.leg_post.specs.Posts.{Ledger}
use Rattle.account_shard.specs.Closing.{all_returns}
use Rattle.account_shard.specs.Shard.{Plan}
use Rattle.bank_shards.specs.Banks.{StandAll, CanPostIn, CanTake, HasRoom, IsPlannedIn, with_messages, with_order}
use Rattle.bank_shards.specs.Flights.{FlightMoves}
use Rattle.bank_shards.specs.Histories.{orders_in}

-- shards of accounts, and histories
pub record BankLaws : Type 0 where
  -- before the first entry no shard has had an order
  pub begins : (S : Setup) (ps : List Ledger) → StandAll S (λ (s : ℕ). []) ps → StandAll S (orders_in S []) ps
  -- an order that is delivered is one more at the shard of its account
  pub delivers : (S : Setup) (h : History) (e : Entry) (n : ℕ) (m : Sent) (o : Order) (ps : List Ledger) → is_closed h ≡ false → e.call ≡ Call.Deliver n → message_at h n ≡ Some m → order_of m.body ≡ Some o
      → StandAll S (with_order o (orders_in S h)) ps → StandAll S (orders_in S (e ∷ h)) ps
  -- an entry of a shard of transactions brings none
  pub others : (S : Setup) (h : History) (e : Entry) (t : ℕ) (ps : List Ledger) → is_closed (e ∷ h) ≡ false → owner_of h e.call ≡ Owner.Txns t → StandAll S (orders_in S h) ps → StandAll S (orders_in S (e ∷ h)) ps
  -- the first Close makes its reversals arrive
  pub closes : (S : Setup) (h : History) (e : Entry) (ps : List Ledger) → is_closed h ≡ false → e.call ≡ Call.Close → StandAll S (with_messages (all_returns 16 S h) (orders_in S h)) ps → StandAll S (orders_in S (e ∷ h)) ps
  -- and after it nothing comes
  pub rests : (S : Setup) (h : History) (e : Entry) (ps : List Ledger) → is_closed h ≡ true → StandAll S (orders_in S h) ps → StandAll S (orders_in S (e ∷ h)) ps
  -- each order that a legal history without a Close has sent can be posted
  pub can_post : (S : Setup) (h : History) (n : ℕ) (m : Sent) (o : Order) (ps : List Ledger) → Legal S h → is_closed h ≡ false → message_at h n ≡ Some m → order_of m.body ≡ Some o → StandAll S (orders_in S h) ps → CanPostIn ps o
  -- and what a Close makes arrive can arrive, where there is room for it
  pub can_close : (S : Setup) (h : History) (ps : List Ledger) → Legal S h → is_closed h ≡ false → StandAll S (orders_in S h) ps → HasRoom (length (all_returns 16 S h)) ps → CanTake ps (all_returns 16 S h)
  -- the money in flight changes by what a planned order moves
  pub flight_moves : (S : Setup) (h : History) (e : Entry) (n : ℕ) (m : Sent) (x : Plan) (ps : List Ledger) → is_setup S ≡ true → Legal S (e ∷ h) → is_closed h ≡ false → e.call ≡ Call.Deliver n → message_at h n ≡ Some m
      → order_of m.body ≡ Some x.order → StandAll S (orders_in S h) ps → IsPlannedIn ps x → FlightMoves x.moved (flight S h) (flight S (e ∷ h))
  -- an entry of a shard of transactions leaves it as it was
  pub flight_stays : (S : Setup) (h : History) (e : Entry) (t : ℕ) → is_setup S ≡ true → Legal S (e ∷ h) → is_closed (e ∷ h) ≡ false → owner_of h e.call ≡ Owner.Txns t → flight S (e ∷ h) ≡ flight S h
  -- and so does every entry after a Close
  pub flight_rests : (S : Setup) (h : History) (e : Entry) → is_closed h ≡ true → flight S (e ∷ h) ≡ flight S h
  -- it is never more than 65,536 payments of the greatest amount
  pub flight_bounded : (S : Setup) (h : History) → flight S h ≤ 65_536_000_000_000
