-- The laws of the crate, gathered.
use Rattle.std.proofs.Common.{◌≡◌, ℕ, false, List, [], ◌∷◌, Some, refl, subst}
use Rattle.upi_base.specs.Shards.{account_shard}
use Rattle.upi_words.specs.Prelude.{Order, Sent, Setup, History, Legal, is_closed}
use Rattle.upi_model.specs.Accounts.{order_of}
use Rattle.upi_model.specs.History.{message_at}
use Rattle.leg_post.specs.Posts.{Ledger}
use Rattle.account_shard.specs.Closing.{all_returns}
use Rattle.account_shard.specs.Shard.{Stands}
use Rattle.account_shard.proofs.Fits.{orders_fit}
use Rattle.bank_shards.specs.BankLaws.{BankLaws}
use Rattle.bank_shards.specs.Banks.{StandAll, CanPostIn, with_messages, with_order}
use Rattle.bank_shards.specs.Histories.{orders_in}
use Rattle.bank_shards.proofs.Calls.{shard_there}
use Rattle.bank_shards.proofs.Closes.{can_close}
use Rattle.bank_shards.proofs.Flights.{flight_bounded, flight_moves, flight_rests, flight_stays}
use Rattle.bank_shards.proofs.Histories.{after_close, at_the_close, no_order_of, one_order, orders_open}
use Rattle.bank_shards.proofs.Stands.{can_post_in, stand_as}

can_post : (S : Setup) (h : History) (n : ℕ) (m : Sent) (o : Order) (ps : List Ledger) → Legal S h → is_closed h ≡ false → message_at h n ≡ Some m → order_of m.body ≡ Some o → StandAll S (orders_in S h) ps → CanPostIn ps o
can_post S h n m o ps legal run found is all =
    let p = shard_there S (orders_in S h) ps o all in
    can_post_in ps o (account_shard o.ac) p.0 refl p.1
    (orders_fit S h n m o p.0 legal run found is (subst (λ (os : List Order). Stands S (account_shard o.ac) os p.0) (orders_open S (account_shard o.ac) h run) (all.each (account_shard o.ac) p.0 p.1)))

pub bank_laws : BankLaws
bank_laws = record {
  begins = λ S ps all. stand_as S (λ (s : ℕ). []) (orders_in S []) ps (λ s. refl) all;
  delivers = λ S h e n m o ps run call found is all. stand_as S (with_order o (orders_in S h)) (orders_in S (e ∷ h)) ps (one_order S h e n m o run call found is) all;
  others = λ S h e t ps run owner all. stand_as S (orders_in S h) (orders_in S (e ∷ h)) ps (no_order_of S h e t run owner) all;
  closes = λ S h e ps run call all. stand_as S (with_messages (all_returns 16 S h) (orders_in S h)) (orders_in S (e ∷ h)) ps (at_the_close S h e run call) all;
  rests = λ S h e ps shut all. stand_as S (orders_in S h) (orders_in S (e ∷ h)) ps (after_close S h e shut) all;
  can_post = can_post;
  can_close = λ S h ps legal run all room. can_close S h run ps legal all room;
  flight_moves = flight_moves;
  flight_stays = flight_stays;
  flight_rests = flight_rests;
  flight_bounded = flight_bounded;
}
