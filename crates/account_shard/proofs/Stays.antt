-- A shard that stands for orders: with one order more, and what its accounts have.
use Rattle.std.proofs.Common.{◌≡◌, ℕ, Bool, true, false, cond, List, ◌∷◌, Option, Some, None, refl, sym, ap, ◌∙◌, eqb-true}
use Rattle.std.specs.Prelude.{is_some, ◌&&◌, ◌==◌}
use Rattle.std.specs.Option.{option_map}
use Rattle.upi_base.specs.Setup.{same_account, account_named}
use Rattle.upi_base.specs.Shards.{account_shard}
use Rattle.upi_base.proofs.Options.{some_same}
use Rattle.upi_base.proofs.Setups.{account_name}
use Rattle.upi_words.specs.Prelude.{Account, AccountRef, Answer, Kept, Leg, Order, Owner, Setup, History, Text, Legal, is_closed, is_posted, balance}
use Rattle.upi_model.specs.Accounts.{kept, kept_answer, kept_balance, moved_by, own_orders, own_kept}
use Rattle.upi_model.specs.Own.{own_deeds}
use Rattle.upi_laws.proofs.Accounts.{accounts_are_local}
use Rattle.bank_book.specs.declared.Holding.{Holding}
use Rattle.bank_book.specs.Book.{holding_of, balance_of, with_balance, changed}
use Rattle.bank_book.proofs.Changes.{holding_of-changed}
use Rattle.leg_post.specs.Posts.{Ledger, is_first, book_with, held, IsPosted}
use Rattle.account_shard.specs.Shard.{Stands, balance_after, balance_at}

-- it stands for them with other room too
pub stands_same : (S : Setup) (s : ℕ) (orders : List Order) (p after : Ledger) → after.legs ≡ p.legs → after.book ≡ p.book → Stands S s orders p → Stands S s orders after
stands_same S s orders p after legs book stands = record {
  posted = record { legs_are = legs ∙ stands.posted.legs_are; holdings_are = λ ac h is. stands.posted.holdings_are ac h (ap (λ b. holding_of b ac) (sym book) ∙ is) };
  accounts_are = λ q. ap (λ b. is_some (holding_of b q)) book ∙ stands.accounts_are q;
}

-- ---- one order more

-- the accounts of a book are the same after an order
accounts_stay : (p : Ledger) (o : Order) (a : Answer) (q : AccountRef) → is_some (holding_of (book_with p.legs p.book o a) q) ≡ is_some (holding_of p.book q)
accounts_stay p o a q = go (is_first p.legs o && is_posted (Some a))
  where
    same : (b : Bool) (x : Option Holding) → is_some (cond b (option_map (λ (h : Holding). with_balance h (moved_by o.its_leg o.amount h.balance)) x) x) ≡ is_some x
    same true None = refl
    same true (Some h) = refl
    same false None = refl
    same false (Some h) = refl

    go : (b : Bool) → is_some (holding_of (cond b (changed (moved_by o.its_leg o.amount) p.book o.ac) p.book) q) ≡ is_some (holding_of p.book q)
    go true = ap (λ (x : Option Holding). is_some x) (holding_of-changed (moved_by o.its_leg o.amount) p.book o.ac q) ∙ same (same_account o.ac q) (holding_of p.book q)
    go false = refl

pub stands_with : (S : Setup) (s : ℕ) (orders : List Order) (p after : Ledger) (o : Order) (a : Answer) → Stands S s orders p → after.book ≡ book_with p.legs p.book o a → IsPosted S (o ∷ orders) after → Stands S s (o ∷ orders) after
stands_with S s orders p after o a stands book posted = record {
  posted = posted;
  accounts_are = λ q. ap (λ b. is_some (holding_of b q)) book ∙ accounts_stay p o a q ∙ stands.accounts_are q;
}

-- how legs were answered is what the orders leave
pub answered_stands : (S : Setup) (s : ℕ) (orders : List Order) (p : Ledger) (t : Text) (l : Leg) → Stands S s orders p → kept_answer p.legs t l ≡ kept_answer (kept S orders) t l
answered_stands S s orders p t l stands = ap (λ (ks : List Kept). kept_answer ks t l) stands.posted.legs_are

-- ---- balances

pub balance_stands : (S : Setup) (s : ℕ) (orders : List Order) (p : Ledger) (ac : AccountRef) → Stands S s orders p → balance_of p.book ac ≡ balance_after S s orders ac
balance_stands S s orders p ac stands = go (holding_of p.book ac) refl (s == account_shard ac) (account_named S ac) (stands.accounts_are ac) (λ h is. stands.posted.holdings_are ac h is)
  where
    go : (x : Option Holding) → holding_of p.book ac ≡ x → (c : Bool) (y : Option Account) → is_some (holding_of p.book ac) ≡ is_some (cond c y None)
        → ((h : Holding) → holding_of p.book ac ≡ Some h → option_map (held (kept S orders)) y ≡ Some h)
        → option_map (λ (h : Holding). h.balance) (holding_of p.book ac) ≡ option_map (kept_balance (kept S orders)) (cond c y None)
    go None is true None there has = ap (option_map (λ (h : Holding). h.balance)) is
    go None is true (Some a) there has = let never : is_some {T = Holding} None ≡ true = ap (λ (x : Option Holding). is_some x) (sym is) ∙ there in absurd cc
    go None is false y there has = ap (option_map (λ (h : Holding). h.balance)) is
    go (Some h) is true None there has = let never : is_some (Some h) ≡ false = ap (λ (x : Option Holding). is_some x) (sym is) ∙ there in absurd cc
    go (Some h) is true (Some a) there has =
        ap (option_map (λ (k : Holding). k.balance)) is ∙ ap (λ (k : Holding). Some k.balance) (sym (some_same (held (kept S orders) a) h (has h is)))
    go (Some h) is false y there has = let never : is_some (Some h) ≡ false = ap (λ (x : Option Holding). is_some x) (sym is) ∙ there in absurd cc

pub balance_legal : (S : Setup) (s : ℕ) (h : History) (p : Ledger) (ac : AccountRef) → Legal S h → is_closed h ≡ false → Stands S s (own_orders (own_deeds (Owner.Accounts s) h)) p → balance_of p.book ac ≡ balance_at S s h ac
balance_legal S s h p ac legal run stands = balance_stands S s (own_orders (own_deeds (Owner.Accounts s) h)) p ac stands ∙ go (s == account_shard ac) refl (account_named S ac) refl
  where
    go : (c : Bool) → (s == account_shard ac) ≡ c → (y : Option Account) → account_named S ac ≡ y
        → option_map (kept_balance (own_kept S (own_deeds (Owner.Accounts s) h))) (cond c y None) ≡ option_map (λ (a : Account). balance S a h) (cond c y None)
    go false is y named = refl
    go true is None named = refl
    go true is (Some a) named =
        ap (λ (n : ℕ). Some n) ((accounts_are_local S s h legal run).balances_are a (ap account_shard (account_name S ac a named) ∙ sym (eqb-true s (account_shard ac) is)))
