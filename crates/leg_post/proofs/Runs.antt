-- Postings of orders over a setup: what the bank says to one order more, and that it is then one of them.
use Rattle.std.proofs.Common.{◌≡◌, ℕ, Bool, true, false, cond, List, [], ◌∷◌, ◌++◌, Option, Some, None, refl, sym, ap, ◌∙◌, arith}
use Rattle.std.specs.Prelude.{IsSome, is_some, is_none, ◌&&◌}
use Rattle.std.specs.Option.{option_or, option_map}
use Rattle.upi_base.specs.Lists.{joined}
use Rattle.upi_base.specs.Setup.{same_account, account_named}
use Rattle.upi_base.proofs.Options.{some_same}
use Rattle.upi_base.proofs.Setups.{account_name}
use Rattle.upi_words.specs.Prelude.{Leg, Answer, AccountRef, Account, Order, Kept, Setup, Text}
use Rattle.upi_model.specs.Postings.{Answers, is_posted, post_at}
use Rattle.upi_model.specs.Accounts.{kept_answer, kept_balance, kept_post, kept_says, kept_move, moved_by, kept}
use Rattle.upi_laws.proofs.Accounts.{balances_run}
use Rattle.bank_book.specs.declared.Holding.{Holding}
use Rattle.bank_book.specs.Book.{Holdings, holding_of, with_balance, changed}
use Rattle.bank_book.proofs.Changes.{holding_of-changed}
use Rattle.leg_post.specs.Posts.{Ledger, present, has_now, posts, says, legs_with, book_with, held, opening, IsOpening, IsPosted}

-- the rule of posting reads of an account what it has and its flags
post_here : (l : Leg) (answers : Answers) (ks : List Kept) (t : Text) (n : ℕ) (ac : AccountRef) (a : Account)
    → post_at answers has_now t n l (Some (present ac (held ks a))) ≡ post_at answers (kept_balance ks) t n l (Some a)
post_here Leg.Debit answers ks t n ac a = refl
post_here Leg.Credit answers ks t n ac a = refl
post_here Leg.Reversal answers ks t n ac a = refl

-- before any order each account has what it opened with
pub opens : (S : Setup) (p : Ledger) → p.legs ≡ [] → IsOpening S p.book → IsPosted S [] p
opens S p legs opening_is = record { legs_are = legs; holdings_are = λ ac h is. go (account_named S ac) h (opening_is ac h is) }
  where
    go : (x : Option Account) (h : Holding) → option_map opening x ≡ Some h → option_map (held (kept S [])) x ≡ Some h
    go None h is = absurd cc
    go (Some a) h is = let same : kept_balance (kept S []) a ≡ a.opening = omega arith in ap (λ (n : ℕ). Some (record { balance = n; no_debit = a.no_debit; no_credit = a.no_credit })) same ∙ is

-- what moves nothing leaves a balance
moved_none : (l : Leg) (b : ℕ) → moved_by l 0 b ≡ b
moved_none Leg.Debit b = omega arith
moved_none Leg.Credit b = omega arith
moved_none Leg.Reversal b = omega arith

module _ (S : Setup) (orders : List Order) (p : Ledger) (stands : IsPosted S orders p) (o : Order) where
  posts_at : (x : Option Holding) → holding_of p.book o.ac ≡ x → IsSome x → (y : Option Account) → account_named S o.ac ≡ y → option_map (held (kept S orders)) y ≡ x
      → post_at (kept_answer (kept S orders)) has_now o.txn o.amount o.its_leg (option_map (present o.ac) x) ≡ post_at (kept_answer (kept S orders)) (kept_balance (kept S orders)) o.txn o.amount o.its_leg y
  posts_at None is there y named same = absurd cc
  posts_at (Some h) is there None named same = absurd cc
  posts_at (Some h) is there (Some a) named same =
      ap (λ (k : Option Holding). post_at (kept_answer (kept S orders)) has_now o.txn o.amount o.its_leg (option_map (present o.ac) k)) (sym same)
      ∙ post_here o.its_leg (kept_answer (kept S orders)) (kept S orders) o.txn o.amount o.ac a

  -- the account that the book has is the setup's
  account_is : (x : Option Holding) → holding_of p.book o.ac ≡ x → IsSome x → option_map (held (kept S orders)) (account_named S o.ac) ≡ x
  account_is None is there = absurd cc
  account_is (Some h) is there = stands.holdings_are o.ac h is

  -- how the first order for a leg is posted is how its shard posts it
  pub posts_is : IsSome (holding_of p.book o.ac) → posts p o ≡ kept_post S (kept S orders) o
  posts_is there =
      ap (λ (ks : List Kept). post_at (kept_answer ks) has_now o.txn o.amount o.its_leg (option_map (present o.ac) (holding_of p.book o.ac))) stands.legs_are
      ∙ posts_at (holding_of p.book o.ac) refl there (account_named S o.ac) refl (account_is (holding_of p.book o.ac) refl there)

  -- and what the bank says to an order is what its shard says
  pub says_is : IsSome (holding_of p.book o.ac) → says p o ≡ kept_says S (kept S orders) o
  says_is there = λ i. option_or (kept_answer (stands.legs_are i) o.txn o.its_leg) (posts_is there i)

  module _ (there : IsSome (holding_of p.book o.ac)) (a : Answer) (said : Some a ≡ says p o) where
    posted_first : is_some (kept_answer (kept S orders) o.txn o.its_leg) ≡ false → kept_post S (kept S orders) o ≡ Some a
    posted_first none = go (kept_answer (kept S orders) o.txn o.its_leg) none (said ∙ says_is there)
      where
        go : (x : Option Answer) → is_some x ≡ false → Some a ≡ option_or x (kept_post S (kept S orders) o) → kept_post S (kept S orders) o ≡ Some a
        go None none is = sym is
        go (Some y) none is = absurd cc

    -- one order more is kept where it is the first for its leg
    legs_after : legs_with p.legs o a ≡ kept S (o ∷ orders)
    legs_after = ap (λ (ks : List Kept). legs_with ks o a) stands.legs_are ∙ go (kept_answer (kept S orders) o.txn o.its_leg) refl
      where
        go : (x : Option Answer) → kept_answer (kept S orders) o.txn o.its_leg ≡ x
            → cond (is_none x) (kept S orders ++ record { order = o; answer = a } ∷ []) (kept S orders)
            ≡ joined (kept S orders) (cond (is_some x) None (option_map (λ (b : Answer). record { order = o; answer = b }) (kept_post S (kept S orders) o)))
        go None is = ap (λ (k : Option Answer). joined (kept S orders) (option_map (λ (b : Answer). record { order = o; answer = b }) k)) (sym (posted_first (ap (λ (x : Option Answer). is_some x) is)))
        go (Some y) is = refl

    -- an account of the book that had what it opened with and what the legs moved still has
    moves : (l : Leg) (n : ℕ) (first posted here : Bool) (h : Holding) (b : ℕ) → b ≡ moved_by l (cond first (cond (here && posted) n 0) 0) h.balance
        → Some (with_balance h b) ≡ cond (first && posted) (cond here (Some (with_balance h (moved_by l n h.balance))) (Some h)) (Some h)
    moves l n true true true h b is = ap (λ (k : ℕ). Some (with_balance h k)) is
    moves l n true true false h b is = ap (λ (k : ℕ). Some (with_balance h k)) (is ∙ moved_none l h.balance)
    moves l n true false true h b is = ap (λ (k : ℕ). Some (with_balance h k)) (is ∙ moved_none l h.balance)
    moves l n true false false h b is = ap (λ (k : ℕ). Some (with_balance h k)) (is ∙ moved_none l h.balance)
    moves l n false posted here h b is = ap (λ (k : ℕ). Some (with_balance h k)) (is ∙ moved_none l h.balance)

    abbrev first : Bool
    first = is_none (kept_answer (kept S orders) o.txn o.its_leg)

    -- what the book has of an account, after the order
    book_after : (q : AccountRef) → holding_of (book_with p.legs p.book o a) q
        ≡ cond (first && is_posted (Some a)) (cond (same_account o.ac q) (option_map (λ (h : Holding). with_balance h (moved_by o.its_leg o.amount h.balance)) (holding_of p.book q)) (holding_of p.book q)) (holding_of p.book q)
    book_after q = ap (λ (ks : List Kept). holding_of (book_with ks p.book o a) q) stands.legs_are ∙ go (first && is_posted (Some a))
      where
        go : (b : Bool) → holding_of (cond b (changed (moved_by o.its_leg o.amount) p.book o.ac) p.book) q
            ≡ cond b (cond (same_account o.ac q) (option_map (λ (h : Holding). with_balance h (moved_by o.its_leg o.amount h.balance)) (holding_of p.book q)) (holding_of p.book q)) (holding_of p.book q)
        go true = holding_of-changed (moved_by o.its_leg o.amount) p.book o.ac q
        go false = refl

    -- what the order moves is what its shard says
    move_is : (q : AccountRef) → kept_move S (kept S orders) o q ≡ cond first (cond (same_account o.ac q && is_posted (Some a)) o.amount 0) 0
    move_is q = go (kept_answer (kept S orders) o.txn o.its_leg) refl
      where
        go : (x : Option Answer) → kept_answer (kept S orders) o.txn o.its_leg ≡ x
            → ◌≡◌ {A = ℕ} (cond (is_none x) (cond (same_account o.ac q && is_posted (kept_post S (kept S orders) o)) o.amount 0) 0) (cond (is_none x) (cond (same_account o.ac q && is_posted (Some a)) o.amount 0) 0)
        go None is = ap (λ (k : Option Answer). cond (same_account o.ac q && is_posted k) o.amount 0) (posted_first (ap (λ (x : Option Answer). is_some x) is))
        go (Some y) is = refl

    holdings_after : (q : AccountRef) (h : Holding) → holding_of (book_with p.legs p.book o a) q ≡ Some h → option_map (held (kept S (o ∷ orders))) (account_named S q) ≡ Some h
    holdings_after q h is = go (holding_of p.book q) refl (account_named S q) refl (sym (book_after q) ∙ is)
      where
        go : (x : Option Holding) → holding_of p.book q ≡ x → (y : Option Account) → account_named S q ≡ y
            → cond (first && is_posted (Some a)) (cond (same_account o.ac q) (option_map (λ (k : Holding). with_balance k (moved_by o.its_leg o.amount k.balance)) x) x) x ≡ Some h
            → option_map (held (kept S (o ∷ orders))) y ≡ Some h
        go None had y named now = absurd (never (first && is_posted (Some a)) (same_account o.ac q) now)
          where
            never : (b c : Bool) → cond b (cond c None None) None ≡ Some h → ⊥
            never true true e = absurd cc
            never true false e = absurd cc
            never false c e = absurd cc
        go (Some k) had None named now = absurd (never (stands.holdings_are q k had))
          where
            never : option_map (held (kept S orders)) (account_named S q) ≡ Some k → ⊥
            never e = let none : None ≡ Some k = ap (option_map (held (kept S orders))) (sym named) ∙ e in absurd cc
        go (Some k) had (Some b) named now =
            let name : b.ac ≡ q = account_name S q b named in
            let before : held (kept S orders) b ≡ k = some_same (held (kept S orders) b) k (ap (option_map (held (kept S orders))) (sym named) ∙ stands.holdings_are q k had) in
            let run = (balances_run S orders o b (ap (account_named S) name ∙ named)).balance_runs in
            let moved : kept_move S (kept S orders) o b.ac ≡ cond first (cond (same_account o.ac q && is_posted (Some a)) o.amount 0) 0 = ap (kept_move S (kept S orders) o) name ∙ move_is q in
            let balance : kept_balance (kept S (o ∷ orders)) b ≡ moved_by o.its_leg (cond first (cond (same_account o.ac q && is_posted (Some a)) o.amount 0) 0) (held (kept S orders) b).balance
            = run ∙ ap (λ (n : ℕ). moved_by o.its_leg n (kept_balance (kept S orders) b)) moved in
            moves o.its_leg o.amount first (is_posted (Some a)) (same_account o.ac q) (held (kept S orders) b) (kept_balance (kept S (o ∷ orders)) b) balance
            ∙ ap (λ (x : Holding). cond (first && is_posted (Some a)) (cond (same_account o.ac q) (Some (with_balance x (moved_by o.its_leg o.amount x.balance))) (Some x)) (Some x)) before
            ∙ now

    -- so the postings are then those of the orders with this one
    pub stands_after : (after : Ledger) → after.legs ≡ legs_with p.legs o a → after.book ≡ book_with p.legs p.book o a → IsPosted S (o ∷ orders) after
    stands_after after legs book = record {
      legs_are = legs ∙ legs_after;
      holdings_are = λ q h is. holdings_after q h (ap (λ (b : Holdings). holding_of b q) (sym book) ∙ is);
    }
