-- What the accounts of a shard have when the reversals that a Close makes arrive have come.
use Rattle.std.proofs.Common.{◌≡◌, ℕ, ◌+◌, ◌-◌, Bool, true, false, cond, List, [], ◌∷◌, ◌++◌, Option, Some, None, refl, sym, ap, ◌∙◌, arith, eqb-true}
use Rattle.std.specs.Prelude.{is_some, is_none, ◌&&◌, ◌||◌, ◌==◌}
use Rattle.std.specs.Option.{option_or, option_map}
use Rattle.std.specs.List.{AllByRecursion, sum_by}
use Rattle.std.specs.Str.{bytes_eq}
use Rattle.std.proofs.lemmas.Bool.{and_parts, both_ways}
use Rattle.std.proofs.lemmas.Slice.Eq.{bytes_eq-Decides}
use Rattle.upi_base.specs.Lists.{joined, when}
use Rattle.upi_base.specs.Setup.{account_at, account_named, same_account}
use Rattle.upi_base.specs.Shards.{account_shard, txn_shard}
use Rattle.upi_base.proofs.Lists.{sum_add, sum_all, sum_push, sum_same}
use Rattle.upi_base.proofs.Options.{or_first, or_none, some_is}
use Rattle.upi_base.proofs.Setups.{account_name, same_account_is}
use Rattle.upi_words.specs.Prelude.{Account, AccountRef, Answer, Call, Entry, Kept, Leg, Opening, Order, Owner, Setup, History, Text, Legal, is_closed, is_posted, opened, opening, balance}
use Rattle.upi_model.specs.Accounts.{kept, kept_answer, kept_balance, kept_move, kept_post, kept_share, kept_total, keeps, is_at, own_orders, at_shard}
use Rattle.upi_model.specs.AtClose.{returns_at_close}
use Rattle.upi_model.specs.Own.{own_deeds, own_standing}
use Rattle.upi_model.specs.Places.{has_id, same_leg}
use Rattle.upi_model.specs.Postings.{Answers, answer, has_account, post_at, post_reversal, posted_at, reversal_due, share, total}
use Rattle.upi_model.proofs.Gathered.{opening_laws}
use Rattle.upi_model.proofs.Own.{own_standing_is, same_is}
use Rattle.upi_laws.proofs.Accounts.{keep_says, kept_history}
use Rattle.upi_laws.proofs.AtClose.{close_returns}
use Rattle.upi_laws.proofs.Once.{moves_nothing, same_leg_is}
use Rattle.upi_laws.proofs.Posted.{total_here}
use Rattle.upi_laws.proofs.Sums.{of_opening, sum_at}
use Rattle.bank_book.specs.Book.{balance_of}
use Rattle.leg_post.specs.Posts.{Ledger}
use Rattle.account_shard.specs.Closing.{AreReturns, IsReturn, is_returned}
use Rattle.account_shard.specs.Shard.{Stands, balance_at}
use Rattle.account_shard.proofs.Stays.{balance_stands}

-- ---- what a leg moved, where its answer comes to one transaction

module _ (S : Setup) (h : History) (ans after : Answers) (u : Text) (l : Leg) (P : Option Answer) (more : (t : Text) → after t l ≡ option_or (ans t l) (cond (bytes_eq u t) P None)) where
  stays : (t : Text) → (bytes_eq u t ≡ true → is_some (ans t l) ≡ true) → after t l ≡ ans t l
  stays t there = more t ∙ go (bytes_eq u t) refl
    where
      go : (b : Bool) → bytes_eq u t ≡ b → option_or (ans t l) (cond b P None) ≡ ans t l
      go true is = or_first (ans t l) P (there is)
      go false is = or_none (ans t l)

  share_more : (ac : AccountRef) (x : Opening) → ans u l ≡ None → (b : Bool) → has_id u x ≡ b → share S ac l (after x.terms.txn l) x.terms ≡ share S ac l (ans x.terms.txn l) x.terms + cond b (share S ac l P x.terms) 0
  share_more ac x none false away =
      let z = ap (λ (y : Option Answer). share S ac l y x.terms) (stays x.terms.txn (λ is. absurd (both_ways (has_id u x) away ((bytes_eq-Decides x.terms.txn u).1 (sym ((bytes_eq-Decides u x.terms.txn).0 is)))))) in
      omega (arith, z)
  share_more ac x none true here =
      let t : x.terms.txn ≡ u = (bytes_eq-Decides x.terms.txn u).0 here in
      let old : ans x.terms.txn l ≡ None = ap (λ (t : Text). ans t l) t ∙ none in
      let new : after x.terms.txn l ≡ P = ap (λ (t : Text). after t l) t ∙ (more u ∙ (λ i. option_or (none i) (cond ((bytes_eq-Decides u u).1 refl i) P None))) in
      let zero : share S ac l (ans x.terms.txn l) x.terms ≡ 0 = moves_nothing (has_account ac (account_at S (posted_at l x.terms))) (ans x.terms.txn l) x.terms.amount (ap is_posted old) in
      let z = ap (λ (y : Option Answer). share S ac l y x.terms) new in
      omega (arith, z, zero)

  total_more : (ac : AccountRef) (q : Opening) → opening S u h ≡ Some q → total S (opened S h) after ac l ≡ total S (opened S h) ans ac l + cond (is_none (ans u l)) (share S ac l P q.terms) 0
  total_more ac q begun = go (ans u l) refl
    where
      go : (x : Option Answer) → ans u l ≡ x → total S (opened S h) after ac l ≡ total S (opened S h) ans ac l + cond (is_none x) (share S ac l P q.terms) 0
      go (Some y) is =
          let z = sum_same (λ (o : Opening). share S ac l (after o.terms.txn l) o.terms) (λ (o : Opening). share S ac l (ans o.terms.txn l) o.terms) (λ o. ap (λ (x : Option Answer). share S ac l x o.terms)
          (stays o.terms.txn (λ at. some_is (ans o.terms.txn l) y (ap (λ (t : Text). ans t l) (sym ((bytes_eq-Decides u o.terms.txn).0 at)) ∙ is)))) (opened S h) in
          omega (arith, z)
      go None is =
          let f : Opening → ℕ = λ x. share S ac l (ans x.terms.txn l) x.terms in
          let g : Opening → ℕ = λ x. cond (has_id u x) (share S ac l P x.terms) 0 in
          let s = sum_same (λ (x : Opening). share S ac l (after x.terms.txn l) x.terms) (λ (x : Opening). f x + g x) (λ x. share_more ac x is (has_id u x) refl) (opened S h) in
          let at : sum_by g (opened S h) ≡ share S ac l P q.terms = sum_at S u (λ (x : Opening). share S ac l P x.terms) h ∙ ap (of_opening (λ (x : Opening). share S ac l P x.terms)) begun in
          omega (arith, s, at, sum_add f g (opened S h))

-- ---- one reversal more

-- the leg is posted at the shard
at_true : (S : Setup) (s : ℕ) (l : Leg) (p : Option Opening) (q : Opening) (a : Account) → p ≡ Some q → account_at S (posted_at l q.terms) ≡ Some a → account_shard a.ac ≡ s → at_shard S s l p ≡ true
at_true S s l p q a begun held mine = ap (at_shard S s l) begun ∙ (ap (is_at s) held ∙ same_is s (account_shard a.ac) (sym mine))

-- what one order more moves
keep_gains : (S : Setup) (ks : List Kept) (o : Order) (ac : AccountRef) (l : Leg) → kept_total (joined ks (keeps S ks o)) ac l ≡ kept_total ks ac l + cond (same_leg o.its_leg l) (kept_move S ks o ac) 0
keep_gains S ks o ac l = go (kept_answer ks o.txn o.its_leg) (kept_post S ks o)
  where
    zero_both : (b : Bool) → ◌≡◌ {A = ℕ} (cond b 0 0) 0
    zero_both true = refl
    zero_both false = refl

    no_move : (b c : Bool) → ◌≡◌ {A = ℕ} (cond b (cond (c && false) o.amount 0) 0) 0
    no_move true true = refl
    no_move true false = refl
    no_move false c = refl

    one_move : (b c : Bool) → ◌≡◌ {A = ℕ} (cond (b && c) o.amount 0) (cond b (cond c o.amount 0) 0)
    one_move true c = refl
    one_move false c = refl

    go : (x y : Option Answer) → kept_total (joined ks (cond (is_some x) None (option_map (λ (a : Answer). record { order = o; answer = a }) y))) ac l
        ≡ kept_total ks ac l + cond (same_leg o.its_leg l) (cond (is_none x) (cond (same_account o.ac ac && is_posted y) o.amount 0) 0) 0
    go (Some x) y = let z = zero_both (same_leg o.its_leg l) in omega (arith, z)
    go None None = let z = no_move (same_leg o.its_leg l) (same_account o.ac ac) in omega (arith, z)
    go None (Some y) =
        let k : Kept = record { order = o; answer = y } in
        let z = one_move (same_leg o.its_leg l) (same_account o.ac ac && is_posted (Some y)) in
        omega (arith, z, sum_push (kept_share ac l) ks k)

-- what the shard keeps is what these answers say of the legs at its accounts
record KeptBy (S : Setup) (s : ℕ) (h : History) (ans : Answers) (ks : List Kept) : Type 0 where
  pub answers : (t : Text) (l : Leg) → kept_answer ks t l ≡ cond (at_shard S s l (opening S t h)) (ans t l) None
  pub totals : (ac : AccountRef) (l : Leg) → account_shard ac ≡ s → kept_total ks ac l ≡ total S (opened S h) ans ac l

-- answers with that of a transaction's reversal
abbrev with_return : Answers → Text → Answers
with_return ans u t l = option_or (ans t l) (when (bytes_eq u t && same_leg Leg.Reversal l) (post_reversal (ans u Leg.Debit)))

-- of another leg they are as before
not_returned : (b : Bool) (x : Option Answer) (a : Answer) → option_or x (when (b && false) a) ≡ x
not_returned true x a = or_none x
not_returned false x a = or_none x

module _ (S : Setup) (s : ℕ) (h : History) (ans : Answers) (ks : List Kept) (o : Order) (k : KeptBy S s h ans ks) (r : IsReturn S s h o) where
  own_shard : account_shard r.a.ac ≡ s
  own_shard = ap account_shard (sym r.its_account) ∙ r.its_shard

  at : at_shard S s Leg.Reversal (opening S o.txn h) ≡ true
  at = at_true S s Leg.Reversal (opening S o.txn h) r.q r.a r.begun r.held own_shard

  said : kept_answer ks o.txn Leg.Reversal ≡ ans o.txn Leg.Reversal
  said = k.answers o.txn Leg.Reversal ∙ ap (λ (b : Bool). cond b (ans o.txn Leg.Reversal) None) at

  debited : kept_answer ks o.txn Leg.Debit ≡ ans o.txn Leg.Debit
  debited = k.answers o.txn Leg.Debit ∙ ap (λ (b : Bool). cond b (ans o.txn Leg.Debit) None) at

  abbrev P : Answer
  P = post_reversal (ans o.txn Leg.Debit)

  posts : kept_post S ks o ≡ Some P
  posts = ap (λ (l : Leg). post_at (kept_answer ks) (kept_balance ks) o.txn o.amount l (account_named S o.ac)) r.its_leg_is ∙ ap (λ (x : Option Answer). Some (post_reversal x)) debited

  answers_more : (t : Text) (l : Leg) (b : Bool) → (bytes_eq o.txn t && same_leg Leg.Reversal l) ≡ b
      → option_or (kept_answer ks t l) (cond b (kept_post S ks o) None) ≡ cond (at_shard S s l (opening S t h)) (option_or (ans t l) (cond b (Some P) None)) None
  answers_more t l false c = or_none (kept_answer ks t l) ∙ (k.answers t l ∙ ap (λ (x : Option Answer). cond (at_shard S s l (opening S t h)) x None) (sym (or_none (ans t l))))
  answers_more t l true c =
      let p = and_parts (bytes_eq o.txn t) (same_leg Leg.Reversal l) c in
      let T : o.txn ≡ t = (bytes_eq-Decides o.txn t).0 p.0 in
      let L : Leg.Reversal ≡ l = same_leg_is Leg.Reversal l p.1 in
      (λ i. option_or (kept_answer ks (sym T i) (sym L i)) (posts i))
      ∙ (λ i. option_or (said i) (Some P))
      ∙ (λ i. cond (sym at i) (option_or (ans o.txn Leg.Reversal) (Some P)) None)
      ∙ (λ i. cond (at_shard S s (L i) (opening S (T i) h)) (option_or (ans (T i) (L i)) (Some P)) None)

  more_of : (t : Text) → with_return ans o.txn t Leg.Reversal ≡ option_or (ans t Leg.Reversal) (cond (bytes_eq o.txn t) (Some P) None)
  more_of t = go (bytes_eq o.txn t)
    where
      go : (b : Bool) → option_or (ans t Leg.Reversal) (when (b && true) P) ≡ option_or (ans t Leg.Reversal) (cond b (Some P) None)
      go true = refl
      go false = refl

  move_is : (ac : AccountRef) → kept_move S ks o ac ≡ cond (is_none (ans o.txn Leg.Reversal)) (share S ac Leg.Reversal (Some P) r.q.terms) 0
  move_is ac =
      (λ i. cond (is_none (kept_answer ks o.txn (r.its_leg_is i))) (cond (same_account (r.its_account i) ac && is_posted (posts i)) (r.its_amount i) 0) 0)
      ∙ (λ i. cond (is_none (said i)) (cond (has_account ac (sym r.held i) && is_posted (Some P)) r.q.terms.amount 0) 0)

  same_total : (ac : AccountRef) (l : Leg) → ((t : Text) → with_return ans o.txn t l ≡ ans t l) → total S (opened S h) (with_return ans o.txn) ac l ≡ total S (opened S h) ans ac l
  same_total ac l same =
      sum_same (λ (x : Opening). share S ac l (with_return ans o.txn x.terms.txn l) x.terms) (λ (x : Opening). share S ac l (ans x.terms.txn l) x.terms) (λ x. ap (λ (y : Option Answer). share S ac l y x.terms) (same x.terms.txn)) (opened S h)

  totals_more : (ac : AccountRef) (l : Leg) → account_shard ac ≡ s → kept_total (joined ks (keeps S ks o)) ac l ≡ total S (opened S h) (with_return ans o.txn) ac l
  totals_more ac Leg.Debit mine =
      let g : kept_total (joined ks (keeps S ks o)) ac Leg.Debit ≡ kept_total ks ac Leg.Debit + 0 = keep_gains S ks o ac Leg.Debit ∙ ap (λ (l : Leg). kept_total ks ac Leg.Debit + cond (same_leg l Leg.Debit) (kept_move S ks o ac) 0) r.its_leg_is in
      let z = same_total ac Leg.Debit (λ t. not_returned (bytes_eq o.txn t) (ans t Leg.Debit) P) in
      let y = k.totals ac Leg.Debit mine in
      omega (arith, g, z, y)
  totals_more ac Leg.Credit mine =
      let g : kept_total (joined ks (keeps S ks o)) ac Leg.Credit ≡ kept_total ks ac Leg.Credit + 0 = keep_gains S ks o ac Leg.Credit ∙ ap (λ (l : Leg). kept_total ks ac Leg.Credit + cond (same_leg l Leg.Credit) (kept_move S ks o ac) 0) r.its_leg_is in
      let z = same_total ac Leg.Credit (λ t. not_returned (bytes_eq o.txn t) (ans t Leg.Credit) P) in
      let y = k.totals ac Leg.Credit mine in
      omega (arith, g, z, y)
  totals_more ac Leg.Reversal mine =
      let g : kept_total (joined ks (keeps S ks o)) ac Leg.Reversal ≡ kept_total ks ac Leg.Reversal + kept_move S ks o ac = keep_gains S ks o ac Leg.Reversal ∙ ap (λ (l : Leg). kept_total ks ac Leg.Reversal + cond (same_leg l Leg.Reversal) (kept_move S ks o ac) 0) r.its_leg_is in
      let z = total_more S h ans (with_return ans o.txn) o.txn Leg.Reversal (Some P) more_of ac r.q r.begun in
      let m = move_is ac in
      let y = k.totals ac Leg.Reversal mine in
      omega (arith, g, z, m, y)

  one_more : KeptBy S s h (with_return ans o.txn) (joined ks (keeps S ks o))
  one_more = record {
    answers = λ t l. keep_says S ks o t l ∙ ap (λ (m : Leg). option_or (kept_answer ks t l) (cond (bytes_eq o.txn t && same_leg m l) (kept_post S ks o) None)) r.its_leg_is ∙ answers_more t l (bytes_eq o.txn t && same_leg Leg.Reversal l) refl;
    totals = totals_more;
  }

-- ---- all of them

abbrev with_returns : Answers → List Order → Answers
with_returns ans [] = ans
with_returns ans (o ∷ rs) = with_return (with_returns ans rs) o.txn

kept_by : (S : Setup) (s : ℕ) (h : History) (os rs : List Order) → KeptBy S s h (answer S h) (kept S os) → AllByRecursion (IsReturn S s h) rs → KeptBy S s h (with_returns (answer S h) rs) (kept S (rs ++ os))
kept_by S s h os [] k all = k
kept_by S s h os (o ∷ rs) k all = one_more S s h (with_returns (answer S h) rs) (kept S (rs ++ os)) o (kept_by S s h os rs k all.1) all.0

-- the debits are answered as before, and a reversal that came by its debit
debits_stay : (ans : Answers) (rs : List Order) (t : Text) → with_returns ans rs t Leg.Debit ≡ ans t Leg.Debit
debits_stay ans [] t = refl
debits_stay ans (o ∷ rs) t = not_returned (bytes_eq o.txn t) (with_returns ans rs t Leg.Debit) (post_reversal (with_returns ans rs o.txn Leg.Debit)) ∙ debits_stay ans rs t

credits_stay : (ans : Answers) (rs : List Order) (t : Text) → with_returns ans rs t Leg.Credit ≡ ans t Leg.Credit
credits_stay ans [] t = refl
credits_stay ans (o ∷ rs) t = not_returned (bytes_eq o.txn t) (with_returns ans rs t Leg.Credit) (post_reversal (with_returns ans rs o.txn Leg.Debit)) ∙ credits_stay ans rs t

returned_once : (b c : Bool) (x : Option Answer) (p : Answer) → option_or (option_or x (when c p)) (when b p) ≡ option_or x (when (b || c) p)
returned_once b c (Some y) p = refl
returned_once true true None p = refl
returned_once true false None p = refl
returned_once false true None p = refl
returned_once false false None p = refl

reversals_are : (ans : Answers) (rs : List Order) (t : Text) → with_returns ans rs t Leg.Reversal ≡ option_or (ans t Leg.Reversal) (when (is_returned rs t) (post_reversal (ans t Leg.Debit)))
reversals_are ans [] t = sym (or_none (ans t Leg.Reversal))
reversals_are ans (o ∷ rs) t = go (bytes_eq o.txn t) refl (reversals_are ans rs t)
  where
    go : (b : Bool) → bytes_eq o.txn t ≡ b → with_returns ans rs t Leg.Reversal ≡ option_or (ans t Leg.Reversal) (when (is_returned rs t) (post_reversal (ans t Leg.Debit)))
        → option_or (with_returns ans rs t Leg.Reversal) (when (b && true) (post_reversal (with_returns ans rs o.txn Leg.Debit))) ≡ option_or (ans t Leg.Reversal) (when (b || is_returned rs t) (post_reversal (ans t Leg.Debit)))
    go true is before =
        let T : o.txn ≡ t = (bytes_eq-Decides o.txn t).0 is in
        let debit : with_returns ans rs o.txn Leg.Debit ≡ ans t Leg.Debit = ap (λ (u : Text). with_returns ans rs u Leg.Debit) T ∙ debits_stay ans rs t in
        (λ i. option_or (before i) (Some (post_reversal (debit i)))) ∙ returned_once true (is_returned rs t) (ans t Leg.Reversal) (post_reversal (ans t Leg.Debit))
    go false is before = or_none (with_returns ans rs t Leg.Reversal) ∙ before

-- ---- the Close

-- whether a Close would make its reversal arrive, by its shard's own entries
due_own : (S : Setup) (t : Text) (h : History) → is_closed h ≡ false → reversal_due S t h ≡ returns_at_close (own_standing S t (own_deeds (Owner.Txns (txn_shard t)) h))
due_own S t h run = ap returns_at_close (sym (own_standing_is S t h run))

module _ (S : Setup) (s : ℕ) (h : History) (e : Entry) (rs : List Order) (run : is_closed h ≡ false) (close : e.call ≡ Call.Close) (returns : AreReturns S s h rs) where
  -- how the Close answers a leg
  at_end : (t : Text) (l : Leg) → answer S (e ∷ h) t l ≡ option_or (answer S h t l) (when (same_leg l Leg.Reversal && reversal_due S t h) (post_reversal (answer S h t Leg.Debit)))
  at_end t l = (close_returns S e h t run close).answers_are l ∙ ap (λ (b : Bool). option_or (answer S h t l) (when (same_leg l Leg.Reversal && b) (post_reversal (answer S h t Leg.Debit)))) (sym (due_own S t h run))

  -- what a payment moved at an account of the shard is what the shard says
  share_is : (ac : AccountRef) (l : Leg) (x : Opening) → account_shard ac ≡ s → opening S x.terms.txn h ≡ Some x → share S ac l (with_returns (answer S h) rs x.terms.txn l) x.terms ≡ share S ac l (answer S (e ∷ h) x.terms.txn l) x.terms
  share_is ac Leg.Debit x mine begun = ap (λ (y : Option Answer). share S ac Leg.Debit y x.terms) (debits_stay (answer S h) rs x.terms.txn ∙ sym (at_end x.terms.txn Leg.Debit ∙ or_none (answer S h x.terms.txn Leg.Debit)))
  share_is ac Leg.Credit x mine begun = ap (λ (y : Option Answer). share S ac Leg.Credit y x.terms) (credits_stay (answer S h) rs x.terms.txn ∙ sym (at_end x.terms.txn Leg.Credit ∙ or_none (answer S h x.terms.txn Leg.Credit)))
  share_is ac Leg.Reversal x mine begun = go (with_returns (answer S h) rs x.terms.txn Leg.Reversal) refl (answer S (e ∷ h) x.terms.txn Leg.Reversal) refl (account_at S x.terms.payer) refl
    where
      go : (here : Option Answer) → with_returns (answer S h) rs x.terms.txn Leg.Reversal ≡ here → (there : Option Answer) → answer S (e ∷ h) x.terms.txn Leg.Reversal ≡ there
          → (y : Option Account) → account_at S x.terms.payer ≡ y → share S ac Leg.Reversal here x.terms ≡ share S ac Leg.Reversal there x.terms
      go here h' there t' None is = (λ i. cond (has_account ac (is i) && is_posted here) x.terms.amount 0) ∙ (λ i. cond (has_account ac (sym is i) && is_posted there) x.terms.amount 0)
      go here h' there t' (Some a) is = at_account (same_account a.ac ac) refl
        where
          at_account : (b : Bool) → same_account a.ac ac ≡ b → share S ac Leg.Reversal here x.terms ≡ share S ac Leg.Reversal there x.terms
          at_account false away =
              let none : has_account ac (account_at S x.terms.payer) ≡ false = ap (has_account ac) is ∙ away in
              (λ i. cond (none i && is_posted here) x.terms.amount 0) ∙ (λ i. cond (sym none i && is_posted there) x.terms.amount 0)
          at_account true same =
              let in_shard : account_shard a.ac ≡ s = ap account_shard (same_account_is a.ac ac same) ∙ mine in
              let due = returns.which x.terms.txn x a begun is in_shard in
              let both : here ≡ there =
              sym h' ∙ reversals_are (answer S h) rs x.terms.txn ∙ ap (λ (b : Bool). option_or (answer S h x.terms.txn Leg.Reversal) (when b (post_reversal (answer S h x.terms.txn Leg.Debit)))) due
              ∙ sym (at_end x.terms.txn Leg.Reversal) ∙ t' in
              ap (λ (y : Option Answer). share S ac Leg.Reversal y x.terms) both

  total_is : (ac : AccountRef) (l : Leg) → account_shard ac ≡ s → total S (opened S h) (with_returns (answer S h) rs) ac l ≡ total S (opened S (e ∷ h)) (answer S (e ∷ h)) ac l
  total_is ac l mine =
      sum_all (λ (x : Opening). share S ac l (with_returns (answer S h) rs x.terms.txn l) x.terms) (λ (x : Opening). share S ac l (answer S (e ∷ h) x.terms.txn l) x.terms) (λ (x : Opening). opening S x.terms.txn h ≡ Some x)
      (λ x begun. share_is ac l x mine begun) (opened S h) (opening_laws.found S h)
      ∙ sym (total_here S e h ac l)

  abbrev os : List Order
  os = own_orders (own_deeds (Owner.Accounts s) h)

  pub balance_closed : (p : Ledger) (ac : AccountRef) → Legal S h → Stands S s (rs ++ own_orders (own_deeds (Owner.Accounts s) h)) p → balance_of p.book ac ≡ balance_at S s (e ∷ h) ac
  balance_closed p ac legal stands = balance_stands S s (rs ++ os) p ac stands ∙ go (s == account_shard ac) refl (account_named S ac) refl
    where
      by : KeptBy S s h (with_returns (answer S h) rs) (kept S (rs ++ os))
      by = let k = kept_history S s h legal run in kept_by S s h os rs (record { answers = k.answers; totals = k.totals }) returns.each

      balance_is : (a : Account) → account_shard a.ac ≡ s → kept_balance (kept S (rs ++ os)) a ≡ balance S a (e ∷ h)
      balance_is a mine =
          let t : (l : Leg) → kept_total (kept S (rs ++ os)) a.ac l ≡ total S (opened S (e ∷ h)) (answer S (e ∷ h)) a.ac l = λ l. by.totals a.ac l mine ∙ total_is a.ac l mine in
          λ i. a.opening + t Leg.Reversal i + t Leg.Credit i - t Leg.Debit i

      go : (c : Bool) → (s == account_shard ac) ≡ c → (y : Option Account) → account_named S ac ≡ y → option_map (kept_balance (kept S (rs ++ os))) (cond c y None) ≡ option_map (λ (a : Account). balance S a (e ∷ h)) (cond c y None)
      go false is y named = refl
      go true is None named = refl
      go true is (Some a) named = ap (λ (n : ℕ). Some n) (balance_is a (ap account_shard (account_name S ac a named) ∙ sym (eqb-true s (account_shard ac) is)))

  -- and how its legs were answered
  pub answer_closed : (t : Text) (l : Leg) (q : Opening) (a : Account) → Legal S h → opening S t h ≡ Some q → account_at S (posted_at l q.terms) ≡ Some a → account_shard a.ac ≡ s
      → kept_answer (kept S (rs ++ own_orders (own_deeds (Owner.Accounts s) h))) t l ≡ answer S (e ∷ h) t l
  answer_closed t l q a legal begun held mine =
      by.answers t l ∙ ap (λ (b : Bool). cond b (with_returns (answer S h) rs t l) None) (at_true S s l (opening S t h) q a begun held mine) ∙ leg l held
    where
      by : KeptBy S s h (with_returns (answer S h) rs) (kept S (rs ++ os))
      by = let k = kept_history S s h legal run in kept_by S s h os rs (record { answers = k.answers; totals = k.totals }) returns.each

      leg : (l : Leg) → account_at S (posted_at l q.terms) ≡ Some a → with_returns (answer S h) rs t l ≡ answer S (e ∷ h) t l
      leg Leg.Debit held = debits_stay (answer S h) rs t ∙ sym (at_end t Leg.Debit ∙ or_none (answer S h t Leg.Debit))
      leg Leg.Credit held = credits_stay (answer S h) rs t ∙ sym (at_end t Leg.Credit ∙ or_none (answer S h t Leg.Credit))
      leg Leg.Reversal held =
          reversals_are (answer S h) rs t ∙ ap (λ (b : Bool). option_or (answer S h t Leg.Reversal) (when b (post_reversal (answer S h t Leg.Debit)))) (returns.which t q a begun held mine)
          ∙ sym (at_end t Leg.Reversal)
