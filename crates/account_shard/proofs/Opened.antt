-- A shard before its first order: its accounts are those that the lines of the setup so far give in it.
use Rattle.std.proofs.Common.{◌≡◌, ℕ, Bool, true, false, cond, [], ◌∷◌, ◌++◌, Option, Some, None, refl, sym, ap, ◌∙◌, arith}
use Rattle.std.specs.Prelude.{is_some, ◌==◌}
use Rattle.std.specs.Option.{option_map, option_or}
use Rattle.std.specs.Prelude.{Result, Ok, Err, OnOk}
use Rattle.std.proofs.lemmas.Bool.{both_ways}
use Rattle.std.proofs.lemmas.Bool.Decides.{nat_tests}
use Rattle.upi_base.specs.Lists.{when}
use Rattle.upi_base.specs.Setup.{same_account, account_named, account_in as line_account}
use Rattle.upi_base.specs.Shards.{account_shard}
use Rattle.upi_base.proofs.Lists.{pick-push}
use Rattle.upi_base.proofs.Options.{or_none}
use Rattle.upi_base.proofs.Setups.{same_account_is, same_account_self}
use Rattle.upi_words.specs.Prelude.{Account, AccountRef, Setup, SetupLine}
use Rattle.upi_model.specs.Accounts.{kept, kept_balance}
use Rattle.bank_book.specs.declared.Holding.{Holding}
use Rattle.bank_book.specs.Book.{Holdings, holding_of}
use Rattle.leg_post.specs.Posts.{Ledger, held, opening}
use Rattle.leg_post.proofs.Runs.{opens}
use Rattle.account_shard.specs.Shard.{Stands, IsBookOf, shard_account, line_of, is_in}

-- a book of a setup's accounts, with no leg, stands for no order
pub opens_shard : (S : Setup) (s : ℕ) (p : Ledger) → p.legs ≡ [] → IsBookOf S s p.book → Stands S s [] p
opens_shard S s p legs is = record {
  posted = opens S p legs (λ ac h has. opening_is (s == account_shard ac) (account_named S ac) h (sym (is ac) ∙ has));
  accounts_are = λ ac. ap (λ (x : Option Holding). is_some x) (is ac) ∙ some_too (shard_account S s ac);
}
  where
    opening_is : (c : Bool) (y : Option Account) (h : Holding) → option_map opening (cond c y None) ≡ Some h → option_map opening y ≡ Some h
    opening_is true y h e = e
    opening_is false y h e = absurd cc

    some_too : (y : Option Account) → is_some (option_map opening y) ≡ is_some y
    some_too None = refl
    some_too (Some a) = refl

-- and conversely
book_is : (S : Setup) (s : ℕ) (p : Ledger) → Stands S s [] p → IsBookOf S s p.book
book_is S s p stands ac = go (holding_of p.book ac) refl (s == account_shard ac) (account_named S ac) (stands.accounts_are ac) (λ h is. stands.posted.holdings_are ac h is)
  where
    same : (a : Account) → held (kept S []) a ≡ opening a
    same a = let n : kept_balance (kept S []) a ≡ a.opening = omega arith in ap (λ (k : ℕ). record { balance = k; no_debit = a.no_debit; no_credit = a.no_credit }) n

    go : (x : Option Holding) → holding_of p.book ac ≡ x → (c : Bool) (y : Option Account) → is_some (holding_of p.book ac) ≡ is_some (cond c y None)
        → ((h : Holding) → holding_of p.book ac ≡ Some h → option_map (held (kept S [])) y ≡ Some h) → holding_of p.book ac ≡ option_map opening (cond c y None)
    go None is true None there has = is
    go None is true (Some a) there has = let never : is_some {T = Holding} None ≡ true = ap (λ (x : Option Holding). is_some x) (sym is) ∙ there in absurd cc
    go None is false y there has = is
    go (Some h) is true None there has = let never : is_some (Some h) ≡ false = ap (λ (x : Option Holding). is_some x) (sym is) ∙ there in absurd cc
    go (Some h) is true (Some a) there has = is ∙ sym (has h is) ∙ ap (λ (k : Holding). Some k) (same a)
    go (Some h) is false y there has = let never : is_some (Some h) ≡ false = ap (λ (x : Option Holding). is_some x) (sym is) ∙ there in absurd cc

-- what a book holds with an account more
holding_of-push : (b : Holdings) (ac q : AccountRef) (h : Holding) → holding_of (b ++ (ac, h) ∷ []) q ≡ option_or (holding_of b q) (when (same_account q ac) h)
holding_of-push [] ac q h = refl
holding_of-push (r ∷ rs) ac q h = go (same_account q r.0) (holding_of-push rs ac q h)
  where
    go : (b : Bool) → holding_of (rs ++ (ac, h) ∷ []) q ≡ option_or (holding_of rs q) (when (same_account q ac) h)
        → cond b (Some r.1) (holding_of (rs ++ (ac, h) ∷ []) q) ≡ option_or (cond b (Some r.1) (holding_of rs q)) (when (same_account q ac) h)
    go true later = refl
    go false later = later

flip : (a b : AccountRef) → same_account a b ≡ same_account b a
flip a b = go (same_account a b) refl (same_account b a) refl
  where
    go : (x : Bool) → same_account a b ≡ x → (y : Bool) → same_account b a ≡ y → x ≡ y
    go true e true f = refl
    go false e false f = refl
    go true e false f = absurd (both_ways (same_account b a) f (ap (λ (c : AccountRef). same_account b c) (same_account_is a b e) ∙ same_account_self b))
    go false e true f = absurd (both_ways (same_account a b) e (ap (λ (c : AccountRef). same_account a c) (same_account_is b a f) ∙ same_account_self a))

-- an account more, of a line more
book_more : (S : Setup) (b : Holdings) (a : Account) → IsBookOf S (account_shard a.ac) b → IsBookOf (S ++ line_of a ∷ []) (account_shard a.ac) (b ++ (a.ac, opening a) ∷ [])
book_more S b a is q =
    holding_of-push b a.ac q (opening a) ∙ ap (λ (x : Option Holding). option_or x (when (same_account q a.ac) (opening a))) (is q)
    ∙ go (account_shard a.ac == account_shard q) refl (same_account a.ac q) refl (account_named S q)
    ∙ ap (λ (y : Option Account). option_map opening (cond (account_shard a.ac == account_shard q) y None)) (sym (pick-push (line_account q) S (line_of a)))
  where
    go : (c : Bool) → (account_shard a.ac == account_shard q) ≡ c → (d : Bool) → same_account a.ac q ≡ d → (y : Option Account)
        → option_or (option_map opening (cond c y None)) (when (same_account q a.ac) (opening a)) ≡ option_map opening (cond c (option_or y (when (same_account a.ac q) a)) None)
    go true at d e (Some x) = refl
    go true at true e None = (λ i. when ((flip q a.ac ∙ e) i) (opening a)) ∙ (λ i. option_map opening (when (sym e i) a))
    go true at false e None = (λ i. when ((flip q a.ac ∙ e) i) (opening a)) ∙ (λ i. option_map opening (when (sym e i) a))
    go false at true e y = absurd (both_ways (account_shard a.ac == account_shard q) at (self (account_shard a.ac) (account_shard q) (ap account_shard (same_account_is a.ac q e))))
      where
        self : (m n : ℕ) → m ≡ n → (m == n) ≡ true
        self m n e = grind (arith, nat_tests, e)
    go false at false e y = (λ i. when ((flip q a.ac ∙ e) i) (opening a))

pub stands_opened : (S : Setup) (a : Account) (p after : Ledger) → p.legs ≡ [] → after.legs ≡ p.legs → after.book ≡ p.book ++ (a.ac, opening a) ∷ []
    → Stands S (account_shard a.ac) [] p → Stands (S ++ line_of a ∷ []) (account_shard a.ac) [] after
stands_opened S a p after legs same book stands =
    opens_shard (S ++ line_of a ∷ []) (account_shard a.ac) after (same ∙ legs)
    (λ q. ap (λ (b : Holdings). holding_of b q) book ∙ book_more S p.book a (book_is S (account_shard a.ac) p stands) q)

pub ok_opened : {T E : Type 0} (r : Result T E) (a : Account) (p after : Ledger) → p.legs ≡ [] → OnOk r (after ≡ record p { book = p.book ++ (a.ac, opening a) ∷ [] })
    → OnOk r ((S : Setup) → Stands S (account_shard a.ac) [] p → Stands (S ++ line_of a ∷ []) (account_shard a.ac) [] after)
ok_opened (Ok x) a p after legs is = λ S stands. stands_opened S a p after legs (ap (λ (q : Ledger). q.legs) is) (ap (λ (q : Ledger). q.book) is) stands
ok_opened (Err x) a p after legs is = tt

-- a line that gives no account of the shard changes nothing
pub stands_beside : (S : Setup) (s : ℕ) (l : SetupLine) (p : Ledger) → is_in s l ≡ false → Stands S s [] p → Stands (S ++ l ∷ []) s [] p
stands_beside S s l p out stands = opens_shard (S ++ l ∷ []) s p stands.posted.legs_are (λ q.
    book_is S s p stands q
    ∙ go q l out (s == account_shard q) refl (account_named S q)
    ∙ ap (λ (y : Option Account). option_map opening (cond (s == account_shard q) y None)) (sym (pick-push (line_account q) S l)))
  where
    go : (q : AccountRef) (l : SetupLine) → is_in s l ≡ false → (c : Bool) → (s == account_shard q) ≡ c → (y : Option Account) → option_map opening (cond c y None) ≡ option_map opening (cond c (option_or y (line_account q l)) None)
    go q l out false at y = refl
    go q (SetupLine.Account ac n d c) out true at y = ap (λ (x : Option Account). option_map opening x) (sym (or_none y)) ∙ other (same_account ac q) refl
      where
        other : (b : Bool) → same_account ac q ≡ b → option_map opening (option_or y None) ≡ option_map opening (option_or y (when (same_account ac q) (record { ac = ac; opening = n; no_debit = d; no_credit = c })))
        other true e = absurd (both_ways (s == account_shard ac) out (ap (λ (x : AccountRef). s == account_shard x) (same_account_is ac q e) ∙ at))
        other false e = λ i. option_map opening (option_or y (when (sym e i) (record { ac = ac; opening = n; no_debit = d; no_credit = c })))
    go q (SetupLine.Bank code) out true at y = ap (option_map opening) (sym (or_none y))
    go q (SetupLine.Psp name) out true at y = ap (option_map opening) (sym (or_none y))
    go q (SetupLine.Address addr ac policy) out true at y = ap (option_map opening) (sym (or_none y))
