-- A transaction as the report sees it, by what the tables say of it.
use Rattle.std.proofs.Common.{◌≡◌, ℕ, zero, suc, ◌+◌, Bool, true, List, [], ◌∷◌, map, take, Option, Some, None, refl, sym, ap, subst, ◌∙◌, arith}
use Rattle.std.specs.Prelude.{slice_get}
use Rattle.std.specs.List.{AllByRecursion}
use Rattle.std.specs.Option.{option_map}
use Rattle.std.proofs.lemmas.Option.{slice_get-map}
use Rattle.upi_base.specs.Lists.{joined}
use Rattle.upi_base.specs.Setup.{account_at, listing_at, is_setup}
use Rattle.upi_base.proofs.Options.{some_same}
use Rattle.upi_words.specs.Prelude.{Account, AccountRef, Answer, Leg, Listing, Opening, Outcome, PayReq, Setup, History, Text, TxnRow, opened, opening, outcome_of}
use Rattle.upi_model.specs.Postings.{answer, is_posted, posted_at}
use Rattle.upi_model.specs.Settlement.{bank_at, bank_of, txn_row}
use Rattle.upi_model.specs.Structure.{IsAllowed}
use Rattle.upi_model.proofs.Gathered.{opening_laws}
use Rattle.upi_model.proofs.Openings.{all_picked}
use Rattle.upi_laws.proofs.Sums.{known_at}
use Rattle.txn_row.proofs.Accounts.{refs_are}
use Rattle.txn_row.specs.Rows.{Course}
use Rattle.txn_shards.specs.Txns.{StandTxns, entries_in, name_of, row_in}
use Rattle.txn_shards.proofs.Gathered.{txn_laws}

-- the account that the setup's listing of an address names
abbrev pub listed : Setup → Text → Option AccountRef
listed S addr = option_map (λ (l : Listing). l.ac) (listing_at S addr)

-- an address of an account has this one
listed_is : (S : Setup) (addr : Text) (a : Account) (ac : AccountRef) → is_setup S ≡ true → account_at S addr ≡ Some a → Some ac ≡ listed S addr → a.ac ≡ ac
listed_is S addr a ac ok held is = go (sym (ap (option_map (λ (x : Account). x.ac)) held) ∙ sym (refs_are S addr ok) ∙ sym is)
  where
    go : Some a.ac ≡ Some ac → a.ac ≡ ac
    go e = cc

bank_is : (S : Setup) (addr : Text) (a : Account) (ac : AccountRef) → is_setup S ≡ true → account_at S addr ≡ Some a → Some ac ≡ listed S addr → ac.bank ≡ bank_at S addr
bank_is S addr a ac ok held is = ap (λ (x : AccountRef). x.bank) (sym (listed_is S addr a ac ok held is)) ∙ ap bank_of (sym held)

none_listed : (S : Setup) (addr : Text) (a : Account) → is_setup S ≡ true → account_at S addr ≡ Some a → None ≡ listed S addr → ⊥
none_listed S addr a ok held none = go (none ∙ refs_are S addr ok ∙ ap (option_map (λ (x : Account). x.ac)) held)
  where
    go : None ≡ Some a.ac → ⊥
    go e = absurd cc

module _ (S : Setup) (h : History) (o : Opening) (t : Text) (r : PayReq) (ok : is_setup S ≡ true) (begun : opening S t h ≡ Some o) (terms : o.terms ≡ r) where
  -- the account of its payer or payee
  held : (l : Leg) → (a : Account) × (account_at S (posted_at l r) ≡ Some a)
  held l =
      let known = known_at S l o (all_picked (IsAllowed S) t (opened S h) o (opening_laws.allowed S h) begun).1 in
      (known.0, ap (λ (x : PayReq). account_at S (posted_at l x)) (sym terms) ∙ known.1)

  -- both are listed
  pub no_account : (l : Leg) → None ≡ listed S (posted_at l r) → ⊥
  no_account l none = let a = held l in none_listed S (posted_at l r) a.0 ok a.1 none

  pub is_seen : (payer payee : AccountRef) (found : Option Outcome) (posted : Bool) → Some payer ≡ listed S r.payer → Some payee ≡ listed S r.payee → found ≡ outcome_of S r.txn h → posted ≡ is_posted (answer S h r.txn Leg.Credit)
      → record { txn = r.txn; payer_bank = payer.bank; payee_bank = payee.bank; amount = r.amount; outcome = found; credit_moved = posted } ≡ txn_row S h o
  is_seen payer payee found posted payer_is payee_is found_is posted_is =
      let from = held Leg.Debit in
      let to = held Leg.Credit in
      (λ i. record {
        txn = r.txn;
        payer_bank = bank_is S r.payer from.0 payer ok from.1 payer_is i;
        payee_bank = bank_is S r.payee to.0 payee ok to.1 payee_is i;
        amount = r.amount;
        outcome = found_is i;
        credit_moved = posted_is i;
      })
      ∙ ap (λ (x : PayReq). record {
        txn = x.txn;
        payer_bank = bank_at S x.payer;
        payee_bank = bank_at S x.payee;
        amount = x.amount;
        outcome = outcome_of S x.txn h;
        credit_moved = is_posted (answer S h x.txn Leg.Credit);
      }) (sym terms)

  -- how its credit was answered, by the account at which it is posted
  pub credit_is : (payee : AccountRef) (found : Option Answer) → Some payee ≡ listed S r.payee → ((q : Opening) (a : Account) → opening S t h ≡ Some q → account_at S (posted_at Leg.Credit q.terms) ≡ Some a → a.ac ≡ payee → found ≡ answer S h t Leg.Credit)
      → found ≡ answer S h t Leg.Credit
  credit_is payee found payee_is says =
      let to = held Leg.Credit in
      says o to.0 begun (ap (λ (x : PayReq). account_at S (posted_at Leg.Credit x)) terms ∙ to.1) (listed_is S r.payee to.0 payee ok to.1 payee_is)

-- the opening at a place, by its name
pub opening_at : (S : Setup) (h : History) (k : ℕ) (o : Opening) → slice_get (opened S h) k ≡ Some o → opening S o.terms.txn h ≡ Some o
opening_at S h k o is = go (opened S h) (opening_laws.found S h) k is
  where
    go : (os : List Opening) → AllByRecursion (λ (q : Opening). opening S q.terms.txn h ≡ Some q) os → (k : ℕ) → slice_get os k ≡ Some o → opening S o.terms.txn h ≡ Some o
    go [] all k is = absurd cc
    go (q ∷ os) all zero is = let same : q ≡ o = cc in subst (λ (p : Opening). opening S p.terms.txn h ≡ Some p) same all.0
    go (q ∷ os) all (suc k) is = go os all.1 k is

-- what stands at a place of the names
pub name_at : (S : Setup) (h : History) (names : List Text) (k : ℕ) → names ≡ map name_of (opened S h) → slice_get names k ≡ option_map name_of (slice_get (opened S h) k)
name_at S h names k is = ap (λ (xs : List Text). slice_get xs k) is ∙ slice_get-map name_of (opened S h) k

-- a row by its name
pub row_by : (S : Setup) (h : History) (k : ℕ) (t : Text) (r : Option TxnRow) → Some t ≡ option_map name_of (slice_get (opened S h) k) → ((o : Opening) → opening S t h ≡ Some o → r ≡ Some (txn_row S h o)) → r ≡ option_map (txn_row S h) (slice_get (opened S h) k)
row_by S h k t r is each = go (slice_get (opened S h) k) refl is
  where
    go : (x : Option Opening) → slice_get (opened S h) k ≡ x → Some t ≡ option_map name_of x → r ≡ option_map (txn_row S h) x
    go None at named = absurd cc
    go (Some o) at named =
        let same : t ≡ o.terms.txn = cc in
        each o (ap (λ (u : Text). opening S u h) same ∙ opening_at S h k o at)

pub none_by : (S : Setup) (h : History) (k : ℕ) → None ≡ option_map name_of (slice_get (opened S h) k) → None ≡ option_map (txn_row S h) (slice_get (opened S h) k)
none_by S h k is = go (slice_get (opened S h) k) is
  where
    go : (x : Option Opening) → None ≡ option_map name_of x → None ≡ option_map (txn_row S h) x
    go None named = refl
    go (Some o) named = absurd cc

-- the row of an opened transaction is of its opening
module _ (S : Setup) (h : History) (rss : List (List Course)) (t : Text) (o : Opening) (stand : StandTxns S (entries_in h) rss) (begun : opening S t h ≡ Some o) where
  pub no_row : None ≡ row_in rss t → ⊥
  no_row none = go (ap (option_map (λ (c : Course). c.opening)) none ∙ txn_laws.rows S h rss t stand ∙ begun)
    where
      go : None ≡ Some o → ⊥
      go e = absurd cc

  pub has_row : (c : Course) → Some c ≡ row_in rss t → c.opening ≡ o
  has_row c is = some_same c.opening o (ap (option_map (λ (c : Course). c.opening)) is ∙ txn_laws.rows S h rss t stand ∙ begun)

-- one row more
pub rows_more : {X Y : Type 0} (f : X → Y) (xs : List X) (i : ℕ) → joined (map f (take i xs)) (option_map f (slice_get xs i)) ≡ map f (take (i + 1) xs)
rows_more f [] zero = refl
rows_more f [] (suc i) = let n : suc i + 1 ≡ suc (i + 1) = omega arith in ap (λ (k : ℕ). map f (take k [])) (sym n)
rows_more f (x ∷ xs) zero = refl
rows_more {Y = Y} f (x ∷ xs) (suc i) =
    let n : suc i + 1 ≡ suc (i + 1) = omega arith in
    joined_behind (f x) (map f (take i xs)) (option_map f (slice_get xs i)) ∙ ap (λ (ys : List Y). f x ∷ ys) (rows_more f xs i) ∙ ap (λ (k : ℕ). map f (take k (x ∷ xs))) (sym n)
  where
    joined_behind : {Z : Type 0} (z : Z) (zs : List Z) (o : Option Z) → joined (z ∷ zs) o ≡ z ∷ joined zs o
    joined_behind z zs None = refl
    joined_behind z zs (Some w) = refl
