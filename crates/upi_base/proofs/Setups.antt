-- What holds of a setup whose lines are accepted, one behind the other.
use Rattle.std.proofs.Common.{◌≡◌, ℕ, ◌+◌, ◌≤◌, Bool, true, false, cond, not, ◌||◌, List, [], ◌∷◌, ◌++◌, Option, Some, None, refl, ap, sym, subst, ◌∙◌, append_assoc, inl, inr}
use Rattle.std.specs.Prelude.{if◌then◌else◌, is_some, is_none}
use Rattle.std.specs.Option.{option_or}
use Rattle.std.specs.List.{list_any, count_by, AllByRecursion}
use Rattle.std.specs.Str.{bytes_eq}
use Rattle.std.proofs.lemmas.Bool.{and_parts, and_from}
use Rattle.std.proofs.lemmas.List.{append-nil}
use Rattle.std.proofs.lemmas.List.Folds.{list_any-append}
use Rattle.std.proofs.lemmas.List.Sums.{sum_by-cons, sum_by-append}
use Rattle.std.proofs.lemmas.Slice.Eq.{bytes_eq-Decides}
use Rattle.upi_base.specs.declared.setup.AccountRef.{AccountRef}
use Rattle.upi_base.specs.declared.setup.Account.{Account}
use Rattle.upi_base.specs.declared.setup.Listing.{Listing}
use Rattle.upi_base.specs.declared.setup.SetupLine.{SetupLine}
use Rattle.upi_base.specs.declared.setup.SetupLine.TheVariants as line
use Rattle.upi_base.specs.declared.fault.Why.{Why}
use Rattle.upi_base.specs.Lists.{when}
use Rattle.upi_base.specs.Money.{max_paise}
use Rattle.upi_base.specs.Setup.{same_account, provider, names_bank, names_psp, account_in, listing_in, has_bank, has_psp, account_named, listing_at, setup_fault, accepts_from, is_setup, line_accounts, accounts, IsNamed, AcceptedAreSound, SetupsExtend, OpensWithin}
use Rattle.upi_base.proofs.Options.{some_is, is_some_has, no_some, none_no, or_cases, or_stays, or_second, when_true}
use Rattle.upi_base.proofs.Lists.{pick-push}

-- one line more

accepts_push : (before after : List SetupLine) (l : SetupLine) → accepts_from before after ≡ true → setup_fault (before ++ after) l ≡ None → accepts_from before (after ++ l ∷ []) ≡ true
accepts_push before [] l h free =
    let here : setup_fault before l ≡ None = ap (λ s. setup_fault s l) (sym (append-nil before)) ∙ free in
    and_from (is_none (setup_fault before l)) true (ap (λ o. is_none o) here) refl
accepts_push before (x ∷ after) l h free =
    let parts = and_parts (is_none (setup_fault before x)) (accepts_from (before ++ x ∷ []) after) h in
    let there : setup_fault (before ++ x ∷ [] ++ after) l ≡ None = ap (λ s. setup_fault s l) (append_assoc before (x ∷ []) after) ∙ free in
    and_from (is_none (setup_fault before x)) (accepts_from (before ++ x ∷ []) (after ++ l ∷ [])) parts.0 (accepts_push (before ++ x ∷ []) after l parts.1 there)

pub setups_extend : SetupsExtend
setups_extend S l h free = accepts_push [] S l h free

-- what holds of no lines, and stays behind a line that is accepted, holds of each setup

none_yes : (o : Option Why) → is_none o ≡ true → o ≡ None
none_yes None h = refl
none_yes (Some w) h = absurd cc

module _ (P : List SetupLine → Type 0) (step : (S : List SetupLine) (l : SetupLine) → P S → setup_fault S l ≡ None → P (S ++ l ∷ [])) where
  kept_from : (before after : List SetupLine) → P before → accepts_from before after ≡ true → P (before ++ after)
  kept_from before [] p h = subst P (sym (append-nil before)) p
  kept_from before (l ∷ ls) p h =
      let parts = and_parts (is_none (setup_fault before l)) (accepts_from (before ++ l ∷ []) ls) h in
      subst P (append_assoc before (l ∷ []) ls) (kept_from (before ++ l ∷ []) ls (step before l p (none_yes (setup_fault before l) parts.0)) parts.1)

  pub kept_by_setup : P [] → (S : List SetupLine) → is_setup S ≡ true → P S
  kept_by_setup nothing S h = kept_from [] S nothing h

-- equal names are one account

pub same_account_is : (a b : AccountRef) → same_account a b ≡ true → a ≡ b
same_account_is a b h =
    let parts = and_parts (bytes_eq a.bank b.bank) (bytes_eq a.num b.num) h in
    let bank = (bytes_eq-Decides a.bank b.bank).0 parts.0 in
    let num = (bytes_eq-Decides a.num b.num).0 parts.1 in
    λ i. record { bank = bank i; num = num i }

pub same_account_self : (a : AccountRef) → same_account a a ≡ true
same_account_self a = and_from (bytes_eq a.bank a.bank) (bytes_eq a.num a.num) ((bytes_eq-Decides a.bank a.bank).1 refl) ((bytes_eq-Decides a.num a.num).1 refl)

pub bytes_eq_is : (a b : List ℕ) → bytes_eq a b ≡ true → a ≡ b
bytes_eq_is a b h = (bytes_eq-Decides a b).0 h

-- what the lines say stays behind a further line

pub account_stays : (S : List SetupLine) (l : SetupLine) (ac : AccountRef) → is_some (account_named S ac) ≡ true → account_named (S ++ l ∷ []) ac ≡ account_named S ac
account_stays S l ac h =
    let found = is_some_has (account_named S ac) h in
    pick-push (account_in ac) S l ∙ (or_stays (account_named S ac) (account_in ac l) found.0 found.1 ∙ sym found.1)

pub account_is_stays : (S : List SetupLine) (l : SetupLine) (ac : AccountRef) → is_some (account_named S ac) ≡ true → is_some (account_named (S ++ l ∷ []) ac) ≡ true
account_is_stays S l ac h = ap (λ o. is_some o) (account_stays S l ac h) ∙ h

or_true : (a b : Bool) → a ≡ true → (a || b) ≡ true
or_true true b h = refl
or_true false b h = absurd cc

pub psp_stays : (S : List SetupLine) (l : SetupLine) (name : List ℕ) → has_psp S name ≡ true → has_psp (S ++ l ∷ []) name ≡ true
psp_stays S l name h = list_any-append (names_psp name) S (l ∷ []) ∙ or_true (has_psp S name) (list_any (names_psp name) (l ∷ [])) h

pub bank_stays : (S : List SetupLine) (l : SetupLine) (code : List ℕ) → has_bank S code ≡ true → has_bank (S ++ l ∷ []) code ≡ true
bank_stays S l code h = list_any-append (names_bank code) S (l ∷ []) ∙ or_true (has_bank S code) (list_any (names_bank code) (l ∷ [])) h

-- what a line was accepted by

pub not_false : (b : Bool) → not b ≡ false → b ≡ true
not_false true h = refl
not_false false h = absurd cc

passes : {X : Type 0} (b : Bool) (w : X) (o : Option X) → (if b then Some w else o) ≡ None → (b ≡ false) × (o ≡ None)
passes true w o h = absurd cc
passes false w o h = (refl, h)

record AddressFits (S : List SetupLine) (addr : List ℕ) (ac : AccountRef) : Type 0 where
  psp : has_psp S (provider addr) ≡ true
  account : is_some (account_named S ac) ≡ true

address_fits : (S : List SetupLine) (addr : List ℕ) (ac : AccountRef) (policy : _) → setup_fault S (line.Address addr ac policy) ≡ None → AddressFits S addr ac
address_fits S addr ac policy h =
    let first = passes _ _ _ h in
    let second = passes _ _ _ first.1 in
    let third = passes _ _ _ second.1 in
    record { psp = not_false (has_psp S (provider addr)) second.0; account = none_no (account_named S ac) third.0 }

record AccountFits (S : List SetupLine) (ac : AccountRef) : Type 0 where
  bank : has_bank S ac.bank ≡ true
  fresh : account_named S ac ≡ None

account_fits : (S : List SetupLine) (ac : AccountRef) (opening : ℕ) (no_debit no_credit : Bool) → setup_fault S (line.Account ac opening no_debit no_credit) ≡ None → AccountFits S ac
account_fits S ac opening no_debit no_credit h =
    let first = passes _ _ _ h in
    let second = passes _ _ _ first.1 in
    record { bank = not_false (has_bank S ac.bank) first.0; fresh = no_some (account_named S ac) second.0 }

-- addresses

abbrev Addressed : List SetupLine → Type 0
Addressed S = (addr : List ℕ) (l : Listing) → listing_at S addr ≡ Some l → (is_some (account_named S l.ac) ≡ true) × (has_psp S (provider addr) ≡ true)

line_addressed : (S : List SetupLine) (x : SetupLine) → setup_fault S x ≡ None → (addr : List ℕ) (l : Listing) → listing_in addr x ≡ Some l → (is_some (account_named S l.ac) ≡ true) × (has_psp S (provider addr) ≡ true)
line_addressed S (line.Bank b) free addr l e = absurd cc
line_addressed S (line.Psp p) free addr l e = absurd cc
line_addressed S (line.Account ac opening no_debit no_credit) free addr l e = absurd cc
line_addressed S (line.Address given ac policy) free addr l e =
    let fits = address_fits S given ac policy free in
    let found = when_true (bytes_eq given addr) (record { ac = ac; policy = policy }) l e in
    let name = bytes_eq_is given addr found.0 in
    (ap (λ (k : Listing). is_some (account_named S k.ac)) (sym found.1) ∙ fits.account, ap (λ a. has_psp S (provider a)) (sym name) ∙ fits.psp)

addressed_step : (S : List SetupLine) (x : SetupLine) → Addressed S → setup_fault S x ≡ None → Addressed (S ++ x ∷ [])
addressed_step S x old free addr l e =
    let both = elim (or_cases (listing_at S addr) (listing_in addr x) l (sym (pick-push (listing_in addr) S x) ∙ e)) as (λ _. (is_some (account_named S l.ac) ≡ true) × (has_psp S (provider addr) ≡ true)) [ inl was ↦ old addr l was | inr new ↦ line_addressed S x free addr l new.1 ] in
    (account_is_stays S x l.ac both.0, psp_stays S x (provider addr) both.1)

pub addressed : (S : List SetupLine) → is_setup S ≡ true → Addressed S
addressed S h = kept_by_setup Addressed addressed_step (λ addr l e. absurd cc) S h

-- accounts

pub account_name : (S : List SetupLine) (ac : AccountRef) (a : Account) → account_named S ac ≡ Some a → a.ac ≡ ac
account_name [] ac a h = absurd cc
account_name (l ∷ ls) ac a h = elim (or_cases (account_in ac l) (account_named ls ac) a h) [ inl here ↦ line_name l here | inr later ↦ account_name ls ac a later.1 ]
  where
    line_name : (x : SetupLine) → account_in ac x ≡ Some a → a.ac ≡ ac
    line_name (line.Bank b) e = absurd cc
    line_name (line.Psp p) e = absurd cc
    line_name (line.Address addr given policy) e = absurd cc
    line_name (line.Account given opening no_debit no_credit) e =
        let found = when_true (same_account given ac) (record { ac = given; opening = opening; no_debit = no_debit; no_credit = no_credit }) a e in
        ap (λ (k : Account). k.ac) (sym found.1) ∙ same_account_is given ac found.0

accounts-append : (xs ys : List SetupLine) → accounts (xs ++ ys) ≡ accounts xs ++ accounts ys
accounts-append [] ys = refl
accounts-append (x ∷ xs) ys = ap (λ l. line_accounts x ++ l) (accounts-append xs ys) ∙ sym (append_assoc (line_accounts x) (accounts xs) (accounts ys))

accounts-push : (S : List SetupLine) (x : SetupLine) → accounts (S ++ x ∷ []) ≡ accounts S ++ line_accounts x
accounts-push S x = accounts-append S (x ∷ []) ∙ ap (λ l. accounts S ++ l) (append-nil (line_accounts x))

-- a line that names an account finds no such account before it
line_fresh : (S : List SetupLine) (x : SetupLine) → setup_fault S x ≡ None → (ac : AccountRef) (a : Account) → account_in ac x ≡ Some a → (account_named S ac ≡ None) × (has_bank S ac.bank ≡ true)
line_fresh S (line.Bank b) free ac a e = absurd cc
line_fresh S (line.Psp p) free ac a e = absurd cc
line_fresh S (line.Address addr given policy) free ac a e = absurd cc
line_fresh S (line.Account given opening no_debit no_credit) free ac a e =
    let fits = account_fits S given opening no_debit no_credit free in
    let found = when_true (same_account given ac) (record { ac = given; opening = opening; no_debit = no_debit; no_credit = no_credit }) a e in
    let name = same_account_is given ac found.0 in
    (ap (λ k. account_named S k) (sym name) ∙ fits.fresh, ap (λ (k : AccountRef). has_bank S k.bank) (sym name) ∙ fits.bank)

abbrev Banked : List SetupLine → Type 0
Banked S = (ac : AccountRef) (a : Account) → account_named S ac ≡ Some a → has_bank S ac.bank ≡ true

banked_step : (S : List SetupLine) (x : SetupLine) → Banked S → setup_fault S x ≡ None → Banked (S ++ x ∷ [])
banked_step S x old free ac a e =
    let there = elim (or_cases (account_named S ac) (account_in ac x) a (sym (pick-push (account_in ac) S x) ∙ e)) as (λ _. has_bank S ac.bank ≡ true) [ inl was ↦ old ac a was | inr new ↦ (line_fresh S x free ac a new.1).1 ] in
    bank_stays S x ac.bank there

pub banked : (S : List SetupLine) → is_setup S ≡ true → Banked S
banked S h = kept_by_setup Banked banked_step (λ ac a e. absurd cc) S h

-- each account is there once

line_count : (x : SetupLine) (ac : AccountRef) → count_by (λ (b : Account). same_account b.ac ac) (line_accounts x) ≡ cond (is_some (account_in ac x)) 1 0
line_count (line.Bank b) ac = refl
line_count (line.Psp p) ac = refl
line_count (line.Address addr given policy) ac = refl
line_count (line.Account given opening no_debit no_credit) ac =
    sum_by-cons (λ (b : Account). cond (same_account b.ac ac) 1 0) (record { ac = given; opening = opening; no_debit = no_debit; no_credit = no_credit }) [] ∙ go (same_account given ac)
  where
    go : (b : Bool) → cond b 1 0 + 0 ≡ cond (is_some {T = Account} (when {X = Account} b (record { ac = given; opening = opening; no_debit = no_debit; no_credit = no_credit }))) 1 0
    go true = refl
    go false = refl

one_of : (n k : ℕ) (o p r : Option Account) → n ≡ cond (is_some o) 1 0 → k ≡ cond (is_some p) 1 0 → r ≡ option_or o p → ((a : Account) → p ≡ Some a → o ≡ None) → n + k ≡ cond (is_some r) 1 0
one_of n k None None r en ek er fresh = rw (en, ek, er) refl
one_of n k None (Some b) r en ek er fresh = rw (en, ek, er) refl
one_of n k (Some a) None r en ek er fresh = rw (en, ek, er) refl
one_of n k (Some a) (Some b) r en ek er fresh = absurd (cc (fresh b refl))

abbrev Once : List SetupLine → Type 0
Once S = (ac : AccountRef) → count_by (λ (b : Account). same_account b.ac ac) (accounts S) ≡ cond (is_some (account_named S ac)) 1 0

once_step : (S : List SetupLine) (x : SetupLine) → Once S → setup_fault S x ≡ None → Once (S ++ x ∷ [])
once_step S x old free ac =
    ap (λ l. count_by (λ (b : Account). same_account b.ac ac) l) (accounts-push S x)
    ∙ (sum_by-append (λ (b : Account). cond (same_account b.ac ac) 1 0) (accounts S) (line_accounts x)
    ∙ one_of (count_by (λ (b : Account). same_account b.ac ac) (accounts S)) (count_by (λ (b : Account). same_account b.ac ac) (line_accounts x)) (account_named S ac) (account_in ac x) (account_named (S ++ x ∷ []) ac)
    (old ac) (line_count x ac) (pick-push (account_in ac) S x) (λ a e. (line_fresh S x free ac a e).0))

once_in : (S : List SetupLine) → is_setup S ≡ true → Once S
once_in S h = kept_by_setup Once once_step (λ ac. refl) S h

pub account_once : (S : List SetupLine) → is_setup S ≡ true → (ac : AccountRef) (a : Account) → account_named S ac ≡ Some a → count_by (λ (b : Account). same_account b.ac ac) (accounts S) ≡ 1
account_once S h ac a e = once_in S h ac ∙ ap (λ o. cond (is_some o) 1 0) e

-- each account is found by its name

all_both : (P Q R : Account → Type 0) → ((a : Account) → P a → R a) → ((a : Account) → Q a → R a) → (xs ys : List Account) → AllByRecursion P xs → AllByRecursion Q ys → AllByRecursion R (xs ++ ys)
all_both P Q R f g [] [] p q = tt
all_both P Q R f g [] (y ∷ ys) p q = (g y q.0, all_both P Q R f g [] ys tt q.1)
all_both P Q R f g (x ∷ xs) ys p q = (f x p.0, all_both P Q R f g xs ys p.1 q)

abbrev Named : List SetupLine → Type 0
Named S = AllByRecursion (IsNamed S) (accounts S)

line_named : (S : List SetupLine) (x : SetupLine) → setup_fault S x ≡ None → AllByRecursion (λ (a : Account). account_named (S ++ x ∷ []) a.ac ≡ Some a) (line_accounts x)
line_named S (line.Bank b) free = tt
line_named S (line.Psp p) free = tt
line_named S (line.Address addr ac policy) free = tt
line_named S (line.Account ac opening no_debit no_credit) free =
    let fits = account_fits S ac opening no_debit no_credit free in
    let x = line.Account ac opening no_debit no_credit in
    let self : account_in ac x ≡ Some (record { ac = ac; opening = opening; no_debit = no_debit; no_credit = no_credit }) = ap (λ b. when b (record { ac = ac; opening = opening; no_debit = no_debit; no_credit = no_credit })) (same_account_self ac) in
    (pick-push (account_in ac) S x ∙ (or_second (account_named S ac) (account_in ac x) fits.fresh ∙ self), tt)

named_stays : (S : List SetupLine) (x : SetupLine) (a : Account) → IsNamed S a → IsNamed (S ++ x ∷ []) a
named_stays S x a h = account_stays S x a.ac (some_is (account_named S a.ac) a h) ∙ h

named_step : (S : List SetupLine) (x : SetupLine) → Named S → setup_fault S x ≡ None → Named (S ++ x ∷ [])
named_step S x old free =
    subst (λ l. AllByRecursion (IsNamed (S ++ x ∷ [])) l) (sym (accounts-push S x))
    (all_both (IsNamed S) (IsNamed (S ++ x ∷ [])) (IsNamed (S ++ x ∷ [])) (named_stays S x) (λ a h. h) (accounts S) (line_accounts x) old (line_named S x free))

pub named : (S : List SetupLine) → is_setup S ≡ true → Named S
named S h = kept_by_setup Named named_step tt S h

pub accepted_are_sound : AcceptedAreSound
accepted_are_sound S h = record {
  account_there = λ addr l e. (addressed S h addr l e).0;
  psp_there = λ addr l e. (addressed S h addr l e).1;
  bank_there = banked S h;
  account_once = account_once S h;
  named = named S h;
}

-- what accounts open with

line_opens : (x : SetupLine) → OpensWithin x → (ac : AccountRef) (a : Account) → account_in ac x ≡ Some a → a.opening ≤ max_paise
line_opens (line.Bank b) h ac a e = absurd cc
line_opens (line.Psp p) h ac a e = absurd cc
line_opens (line.Address addr given policy) h ac a e = absurd cc
line_opens (line.Account given opening no_debit no_credit) h ac a e =
    let found = when_true (same_account given ac) (record { ac = given; opening = opening; no_debit = no_debit; no_credit = no_credit }) a e in
    subst (λ (k : Account). k.opening ≤ max_paise) found.1 h

pub account_opens : (S : List SetupLine) → AllByRecursion OpensWithin S → (ac : AccountRef) (a : Account) → account_named S ac ≡ Some a → a.opening ≤ max_paise
account_opens [] h ac a e = absurd cc
account_opens (x ∷ xs) h ac a e = elim (or_cases (account_in ac x) (account_named xs ac) a e) [ inl here ↦ line_opens x h.0 ac a here | inr later ↦ account_opens xs h.1 ac a later.1 ]

line_all_open : (x : SetupLine) → OpensWithin x → AllByRecursion (λ (a : Account). a.opening ≤ max_paise) (line_accounts x)
line_all_open (line.Bank b) h = tt
line_all_open (line.Psp p) h = tt
line_all_open (line.Address addr given policy) h = tt
line_all_open (line.Account given opening no_debit no_credit) h = (h, tt)

pub accounts_open : (S : List SetupLine) → AllByRecursion OpensWithin S → AllByRecursion (λ (a : Account). a.opening ≤ max_paise) (accounts S)
accounts_open [] h = tt
accounts_open (x ∷ xs) h = all_both (λ (a : Account). a.opening ≤ max_paise) (λ (a : Account). a.opening ≤ max_paise) (λ (a : Account). a.opening ≤ max_paise) (λ a p. p) (λ a p. p) (line_accounts x) (accounts xs) (line_all_open x h.0) (accounts_open xs h.1)
