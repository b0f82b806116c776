-- The account of an address of an accepted setup.
use Rattle.std.proofs.Common.{◌≡◌, ℕ, ◌+◌, Bool, true, false, cond, List, [], ◌∷◌, ◌++◌, Option, Some, None, refl, sym, ◌∙◌, ap, subst, arith}
use Rattle.std.specs.Prelude.{◌&&◌, ◌||◌, nat_le}
use Rattle.std.specs.List.{AllByRecursion, list_any, count_by}
use Rattle.std.specs.Str.{bytes_eq}
use Rattle.std.proofs.lemmas.Option.{option_and_then_some}
use Rattle.std.proofs.lemmas.Bool.{both_ways}
use Rattle.std.proofs.lemmas.Slice.Eq.{bytes_eq-Decides}
use Rattle.std.proofs.lemmas.List.Sums.{sum_by-append}
use Rattle.upi_words.specs.Prelude.{Why, AccountRef, Account, Listing, SetupLine, Setup, Text}
use Rattle.upi_base.specs.Setup.{accounts as setup_accounts, IsNamed, same_account, is_bank_line, names_bank, has_bank, account_named, listing_at, account_at, bank_fault, setup_fault, is_setup}
use Rattle.upi_model.specs.Settlement.{accounts, banks}
use Rattle.upi_base.proofs.Setups.{kept_by_setup, same_account_is, account_name, accepted_are_sound}
use Rattle.upi_base.proofs.Options.{some_same}

abbrev pub tally : Bool → ℕ
tally b = cond b 1 0

-- ---- what the lines give

banks_append : (S T : Setup) → banks (S ++ T) ≡ banks S ++ banks T
banks_append [] T = refl
banks_append (SetupLine.Bank code ∷ S) T = ap (λ (l : List Text). code ∷ l) (banks_append S T)
banks_append (SetupLine.Psp name ∷ S) T = banks_append S T
banks_append (SetupLine.Account ac opening no_debit no_credit ∷ S) T = banks_append S T
banks_append (SetupLine.Address addr ac policy ∷ S) T = banks_append S T

any_append : {X : Type 0} (f : X → Bool) (xs ys : List X) → list_any f (xs ++ ys) ≡ (list_any f xs || list_any f ys)
any_append f [] ys = refl
any_append f (x ∷ xs) ys = ap (λ (b : Bool). f x || b) (any_append f xs ys) ∙ or_or (f x) (list_any f xs) (list_any f ys)
  where
    or_or : (a b c : Bool) → (a || (b || c)) ≡ ((a || b) || c)
    or_or true b c = refl
    or_or false b c = refl

otherwise : (b : Bool) (x : Why) (o : Option Why) → cond b (Some x) o ≡ None → (b ≡ false) × (o ≡ None)
otherwise true x o e = absurd cc
otherwise false x o e = (refl, e)

bank_new : (S : Setup) (code : Text) → bank_fault S code ≡ None → has_bank S code ≡ false
bank_new S code e = (otherwise (has_bank S code) Why.Twice (cond (nat_le 64 (count_by is_bank_line S)) (Some Why.Limit) None) e).0

-- ---- each bank stands once

abbrev BanksOnce : Setup → Type 0
BanksOnce S = (code : Text) → count_by (λ (b : Text). bytes_eq b code) (banks S) ≡ tally (has_bank S code)

banks_more : (S T : Setup) (code : Text) → count_by (λ (b : Text). bytes_eq b code) (banks (S ++ T)) ≡ count_by (λ (b : Text). bytes_eq b code) (banks S) + count_by (λ (b : Text). bytes_eq b code) (banks T)
banks_more S T code = ap (count_by (λ (b : Text). bytes_eq b code)) (banks_append S T) ∙ sum_by-append (λ (b : Text). tally (bytes_eq b code)) (banks S) (banks T)

or_nothing : (a b : Bool) → b ≡ false → (a || b) ≡ a
or_nothing true b e = refl
or_nothing false b e = e

bank_still : (S T : Setup) (code : Text) → banks T ≡ [] → has_bank T code ≡ false → count_by (λ (b : Text). bytes_eq b code) (banks S) ≡ tally (has_bank S code)
    → count_by (λ (b : Text). bytes_eq b code) (banks (S ++ T)) ≡ tally (has_bank (S ++ T) code)
bank_still S T code none unnamed p =
    let c : count_by (λ (b : Text). bytes_eq b code) (banks T) ≡ 0 = ap (count_by (λ (b : Text). bytes_eq b code)) none in
    let n : tally (has_bank (S ++ T) code) ≡ tally (has_bank S code) = ap (λ (b : Bool). tally b) (any_append (names_bank code) S T ∙ or_nothing (has_bank S code) (has_bank T code) unnamed) in
    omega (arith, banks_more S T code, c, p, n)

bank_once : (S : Setup) (given code : Text) → has_bank S given ≡ false → count_by (λ (b : Text). bytes_eq b code) (banks S) ≡ tally (has_bank S code)
    → count_by (λ (b : Text). bytes_eq b code) (banks (S ++ SetupLine.Bank given ∷ [])) ≡ tally (has_bank (S ++ SetupLine.Bank given ∷ []) code)
bank_once S given code fresh p = go (bytes_eq given code) refl
  where
    here : (a b c : Bool) → a ≡ false → b ≡ true → (a || (b || c)) ≡ true
    here a b c e f = rw (e, f) refl

    there : (a b : Bool) → b ≡ false → (a || (b || false)) ≡ a
    there true b f = refl
    there false b f = rw f refl

    go : (x : Bool) → bytes_eq given code ≡ x → count_by (λ (b : Text). bytes_eq b code) (banks (S ++ SetupLine.Bank given ∷ [])) ≡ tally (has_bank (S ++ SetupLine.Bank given ∷ []) code)
    go true is =
        let T = SetupLine.Bank given ∷ [] in
        let before : has_bank S code ≡ false = ap (has_bank S) (sym ((bytes_eq-Decides given code).0 is)) ∙ fresh in
        let none : tally (has_bank S code) ≡ 0 = ap (λ (b : Bool). tally b) before in
        let one : count_by (λ (b : Text). bytes_eq b code) (banks T) ≡ 1 = ap (λ (b : Bool). 0 + tally b) is in
        let named : tally (has_bank (S ++ T) code) ≡ 1 = ap (λ (b : Bool). tally b) (any_append (names_bank code) S T ∙ here (has_bank S code) (bytes_eq given code) false before is) in
        omega (arith, banks_more S T code, p, none, one, named)
    go false is =
        let T = SetupLine.Bank given ∷ [] in
        let zero : count_by (λ (b : Text). bytes_eq b code) (banks T) ≡ 0 = ap (λ (b : Bool). 0 + tally b) is in
        let named : tally (has_bank (S ++ T) code) ≡ tally (has_bank S code) = ap (λ (b : Bool). tally b) (any_append (names_bank code) S T ∙ there (has_bank S code) (bytes_eq given code) is) in
        omega (arith, banks_more S T code, p, zero, named)

bank_step : (S : Setup) (l : SetupLine) → BanksOnce S → setup_fault S l ≡ None → BanksOnce (S ++ l ∷ [])
bank_step S (SetupLine.Bank given) p e code = bank_once S given code (bank_new S given e) (p code)
bank_step S (SetupLine.Psp name) p e code = bank_still S (SetupLine.Psp name ∷ []) code refl refl (p code)
bank_step S (SetupLine.Account ac opening no_debit no_credit) p e code = bank_still S (SetupLine.Account ac opening no_debit no_credit ∷ []) code refl refl (p code)
bank_step S (SetupLine.Address addr ac policy) p e code = bank_still S (SetupLine.Address addr ac policy ∷ []) code refl refl (p code)

pub banks_once : (S : Setup) → is_setup S ≡ true → (code : Text) → count_by (λ (b : Text). bytes_eq b code) (banks S) ≡ tally (has_bank S code)
banks_once S e = kept_by_setup BanksOnce bank_step (λ code. refl) S e

-- ---- the account of an address

pub record AddressAccount (S : Setup) (k : Account) : Type 0 where
  -- it stands once among the accounts
  pub once : count_by (λ (a : Account). same_account k.ac a.ac) (accounts S) ≡ 1
  -- an account of its name is that account
  pub alone : AllByRecursion (λ (a : Account). same_account k.ac a.ac ≡ true → k ≡ a) (accounts S)
  -- its bank stands once among the banks
  pub banked : count_by (λ (b : Text). bytes_eq k.ac.bank b) (banks S) ≡ 1

bytes_swap : (a b : Text) → bytes_eq a b ≡ bytes_eq b a
bytes_swap a b = go (bytes_eq a b) (bytes_eq b a) refl refl
  where
    go : (x y : Bool) → bytes_eq a b ≡ x → bytes_eq b a ≡ y → x ≡ y
    go true true e f = refl
    go false false e f = refl
    go true false e f = absurd (both_ways (bytes_eq b a) f ((bytes_eq-Decides b a).1 (sym ((bytes_eq-Decides a b).0 e))))
    go false true e f = absurd (both_ways (bytes_eq a b) e ((bytes_eq-Decides a b).1 (sym ((bytes_eq-Decides b a).0 f))))

pub account_swap : (a b : AccountRef) → same_account a b ≡ same_account b a
account_swap a b = λ i. bytes_swap a.bank b.bank i && bytes_swap a.num b.num i

count_same : {X : Type 0} (f g : X → Bool) → ((x : X) → f x ≡ g x) → (xs : List X) → count_by f xs ≡ count_by g xs
count_same f g e xs = ap (λ (k : _ → Bool). count_by k xs) (λ i x. e x i)

named_alone : (S : Setup) (k : Account) (xs : List Account) → account_named S k.ac ≡ Some k → AllByRecursion (λ (a : Account). account_named S a.ac ≡ Some a) xs → AllByRecursion (λ (a : Account). same_account k.ac a.ac ≡ true → k ≡ a) xs
named_alone S k [] is p = tt
named_alone S k (a ∷ xs) is p =
    (λ same. some_same k a (sym is ∙ (ap (account_named S) (same_account_is k.ac a.ac same) ∙ p.0)), named_alone S k xs is p.1)

accounts_same : (S : Setup) → setup_accounts S ≡ accounts S
accounts_same [] = refl
accounts_same (SetupLine.Account ac opening no_debit no_credit ∷ S) = ap (λ (l : List Account). record { ac = ac; opening = opening; no_debit = no_debit; no_credit = no_credit } ∷ l) (accounts_same S)
accounts_same (SetupLine.Bank code ∷ S) = accounts_same S
accounts_same (SetupLine.Psp name ∷ S) = accounts_same S
accounts_same (SetupLine.Address addr ac policy ∷ S) = accounts_same S

-- each account is what its name finds
pub accounts_found : (S : Setup) → is_setup S ≡ true → AllByRecursion (IsNamed S) (accounts S)
accounts_found S e = subst (AllByRecursion (IsNamed S)) (accounts_same S) (accepted_are_sound S e).named

-- what a name finds has the name, and is found by it
pub named_found : (S : Setup) (ac : AccountRef) (a : Account) → account_named S ac ≡ Some a → (a.ac ≡ ac) × (account_named S a.ac ≡ Some a)
named_found S ac a e = let name = account_name S ac a e in (name, ap (account_named S) name ∙ e)

pub address_account : (S : Setup) (addr : Text) (k : Account) → is_setup S ≡ true → account_at S addr ≡ Some k → AddressAccount S k
address_account S addr k e at = option_and_then_some (λ (l : Listing). account_named S l.ac) (listing_at S addr) k at (λ l _ named.
    let sound = accepted_are_sound S e in
    let own = named_found S l.ac k named in
    record {
      once = count_same (λ (a : Account). same_account k.ac a.ac) (λ (a : Account). same_account a.ac k.ac) (λ a. account_swap k.ac a.ac) (accounts S)
          ∙ (ap (count_by (λ (a : Account). same_account a.ac k.ac)) (sym (accounts_same S)) ∙ sound.account_once k.ac k own.1);
      alone = named_alone S k (accounts S) own.1 (accounts_found S e);
      banked = count_same (λ (b : Text). bytes_eq k.ac.bank b) (λ (b : Text). bytes_eq b k.ac.bank) (λ b. bytes_swap k.ac.bank b) (banks S)
          ∙ (banks_once S e k.ac.bank ∙ ap tally (sound.bank_there k.ac k own.1));
    })
