-- Balances fit 64 bits, and stand in the order of the accounts.
use Rattle.std.proofs.Common.{◌≡◌, ℕ, zero, suc, ◌+◌, ◌*◌, ◌^◌, ◌<◌, ◌≤◌, Bool, true, false, cond, List, [], ◌∷◌, ◌++◌, length, map, drop, get_or, Some, None, refl, sym, ◌∙◌, ap, arith, add-one, append_assoc}
use Rattle.std.specs.Prelude.{◌&&◌, option_to_list}
use Rattle.std.specs.List.{AllByRecursion}
use Rattle.std.proofs.lemmas.List.Sums.{sum_by-cons}
use Rattle.upi_words.specs.Prelude.{Leg, AccountRef, Account, Opening, SetupLine, Setup, History, opened, balance, is_posted}
use Rattle.upi_base.specs.Setup.{account_at, accounts, line_accounts}
use Rattle.upi_model.specs.Postings.{Answers, has_account, posted_at, share, total, answer}
use Rattle.upi_model.specs.Structure.{IsAllowed}
use Rattle.upi_model.proofs.Openings.{openings_are_allowed, openings_have_room}

share_small : (b : Bool) (n : ℕ) → n ≤ 1_000_000_000 → cond b n 0 ≤ 1_000_000_000
share_small true n le = le
share_small false n le = omega arith

total_small : (S : Setup) (answers : Answers) (ac : AccountRef) (l : Leg) (os : List Opening) → AllByRecursion (IsAllowed S) os → total S os answers ac l ≤ length os * 1_000_000_000
total_small S answers ac l [] k = omega arith
total_small S answers ac l (o ∷ os) k =
    let s = share_small (has_account ac (account_at S (posted_at l o.terms)) && is_posted (answers o.terms.txn l)) o.terms.amount k.0.most in
    omega (arith, s, total_small S answers ac l os k.1, sum_by-cons (λ (o : Opening). share S ac l (answers o.terms.txn l) o.terms) o os)

total_bounded : (S : Setup) (h : History) (ac : AccountRef) (l : Leg) → total S (opened S h) (answer S h) ac l ≤ 65_536_000_000_000
total_bounded S h ac l = let t = total_small S (answer S h) ac l (opened S h) (openings_are_allowed S h) in let n = openings_have_room S h in omega (arith, t, n)

-- what an account holds that opened with at most 10^15 paise
pub balance_fits : (S : Setup) (a : Account) (h : History) → a.opening ≤ 1_000_000_000_000_000 → balance S a h < 2 ^ 64
balance_fits S a h le = omega (arith, le, total_bounded S h a.ac Leg.Credit, total_bounded S h a.ac Leg.Reversal)

-- ---- the accounts of lines, one line after another

drop_at : (S : Setup) (i : ℕ) (l : SetupLine) → i < length S → l ≡ get_or S i l → drop i S ≡ l ∷ drop (suc i) S
drop_at [] i l lt here = absurd (omega (arith, lt))
drop_at (x ∷ S) zero l lt here = ap (λ (y : SetupLine). y ∷ S) (sym here)
drop_at (x ∷ S) (suc i) l lt here = drop_at S i l (omega (arith, lt)) here

map_joined : (f : Account → AccountRef × ℕ) (as' bs : List Account) → map f (as' ++ bs) ≡ map f as' ++ map f bs
map_joined f [] bs = refl
map_joined f (a ∷ as') bs = ap (λ (xs : List (AccountRef × ℕ)). f a ∷ xs) (map_joined f as' bs)

-- the accounts from a line on, by those of the line and those of later lines
accounts_at : (S : Setup) (i : ℕ) (l : SetupLine) (as' : List Account) → i < length S → l ≡ get_or S i l → as' ≡ line_accounts l → accounts (drop i S) ≡ as' ++ accounts (drop (i + 1) S)
accounts_at S i l as' lt here gives =
    ap accounts (drop_at S i l lt here)
    ∙ (ap (λ (xs : List Account). xs ++ accounts (drop (suc i) S)) (sym gives) ∙ ap (λ (j : ℕ). as' ++ accounts (drop j S)) (sym (add-one i)))

-- a line without an account
pub held_same : (f : Account → AccountRef × ℕ) (S : Setup) (i : ℕ) (l : SetupLine) (all whole : List (AccountRef × ℕ)) → i < length S → l ≡ get_or S i l → option_to_list {X = Account} None ≡ line_accounts l
    → all ++ map f (accounts (drop i S)) ≡ whole → all ++ map f (accounts (drop (i + 1) S)) ≡ whole
held_same f S i l all whole lt here gives is = ap (λ (xs : List Account). all ++ map f xs) (sym (accounts_at S i l [] lt here gives)) ∙ is

-- a line with an account
pub held_more : (f : Account → AccountRef × ℕ) (S : Setup) (i : ℕ) (l : SetupLine) (a : Account) (all whole : List (AccountRef × ℕ)) → i < length S → l ≡ get_or S i l → option_to_list (Some a) ≡ line_accounts l
    → all ++ map f (accounts (drop i S)) ≡ whole → (all ++ f a ∷ []) ++ map f (accounts (drop (i + 1) S)) ≡ whole
held_more f S i l a all whole lt here gives is =
    append_assoc all (f a ∷ []) (map f (accounts (drop (i + 1) S))) ∙ (ap (λ (xs : List Account). all ++ map f xs) (sym (accounts_at S i l (a ∷ []) lt here gives)) ∙ is)
