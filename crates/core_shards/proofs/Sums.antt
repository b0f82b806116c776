-- The money in flight is what the accounts opened with, less what they have.
use Rattle.std.proofs.Common.{◌≡◌, ℕ, zero, suc, ◌+◌, ◌-◌, ◌<◌, true, List, [], ◌∷◌, ◌++◌, length, get_or, take, refl, sym, ap, subst, ◌∙◌, arith, append_assoc}
use Rattle.std.specs.List.{AllByRecursion, sum_by}
use Rattle.std.proofs.lemmas.List.{append-nil}
use Rattle.std.proofs.lemmas.List.Sums.{sum_by-append}
use Rattle.upi_base.specs.Setup.{accounts, is_setup, line_accounts, IsNamed}
use Rattle.upi_base.proofs.Lists.{front_more}
use Rattle.upi_words.specs.Prelude.{Account, Setup, SetupLine, History, Legal, balance, flight}
use Rattle.upi_laws.proofs.Conserved.{legal_keeps_money}

accounts_append : (S T : Setup) → accounts (S ++ T) ≡ accounts S ++ accounts T
accounts_append [] T = refl
accounts_append (l ∷ ls) T = ap (λ (rest : List Account). line_accounts l ++ rest) (accounts_append ls T) ∙ sym (append_assoc (line_accounts l) (accounts ls) (accounts T))

-- the accounts of one line more
pub accounts_line : (lines : Setup) (i : ℕ) (l : SetupLine) → i < length lines → l ≡ get_or lines i l → accounts (take (i + 1) lines) ≡ accounts (take i lines) ++ line_accounts l
accounts_line lines i l lt is =
    ap accounts (front_more lines i l lt is) ∙ accounts_append (take i lines) (l ∷ []) ∙ ap (λ (rest : List Account). accounts (take i lines) ++ rest) (append-nil (line_accounts l))

-- and a sum over them
pub sum_line : (f : Account → ℕ) (lines : Setup) (i : ℕ) (l : SetupLine) → i < length lines → l ≡ get_or lines i l → sum_by f (accounts (take (i + 1) lines)) ≡ sum_by f (accounts (take i lines)) + sum_by f (line_accounts l)
sum_line f lines i l lt is = ap (sum_by f) (accounts_line lines i l lt is) ∙ sum_by-append f (accounts (take i lines)) (line_accounts l)

all_front : (P : Account → Type 0) (xs ys : List Account) → AllByRecursion P (xs ++ ys) → AllByRecursion P xs
all_front P [] ys all = tt
all_front P (x ∷ xs) ys all = (all.0, all_front P xs ys all.1)

all_back : (P : Account → Type 0) (xs ys : List Account) → AllByRecursion P (xs ++ ys) → AllByRecursion P ys
all_back P [] ys all = all
all_back P (x ∷ xs) ys all = all_back P xs ys all.1

-- each account that a line of an accepted setup gives is found by its name
pub line_named : (S lines : Setup) (i : ℕ) (l : SetupLine) → AllByRecursion (IsNamed S) (accounts lines) → i < length lines → l ≡ get_or lines i l → AllByRecursion (IsNamed S) (line_accounts l)
line_named S [] i l named lt is = absurd (omega arith)
line_named S (x ∷ xs) zero l named lt is = subst (λ (k : SetupLine). AllByRecursion (IsNamed S) (line_accounts k)) (sym is) (all_front (IsNamed S) (line_accounts x) (accounts xs) named)
line_named S (x ∷ xs) (suc i) l named lt is = line_named S xs i l (all_back (IsNamed S) (line_accounts x) (accounts xs) named) (omega arith) is

pub flight_left : (S : Setup) (h : History) → is_setup S ≡ true → Legal S h → sum_by (λ (a : Account). a.opening) (accounts S) - sum_by (λ (a : Account). balance S a h) (accounts S) ≡ flight S h
flight_left S h setup legal = let k = legal_keeps_money S h setup legal in omega (arith, k)
