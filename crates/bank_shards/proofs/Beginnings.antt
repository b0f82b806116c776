-- The shards before the first order: they have the accounts that the lines so far give.
use Rattle.std.proofs.Common.{◌≡◌, ℕ, zero, suc, Bool, true, false, cond, List, [], ◌∷◌, ◌++◌, length, take, set, Option, Some, None, refl, sym, ap, ◌∙◌, append_assoc}
use Rattle.std.specs.Prelude.{is_some, is_none, not, ◌==◌, slice_get, nat_le}
use Rattle.std.specs.List.{AllByRecursion, count_by}
use Rattle.std.specs.Option.{option_and_then, option_map}
use Rattle.std.proofs.lemmas.Bool.{and_parts}
use Rattle.std.proofs.lemmas.List.{append-nil}
use Rattle.upi_base.specs.declared.limits.TheConstants.{MAX_ACCOUNTS}
use Rattle.upi_base.specs.declared.fault.Why.{Why}
use Rattle.upi_base.specs.Setup.{accepts_from, account_named, has_bank, is_account_line, is_setup, line_accounts, setup_fault}
use Rattle.upi_base.specs.Shards.{account_shard}
use Rattle.upi_base.proofs.Options.{no_some, none_is}
use Rattle.upi_words.specs.Prelude.{Account, AccountRef, Order, Setup, SetupLine}
use Rattle.upi_model.proofs.Own.{same_is}
use Rattle.bank_book.specs.Book.{holding_of}
use Rattle.leg_post.specs.Posts.{Ledger, opening}
use Rattle.account_shard.specs.Shard.{Stands, is_in, line_of}
use Rattle.account_shard.proofs.Opened.{opens_shard, stands_beside}
use Rattle.bank_shards.specs.Banks.{StandAll, HasNoLeg, IsFresh, holding_in}
use Rattle.bank_shards.proofs.Places.{all_at, all_from}
use Rattle.bank_shards.proofs.Stands.{stand_changed}

-- no shard has had an order
abbrev pub nothing : ℕ → List Order
nothing s = []

-- fresh shards are those of a setup without lines
pub fresh_stand : (ps : List Ledger) → length ps ≡ 16 → AllByRecursion IsFresh ps → StandAll [] (λ (s : ℕ). []) ps
fresh_stand ps sixteen fresh = record {
  sixteen = sixteen;
  each = λ s p is.
      let f = all_at IsFresh ps s p fresh is in
      opens_shard [] s p f.0 (λ ac. ap (λ b. holding_of b ac) f.1 ∙ none (s == account_shard ac));
}
  where
    none : (b : Bool) → None ≡ option_map opening (cond b None None)
    none true = refl
    none false = refl

-- ---- the account that a line gives

pub line_is : (l : SetupLine) (a : Account) → a ∷ [] ≡ line_accounts l → line_of a ≡ l
line_is (SetupLine.Account ac n d c) a is = let e : a ≡ record { ac = ac; opening = n; no_debit = d; no_credit = c } = cc in ap line_of e
line_is (SetupLine.Bank code) a is = absurd cc
line_is (SetupLine.Psp name) a is = absurd cc
line_is (SetupLine.Address addr ac policy) a is = absurd cc

pub line_beside : (s : ℕ) (l : SetupLine) → [] ≡ line_accounts l → is_in s l ≡ false
line_beside s (SetupLine.Account ac n d c) is = absurd cc
line_beside s (SetupLine.Bank code) is = refl
line_beside s (SetupLine.Psp name) is = refl
line_beside s (SetupLine.Address addr ac policy) is = refl

-- ---- a line of an accepted setup

fault_from : (before ls : Setup) (i : ℕ) (l : SetupLine) → accepts_from before ls ≡ true → slice_get ls i ≡ Some l → setup_fault (before ++ take i ls) l ≡ None
fault_from before [] i l ok is = absurd cc
fault_from before (x ∷ xs) zero l ok is =
    let same : x ≡ l = cc in
    (λ i. setup_fault (append-nil before i) (sym same i)) ∙ none_is (setup_fault before x) (and_parts (is_none (setup_fault before x)) (accepts_from (before ++ x ∷ []) xs) ok).0
fault_from before (x ∷ xs) (suc i) l ok is =
    ap (λ (b : Setup). setup_fault b l) (sym (append_assoc before (x ∷ []) (take i xs)))
    ∙ fault_from (before ++ x ∷ []) xs i l (and_parts (is_none (setup_fault before x)) (accepts_from (before ++ x ∷ []) xs) ok).1 is

-- an account that a line of it gives wasn't given before
pub account_free : (lines : Setup) (i : ℕ) (a : Account) → is_setup lines ≡ true → slice_get lines i ≡ Some (line_of a) → account_named (take i lines) a.ac ≡ None
account_free lines i a ok is = go (not (has_bank (take i lines) a.ac.bank)) (account_named (take i lines) a.ac) (fault_from [] lines i (line_of a) ok is)
  where
    go : (b : Bool) (x : Option Account) → cond b (Some Why.NoBank) (cond (is_some x) (Some Why.Twice) (cond (nat_le MAX_ACCOUNTS (count_by is_account_line (take i lines))) (Some Why.Limit) None)) ≡ None → x ≡ None
    go true x e = absurd cc
    go false None e = refl
    go false (Some y) e = absurd cc

-- ---- the shards

-- an account that the lines don't give is in no shard
pub holding_free : (S : Setup) (ps : List Ledger) (ac : AccountRef) → StandAll S (λ (s : ℕ). []) ps → account_named S ac ≡ None → holding_in ps ac ≡ None
holding_free S ps ac all free = go (slice_get ps (account_shard ac)) refl
  where
    go : (x : Option Ledger) → slice_get ps (account_shard ac) ≡ x → option_and_then (λ (p : Ledger). holding_of p.book ac) x ≡ None
    go None is = refl
    go (Some p) is =
        no_some (holding_of p.book ac)
        ((all.each (account_shard ac) p is).accounts_are ac ∙ (λ i. is_some (cond (same_is (account_shard ac) (account_shard ac) refl i) (free i) None)))

pub no_legs : (S : Setup) (ps : List Ledger) → StandAll S (λ (s : ℕ). []) ps → AllByRecursion HasNoLeg ps
no_legs S ps all = all_from HasNoLeg ps (λ s p is. (all.each s p is).posted.legs_are)

-- a line that gives no account changes nothing
pub stand_beside : (S : Setup) (l : SetupLine) (ps : List Ledger) → [] ≡ line_accounts l → StandAll S (λ (s : ℕ). []) ps → StandAll (S ++ l ∷ []) (λ (s : ℕ). []) ps
stand_beside S l ps none all = record { sixteen = all.sixteen; each = λ s p is. stands_beside S s l p (line_beside s l none) (all.each s p is) }

-- a line that gives an account adds it to its shard
pub stand_opened : (a : Account) (ps : List Ledger) (p now : Ledger) → slice_get ps (account_shard a.ac) ≡ Some p → (S : Setup)
    → (Stands S (account_shard a.ac) [] p → Stands (S ++ line_of a ∷ []) (account_shard a.ac) [] now) → StandAll S (λ (s : ℕ). []) ps → StandAll (S ++ line_of a ∷ []) (λ (s : ℕ). []) (set ps (account_shard a.ac) now)
stand_opened a ps p now is S opens all =
    stand_changed S (S ++ line_of a ∷ []) (λ (s : ℕ). []) (λ (s : ℕ). []) ps (account_shard a.ac) now all (opens (all.each (account_shard a.ac) p is))
    (λ s q at stands. stands_beside S s (line_of a) q at stands)
