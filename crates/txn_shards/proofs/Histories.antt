-- The sixteen shards of transactions, entry by entry of a history.
use Rattle.std.proofs.Common.{◌≡◌, ℕ, zero, suc, true, false, cond, List, [], ◌∷◌, length, Option, Some, refl, sym, ap, subst, ◌∙◌, arith}
use Rattle.std.specs.Prelude.{◌&&◌, not, slice_get}
use Rattle.std.specs.List.{AllByRecursion}
use Rattle.std.proofs.lemmas.List.{take_all}
use Rattle.upi_base.proofs.Options.{some_same}
use Rattle.upi_words.specs.Prelude.{Call, Entry, Owner, Sent, Setup, History, Legal, is_closed}
use Rattle.upi_model.specs.AtClose.{at_close}
use Rattle.upi_model.specs.Fits.{owner_with}
use Rattle.upi_model.specs.History.{is_close}
use Rattle.upi_model.specs.Own.{Deed, deeds, own_deeds}
use Rattle.upi_model.specs.Owners.{message_of, own, owner_of, same_owner}
use Rattle.account_shard.specs.Closing.{all_returns}
use Rattle.txn_row.specs.Rows.{Course}
use Rattle.txn_shard.specs.Rows.{Shard}
use Rattle.txn_shard.specs.Shard.{Stands, IsPlanOf}
use Rattle.txn_shard.proofs.Gathered.{shard_laws}
use Rattle.txn_shards.specs.Txns.{StandTxns, IsBare, Placed, MakesIn, all_return, entries_in, rows_all, rows_with}
use Rattle.txn_shards.proofs.Changes.{returns_by, some_at, stand_as, stand_with}

pub owner_is_with : (h : History) (c : Call) → owner_with (message_of h c) c ≡ owner_of h c
owner_is_with h (Call.Hear p what) = refl
owner_is_with h (Call.Deliver n) = refl
owner_is_with h (Call.Lose n) = refl
owner_is_with h (Call.Late t) = refl
owner_is_with h Call.Close = refl

-- the rows of the shard at which a call was planned
pub placed : (S : Setup) (mine : ℕ → List Deed) (rss : List (List Course)) (c : Call) (m : Option Sent) (now : ℕ) (x : Placed) → StandTxns S mine rss → MakesIn S rss c m now x → (rows : List Course) × (slice_get rss x.place ≡ Some rows)
placed S mine rss c m now x all makes = some_at rss x.place (let n = all.sixteen in let w = makes.within in omega (arith, n, w))

bare_at : (xs : List Shard) (s : ℕ) (rows : List Course) → AllByRecursion IsBare xs → slice_get (rows_all xs) s ≡ Some rows → [] ≡ rows
bare_at [] s rows bare is = absurd cc
bare_at (x ∷ xs) zero rows bare is = sym bare.0 ∙ some_same x.rows rows is
bare_at (x ∷ xs) (suc s) rows bare is = bare_at xs s rows bare.1 is

pub length_rows : (xs : List Shard) → length (rows_all xs) ≡ length xs
length_rows [] = refl
length_rows (x ∷ xs) = ap suc (length_rows xs)

-- sixteen shards without rows stand for no entry
pub begins : (S : Setup) (xs : List Shard) → length xs ≡ 16 → AllByRecursion IsBare xs → StandTxns S (entries_in []) (rows_all xs)
begins S xs sixteen bare = record {
  sixteen = length_rows xs ∙ sixteen;
  each = λ s rows is. subst (λ (r : List Course). Stands S s [] r) (bare_at xs s rows bare is) (shard_laws.begins S s);
}

pub plans : (S : Setup) (h : History) (c : Call) (now : ℕ) (rss : List (List Course)) (x : Placed) → Legal S h → is_closed h ≡ false → is_close c ≡ false
    → StandTxns S (entries_in h) rss → MakesIn S rss c (message_of h c) now x → IsPlanOf S h c now x.plan
plans S h c now rss x legal run going all makes =
    let p = placed S (entries_in h) rss c (message_of h c) now x all makes in
    shard_laws.plans S h c now x.place p.0 x.plan legal run going (sym (owner_is_with h c) ∙ makes.owner) (all.each x.place p.0 p.1) (makes.makes p.0 p.1)

pub commits : (S : Setup) (h : History) (e : Entry) (rss : List (List Course)) (x : Placed) → Legal S (e ∷ h) → is_closed (e ∷ h) ≡ false
    → StandTxns S (entries_in h) rss → MakesIn S rss e.call (message_of h e.call) e.at x → StandTxns S (entries_in (e ∷ h)) (rows_with rss x.place x.plan.change)
commits S h e rss x legal run all makes =
    let p = placed S (entries_in h) rss e.call (message_of h e.call) e.at x all makes in
    let owner = sym (owner_is_with h e.call) ∙ makes.owner in
    stand_with S (entries_in h) (entries_in (e ∷ h)) rss x.place x.plan.change p.0 p.1 all
    (shard_laws.commits S h e x.place p.0 x.plan legal run owner (all.each x.place p.0 p.1) (makes.makes p.0 p.1))
    (λ s r at stands. shard_laws.others S h e s r run (ap (same_owner (Owner.Txns s)) owner ∙ at) stands)

pub others : (S : Setup) (h : History) (e : Entry) (s : ℕ) (rss : List (List Course)) → is_closed (e ∷ h) ≡ false → owner_of h e.call ≡ Owner.Accounts s → StandTxns S (entries_in h) rss → StandTxns S (entries_in (e ∷ h)) rss
others S h e s rss run owner all = record { sixteen = all.sixteen; each = λ k r is. shard_laws.others S h e k r run (ap (same_owner (Owner.Txns k)) owner) (all.each k r is) }

-- from the first Close on no entry is a shard's own
pub own_closed : (w : Owner) (h : History) (e : Entry) → is_closed (e ∷ h) ≡ true → own_deeds w h ≡ own_deeds w (e ∷ h)
own_closed w h e shut = λ i. deeds (cond (not (sym shut i) && same_owner w (owner_of h e.call)) (record { entry = e; message = message_of h e.call } ∷ own w h) (own w h))

pub rests : (S : Setup) (h : History) (e : Entry) (rss : List (List Course)) → is_closed (e ∷ h) ≡ true → StandTxns S (entries_in h) rss → StandTxns S (entries_in (e ∷ h)) rss
rests S h e rss shut all = stand_as S (entries_in h) (entries_in (e ∷ h)) rss (λ s. own_closed (Owner.Txns s) h e shut) all

pub returns : (S : Setup) (h : History) (rss : List (List Course)) → StandTxns S (entries_in h) rss → all_return S rss ≡ all_returns 16 S h
returns S h rss all =
    ap (all_return S) (sym (take_all 16 rss (let n = all.sixteen in omega (arith, n))))
    ∙ returns_by S (λ (k : ℕ). at_close S (own_deeds (Owner.Txns k) h)) rss (λ s rows is. shard_laws.returns S s (entries_in h s) rows (all.each s rows is)) 16 (let n = all.sixteen in omega (arith, n))
