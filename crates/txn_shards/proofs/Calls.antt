-- What a call on one shard makes of the sixteen.
use Rattle.std.proofs.Common.{◌≡◌, ℕ, ◌<◌, List, length, set, get_or, Option, Some, None, refl, sym, ap, subst, ◌∙◌, arith}
use Rattle.std.specs.Prelude.{slice_get}
use Rattle.std.specs.Option.{option_and_then}
use Rattle.upi_base.specs.Shards.{txn_shard}
use Rattle.upi_base.proofs.Options.{some_same}
use Rattle.upi_words.specs.Prelude.{Body, Call, Owner, Sent, Setup, History, Text}
use Rattle.upi_model.specs.Accounts.{order_of}
use Rattle.upi_model.specs.Fits.{owner_with}
use Rattle.upi_model.specs.Own.{delivered_with, event_with}
use Rattle.upi_model.specs.Owners.{body_owner, body_txn, delivered_owner}
use Rattle.bank_shards.proofs.Places.{get_is, get_set_same, map_set}
use Rattle.txn_row.specs.Rows.{Course}
use Rattle.txn_shard.specs.Rows.{Shard, row_at}
use Rattle.txn_shard.specs.Shard.{Stands, Plan, IsPlanned, MakesAll, rows_after}
use Rattle.txn_shard.specs.declared.step.{Change.Change}
use Rattle.txn_shards.specs.Txns.{StandTxns, IsPlannedIn, MakesIn, Placed, entries_in, row_in, rows_all, rows_of, rows_with}
use Rattle.txn_shards.proofs.Changes.{planned_in, rows_at, rows_set}

-- a shard was read at a place of the sixteen
pub record IsRead (old xs : List Shard) (k : ℕ) (x : Shard) : Type 0 where
  pub same : xs ≡ old
  pub sixteen : length xs ≡ 16
  pub within : k < 16
  pub is : x ≡ get_or xs k x

-- a step at a place
abbrev pub at : ℕ → Plan → Placed
at k p = record { place = k; plan = p }

module _ (old xs : List Shard) (k : ℕ) (x : Shard) (read : IsRead old xs k x) where
  pub found : slice_get xs k ≡ Some x
  found = let n = read.sixteen in let w = read.within in get_is xs k x (omega (arith, n, w)) read.is

  pub found_rows : slice_get (rows_all old) k ≡ Some x.rows
  found_rows = ap (λ (ys : List Shard). slice_get (rows_all ys) k) (sym read.same) ∙ rows_at xs k x found

  -- the shard of a transaction stands for its entries
  pub stands_here : (S : Setup) (h : History) (t : Text) → k ≡ txn_shard t → StandTxns S (entries_in h) (rows_all old) → Stands S (txn_shard t) (entries_in h (txn_shard t)) x.rows
  stands_here S h t at all = subst (λ (n : ℕ). Stands S n (entries_in h n) x.rows) at (all.each k x.rows found_rows)

  -- its row is that which is found in all shards
  pub row_here : (t : Text) → k ≡ txn_shard t → row_at x.rows t ≡ row_in (rows_all old) t
  row_here t at = ap (λ (o : Option (List Course)). option_and_then (λ (rows : List Course). row_at rows t) o) (sym (ap (slice_get (rows_all old)) (sym at) ∙ found_rows))

  pub rows_stay : (now : Shard) → now.rows ≡ x.rows → rows_all (set xs k now) ≡ rows_all old
  rows_stay now same = map_set rows_of xs k now x found same ∙ ap rows_all read.same

  pub rows_change : (now : Shard) (c : Change) → now.rows ≡ rows_after x.rows c → rows_all (set xs k now) ≡ rows_with (rows_all old) k c
  rows_change now c after = rows_set xs k c x now found after ∙ ap (λ (ys : List Shard). rows_with (rows_all ys) k c) read.same

  pub step_planned : (now : Shard) (p : Plan) → IsPlanned now p → IsPlannedIn (set xs k now) (at k p)
  step_planned now p planned = let n = read.sixteen in let w = read.within in planned_in (set xs k now) (at k p) now (get_set_same xs k now (omega (arith, n, w))) planned

  pub step_planned_here : (p : Plan) → IsPlanned x p → IsPlannedIn old (at k p)
  step_planned_here p planned = planned_in old (at k p) x (ap (λ (ys : List Shard). slice_get ys k) (sym read.same) ∙ found) planned

  pub step_makes : (S : Setup) (c : Call) (m : Option Sent) (now : ℕ) (p : Plan) → owner_with m c ≡ Owner.Txns k → MakesAll S k x.rows (event_with m c) (delivered_with m c) now p → MakesIn S (rows_all old) c m now (at k p)
  step_makes S c m now p owner makes = record {
    owner = owner;
    within = read.within;
    makes = λ rows is. subst (λ (r : List Course). MakesAll S k r (event_with m c) (delivered_with m c) now p) (some_same x.rows rows (sym found_rows ∙ is)) makes;
  }

-- ---- the owner of a delivery

-- a message that is no order belongs to its transaction's shard
pub delivered_is : (m : Sent) (k : ℕ) → order_of m.body ≡ None → k ≡ txn_shard (body_txn m.body) → delivered_owner (Some m) ≡ Owner.Txns k
delivered_is m k none at = go m.body none ∙ ap (λ (n : ℕ). Owner.Txns n) (sym at)
  where
    go : (b : Body) → order_of b ≡ None → body_owner b ≡ Owner.Txns (txn_shard (body_txn b))
    go (Body.Order t l n ac addr extra) is = absurd cc
    go (Body.ReqAuth q) is = refl
    go (Body.RespAuth t n word) is = refl
    go (Body.LegAnswer t l a) is = refl
    go (Body.Result t kind x m) is = refl
    go (Body.Confirm t kind x) is = refl
    go (Body.Confirmed t) is = refl
