-- Sixteen shards that stand for orders: where one of them changes, and where none does.
use Rattle.std.proofs.Common.{◌≡◌, ℕ, ◌<◌, Bool, true, false, cond, List, ◌∷◌, length, map, set, Option, Some, None, refl, sym, ap, subst, ◌∙◌, arith, eqb-true}
use Rattle.std.specs.Prelude.{◌==◌, slice_get, IsSomeAnd}
use Rattle.std.proofs.lemmas.Bool.{both_ways}
use Rattle.std.proofs.lemmas.List.{length-set}
use Rattle.std.proofs.lemmas.Option.{slice_get_within}
use Rattle.upi_base.specs.Shards.{account_shard}
use Rattle.upi_base.proofs.Options.{some_same}
use Rattle.upi_words.specs.Prelude.{Order, Setup}
use Rattle.upi_model.proofs.Own.{same_is}
use Rattle.leg_post.specs.Posts.{Ledger}
use Rattle.account_shard.specs.Shard.{Stands, CanPost, IsPlanned, Plan}
use Rattle.account_shard.proofs.Stays.{stands_same}
use Rattle.bank_shards.specs.Banks.{StandAll, CanPostIn, IsPlannedIn, with_order, without_room}
use Rattle.bank_shards.proofs.Places.{get_set_same, get_set_other, map_at, map_length}

-- the same orders, said otherwise
pub stand_as : (S : Setup) (orders after : ℕ → List Order) (ps : List Ledger) → ((s : ℕ) → orders s ≡ after s) → StandAll S orders ps → StandAll S after ps
stand_as S orders after ps same all = record { sixteen = all.sixteen; each = λ s p is. subst (λ (os : List Order). Stands S s os p) (same s) (all.each s p is) }

-- other room changes nothing
pub stand_same : (S : Setup) (orders : ℕ → List Order) (old now : List Ledger) → map without_room now ≡ map without_room old → StandAll S orders old → StandAll S orders now
stand_same S orders old now same all = record {
  sixteen = map_length without_room now old same ∙ all.sixteen;
  each = λ s p is.
      let q = map_at without_room now old same s p is in
      stands_same S s (orders s) q.0 p (ap (λ (x : Ledger). x.legs) q.2) (ap (λ (x : Ledger). x.book) q.2) (all.each s q.0 q.1);
}

-- one shard changes, with its orders and the setup
pub stand_changed : (S T : Setup) (orders after : ℕ → List Order) (ps : List Ledger) (k : ℕ) (p : Ledger) → StandAll S orders ps → Stands T k (after k) p
    → ((s : ℕ) (q : Ledger) → (s == k) ≡ false → Stands S s (orders s) q → Stands T s (after s) q) → StandAll T after (set ps k p)
stand_changed S T orders after ps k p all here others = record { sixteen = length-set ps k p ∙ all.sixteen; each = λ s q is. go s q is (s == k) refl }
  where
    go : (s : ℕ) (q : Ledger) → slice_get (set ps k p) s ≡ Some q → (b : Bool) → (s == k) ≡ b → Stands T s (after s) q
    go s q is true at =
        let same : s ≡ k = eqb-true s k at in
        let within = slice_get_within (set ps k p) s q is in
        let len = length-set ps k p in
        let room : k < length ps = omega (arith, within, len, same) in
        let found : p ≡ q = some_same p q (sym (get_set_same ps k p room) ∙ ap (slice_get (set ps k p)) (sym same) ∙ is) in
        subst (λ (x : Ledger). Stands T s (after s) x) found (subst (λ (n : ℕ). Stands T n (after n) p) (sym same) here)
    go s q is false at =
        let apart : s ≡ k → ⊥ = λ e. absurd (both_ways (s == k) at (same_is s k e)) in
        others s q at (all.each s q (sym (get_set_other ps k s p apart) ∙ is))

-- one shard has an order more
pub stand_with : (S : Setup) (orders : ℕ → List Order) (ps : List Ledger) (o : Order) (p : Ledger) → StandAll S orders ps → Stands S (account_shard o.ac) (o ∷ orders (account_shard o.ac)) p
    → StandAll S (with_order o orders) (set ps (account_shard o.ac) p)
stand_with S orders ps o p all here =
    let k = account_shard o.ac in
    stand_changed S S orders (with_order o orders) ps k p all
    (subst (λ (os : List Order). Stands S k os p) (ap (λ (b : Bool). cond b (o ∷ orders k) (orders k)) (sym (same_is k k refl))) here)
    (λ s q at stands. subst (λ (os : List Order). Stands S s os q) (ap (λ (b : Bool). cond b (o ∷ orders s) (orders s)) (sym at)) stands)

-- ---- the shard of an order

-- the shard at a place is that of the order's account
pub can_post_at : (ps : List Ledger) (o : Order) (k : ℕ) (p : Ledger) → k ≡ account_shard o.ac → slice_get ps k ≡ Some p → CanPostIn ps o → CanPost p o
can_post_at ps o k p at is can = go (slice_get ps (account_shard o.ac)) (ap (slice_get ps) (sym at) ∙ is) can
  where
    go : (x : Option Ledger) → x ≡ Some p → IsSomeAnd x (λ (q : Ledger). CanPost q o) → CanPost p o
    go None e can = absurd cc
    go (Some q) e can = let same : q ≡ p = cc in subst (λ (r : Ledger). CanPost r o) same can

pub planned_at : (ps : List Ledger) (x : Plan) (k : ℕ) (p : Ledger) → k ≡ account_shard x.order.ac → slice_get ps k ≡ Some p → IsPlannedIn ps x → IsPlanned p x
planned_at ps x k p at is planned = go (slice_get ps (account_shard x.order.ac)) (ap (slice_get ps) (sym at) ∙ is) planned
  where
    go : (y : Option Ledger) → y ≡ Some p → IsSomeAnd y (λ (q : Ledger). IsPlanned q x) → IsPlanned p x
    go None e planned = absurd cc
    go (Some q) e planned = let same : q ≡ p = cc in subst (λ (r : Ledger). IsPlanned r x) same planned

pub planned_in : (ps : List Ledger) (x : Plan) (k : ℕ) (p : Ledger) → k ≡ account_shard x.order.ac → slice_get ps k ≡ Some p → IsPlanned p x → IsPlannedIn ps x
planned_in ps x k p at is planned = subst (λ (y : Option Ledger). IsSomeAnd y (λ (q : Ledger). IsPlanned q x)) (sym (ap (slice_get ps) (sym at) ∙ is)) planned

pub can_post_in : (ps : List Ledger) (o : Order) (k : ℕ) (p : Ledger) → k ≡ account_shard o.ac → slice_get ps k ≡ Some p → CanPost p o → CanPostIn ps o
can_post_in ps o k p at is can = subst (λ (y : Option Ledger). IsSomeAnd y (λ (q : Ledger). CanPost q o)) (sym (ap (slice_get ps) (sym at) ∙ is)) can
