-- The rows of the sixteen shards, of which those of one change.
use Rattle.std.proofs.Common.{◌≡◌, ℕ, zero, suc, ◌<◌, ◌≤◌, ◌+◌, Bool, true, false, List, [], ◌∷◌, ◌++◌, length, map, set, get_or, take, Option, Some, None, refl, sym, ap, subst, ◌∙◌, arith, eqb-true}
use Rattle.std.specs.Prelude.{◌==◌, slice_get, IsSomeAnd}
use Rattle.std.specs.List.{flat_map}
use Rattle.std.proofs.lemmas.Bool.{both_ways}
use Rattle.std.proofs.lemmas.Grind.{flat_map-append}
use Rattle.std.proofs.lemmas.List.{append-nil, take_more}
use Rattle.std.proofs.lemmas.List.Concat.{flat_map-cons}
use Rattle.std.proofs.lemmas.Option.{slice_get-get_or, slice_get_within}
use Rattle.upi_base.proofs.Options.{some_same}
use Rattle.upi_words.specs.Prelude.{Sent, Setup}
use Rattle.upi_model.specs.Own.{Deed}
use Rattle.upi_model.proofs.Own.{same_is}
use Rattle.account_shard.specs.Closing.{numbers_to}
use Rattle.txn_row.specs.Rows.{Course}
use Rattle.txn_shard.specs.Rows.{Shard, rows_return}
use Rattle.txn_shard.specs.Shard.{Stands, IsPlanned, rows_after}
use Rattle.txn_shard.specs.declared.step.{Change.Change}
use Rattle.txn_shards.specs.Txns.{StandTxns, IsPlannedIn, Placed, all_return, returns_of, rows_of, rows_with}

-- ---- one shard's rows change

pub rows_set : (xs : List Shard) (k : ℕ) (c : Change) (x now : Shard) → slice_get xs k ≡ Some x → now.rows ≡ rows_after x.rows c → map rows_of (set xs k now) ≡ rows_with (map rows_of xs) k c
rows_set [] k c x now is after = absurd cc
rows_set (y ∷ ys) zero c x now is after = let same : x ≡ y = cc in ap (λ (r : List Course). r ∷ map rows_of ys) (after ∙ ap (λ (z : Shard). rows_after z.rows c) same)
rows_set (y ∷ ys) (suc k) c x now is after = ap (λ (rs : List (List Course)). y.rows ∷ rs) (rows_set ys k c x now is after)

pub length_with : (rss : List (List Course)) (k : ℕ) (c : Change) → length (rows_with rss k c) ≡ length rss
length_with [] k c = refl
length_with (r ∷ rs) zero c = refl
length_with (r ∷ rs) (suc k) c = ap suc (length_with rs k c)

get_with_same : (rss : List (List Course)) (k : ℕ) (c : Change) (rows : List Course) → slice_get rss k ≡ Some rows → slice_get (rows_with rss k c) k ≡ Some (rows_after rows c)
get_with_same [] k c rows is = absurd cc
get_with_same (r ∷ rs) zero c rows is = let same : r ≡ rows = cc in ap (λ (x : List Course). Some (rows_after x c)) same
get_with_same (r ∷ rs) (suc k) c rows is = get_with_same rs k c rows is

get_with_other : (rss : List (List Course)) (k s : ℕ) (c : Change) → (s ≡ k → ⊥) → slice_get (rows_with rss k c) s ≡ slice_get rss s
get_with_other [] k s c apart = refl
get_with_other (r ∷ rs) zero zero c apart = absurd (apart refl)
get_with_other (r ∷ rs) zero (suc s) c apart = refl
get_with_other (r ∷ rs) (suc k) zero c apart = refl
get_with_other (r ∷ rs) (suc k) (suc s) c apart = get_with_other rs k s c (λ e. apart (ap suc e))

pub some_at : {X : Type 0} (xs : List X) (i : ℕ) → i < length xs → (x : X) × (slice_get xs i ≡ Some x)
some_at [] i lt = absurd (omega arith)
some_at (x ∷ xs) zero lt = (x, refl)
some_at (x ∷ xs) (suc i) lt = some_at xs i (omega arith)

-- the shards stand for other entries, where one's rows have changed
pub stand_with : (S : Setup) (mine after : ℕ → List Deed) (rss : List (List Course)) (k : ℕ) (c : Change) (rows : List Course) → slice_get rss k ≡ Some rows → StandTxns S mine rss → Stands S k (after k) (rows_after rows c)
    → ((s : ℕ) (r : List Course) → (s == k) ≡ false → Stands S s (mine s) r → Stands S s (after s) r) → StandTxns S after (rows_with rss k c)
stand_with S mine after rss k c rows at all here others = record { sixteen = length_with rss k c ∙ all.sixteen; each = λ s r is. go s r is (s == k) refl }
  where
    go : (s : ℕ) (r : List Course) → slice_get (rows_with rss k c) s ≡ Some r → (b : Bool) → (s == k) ≡ b → Stands S s (after s) r
    go s r is true e =
        let same : s ≡ k = eqb-true s k e in
        let found : rows_after rows c ≡ r = some_same (rows_after rows c) r (sym (get_with_same rss k c rows at) ∙ ap (slice_get (rows_with rss k c)) (sym same) ∙ is) in
        subst (λ (x : List Course). Stands S s (after s) x) found (subst (λ (n : ℕ). Stands S n (after n) (rows_after rows c)) (sym same) here)
    go s r is false e = others s r e (all.each s r (sym (get_with_other rss k s c (λ same. absurd (both_ways (s == k) e (same_is s k same)))) ∙ is))

-- the same entries, said otherwise
pub stand_as : (S : Setup) (mine after : ℕ → List Deed) (rss : List (List Course)) → ((s : ℕ) → mine s ≡ after s) → StandTxns S mine rss → StandTxns S after rss
stand_as S mine after rss same all = record { sixteen = all.sixteen; each = λ s r is. subst (λ (ds : List Deed). Stands S s ds r) (same s) (all.each s r is) }

-- ---- a shard that was read

-- its rows stand at its place
pub rows_at : (xs : List Shard) (k : ℕ) (x : Shard) → slice_get xs k ≡ Some x → slice_get (map rows_of xs) k ≡ Some x.rows
rows_at [] k x is = absurd cc
rows_at (y ∷ ys) zero x is = let same : y ≡ x = cc in ap (λ (z : Shard). Some z.rows) same
rows_at (y ∷ ys) (suc k) x is = rows_at ys k x is

pub planned_in : (xs : List Shard) (x : Placed) (s : Shard) → slice_get xs x.place ≡ Some s → IsPlanned s x.plan → IsPlannedIn xs x
planned_in xs x s at planned = subst (λ (y : Option Shard). IsSomeAnd y (λ (z : Shard). IsPlanned z x.plan)) (sym at) planned

pub planned_at : (xs : List Shard) (x : Placed) (s : Shard) → slice_get xs x.place ≡ Some s → IsPlannedIn xs x → IsPlanned s x.plan
planned_at xs x s at planned = subst (λ (y : Option Shard). IsSomeAnd y (λ (z : Shard). IsPlanned z x.plan)) at planned

-- what is planned is planned at one of the sixteen
pub planned_within : (xs : List Shard) (x : Placed) → IsPlannedIn xs x → x.place < length xs
planned_within xs x planned = go (slice_get xs x.place) refl planned
  where
    go : (y : Option Shard) → slice_get xs x.place ≡ y → IsSomeAnd y (λ (z : Shard). IsPlanned z x.plan) → x.place < length xs
    go None is k = absurd k
    go (Some s) is k = slice_get_within xs x.place s is

-- ---- shard after shard

-- one shard more
pub returns_more : (S : Setup) (rss : List (List Course)) (i : ℕ) → i < length rss → all_return S (take i rss) ++ returns_of S (slice_get rss i) ≡ all_return S (take (i + 1) rss)
returns_more S rss i lt =
    let here = slice_get-get_or rss i [] lt in
    ap (λ (x : Option (List Course)). all_return S (take i rss) ++ returns_of S x) here
    ∙ ap (λ (ms : List Sent). all_return S (take i rss) ++ ms) (sym (append-nil (rows_return S (get_or rss i []))) ∙ sym (flat_map-cons (rows_return S) (get_or rss i []) []))
    ∙ sym (flat_map-append (rows_return S) (take i rss) (get_or rss i [] ∷ []))
    ∙ ap (all_return S) (sym (take_more rss i [] lt))

-- what each would make arrive, by its number
pub returns_by : (S : Setup) (f : ℕ → List Sent) (rss : List (List Course)) → ((s : ℕ) (rows : List Course) → slice_get rss s ≡ Some rows → rows_return S rows ≡ f s)
    → (n : ℕ) → n ≤ length rss → all_return S (take n rss) ≡ flat_map f (numbers_to n)
returns_by S f rss each zero le = refl
returns_by S f rss each (suc n) le =
    let lt : n < length rss = omega (arith, le) in
    let e : suc n ≡ n + 1 = omega arith in
    let one = some_at rss n lt in
    ap (λ (k : ℕ). all_return S (take k rss)) e ∙ sym (returns_more S rss n lt)
    ∙ (λ i. returns_by S f rss each n (omega (arith, le)) i ++ returns_of S (one.1 i))
    ∙ ap (λ (ms : List Sent). flat_map f (numbers_to n) ++ ms) (each n one.0 one.1 ∙ sym (append-nil (f n)) ∙ sym (flat_map-cons f n []))
    ∙ sym (flat_map-append f (numbers_to n) (n ∷ []))
