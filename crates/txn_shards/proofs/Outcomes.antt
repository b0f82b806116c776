-- Outcomes of transactions by their shards' rows, before a Close and after it.
use Rattle.std.proofs.Common.{◌≡◌, Bool, true, false, cond, List, [], ◌∷◌, refl, sym, ap, subst, ◌∙◌}
use Rattle.std.specs.Prelude.{◌||◌}
use Rattle.std.proofs.lemmas.Bool.{both_ways}
use Rattle.upi_base.specs.Shards.{txn_shard}
use Rattle.upi_words.specs.Prelude.{Owner, Setup, History, Text, event_of, is_closed, outcome_of}
use Rattle.upi_model.specs.History.{is_close}
use Rattle.upi_model.specs.Own.{Deed}
use Rattle.upi_model.specs.Standing.{advance, outcome_on, shard_opened}
use Rattle.upi_model.proofs.Gathered.{standing_laws, step_laws}
use Rattle.upi_model.proofs.Own.{own_standing_is}
use Rattle.bank_shards.proofs.Histories.{closing}
use Rattle.txn_row.specs.Rows.{Course}
use Rattle.txn_shard.specs.Rows.{closed_outcome_at, outcome_at}
use Rattle.txn_shard.specs.Shard.{Stands}
use Rattle.txn_shard.proofs.Gathered.{shard_laws}
use Rattle.txn_shards.specs.Txns.{entries_in}
use Rattle.txn_shards.proofs.Histories.{own_closed}

-- before a Close
pub outcome_open : (S : Setup) (h : History) (t : Text) (rows : List Course) → is_closed h ≡ false → Stands S (txn_shard t) (entries_in h (txn_shard t)) rows → outcome_at rows t ≡ outcome_of S t h
outcome_open S h t rows run stands = shard_laws.outcomes S (txn_shard t) (entries_in h (txn_shard t)) rows t stands ∙ ap outcome_on (own_standing_is S t h run)

-- after it
pub outcome_shut : (S : Setup) (h : History) (t : Text) (rows : List Course) → is_closed h ≡ true → Stands S (txn_shard t) (entries_in h (txn_shard t)) rows → closed_outcome_at rows t ≡ outcome_of S t h
outcome_shut S [] t rows shut stands = absurd cc
outcome_shut S (e ∷ h) t rows shut stands = go (λ closed before. outcome_shut S h t rows closed before) (is_closed h) refl (is_close e.call) refl
  where
    before : Stands S (txn_shard t) (entries_in h (txn_shard t)) rows
    before = subst (λ (ds : List Deed). Stands S (txn_shard t) ds rows) (sym (own_closed (Owner.Txns (txn_shard t)) h e shut)) stands

    go : (is_closed h ≡ true → Stands S (txn_shard t) (entries_in h (txn_shard t)) rows → closed_outcome_at rows t ≡ outcome_of S t h)
        → (b : Bool) → is_closed h ≡ b → (c : Bool) → is_close e.call ≡ c → closed_outcome_at rows t ≡ outcome_of S t (e ∷ h)
    go earlier true closed c is = earlier closed before ∙ sym (step_laws.closed S t e h closed).outcome_same
    go earlier false run true is =
        let call = closing e.call is in
        shard_laws.closed_outcomes S (txn_shard t) (entries_in h (txn_shard t)) rows t (shard_opened S t h) e.at before
        ∙ (λ i. outcome_on (advance S t (shard_opened S t h) (sym run i) (own_standing_is S t h run i) (event_of h (sym call i)) e.at))
        ∙ ap outcome_on (sym (standing_laws.stands_on S t e h).standing_on)
    go earlier false run false is = absurd (both_ways (is_closed (e ∷ h)) ((λ i. is i || is_closed h) ∙ run) shut)

-- at either
pub outcome_by_rows : (S : Setup) (h : History) (t : Text) (rows : List Course) (closed : Bool) → is_closed h ≡ closed → Stands S (txn_shard t) (entries_in h (txn_shard t)) rows
    → cond closed (closed_outcome_at rows t) (outcome_at rows t) ≡ outcome_of S t h
outcome_by_rows S h t rows true is stands = outcome_shut S h t rows is stands
outcome_by_rows S h t rows false is stands = outcome_open S h t rows is stands
