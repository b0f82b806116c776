-- What a Close makes arrive, by the shards' own entries.
use Rattle.std.proofs.Common.{◌≡◌, ℕ, Bool, true, false, cond, List, [], ◌∷◌, ◌++◌, Some, None, refl, sym, ◌∙◌, ap, inl, inr, eqb-true}
use Rattle.std.specs.Prelude.{◌&&◌, if◌then◌else◌}
use Rattle.std.specs.Option.{option_or}
use Rattle.std.specs.List.{filter, flat_map}
use Rattle.upi_words.specs.Prelude.{Entry, Call, Sent, Leg, Decision, Opening, Owner, Setup, History, Text, is_closed, event_of, opened, opening}
use Rattle.upi_base.specs.Lists.{when}
use Rattle.upi_base.specs.Shards.{txn_shard}
use Rattle.upi_model.specs.Places.{same_leg, in_shard}
use Rattle.upi_model.specs.Postings.{arrives, reversal_due, arrival, answer, post, post_opened, post_reversal}
use Rattle.upi_model.specs.Sending.{order}
use Rattle.upi_model.specs.Own.{own_deeds, own_standing}
use Rattle.upi_model.specs.AtClose.{returns_at_close, returned_at_close, at_close}
use Rattle.upi_laws.specs.LocalLaws.{CloseReturns, shard_returns}
use Rattle.upi_model.proofs.Openings.{opening_is_named}
use Rattle.upi_model.proofs.Own.{own_opened_is, own_standing_is}
use Rattle.upi_model.proofs.Facts.{decided_opened}
use Rattle.upi_laws.proofs.Once.{due_cases, caused_opened}

-- whether a Close would make its reversal arrive, by its shard's own entries
due_own : (S : Setup) (t : Text) (h : History) → is_closed h ≡ false → reversal_due S t h ≡ returns_at_close (own_standing S t (own_deeds (Owner.Txns (txn_shard t)) h))
due_own S t h run = ap returns_at_close (sym (own_standing_is S t h run))

-- what arrives with a Close
arrives_then : (S : Setup) (e : Entry) (h : History) (t : Text) (l : Leg) → is_closed h ≡ false → e.call ≡ Call.Close
    → arrives t l (is_closed h) (reversal_due S t h) (event_of h e.call) ≡ (same_leg l Leg.Reversal && returns_at_close (own_standing S t (own_deeds (Owner.Txns (txn_shard t)) h)))
arrives_then S e h t l run is = (λ i. arrives t l (run i) (reversal_due S t h) (event_of h (is i))) ∙ ap (λ (b : Bool). same_leg l Leg.Reversal && b) (due_own S t h run)

-- where the reversal is due, the transaction was opened
due_opened : (S : Setup) (t : Text) (h : History) → reversal_due S t h ≡ true → (o : Opening) × (opening S t h ≡ Some o)
due_opened S t h due = elim (due_cases S t h due) [
  | inl ordered ↦ decided_opened S t h (Decision.Yes ordered.0) ordered.1
  | inr wanted ↦ caused_opened S t h wanted.0 wanted.1
]

-- its bank posts it where it posted the debit
posts_then : (S : Setup) (t : Text) (h : History) → reversal_due S t h ≡ true → post S (opened S h) (answer S h) t Leg.Reversal ≡ Some (post_reversal (answer S h t Leg.Debit))
posts_then S t h due =
    let o = due_opened S t h due in
    ap (post_opened S (opened S h) (answer S h) Leg.Reversal) o.1 ∙ ap (λ (u : Text). Some (post_reversal (answer S h u Leg.Debit))) (opening_is_named S t h o.0 o.1)

-- the answer of a leg that arrives, where the reversal is due
then_when : (S : Setup) (t : Text) (h : History) (l : Leg) (due : Bool) → reversal_due S t h ≡ due
    → cond (same_leg l Leg.Reversal && due) (post S (opened S h) (answer S h) t l) None ≡ when (same_leg l Leg.Reversal && due) (post_reversal (answer S h t Leg.Debit))
then_when S t h Leg.Debit due is = refl
then_when S t h Leg.Credit due is = refl
then_when S t h Leg.Reversal true is = posts_then S t h is
then_when S t h Leg.Reversal false is = refl

pub close_returns : (S : Setup) (e : Entry) (h : History) (t : Text) → is_closed h ≡ false → e.call ≡ Call.Close → CloseReturns S e h t
close_returns S e h t run is = record {
  arrivals_are = λ l. ap (λ (b : Bool). option_or (arrival S h t l) (when b e.at)) (arrives_then S e h t l run is);
  answers_are = λ l.
      ap (λ (b : Bool). option_or (answer S h t l) (cond b (post S (opened S h) (answer S h) t l) None)) (arrives_then S e h t l run is)
      ∙ ap (option_or (answer S h t l)) (then_when S t h l (returns_at_close (own_standing S t (own_deeds (Owner.Txns (txn_shard t)) h))) (due_own S t h run));
}

-- of each that the shard has opened
each_returns : (S : Setup) (s : ℕ) (h : History) → is_closed h ≡ false → (xs : List Opening) → flat_map (returned_at_close S (own_deeds (Owner.Txns s) h)) (filter (in_shard s) xs)
    ≡ flat_map (λ (o : Opening). if reversal_due S o.terms.txn h then order S o.terms Leg.Reversal else []) (filter (in_shard s) xs)
each_returns S s h run [] = refl
each_returns S s h run (x ∷ xs) = go (in_shard s x) refl (each_returns S s h run xs)
  where
    f : Opening → List Sent
    f = returned_at_close S (own_deeds (Owner.Txns s) h)

    go : (b : Bool) → in_shard s x ≡ b
        → flat_map (returned_at_close S (own_deeds (Owner.Txns s) h)) (filter (in_shard s) xs) ≡ flat_map (λ (o : Opening). if reversal_due S o.terms.txn h then order S o.terms Leg.Reversal else []) (filter (in_shard s) xs)
        → flat_map (returned_at_close S (own_deeds (Owner.Txns s) h)) (cond b (x ∷ filter (in_shard s) xs) (filter (in_shard s) xs))
        ≡ flat_map (λ (o : Opening). if reversal_due S o.terms.txn h then order S o.terms Leg.Reversal else []) (cond b (x ∷ filter (in_shard s) xs) (filter (in_shard s) xs))
    go false is rest = rest
    go true is rest =
        let own : returns_at_close (own_standing S x.terms.txn (own_deeds (Owner.Txns s) h)) ≡ reversal_due S x.terms.txn h =
        ap (λ (k : ℕ). returns_at_close (own_standing S x.terms.txn (own_deeds (Owner.Txns k) h))) (sym (eqb-true (txn_shard x.terms.txn) s is)) ∙ sym (due_own S x.terms.txn h run) in
        λ i. cond (own i) (order S x.terms Leg.Reversal) [] ++ rest i

pub close_lists : (S : Setup) (s : ℕ) (h : History) → is_closed h ≡ false → at_close S (own_deeds (Owner.Txns s) h) ≡ shard_returns S s h
close_lists S s h run = ap (flat_map (returned_at_close S (own_deeds (Owner.Txns s) h))) (own_opened_is S s h run) ∙ each_returns S s h run (opened S h)
