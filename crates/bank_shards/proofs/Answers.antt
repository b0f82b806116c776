-- How legs were answered, by the orders that each shard has had in a history.
use Rattle.std.proofs.Common.{◌≡◌, ℕ, Bool, true, false, cond, [], ◌∷◌, ◌++◌, List, Some, None, refl, sym, ap, ◌∙◌}
use Rattle.std.specs.Prelude.{reverse, ◌||◌}
use Rattle.upi_base.specs.Setup.{account_at}
use Rattle.upi_base.specs.Shards.{account_shard}
use Rattle.upi_words.specs.Prelude.{Account, AccountRef, Call, Leg, Opening, Order, Setup, History, Text, Legal, event_of, is_closed, opened, opening}
use Rattle.upi_model.specs.Accounts.{at_shard, is_at, kept, kept_answer}
use Rattle.upi_model.specs.History.{is_close}
use Rattle.upi_model.specs.Places.{if_of, opens}
use Rattle.upi_model.specs.Postings.{answer, posted_at}
use Rattle.upi_base.specs.Lists.{joined, pick}
use Rattle.upi_model.proofs.Gathered.{step_laws}
use Rattle.upi_model.proofs.Own.{same_is}
use Rattle.upi_laws.proofs.Accounts.{accounts_are_local}
use Rattle.account_shard.specs.Closing.{all_returns, orders_at}
use Rattle.account_shard.proofs.Closing.{answer_closed}
use Rattle.account_shard.proofs.Returns.{returns_are}
use Rattle.bank_shards.specs.Histories.{orders_in}
use Rattle.bank_shards.proofs.Histories.{after_close, at_the_close, closing, messages_are, orders_open}

-- what the account's shard says is how the leg was answered
answer_at : (S : Setup) (h : History) (s : ℕ) (t : Text) (l : Leg) (q : Opening) (a : Account) → account_shard a.ac ≡ s → Legal S h → opening S t h ≡ Some q → account_at S (posted_at l q.terms) ≡ Some a
    → kept_answer (kept S (orders_in S h s)) t l ≡ answer S h t l
answer_at S [] s t l q a mine legal begun held = absurd cc
answer_at S (e ∷ h) s t l q a mine legal begun held = go (λ earlier. answer_at S h s t l q a mine legal.0 earlier held) (is_closed h) refl (is_close e.call) refl
  where
    opened_so : opened S (e ∷ h) ≡ opened S h → opening S t h ≡ Some q
    opened_so same = ap (λ (os : List Opening). pick (if_of t) os) (sym same) ∙ begun

    local : is_closed (e ∷ h) ≡ false → kept_answer (kept S (orders_in S (e ∷ h) s)) t l ≡ answer S (e ∷ h) t l
    local run =
        ap (λ (os : List Order). kept_answer (kept S os) t l) (orders_open S s (e ∷ h) run)
        ∙ (accounts_are_local S s (e ∷ h) legal run).answers_are t l
        ∙ ap (λ (b : Bool). cond b (answer S (e ∷ h) t l) None) (ap (at_shard S s l) begun ∙ (ap (is_at s) held ∙ same_is s (account_shard a.ac) (sym mine)))

    closed_opens : is_closed h ≡ false → e.call ≡ Call.Close → opened S (e ∷ h) ≡ opened S h
    closed_opens run call = λ i. joined (opened S h) (opens S (opened S h) (run i) (event_of h (call i)) e.at)

    go : (opening S t h ≡ Some q → kept_answer (kept S (orders_in S h s)) t l ≡ answer S h t l) → (b : Bool) → is_closed h ≡ b → (c : Bool) → is_close e.call ≡ c
        → kept_answer (kept S (orders_in S (e ∷ h) s)) t l ≡ answer S (e ∷ h) t l
    go earlier true shut c is =
        let k = step_laws.answers_stand S e h shut in
        ap (λ (os : List Order). kept_answer (kept S os) t l) (sym (after_close S h e shut s)) ∙ earlier (opened_so k.0) ∙ (λ i. sym k.1 i t l)
    go earlier false run true is =
        let call = closing e.call is in
        ap (λ (os : List Order). kept_answer (kept S os) t l) (sym (at_the_close S h e run call s) ∙ messages_are s (all_returns 16 S h) (orders_in S h) ∙ ap (λ (os : List Order). orders_at s (reverse (all_returns 16 S h)) ++ os) (orders_open S s h run))
        ∙ answer_closed S s h e (orders_at s (reverse (all_returns 16 S h))) run call (returns_are S s h run) t l q a legal.0 (opened_so (closed_opens run call)) held mine
    go earlier false run false is = local ((λ i. is i || is_closed h) ∙ run)

-- at the shard of the account at which it is posted
pub answer_here : (S : Setup) (h : History) (t : Text) (l : Leg) (q : Opening) (a : Account) (ac : AccountRef) → Legal S h → opening S t h ≡ Some q → account_at S (posted_at l q.terms) ≡ Some a → a.ac ≡ ac
    → kept_answer (kept S (orders_in S h (account_shard ac))) t l ≡ answer S h t l
answer_here S h t l q a ac legal begun held named = answer_at S h (account_shard ac) t l q a (ap account_shard named) legal begun held
