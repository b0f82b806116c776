-- What an entry posts: a debit or a credit of one transaction at most.
use Rattle.std.proofs.Common.{◌≡◌, ℕ, ◌+◌, ◌≤◌, Bool, true, false, cond, List, ◌∷◌, Option, Some, None, refl, sym, ◌∙◌, ap, subst, inl, inr, arith, ◌⊎◌}
use Rattle.std.specs.Prelude.{◌&&◌}
use Rattle.std.specs.Option.{option_or}
use Rattle.std.specs.List.{sum_by}
use Rattle.std.specs.Str.{bytes_eq}
use Rattle.std.proofs.lemmas.Bool.{both_ways, false_from_ne_true}
use Rattle.std.proofs.lemmas.Slice.Eq.{bytes_eq-Decides}
use Rattle.upi_words.specs.Prelude.{Entry, Leg, Answer, AccountRef, Event, Opening, Setup, History, Text, is_closed, event_of, opened, opening, is_posted}
use Rattle.upi_base.specs.Lists.{when}
use Rattle.upi_base.specs.Setup.{account_at}
use Rattle.upi_model.specs.Places.{same_leg, has_id, opens}
use Rattle.upi_model.specs.Postings.{has_account, posted_at, share, total, post_opened, post, arrives, reversal_due, answer}
use Rattle.upi_base.proofs.Options.{or_cases, or_none, if_some, some_same, if_false}
use Rattle.upi_base.proofs.Lists.{sum_add, sum_same, sum_le}
use Rattle.upi_model.proofs.Openings.{opens_found}
use Rattle.upi_laws.proofs.Once.{same_leg_self, arrives_is, total_joined, unopened_unposted, posted_begun}
use Rattle.upi_laws.proofs.Legs.{posted_is}
use Rattle.upi_laws.proofs.Sums.{of_opening, sum_at}

-- ---- what an entry adds to what the legs moved

share_grows : (owner : Bool) (o p : Option Answer) (n : ℕ) → cond (owner && is_posted o) n 0 ≤ cond (owner && is_posted (option_or o p)) n 0
share_grows false o p n = omega arith
share_grows true (Some Answer.Posted) p n = omega arith
share_grows true (Some (Answer.Declined c)) p n = omega arith
share_grows true None p n = omega arith

pub total_grows : (S : Setup) (e : Entry) (h : History) (ac : AccountRef) (l : Leg) (os : List Opening) → total S os (answer S h) ac l ≤ total S os (answer S (e ∷ h)) ac l
total_grows S e h ac l os =
    sum_le (λ (o : Opening). share S ac l (answer S h o.terms.txn l) o.terms) (λ (o : Opening). share S ac l (answer S (e ∷ h) o.terms.txn l) o.terms)
    (λ o. share_grows (has_account ac (account_at S (posted_at l o.terms))) (answer S h o.terms.txn l) _ o.terms.amount) os

-- a payment that is opened has moved nothing, this entry included
pub total_here : (S : Setup) (e : Entry) (h : History) (ac : AccountRef) (l : Leg) → total S (opened S (e ∷ h)) (answer S (e ∷ h)) ac l ≡ total S (opened S h) (answer S (e ∷ h)) ac l
total_here S e h ac l =
    total_joined S (answer S (e ∷ h)) ac l (opens S (opened S h) (is_closed h) (event_of h e.call) e.at) (opened S h) (λ q is.
    let none = (opens_found S e h q is).0 in
    nothing (answer S h q.terms.txn l) (arrives q.terms.txn l (is_closed h) (reversal_due S q.terms.txn h) (event_of h e.call)) (opening S q.terms.txn h) (unopened_unposted S h q.terms.txn l none) none)
  where
    nothing : (a : Option Answer) (b : Bool) (o : Option Opening) → is_posted a ≡ false → o ≡ None → is_posted (option_or a (cond b (post_opened S (opened S h) (answer S h) l o) None)) ≡ false
    nothing (Some x) b o is none = is
    nothing None true o is none = rw none refl
    nothing None false o is none = refl

-- ---- what an entry posts

-- the transaction whose order for the leg arrives
abbrev ordered_for : Leg → Event → Option Text
ordered_for l (Event.Ordered t l') = when (same_leg l' l) t
ordered_for l _ = None

own_order : (t : Text) (l : Leg) → when (same_leg l l) t ≡ Some t
own_order t l = rw (same_leg_self l) refl

ordered_arrives : (t : Text) (l : Leg) (closed due : Bool) (e : Event) → (l ≡ Leg.Reversal → ⊥) → arrives t l closed due e ≡ true → ordered_for l e ≡ Some t
ordered_arrives t l closed due e forth is = elim (arrives_is t l closed due e is).1 [
  | inl ordered ↦ ap (ordered_for l) ordered ∙ own_order t l
  | inr close ↦ absurd (forth close.1)
]

pub debit_forth : Leg.Debit ≡ Leg.Reversal → ⊥
debit_forth e = cc

pub credit_forth : Leg.Credit ≡ Leg.Reversal → ⊥
credit_forth e = cc

module _ (S : Setup) (e : Entry) (h : History) (l : Leg) (forth : l ≡ Leg.Reversal → ⊥) where
  same_posted : (t : Text) → (ordered_for l (event_of h e.call) ≡ Some t → ⊥) → is_posted (answer S (e ∷ h) t l) ≡ is_posted (answer S h t l)
  same_posted t away =
      let no = false_from_ne_true (arrives t l (is_closed h) (reversal_due S t h) (event_of h e.call)) (λ a. away (ordered_arrives t l (is_closed h) (reversal_due S t h) (event_of h e.call) forth a)) in
      ap is_posted (ap (option_or (answer S h t l)) (if_false (arrives t l (is_closed h) (reversal_due S t h) (event_of h e.call)) (post S (opened S h) (answer S h) t l) no) ∙ or_none (answer S h t l))

  -- nothing more is moved
  abbrev pub NothingPosts : Type 0
  NothingPosts = (ac : AccountRef) → total S (opened S h) (answer S (e ∷ h)) ac l ≡ total S (opened S h) (answer S h) ac l

  -- one transaction more is posted, and adds at most its own amount
  pub record OnePosts : Type 0 where
    pub t : Text
    pub o : Opening
    pub begun : opening S t h ≡ Some o
    pub posts : post S (opened S h) (answer S h) t l ≡ Some Answer.Posted
    pub gains : (ac : AccountRef) → total S (opened S h) (answer S (e ∷ h)) ac l ≤ total S (opened S h) (answer S h) ac l + cond (has_account ac (account_at S (posted_at l o.terms))) o.terms.amount 0

  all_same : ((t : Text) → is_posted (answer S (e ∷ h) t l) ≡ is_posted (answer S h t l)) → NothingPosts
  all_same same ac =
      sum_same (λ (o : Opening). share S ac l (answer S (e ∷ h) o.terms.txn l) o.terms) (λ (o : Opening). share S ac l (answer S h o.terms.txn l) o.terms)
      (λ o. ap (λ (b : Bool). cond (has_account ac (account_at S (posted_at l o.terms)) && b) o.terms.amount 0) (same o.terms.txn)) (opened S h)

  gains_at : (t : Text) (o : Opening) → ((u : Text) → bytes_eq u t ≡ false → is_posted (answer S (e ∷ h) u l) ≡ is_posted (answer S h u l)) → opening S t h ≡ Some o → (ac : AccountRef)
      → total S (opened S h) (answer S (e ∷ h)) ac l ≤ total S (opened S h) (answer S h) ac l + cond (has_account ac (account_at S (posted_at l o.terms))) o.terms.amount 0
  gains_at t o others is ac =
      let gain : Opening → ℕ = λ q. cond (has_account ac (account_at S (posted_at l q.terms))) q.terms.amount 0 in
      let f : Opening → ℕ = λ q. share S ac l (answer S h q.terms.txn l) q.terms in
      let g : Opening → ℕ = λ q. cond (has_id t q) (gain q) 0 in
      let le = sum_le (λ (q : Opening). share S ac l (answer S (e ∷ h) q.terms.txn l) q.terms) (λ (q : Opening). f q + g q)
      (λ q. each (has_account ac (account_at S (posted_at l q.terms))) (is_posted (answer S (e ∷ h) q.terms.txn l)) (is_posted (answer S h q.terms.txn l)) (has_id t q) q.terms.amount (others q.terms.txn)) (opened S h) in
      let add = sum_add f g (opened S h) in
      let at : sum_by g (opened S h) ≡ gain o = sum_at S t gain h ∙ ap (of_opening gain) is in
      omega (arith, le, add, at)
    where
      each : (own p q mine : Bool) (n : ℕ) → (mine ≡ false → p ≡ q) → cond (own && p) n 0 ≤ cond (own && q) n 0 + cond mine (cond own n 0) 0
      each false p q mine n k = omega arith
      each true true q true n k = omega arith
      each true false q true n k = omega arith
      each true p q false n k = subst (λ (x : Bool). cond p n 0 ≤ cond x n 0 + 0) (k refl) (omega arith)

  other : (t u : Text) → ordered_for l (event_of h e.call) ≡ Some t → bytes_eq u t ≡ false → is_posted (answer S (e ∷ h) u l) ≡ is_posted (answer S h u l)
  other t u is away = same_posted u (λ arr. both_ways (bytes_eq u t) away ((bytes_eq-Decides u t).1 (some_same u t (sym arr ∙ is))))

  everywhere : (t : Text) → ordered_for l (event_of h e.call) ≡ Some t → is_posted (answer S (e ∷ h) t l) ≡ is_posted (answer S h t l) → (u : Text) → is_posted (answer S (e ∷ h) u l) ≡ is_posted (answer S h u l)
  everywhere t is here u = by (bytes_eq u t) refl
    where
      by : (b : Bool) → bytes_eq u t ≡ b → is_posted (answer S (e ∷ h) u l) ≡ is_posted (answer S h u l)
      by true eq = subst (λ (x : Text). is_posted (answer S (e ∷ h) x l) ≡ is_posted (answer S h x l)) (sym ((bytes_eq-Decides u t).0 eq)) here
      by false eq = other t u is eq

  newly : (t : Text) → ordered_for l (event_of h e.call) ≡ Some t → is_posted (answer S (e ∷ h) t l) ≡ true → is_posted (answer S h t l) ≡ false → OnePosts
  newly t is x y = elim (or_cases (answer S h t l) _ Answer.Posted (posted_is (answer S (e ∷ h) t l) x)) [
    | inl old ↦ absurd (both_ways (is_posted (answer S h t l)) y (ap is_posted old))
    | inr come ↦
        let p = (if_some (arrives t l (is_closed h) (reversal_due S t h) (event_of h e.call)) (post S (opened S h) (answer S h) t l) Answer.Posted come.1).1 in
        let k = posted_begun S h t l p in
        record { t = t; o = k.0; begun = k.1; posts = p; gains = gains_at t k.0 (λ u away. other t u is away) k.1 }
  ]

  stays_posted : (o p : Option Answer) → is_posted o ≡ true → is_posted (option_or o p) ≡ true
  stays_posted (Some Answer.Posted) p k = refl
  stays_posted (Some (Answer.Declined c)) p k = absurd cc
  stays_posted None p k = absurd cc

  cases : (t : Text) → ordered_for l (event_of h e.call) ≡ Some t → (p q : Bool) → is_posted (answer S (e ∷ h) t l) ≡ p → is_posted (answer S h t l) ≡ q → NothingPosts ⊎ OnePosts
  cases t is true true x y = inl (all_same (everywhere t is (x ∙ sym y)))
  cases t is false false x y = inl (all_same (everywhere t is (x ∙ sym y)))
  cases t is false true x y = absurd (both_ways (is_posted (answer S (e ∷ h) t l)) x (stays_posted (answer S h t l) _ y))
  cases t is true false x y = inr (newly t is x y)

  pub posts_one : NothingPosts ⊎ OnePosts
  posts_one = go (ordered_for l (event_of h e.call)) refl
    where
      go : (o : Option Text) → ordered_for l (event_of h e.call) ≡ o → NothingPosts ⊎ OnePosts
      go None is = inl (all_same (λ t. same_posted t (λ arr. let z : ◌≡◌ {A = Option Text} None (Some t) = sym is ∙ arr in cc)))
      go (Some t) is = cases t is (is_posted (answer S (e ∷ h) t l)) (is_posted (answer S h t l)) refl refl
