-- What is answered, kept and moved, by the table and the book.
use Rattle.std.proofs.Common.{◌≡◌, ℕ, ◌+◌, ◌*◌, ◌<◌, ◌≤◌, ◌^◌, Bool, true, false, cond, List, [], ◌∷◌, ◌++◌, length, Option, Some, None, refl, sym, ap, ◌∙◌, arith, length-append}
use Rattle.std.specs.Prelude.{is_none, ◌&&◌}
use Rattle.std.specs.Option.{option_or, option_map}
use Rattle.std.proofs.lemmas.List.{length-map}
use Rattle.upi_base.specs.declared.limits.TheConstants.{CREDIT_CAP, MAX_AMOUNT}
use Rattle.upi_base.specs.Setup.{same_account}
use Rattle.upi_base.proofs.Options.{some_same}
use Rattle.upi_words.specs.Prelude.{Leg, Answer, AccountRef, Kept, Text}
use Rattle.upi_model.specs.Postings.{Answers, is_posted, post_at}
use Rattle.upi_model.specs.Accounts.{kept_answer, moved_by}
use Rattle.bank_book.specs.declared.Holding.{Holding}
use Rattle.bank_book.specs.Book.{Holdings, holding_of, with_balance, changed}
use Rattle.bank_book.proofs.Changes.{holding_of-changed}
use Rattle.leg_post.specs.declared.rows.LegKey.{LegKey}
use Rattle.leg_post.specs.declared.rows.Posting.{Posting}
use Rattle.leg_post.specs.Posts.{Ledger, order, present, has_now, posts, says, is_first, legs_with, book_with}
use Rattle.leg_post.specs.calls.Rows.{Rows, leg_of, legs_of, answer_in, answers_in, key_of, nobody, moved_book, IsWithin}
use Rattle.leg_post.proofs.Views.{answer_is, answers_are}

-- ---- balances stay small

pub small_enough : (legs : ℕ) (b : Holdings) (ac : AccountRef) (h : Holding) → IsWithin legs b → holding_of b ac ≡ Some h → h.balance < 2 ^ 62
small_enough legs b ac h within is = omega (arith, within.few, within.bounded ac h is)

moved_little : (l : Leg) (n b : ℕ) → moved_by l n b ≤ b + n
moved_little Leg.Debit n b = omega arith
moved_little Leg.Credit n b = omega arith
moved_little Leg.Reversal n b = omega arith

pub within_after : (legs n : ℕ) (b : Holdings) (ac : AccountRef) (l : Leg) (a : Answer) → IsWithin legs b → legs < 2 ^ 31 → n ≤ MAX_AMOUNT → IsWithin (legs + 1) (moved_book l n a b ac)
within_after legs n b ac l a within few small = record { few = omega arith; bounded = λ q h is. go (is_posted (Some a)) q h is }
  where
    moved : (c : Bool) (x : Option Holding) (q : AccountRef) → holding_of b q ≡ x → (h : Holding)
        → cond c (option_map (λ (k : Holding). with_balance k (moved_by l n k.balance)) x) x ≡ Some h → h.balance ≤ CREDIT_CAP + (legs + 1) * MAX_AMOUNT
    moved true None q had h is = absurd cc
    moved false None q had h is = absurd cc
    moved true (Some k) q had h is =
        let same : moved_by l n k.balance ≡ h.balance = ap (λ (x : Holding). x.balance) (some_same (with_balance k (moved_by l n k.balance)) h is) in
        omega (arith, within.bounded q k had, moved_little l n k.balance, same, small)
    moved false (Some k) q had h is =
        let same : k.balance ≡ h.balance = ap (λ (x : Holding). x.balance) (some_same k h is) in
        omega (arith, within.bounded q k had, same)

    go : (c : Bool) (q : AccountRef) (h : Holding) → holding_of (cond c (changed (moved_by l n) b ac) b) q ≡ Some h → h.balance ≤ CREDIT_CAP + (legs + 1) * MAX_AMOUNT
    go true q h is = moved (same_account ac q) (holding_of b q) q refl h (sym (holding_of-changed (moved_by l n) b ac q) ∙ is)
    go false q h is = omega (arith, within.bounded q h is)

-- ---- what is said

-- the account is named, but not by its name
named_or_not : (l : Leg) (answers : Answers) (t : Text) (n : ℕ) (ac : AccountRef) (h : Holding) → post_at answers has_now t n l (Some (present nobody h)) ≡ post_at answers has_now t n l (Some (present ac h))
named_or_not Leg.Debit answers t n ac h = refl
named_or_not Leg.Credit answers t n ac h = refl
named_or_not Leg.Reversal answers t n ac h = refl

module _ (rows : Rows) (p : Ledger) (legs_are : legs_of rows ≡ p.legs) (t : Text) (l : Leg) (n : ℕ) (ac : AccountRef) where
  answer_before : (x : Option Answer) → x ≡ answer_in rows (key_of t l) → kept_answer p.legs t l ≡ x
  answer_before x is = ap (λ (ks : List Kept). kept_answer ks t l) (sym legs_are) ∙ sym (answer_is rows t l) ∙ sym is

  pub said_before : (a : Answer) → Some a ≡ answer_in rows (key_of t l) → Some a ≡ says p (order t l n ac)
  said_before a is = ap (λ (x : Option Answer). option_or x (posts p (order t l n ac))) (sym (answer_before (Some a) is))

  pub said_first : (a : Answer) (h : Holding) → None ≡ answer_in rows (key_of t l) → holding_of p.book ac ≡ Some h → Some a ≡ post_at (answers_in rows) has_now t n l (Some (present nobody h)) → Some a ≡ says p (order t l n ac)
  said_first a h is held now =
      now ∙ named_or_not l (answers_in rows) t n ac h
      ∙ (λ i. post_at ((answers_are rows ∙ ap kept_answer legs_are) i) has_now t n l (option_map (present ac) (sym held i)))
      ∙ ap (λ (x : Option Answer). option_or x (posts p (order t l n ac))) (sym (answer_before None is))

  -- ---- what is kept and moved

  pub first_is : None ≡ answer_in rows (key_of t l) → is_first p.legs (order t l n ac) ≡ true
  first_is is = ap (λ (x : Option Answer). is_none x) (answer_before None is)

  pub legs_before : (a b : Answer) → Some b ≡ answer_in rows (key_of t l) → p.legs ≡ legs_with p.legs (order t l n ac) a
  legs_before a b is = ap (λ (x : Option Answer). cond (is_none x) (p.legs ++ record { order = order t l n ac; answer = a } ∷ []) p.legs) (sym (answer_before (Some b) is))

  pub book_before : (a b : Answer) → Some b ≡ answer_in rows (key_of t l) → p.book ≡ book_with p.legs p.book (order t l n ac) a
  book_before a b is = ap (λ (x : Option Answer). cond (is_none x && is_posted (Some a)) (changed (moved_by l n) p.book ac) p.book) (sym (answer_before (Some b) is))

  pub legs_first : (a : Answer) (after : Rows) → None ≡ answer_in rows (key_of t l) → after ≡ rows ++ (key_of t l, record { amount = n; ac = ac; answer = a }) ∷ [] → legs_of after ≡ legs_with p.legs (order t l n ac) a
  legs_first a after is grown =
      ap legs_of grown ∙ more rows ∙ ap (λ (ks : List Kept). ks ++ record { order = order t l n ac; answer = a } ∷ []) legs_are
      ∙ ap (λ (x : Option Answer). cond (is_none x) (p.legs ++ record { order = order t l n ac; answer = a } ∷ []) p.legs) (sym (answer_before None is))
    where
      more : (xs : Rows) → legs_of (xs ++ (key_of t l, record { amount = n; ac = ac; answer = a }) ∷ []) ≡ legs_of xs ++ record { order = order t l n ac; answer = a } ∷ []
      more [] = refl
      more (x ∷ xs) = ap (λ (ks : List Kept). leg_of x ∷ ks) (more xs)

  pub book_first : (a : Answer) (b after : Holdings) → b ≡ p.book → None ≡ answer_in rows (key_of t l) → after ≡ moved_book l n a b ac → after ≡ book_with p.legs p.book (order t l n ac) a
  book_first a b after same is moved =
      moved ∙ ap (λ (c : Holdings). moved_book l n a c ac) same
      ∙ ap (λ (x : Option Answer). cond (is_none x && is_posted (Some a)) (changed (moved_by l n) p.book ac) p.book) (sym (answer_before None is))

-- how many legs there are
pub count_is : (rows : Rows) → length (legs_of rows) ≡ length rows
count_is rows = length-map rows leg_of

pub count_more : (rows after : Rows) (r : LegKey × Posting) → after ≡ rows ++ r ∷ [] → length after ≡ length rows + 1
count_more rows after r is = ap length is ∙ length-append rows (r ∷ [])
