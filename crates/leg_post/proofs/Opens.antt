-- A book to which an account is added that opens within the cap.
use Rattle.std.proofs.Common.{◌≡◌, ℕ, ◌+◌, ◌*◌, ◌≤◌, Bool, true, false, cond, [], ◌∷◌, ◌++◌, Some, None, ap, sym, subst, ◌∙◌, arith}
use Rattle.upi_base.specs.declared.limits.TheConstants.{CREDIT_CAP, MAX_AMOUNT}
use Rattle.upi_base.specs.Setup.{same_account}
use Rattle.upi_base.proofs.Options.{some_same}
use Rattle.upi_words.specs.Prelude.{AccountRef}
use Rattle.bank_book.specs.declared.Holding.{Holding}
use Rattle.bank_book.specs.Book.{Holdings, holding_of}
use Rattle.leg_post.specs.Posts.{IsBounded}
use Rattle.leg_post.specs.calls.Rows.{IsWithin}

-- what an account of the longer book holds, the shorter one has, or it is what was added
found : (book : Holdings) (ac q : AccountRef) (h k : Holding) (most : ℕ) → ((j : Holding) → holding_of book q ≡ Some j → j.balance ≤ most) → h.balance ≤ most
    → holding_of (book ++ (ac, h) ∷ []) q ≡ Some k → k.balance ≤ most
found [] ac q h k most old new is = go (same_account q ac) is
  where
    go : (b : Bool) → cond b (Some h) None ≡ Some k → k.balance ≤ most
    go true e = subst (λ (x : Holding). x.balance ≤ most) (some_same h k e) new
    go false e = absurd cc
found (r ∷ rs) ac q h k most old new is = go (same_account q r.0) old is (λ o e. found rs ac q h k most o new e)
  where
    go : (b : Bool) → ((j : Holding) → cond b (Some r.1) (holding_of rs q) ≡ Some j → j.balance ≤ most) → cond b (Some r.1) (holding_of (rs ++ (ac, h) ∷ []) q) ≡ Some k
        → (((j : Holding) → holding_of rs q ≡ Some j → j.balance ≤ most) → holding_of (rs ++ (ac, h) ∷ []) q ≡ Some k → k.balance ≤ most) → k.balance ≤ most
    go true o e later = o k e
    go false o e later = later o e

-- a book with no account is within the cap
pub opens_none : IsBounded 0 []
opens_none ac h is = absurd cc

-- and so is one with an account more that opens within it
pub opens_more : (book after : Holdings) (ac : AccountRef) (h : Holding) → IsBounded 0 book → h.balance ≤ CREDIT_CAP → after ≡ book ++ (ac, h) ∷ [] → IsBounded 0 after
opens_more book after ac h old new is q k held =
    found book ac q h k (CREDIT_CAP + 0 * MAX_AMOUNT) (λ j e. old q j e) (omega (arith, new)) (ap (λ (b : Holdings). holding_of b q) (sym is) ∙ held)

-- so does a book within what its legs can give
pub within_more : (legs : ℕ) (book after : Holdings) (ac : AccountRef) (h : Holding) → IsWithin legs book → h.balance ≤ CREDIT_CAP → after ≡ book ++ (ac, h) ∷ [] → IsWithin legs after
within_more legs book after ac h within new is = record {
  few = within.few;
  bounded = λ q k held. found book ac q h k (CREDIT_CAP + legs * MAX_AMOUNT) (λ j e. within.bounded q j e) (omega (arith, new)) (ap (λ (b : Holdings). holding_of b q) (sym is) ∙ held);
}
