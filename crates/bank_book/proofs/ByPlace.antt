-- What stands at the place of an account.
use Rattle.std.proofs.Common.{◌≡◌, ℕ, zero, suc, ◌+◌, arith, Bool, true, false, cond, List, [], ◌∷◌, length, Option, Some, None, refl, sym, ap, subst, ◌∙◌}
use Rattle.std.specs.Prelude.{not, nat_lt, slice_get}
use Rattle.std.specs.List.{position_or_len}
use Rattle.std.specs.Map.{keys_of, values_of}
use Rattle.indexmap.specs.Layout.{set_value_at}
use Rattle.upi_base.specs.declared.setup.AccountRef.{AccountRef}
use Rattle.upi_base.specs.Setup.{same_account}
use Rattle.upi_base.proofs.Options.{some_same}
use Rattle.bank_book.specs.declared.Holding.{Holding}
use Rattle.bank_book.specs.Book.{Holdings, holding_of, place_of, holding_at, with_balance, changed, changed_at}

-- the place of an account, or the length of the book
abbrev pub place_or_end : Holdings → AccountRef → ℕ
place_or_end book ac = position_or_len (same_account ac) (keys_of book)

pub place_is : (book : Holdings) (ac : AccountRef) (place : ℕ) → place_of book ac ≡ Some place → place_or_end book ac ≡ place
place_is book ac place is = go (nat_lt (place_or_end book ac) (length (keys_of book))) is
  where
    go : (b : Bool) → cond b (Some (place_or_end book ac)) None ≡ Some place → place_or_end book ac ≡ place
    go true e = some_same (place_or_end book ac) place e
    go false e = absurd cc

next : (n : ℕ) → 1 + n ≡ suc n
next n = omega arith

-- the account holds what stands at its place
pub held_there : (book : Holdings) (ac : AccountRef) (h : Holding) → holding_at book (place_or_end book ac) ≡ Some h → holding_of book ac ≡ Some h
held_there [] ac h at = absurd cc
held_there (r ∷ rs) ac h at = go (same_account ac r.0) (held_there rs ac h) at
  where
    go : (b : Bool) → (holding_at rs (place_or_end rs ac) ≡ Some h → holding_of rs ac ≡ Some h)
        → slice_get (r.1 ∷ values_of rs) (cond (not b) (1 + place_or_end rs ac) 0) ≡ Some h → cond b (Some r.1) (holding_of rs ac) ≡ Some h
    go true later found = found
    go false later found = later (subst (λ (n : ℕ). slice_get (r.1 ∷ values_of rs) n ≡ Some h) (next (place_or_end rs ac)) found)

-- a write at its place is the change of its balance
pub written_there : (f : ℕ → ℕ) (book : Holdings) (ac : AccountRef) (h : Holding) → holding_at book (place_or_end book ac) ≡ Some h
    → set_value_at book (place_or_end book ac) (with_balance h (f h.balance)) ≡ changed f book ac
written_there f [] ac h at = refl
written_there f (r ∷ rs) ac h at = go (same_account ac r.0) (written_there f rs ac h) at
  where
    go : (b : Bool) → (holding_at rs (place_or_end rs ac) ≡ Some h → set_value_at rs (place_or_end rs ac) (with_balance h (f h.balance)) ≡ changed f rs ac)
        → slice_get (r.1 ∷ values_of rs) (cond (not b) (1 + place_or_end rs ac) 0) ≡ Some h
        → set_value_at (r ∷ rs) (cond (not b) (1 + place_or_end rs ac) 0) (with_balance h (f h.balance)) ≡ cond b ((r.0, with_balance r.1 (f r.1.balance)) ∷ rs) (r ∷ changed f rs ac)
    go true later found = ap (λ (k : Holding). (r.0, with_balance k (f k.balance)) ∷ rs) (sym (some_same r.1 h found))
    go false later found =
        ap (λ (n : ℕ). set_value_at (r ∷ rs) n (with_balance h (f h.balance))) (next (place_or_end rs ac))
        ∙ ap (λ (x : Holdings). r ∷ x) (later (subst (λ (n : ℕ). slice_get (r.1 ∷ values_of rs) n ≡ Some h) (next (place_or_end rs ac)) found))

-- a write at a place is the change of the balance there
pub written_at : (f : ℕ → ℕ) (book : Holdings) (place : ℕ) (h : Holding) → holding_at book place ≡ Some h → set_value_at book place (with_balance h (f h.balance)) ≡ changed_at f book place
written_at f [] place h at = refl
written_at f (r ∷ rs) zero h at = ap (λ (k : Holding). (r.0, with_balance k (f k.balance)) ∷ rs) (sym (some_same r.1 h at))
written_at f (r ∷ rs) (suc place) h at = ap (λ (x : Holdings). r ∷ x) (written_at f rs place h at)

-- what stands at a place of the rows
pub row_there : (book : Holdings) (place : ℕ) (ac : AccountRef) (h : Holding) → slice_get book place ≡ Some (ac, h) → holding_at book place ≡ Some h
row_there [] place ac h at = absurd cc
row_there (r ∷ rs) zero ac h at = ap (λ (x : AccountRef × Holding). Some x.1) (some_same r (ac, h) at)
row_there (r ∷ rs) (suc place) ac h at = row_there rs place ac h at
