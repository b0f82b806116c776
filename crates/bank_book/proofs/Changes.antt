-- Changes of a balance, and what every account holds then.
use Rattle.std.proofs.Common.{◌≡◌, ℕ, Bool, true, false, cond, List, [], ◌∷◌, Option, Some, None, refl, sym, ap, subst, ◌∙◌}
use Rattle.std.specs.Prelude.{IsSomeAnd}
use Rattle.std.specs.Option.{option_map}
use Rattle.std.specs.Map.{lookup, set_value}
use Rattle.std.proofs.lemmas.Bool.{both_ways}
use Rattle.upi_base.specs.declared.setup.AccountRef.{AccountRef}
use Rattle.upi_base.specs.Setup.{same_account}
use Rattle.upi_base.proofs.Setups.{same_account_is}
use Rattle.bank_book.specs.declared.Holding.{Holding}
use Rattle.bank_book.specs.Book.{Holdings, holding_of, balance_of, with_balance, changed}

-- what is required of a balance holds of the one that was found
pub covered : (P : ℕ → Type 0) (book : Holdings) (ac : AccountRef) (h : Holding) → IsSomeAnd (balance_of book ac) P → Some h ≡ holding_of book ac → P h.balance
covered P book ac h needed found = subst (λ (o : Option Holding). IsSomeAnd (option_map (λ (k : Holding). k.balance) o) P) (sym found) needed

pub missing : (P : ℕ → Type 0) (book : Holdings) (ac : AccountRef) → IsSomeAnd (balance_of book ac) P → None ≡ holding_of book ac → IsSomeAnd {T = ℕ} None P
missing P book ac needed found = subst (λ (o : Option Holding). IsSomeAnd (option_map (λ (k : Holding). k.balance) o) P) (sym found) needed

-- a write of the balance that was found is the change
pub set_changed : (f : ℕ → ℕ) (book : Holdings) (ac : AccountRef) (h : Holding) → Some h ≡ holding_of book ac → set_value (same_account ac) book (with_balance h (f h.balance)) ≡ changed f book ac
set_changed f [] ac h e = absurd cc
set_changed f (r ∷ rs) ac h e = go (same_account ac r.0) e (λ k. set_changed f rs ac h k)
  where
    go : (b : Bool) → Some h ≡ cond b (Some r.1) (holding_of rs ac) → (Some h ≡ holding_of rs ac → set_value (same_account ac) rs (with_balance h (f h.balance)) ≡ changed f rs ac)
        → cond b ((r.0, with_balance h (f h.balance)) ∷ rs) (r ∷ set_value (same_account ac) rs (with_balance h (f h.balance))) ≡ cond b ((r.0, with_balance r.1 (f r.1.balance)) ∷ rs) (r ∷ changed f rs ac)
    go true found later = let same : h ≡ r.1 = cc in ap (λ (x : Holding). (r.0, with_balance x (f x.balance)) ∷ rs) same
    go false found later = ap (λ (x : Holdings). r ∷ x) (later found)

-- which of three accounts are one
apart : (ac q r : AccountRef) → same_account ac r ≡ true → same_account q r ≡ true → same_account ac q ≡ false → ⊥
apart ac q r at here other = both_ways (same_account ac q) other (ap (λ (x : AccountRef). same_account ac x) (same_account_is q r here) ∙ at)

apart_too : (ac q r : AccountRef) → same_account ac r ≡ true → same_account q r ≡ false → same_account ac q ≡ true → ⊥
apart_too ac q r at elsewhere same = both_ways (same_account q r) elsewhere (ap (λ (x : AccountRef). same_account x r) (sym (same_account_is ac q same)) ∙ at)

-- an account holds what a change says of what it held
abbrev Says : (ℕ → ℕ) → Bool → Option Holding → Option Holding → Type 0
Says f changes before after = after ≡ cond changes (option_map (λ (h : Holding). with_balance h (f h.balance)) before) before

says_row : (f : ℕ → ℕ) (ac q r : AccountRef) (h : Holding) (before after : Option Holding) (a b d : Bool) → same_account ac r ≡ a → same_account q r ≡ b → same_account ac q ≡ d → Says f d before after
    → Says f d (cond b (Some h) before) (cond a (cond b (Some (with_balance h (f h.balance))) before) (cond b (Some h) after))
says_row f ac q r h before after true true true at here same later = refl
says_row f ac q r h before after true true false at here same later = absurd (apart ac q r at here same)
says_row f ac q r h before after true false true at here same later = absurd (apart_too ac q r at here same)
says_row f ac q r h before after true false false at here same later = refl
says_row f ac q r h before after false true true at here same later = absurd (both_ways (same_account ac r) at (ap (λ (x : AccountRef). same_account ac x) (sym (same_account_is q r here)) ∙ same))
says_row f ac q r h before after false true false at here same later = refl
says_row f ac q r h before after false false d at here same later = later

-- the account holds what the change says, and every other account what it held
pub holding_of-changed : (f : ℕ → ℕ) (book : Holdings) (ac q : AccountRef)
    → holding_of (changed f book ac) q ≡ cond (same_account ac q) (option_map (λ (h : Holding). with_balance h (f h.balance)) (holding_of book q)) (holding_of book q)
holding_of-changed f [] ac q = nothing (same_account ac q)
  where
    nothing : (b : Bool) → Says f b None None
    nothing true = refl
    nothing false = refl
holding_of-changed f (r ∷ rs) ac q =
    either (same_account ac r.0) ∙ says_row f ac q r.0 r.1 (holding_of rs q) (holding_of (changed f rs ac) q) (same_account ac r.0) (same_account q r.0) (same_account ac q) refl refl refl (holding_of-changed f rs ac q)
  where
    either : (a : Bool) → holding_of (cond a ((r.0, with_balance r.1 (f r.1.balance)) ∷ rs) (r ∷ changed f rs ac)) q
        ≡ cond a (cond (same_account q r.0) (Some (with_balance r.1 (f r.1.balance))) (holding_of rs q)) (cond (same_account q r.0) (Some r.1) (holding_of (changed f rs ac) q))
    either true = refl
    either false = refl
