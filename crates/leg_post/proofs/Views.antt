-- The table of legs is the list of first arrivals.
use Rattle.std.proofs.Common.{◌≡◌, Bool, true, false, cond, [], ◌∷◌, Some, None, refl, sym, ap, ◌∙◌}
use Rattle.std.specs.Prelude.{◌&&◌}
use Rattle.std.specs.Option.{option_or, option_map}
use Rattle.std.specs.Map.{lookup}
use Rattle.std.specs.Str.{bytes_eq}
use Rattle.std.proofs.lemmas.Bool.{both_ways}
use Rattle.std.proofs.lemmas.Slice.Eq.{bytes_eq-Decides}
use Rattle.upi_words.specs.Prelude.{Leg, Text}
use Rattle.upi_model.specs.Places.{same_leg}
use Rattle.upi_model.specs.Accounts.{kept_answer}
use Rattle.leg_post.specs.contracts.rows.LegKeyPartialEq.TheImpl as derived
use Rattle.leg_post.specs.declared.rows.LegKey.{LegKey}
use Rattle.leg_post.specs.declared.rows.Posting.{Posting}
use Rattle.leg_post.specs.calls.Rows.{Rows, legs_of, same_key, answer_in, answers_in, key_of}

-- which of two texts or legs comes first doesn't matter
pub bytes_flip : (a b : Text) → bytes_eq a b ≡ bytes_eq b a
bytes_flip a b = go (bytes_eq a b) refl (bytes_eq b a) refl
  where
    go : (x : Bool) → bytes_eq a b ≡ x → (y : Bool) → bytes_eq b a ≡ y → x ≡ y
    go true p true q = refl
    go false p false q = refl
    go true p false q = absurd (both_ways (bytes_eq b a) q ((bytes_eq-Decides b a).1 (sym ((bytes_eq-Decides a b).0 p))))
    go false p true q = absurd (both_ways (bytes_eq a b) p ((bytes_eq-Decides a b).1 (sym ((bytes_eq-Decides b a).0 q))))

pub leg_flip : (a b : Leg) → same_leg a b ≡ same_leg b a
leg_flip Leg.Debit Leg.Debit = refl
leg_flip Leg.Debit Leg.Credit = refl
leg_flip Leg.Debit Leg.Reversal = refl
leg_flip Leg.Credit Leg.Debit = refl
leg_flip Leg.Credit Leg.Credit = refl
leg_flip Leg.Credit Leg.Reversal = refl
leg_flip Leg.Reversal Leg.Debit = refl
leg_flip Leg.Reversal Leg.Credit = refl
leg_flip Leg.Reversal Leg.Reversal = refl

-- what the table answers of a leg is what its first arrival was answered
pub answer_is : (rows : Rows) (t : Text) (l : Leg) → answer_in rows (key_of t l) ≡ kept_answer (legs_of rows) t l
answer_is [] t l = refl
answer_is (r ∷ rows) t l = go (same_key (key_of t l) r.0) (answer_is rows t l) ∙ ap (λ (b : Bool). option_or (cond b (Some r.1.answer) None) (kept_answer (legs_of rows) t l)) (λ i. bytes_flip t r.0.txn i && leg_flip l r.0.leg i)
  where
    go : (b : Bool) → answer_in rows (key_of t l) ≡ kept_answer (legs_of rows) t l
        → option_map (λ (p : Posting). p.answer) (cond b (Some r.1) (lookup (same_key (key_of t l)) rows)) ≡ option_or (cond b (Some r.1.answer) None) (kept_answer (legs_of rows) t l)
    go true later = refl
    go false later = later

pub answers_are : (rows : Rows) → answers_in rows ≡ kept_answer (legs_of rows)
answers_are rows = λ i t l. answer_is rows t l i

-- the equality of keys is that they are one leg of one transaction
pub same_key_is : (a b : LegKey) → (derived.ghosts).eq a b ≡ same_key a b
same_key_is a b = go a.leg b.leg
  where
    go : (l m : Leg) → (derived.ghosts).eq (key_of a.txn l) (key_of b.txn m) ≡ same_key (key_of a.txn l) (key_of b.txn m)
    go Leg.Debit Leg.Debit = refl
    go Leg.Debit Leg.Credit = refl
    go Leg.Debit Leg.Reversal = refl
    go Leg.Credit Leg.Debit = refl
    go Leg.Credit Leg.Credit = refl
    go Leg.Credit Leg.Reversal = refl
    go Leg.Reversal Leg.Debit = refl
    go Leg.Reversal Leg.Credit = refl
    go Leg.Reversal Leg.Reversal = refl

-- so a look-up by it finds how the leg was answered
pub found : (rows : Rows) (key : LegKey) → option_map (λ (p : Posting). p.answer) (lookup ((derived.ghosts).eq key) rows) ≡ answer_in rows key
found rows key = λ i. option_map (λ (p : Posting). p.answer) (lookup (λ (k : LegKey). same_key_is key k i) rows)
