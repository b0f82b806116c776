-- How the table of legs is kept, and what is read of it.
use Rattle.std.specs.Prelude.{ℕ, ◌+◌, ◌^◌, ◌<◌, ◌≤◌, Bool, ◌&&◌, if◌then◌else◌, List, [], map, Option, Some, IsSomeAnd}
use Rattle.std.specs.Option.{option_map}
use Rattle.std.specs.Map.{lookup}
use Rattle.std.specs.Str.{bytes_eq}
use Rattle.upi_words.specs.Prelude.{Leg, Answer, AccountRef, Kept, Text}
use Rattle.upi_model.specs.Places.{same_leg}
use Rattle.upi_model.specs.Postings.{Answers, is_posted, post_debit, post_credit}
use Rattle.bank_book.specs.declared.Holding.{Holding}
use Rattle.bank_book.specs.Book.{Holdings, changed}
use Rattle.upi_model.specs.Accounts.{moved_by}
use Rattle.leg_post.specs.declared.rows.LegKey.{LegKey}
use Rattle.leg_post.specs.declared.rows.Posting.{Posting}
use Rattle.leg_post.specs.Posts.{present, IsBounded}

-- legs, each with what its first order said and how that was answered
abbrev pub Rows : Type 0
Rows = List (LegKey × Posting)

-- a row as a leg that arrived
abbrev pub leg_of : LegKey × Posting → Kept
leg_of r = record { order = record { txn = r.0.txn; its_leg = r.0.leg; amount = r.1.amount; ac = r.1.ac }; answer = r.1.answer }

-- rows as the legs that arrived
abbrev pub legs_of : Rows → List Kept
legs_of rows = map leg_of rows

-- both are one leg of one transaction
abbrev pub same_key : LegKey → LegKey → Bool
same_key a b = bytes_eq a.txn b.txn && same_leg a.leg b.leg

-- how a leg was answered, if it was
abbrev pub answer_in : Rows → LegKey → Option Answer
answer_in rows key = option_map (λ (p : Posting). p.answer) (lookup (same_key key) rows)

-- an account of no name: the rules of posting don't read it
abbrev pub nobody : AccountRef
nobody = record { bank = []; num = [] }

-- how a debit is answered at an account that has this now
abbrev pub debit_answer : Option Answer → Holding → ℕ → Answer
debit_answer reversed h n = post_debit reversed h.balance n (present nobody h)

-- how a credit is answered at an account that has this now
abbrev pub credit_answer : Holding → ℕ → Answer
credit_answer h n = post_credit h.balance n (present nobody h)

-- the key of a leg of a transaction
abbrev pub key_of : Text → Leg → LegKey
key_of t l = record { txn = t; leg = l }

-- how each leg was answered, if it was
abbrev pub answers_in : Rows → Answers
answers_in rows t l = answer_in rows (key_of t l)

-- an account that has this can have so much moved by a leg that is posted
abbrev pub HasRoom : Leg → ℕ → Holding → Type 0
HasRoom Leg.Debit n h = n ≤ h.balance
HasRoom Leg.Credit n h = h.balance + n < 2 ^ 62
HasRoom Leg.Reversal n h = h.balance + n < 2 ^ 62

-- the account is there, and where the leg is posted the amount can be moved
abbrev pub CanMove : Leg → ℕ → Answer → Option Holding → Type 0
CanMove l n Answer.Posted h = IsSomeAnd h (HasRoom l n)
CanMove l n (Answer.Declined code) h = Unit {0}

-- the book after a leg was answered so
abbrev pub moved_book : Leg → ℕ → Answer → Holdings → AccountRef → Holdings
moved_book l n a b ac = if is_posted (Some a) then changed (moved_by l n) b ac else b

-- there are at most 2^31 legs, and no balance is above the cap and what they can give
pub record IsWithin (legs : ℕ) (b : Holdings) : Type 0 where
  pub few : legs ≤ 2_147_483_648
  pub bounded : IsBounded legs b
