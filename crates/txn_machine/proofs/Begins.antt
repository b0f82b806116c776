-- The machine of a transaction that opens.
use Rattle.std.proofs.Common.{◌≡◌, ℕ, Option, None, refl, sym, ap}
use Rattle.upi_words.specs.Prelude.{Kind, Opening}
use Rattle.upi_model.specs.Places.{minutes, due_from}
use Rattle.txn_machine.specs.declared.stage.{Stage.Stage}
use Rattle.txn_machine.specs.Stands.{Transaction, machine_of, begun}
use Rattle.txn_machine.specs.Follows.{OpensAs, Begins}

due_is : (k : Kind) (now mins terms_mins : ℕ) → (k ≡ Kind.Collect → terms_mins ≡ mins) → due_from k now mins ≡ due_from k now terms_mins
due_is Kind.Pay now mins terms_mins fit = refl
due_is Kind.Collect now mins terms_mins fit = ap (λ (n : ℕ). due_from Kind.Collect now n) (sym (fit refl))

machine_is : (x : Transaction) (k : Kind) (amount now mins : ℕ) → OpensAs x k amount now mins → begun k amount now mins ≡ machine_of x.opening Stage.Asking
machine_is x k amount now mins is = rw (is.kind_is, is.amount_is, is.at_is) (ap (λ (due : ℕ). record { kind = k; amount = amount; due = due; stage = Stage.Asking }) (due_is k now mins (minutes x.opening.terms) is.minutes_are))

pub begins : (k : Kind) (amount now mins : ℕ) → Begins (begun k amount now mins) k amount now mins
begins k amount now mins = λ x is. record {
  of = machine_is x k amount now mins is;
  opens = λ psp came. ap (λ (o : Option Opening). record { opening = o; decision = None; debit_end = None; credit_end = None; reversal_end = None; acknowledged = None }) came;
}
