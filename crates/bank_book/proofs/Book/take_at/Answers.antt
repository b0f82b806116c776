use Rattle.std.proofs.Common.{◌≡◌, ℕ, ◌-◌, ◌∙◌, Some, sym, ap}
use Rattle.indexmap.specs.Layout.{set_value_at}
use Rattle.bank_book.specs.Book.{Holdings, holding_at, place_of, changed, changed_at}
use Rattle.bank_book.proofs.ByPlace.{place_or_end, place_is, written_there, written_at}
use Rattle.bank_book.proofs.Book.take_at.Goals as goal

pub returns-clause-place : goal.returns-clause-place
returns-clause-place c =
    let book : Holdings = c.self.inside.accounts.entries in
    let held = c.in-Some.there.now in
    (λ i. set_value_at book c.args.place (record { balance = held.balance - c.get.ensures.same i; no_debit = held.no_debit; no_credit = held.no_credit }))
    ∙ written_at (λ (n : ℕ). n - c.args.amount) book c.args.place held (sym c.in-Some.ensures.value) ∙ ap (λ (b : Holdings). changed_at (λ (n : ℕ). n - c.args.amount) b c.args.place) c.self.view_is

pub returns-clause-account : goal.returns-clause-account
returns-clause-account c = λ ac is.
    let book : Holdings = c.self.inside.accounts.entries in
    let held = c.in-Some.there.now in
    let place : place_or_end book ac ≡ c.args.place = ap (λ (b : Holdings). place_or_end b ac) c.self.view_is ∙ place_is c.args.self.now ac c.args.place is in
    let at : holding_at book (place_or_end book ac) ≡ Some held = ap (holding_at book) place ∙ sym c.in-Some.ensures.value in
    (λ i. set_value_at book (sym place i) (record { balance = held.balance - c.get.ensures.same i; no_debit = held.no_debit; no_credit = held.no_credit }))
    ∙ written_there (λ (n : ℕ). n - c.args.amount) book ac held at ∙ ap (λ (b : Holdings). changed (λ (n : ℕ). n - c.args.amount) b ac) c.self.view_is
