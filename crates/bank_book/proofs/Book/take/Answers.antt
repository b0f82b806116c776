use Rattle.std.proofs.Common.{ℕ, ◌-◌, ◌≤◌, arith, sym}
use Rattle.upi_base.specs.Setup.{same_account}
use Rattle.bank_book.proofs.Changes.{covered, set_changed}
use Rattle.bank_book.proofs.Book.take.Goals as goal

pub overflow_sub-held : goal.overflow_sub-held
overflow_sub-held c =
    let enough : c.args.amount ≤ c.in-Some.held.now.balance = covered (λ held. c.args.amount ≤ held) c.self.inside.accounts.entries c.args.ac.now c.in-Some.held.now (rw c.self.view_is c.requires) c.in-Some.ensures.value in
    omega arith

pub returns : goal.returns
returns c =
    rw ((c.get_mut.follows.holds _).0, ← c.self.view_is, c.get.ensures.same)
    (set_changed (λ (held : ℕ). held - c.args.amount) c.self.inside.accounts.entries c.args.ac.now c.in-Some.held.now c.in-Some.ensures.value)
