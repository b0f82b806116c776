use Rattle.std.proofs.Common.{ℕ, ◌+◌, ◌^◌, ◌<◌, arith, sym}
use Rattle.upi_base.specs.Setup.{same_account}
use Rattle.bank_book.proofs.Changes.{covered, set_changed}
use Rattle.bank_book.proofs.Book.give.Goals as goal

pub overflow_add-held : goal.overflow_add-held
overflow_add-held c =
    let enough : c.in-Some.held.now.balance + c.args.amount < 2 ^ 62 = covered (λ held. held + c.args.amount < 2 ^ 62) c.self.inside.accounts.entries c.args.ac.now c.in-Some.held.now (rw c.self.view_is c.requires) c.in-Some.ensures.value in
    omega arith

pub returns : goal.returns
returns c =
    rw ((c.get_mut.follows.holds _).0, ← c.self.view_is, c.get.ensures.same)
    (set_changed (λ (held : ℕ). held + c.args.amount) c.self.inside.accounts.entries c.args.ac.now c.in-Some.held.now c.in-Some.ensures.value)
