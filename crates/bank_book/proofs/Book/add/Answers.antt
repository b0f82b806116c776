use Rattle.std.proofs.Common.{sym, ap, ◌∙◌}
use Rattle.upi_base.specs.Setup.{same_account}
use Rattle.indexmap.proofs.CallerLemmas.{insert_entry-new}
use Rattle.bank_book.specs.Book.{Holdings, holding_of}
use Rattle.bank_book.proofs.Book.add.Goals as goal

pub returns-clause-ok : goal.returns-clause-ok
returns-clause-ok c =
    let absent = ap (λ (b : Holdings). holding_of b c.args.ac) c.self.view_is ∙ c.requires in
    rw (c.in_ok-insert.ensures.entries, ← c.self.view_is) (rw (← c.get.ensures.same) (insert_entry-new same_account c.self.inside.accounts c.args.ac _ absent))
