use Rattle.std.proofs.Common.{◌≡◌, ◌∙◌, Some, sym, ap}
use Rattle.upi_words.specs.Prelude.{Text}
use Rattle.bank_book.specs.Book.{holding_of}
use Rattle.leg_post.specs.Posts.{Ledger, order, says}
use Rattle.leg_post.specs.calls.Rows.{legs_of}
use Rattle.leg_post.proofs.Answered.{said_before, said_first}
use Rattle.leg_post.proofs.Runs.{says_is}
use Rattle.leg_post.proofs.Posts.look.Goals as goal

pub returns-in-Some-clause-answer : goal.returns-in-Some-clause-answer
returns-in-Some-clause-answer c =
    let p = c.args.self.now in
    let legs : legs_of c.self.inside.legs.rows ≡ p.legs = ap (λ (x : Ledger). x.legs) c.self.view_is in
    said_before c.self.inside.legs.rows p legs c.copy.result c.args.leg c.args.amount c.args.ac.now c.in-Some.answer c.in-Some.ensures
    ∙ ap (λ (t : Text). says p (order t c.args.leg c.args.amount c.args.ac.now)) c.copy.ensures

pub returns-in-Some-clause-definition : goal.returns-in-Some-clause-definition
returns-in-Some-clause-definition c = λ S orders stands.
    returns-in-Some-clause-answer c ∙ says_is S orders c.args.self.now stands (order c.args.txn.now c.args.leg c.args.amount c.args.ac.now) c.requires

pub returns-in-None-clause-answer : goal.returns-in-None-clause-answer
returns-in-None-clause-answer c =
    let p = c.args.self.now in
    let legs : legs_of c.self.inside.legs.rows ≡ p.legs = ap (λ (x : Ledger). x.legs) c.self.view_is in
    let held : holding_of p.book c.args.ac.now ≡ Some c.at-held.result = ap (λ (x : Ledger). holding_of x.book c.args.ac.now) (sym c.self.view_is) ∙ c.at-held.ensures.holds c.args.ac.now (sym c.find.ensures.place ∙ c.unwrap-place.ensures) in
    said_first c.self.inside.legs.rows p legs c.copy.result c.args.leg c.args.amount c.args.ac.now c.first_answer.result c.at-held.result c.in-None.ensures held c.first_answer.ensures
    ∙ ap (λ (t : Text). says p (order t c.args.leg c.args.amount c.args.ac.now)) c.copy.ensures

pub returns-in-None-clause-definition : goal.returns-in-None-clause-definition
returns-in-None-clause-definition c = λ S orders stands.
    returns-in-None-clause-answer c ∙ says_is S orders c.args.self.now stands (order c.args.txn.now c.args.leg c.args.amount c.args.ac.now) c.requires
