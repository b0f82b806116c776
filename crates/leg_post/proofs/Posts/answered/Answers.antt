use Rattle.std.proofs.Common.{◌≡◌, ◌∙◌, List, ap}
use Rattle.upi_words.specs.Prelude.{Text, Kept}
use Rattle.upi_model.specs.Accounts.{kept_answer}
use Rattle.leg_post.specs.Posts.{Ledger}
use Rattle.leg_post.specs.calls.Rows.{legs_of, answer_in, key_of}
use Rattle.leg_post.proofs.Views.{answer_is}
use Rattle.leg_post.proofs.Posts.answered.Goals as goal

pub returns-clause-answer : goal.returns-clause-answer
returns-clause-answer c =
    let legs : legs_of c.self.inside.legs.rows ≡ c.args.self.now.legs = ap (λ (x : Ledger). x.legs) c.self.view_is in
    c.answer_in.ensures
    ∙ ap (λ (t : Text). answer_in c.self.inside.legs.rows (key_of t c.args.leg)) c.copy.ensures
    ∙ answer_is c.self.inside.legs.rows c.args.txn.now c.args.leg
    ∙ ap (λ (ks : List Kept). kept_answer ks c.args.txn.now c.args.leg) legs

pub returns-clause-definition : goal.returns-clause-definition
returns-clause-definition c = λ S orders stands.
    returns-clause-answer c ∙ ap (λ (ks : List Kept). kept_answer ks c.args.txn.now c.args.leg) stands.legs_are
