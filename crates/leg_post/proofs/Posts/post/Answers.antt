use Rattle.std.proofs.Common.{◌≡◌, ℕ, ◌+◌, ◌<◌, ◌^◌, ◌∙◌, [], ◌∷◌, ◌++◌, length, Some, arith, sym, ap, subst}
use Rattle.std.proofs.lemmas.Bool.{both_ways}
use Rattle.upi_words.specs.Prelude.{AccountRef, Order}
use Rattle.bank_book.specs.Book.{Holdings, holding_of}
use Rattle.leg_post.specs.Posts.{Ledger, order, is_first}
use Rattle.leg_post.specs.calls.Rows.{Rows, legs_of, key_of, IsWithin}
use Rattle.leg_post.proofs.Answered.{said_before, said_first, first_is, legs_before, book_before, legs_first, book_first, within_after, count_is, count_more}
use Rattle.leg_post.proofs.Runs.{says_is, stands_after}
use Rattle.leg_post.proofs.Posts.post.Goals as goal

-- ---- a leg that was answered before

pub returns-in-Some-clause-answer : goal.returns-in-Some-clause-answer
returns-in-Some-clause-answer c =
    said_before c.self.inside.legs.rows c.args.self.now (ap (λ (x : Ledger). x.legs) c.self.view_is) c.args.txn c.args.leg c.args.amount c.args.ac.now c.in-Some.answer c.in-Some.ensures

pub returns-in-Some-clause-definition : goal.returns-in-Some-clause-definition
returns-in-Some-clause-definition c = λ S orders stands.
    returns-in-Some-clause-answer c ∙ says_is S orders c.args.self.now stands (order c.args.txn c.args.leg c.args.amount c.args.ac.now) c.requires.there

pub returns-in-Some-clause-legs : goal.returns-in-Some-clause-legs
returns-in-Some-clause-legs c =
    legs_before c.self.inside.legs.rows c.args.self.now (ap (λ (x : Ledger). x.legs) c.self.view_is) c.args.txn c.args.leg c.args.amount c.args.ac.now c.in-Some.answer c.in-Some.answer c.in-Some.ensures

pub returns-in-Some-clause-book : goal.returns-in-Some-clause-book
returns-in-Some-clause-book c =
    book_before c.self.inside.legs.rows c.args.self.now (ap (λ (x : Ledger). x.legs) c.self.view_is) c.args.txn c.args.leg c.args.amount c.args.ac.now c.in-Some.answer c.in-Some.answer c.in-Some.ensures

pub returns-in-Some-clause-stands : goal.returns-in-Some-clause-stands
returns-in-Some-clause-stands c = λ S orders stands.
    stands_after S orders c.args.self.now stands (order c.args.txn c.args.leg c.args.amount c.args.ac.now) c.requires.there c.in-Some.answer (returns-in-Some-clause-answer c) c.args.self.now
    (returns-in-Some-clause-legs c) (returns-in-Some-clause-book c)

-- ---- the first order for a leg

pub invariant_of-self : goal.invariant_of-self
invariant_of-self c =
    let rows : Rows = c.self.inside.legs.rows in
    let legs : length c.args.self.now.legs ≡ length rows = ap (λ (x : Ledger). length x.legs) (sym c.self.view_is) ∙ count_is rows in
    let few : length rows < 2 ^ 31 = omega (arith, c.requires.few, legs) in
    let within = within_after (length rows) c.args.amount c.self.inside.book c.args.ac.now c.args.leg c.first_answer-answer.result c.self.invariant few c.requires.small in
    subst (λ (n : ℕ). IsWithin n c.move_money.new.book) (sym (count_more rows c.add.new.self.rows _ c.add.ensures.rows))
    (subst (λ (b : Holdings). IsWithin (length rows + 1) b) (sym (c.move_money.ensures c.args.ac.now (sym c.find.ensures.place ∙ c.unwrap-place.ensures))) within)

pub returns-clause-answer : goal.returns-clause-answer
returns-clause-answer c =
    let p = c.args.self.now in
    let held : holding_of p.book c.args.ac.now ≡ Some c.at-held.result = ap (λ (x : Ledger). holding_of x.book c.args.ac.now) (sym c.self.view_is) ∙ c.at-held.ensures.holds c.args.ac.now (sym c.find.ensures.place ∙ c.unwrap-place.ensures) in
    said_first c.self.inside.legs.rows p (ap (λ (x : Ledger). x.legs) c.self.view_is) c.args.txn c.args.leg c.args.amount c.args.ac.now c.first_answer-answer.result c.at-held.result c.in_default.ensures held c.first_answer-answer.ensures

pub returns-clause-definition : goal.returns-clause-definition
returns-clause-definition c = λ S orders stands.
    returns-clause-answer c ∙ says_is S orders c.args.self.now stands (order c.args.txn c.args.leg c.args.amount c.args.ac.now) c.requires.there

pub returns-clause-legs : goal.returns-clause-legs
returns-clause-legs c =
    let rows : Rows = c.self.inside.legs.rows in
    let grown = c.add.ensures.rows ∙ ap (λ (ac : AccountRef). rows ++ (key_of c.args.txn c.args.leg, record { amount = c.args.amount; ac = ac; answer = c.first_answer-answer.result }) ∷ []) c.copy.ensures in
    legs_first rows c.args.self.now (ap (λ (x : Ledger). x.legs) c.self.view_is) c.args.txn c.args.leg c.args.amount c.args.ac.now c.first_answer-answer.result c.add.new.self.rows c.in_default.ensures grown

pub returns-clause-book : goal.returns-clause-book
returns-clause-book c =
    book_first c.self.inside.legs.rows c.args.self.now (ap (λ (x : Ledger). x.legs) c.self.view_is) c.args.txn c.args.leg c.args.amount c.args.ac.now c.first_answer-answer.result
    c.self.inside.book c.move_money.new.book (ap (λ (x : Ledger). x.book) c.self.view_is) c.in_default.ensures (c.move_money.ensures c.args.ac.now (sym c.find.ensures.place ∙ c.unwrap-place.ensures))

pub returns-clause-kept : goal.returns-clause-kept
returns-clause-kept c = λ later.
    let o : Order = order c.args.txn c.args.leg c.args.amount c.args.ac.now in
    absurd (both_ways (is_first c.args.self.now.legs o) later (first_is c.self.inside.legs.rows c.args.self.now (ap (λ (x : Ledger). x.legs) c.self.view_is) c.args.txn c.args.leg c.args.amount c.args.ac.now c.in_default.ensures))

pub returns-clause-stands : goal.returns-clause-stands
returns-clause-stands c = λ S orders stands.
    let after : Ledger = record { legs = legs_of c.add.new.self.rows; book = c.move_money.new.book; spare = c.add.new.self.spare } in
    stands_after S orders c.args.self.now stands (order c.args.txn c.args.leg c.args.amount c.args.ac.now) c.requires.there c.first_answer-answer.result (returns-clause-answer c) after
    (returns-clause-legs c) (returns-clause-book c)
