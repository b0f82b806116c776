use Rattle.std.proofs.Common.{◌≡◌, Some, ap, sym, subst, ◌∙◌}
use Rattle.upi_words.specs.Prelude.{Leg}
use Rattle.upi_model.specs.Postings.{answer, is_posted}
use Rattle.bank_shards.specs.Banks.{StandAll}
use Rattle.bank_shards.specs.Histories.{orders_in}
use Rattle.core_shards.specs.Tables.{Tables}
use Rattle.core_shards.proofs.Report.{credit_is, is_seen, listed, no_account}
use Rattle.core_shards.proofs.tables.CoreShards.row_of.Goals as goal

pub returns-in_err-payer : goal.returns-in_err-payer
returns-in_err-payer c = λ h o all begun terms.
    absurd (no_account c.args.self.now.lines h o c.args.terms.now.txn c.args.terms.now all.accepted begun terms Leg.Debit (c.in_err-payer.ensures ∙ ap (λ (v : Tables). listed v.lines c.args.terms.now.payer) c.self.view_is))

pub returns-in_err-payee : goal.returns-in_err-payee
returns-in_err-payee c = λ h o all begun terms.
    absurd (no_account c.args.self.now.lines h o c.args.terms.now.txn c.args.terms.now all.accepted begun terms Leg.Credit (c.in_err-payee.ensures ∙ ap (λ (v : Tables). listed v.lines c.args.terms.now.payee) c.self.view_is))

pub returns : goal.returns
returns c = λ h o all begun terms.
    let S = c.args.self.now.lines in
    let r = c.args.terms.now in
    let payer : Some c.in_ok-payer.payer.now ≡ listed S r.payer = c.in_ok-payer.ensures ∙ ap (λ (v : Tables). listed v.lines r.payer) c.self.view_is in
    let payee : Some c.in_ok-payee.payee.now ≡ listed S r.payee = c.in_ok-payee.ensures ∙ ap (λ (v : Tables). listed v.lines r.payee) c.self.view_is in
    let stand : StandAll S (orders_in S h) c.self.inside.banks = subst (λ (v : Tables). StandAll S (orders_in S h) v.banks) (sym c.self.view_is) all.banks_stand in
    let credit : c.answered-credit.result ≡ answer S h r.txn Leg.Credit =
    credit_is S h o r.txn r all.accepted begun terms c.in_ok-payee.payee.now c.answered-credit.result payee (λ q a was held named. c.answered-credit.ensures.history S h q a all.legal stand was held named) in
    (λ i. Some (record { txn = c.copy.ensures i; payer_bank = c.copy-2.ensures i; payee_bank = c.copy-3.ensures i; amount = r.amount; outcome = c.outcome.result; credit_moved = c.was_posted.result }))
    ∙ ap (λ row. Some row)
    (is_seen S h o r.txn r all.accepted begun terms c.in_ok-payer.payer.now c.in_ok-payee.payee.now c.outcome.result c.was_posted.result payer payee (c.outcome.ensures h all) (c.was_posted.ensures ∙ ap is_posted credit))
