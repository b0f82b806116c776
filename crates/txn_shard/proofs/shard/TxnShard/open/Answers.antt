use Rattle.std.proofs.Common.{◌≡◌, ◌∙◌, ap, ℕ, [], None, Some}
use Rattle.upi_words.specs.Prelude.{Event, Reply, Said}
use Rattle.upi_base.specs.Shards.{txn_shard}
use Rattle.upi_model.specs.Places.{refusal_at}
use Rattle.txn_shard.specs.Shard.{Plan, IsPlanned, MakesAll}
use Rattle.txn_shard.specs.calls.Plans.{quiet, opening_plan, IsOpening}
use Rattle.txn_shard.proofs.Opening.{refused_makes, opens_makes}
use Rattle.txn_shard.proofs.Plans.{ok_plan, quiet_planned, opening_planned, makes_same}
use Rattle.txn_shard.proofs.shard.TxnShard.open.Goals as goal

pub returns-in-Some : goal.returns-in-Some
returns-in-Some c =
    let S = c.args.dir.now.lines in
    let x = c.args.self.now in
    let r = c.args.terms.now in
    let refused = c.in-Some.ensures ∙ ap (λ (n : ℕ). refusal_at S n c.args.psp.now r) c.len.ensures in
    record {
      planned = quiet_planned x c.replied.result (Reply.Ack (Some c.in-Some.code)) [] c.replied.ensures;
      makes = λ s its. makes_same S s x.rows (Event.Heard c.args.psp.now (Said.Pay r)) None c.args.now c.replied.result (quiet (Reply.Ack (Some c.in-Some.code)) []) c.replied.ensures
          (refused_makes S s x.rows c.args.psp.now r c.args.now c.in-Some.code its c.requires.new refused);
    }

pub returns-in-None : goal.returns-in-None
returns-in-None c =
    let S = c.args.dir.now.lines in
    let x = c.args.self.now in
    let r = c.args.terms.now in
    let allowed = c.in-None.ensures ∙ ap (λ (n : ℕ). refusal_at S n c.args.psp.now r) c.len.ensures in
    record {
      planned = ok_plan (IsOpening r c.args.now) (IsPlanned x) (λ p o. opening_planned x p r c.args.now c.requires.new c.requires.room o) c.opened.result c.opened.ensures;
      makes = ok_plan (IsOpening r c.args.now) (λ (p : Plan). (s : ℕ) → txn_shard r.txn ≡ s → MakesAll S s x.rows (Event.Heard c.args.psp.now (Said.Pay r)) None c.args.now p)
          (λ p o s its. makes_same S s x.rows (Event.Heard c.args.psp.now (Said.Pay r)) None c.args.now p (opening_plan r o.row) o.is
          (opens_makes S s x.rows c.args.psp.now r c.args.now o.row o.opening_is o.opens its c.requires.new allowed))
          c.opened.result c.opened.ensures;
    }
